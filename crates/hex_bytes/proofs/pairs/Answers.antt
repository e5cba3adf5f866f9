-- `pairs` stores `bytes_of`. Assumes nothing.
use mathlib.Core.Path.{sym, ◌∙◌}
use native.Mathlib.Omega.{arith}
use Rattle.hex_bytes.specs.Hex.{bytes_of}
use Rattle.hex_bytes.proofs.Turns.{lower, upper, both_digits, paired, all_paired, length_bytes, sets-all}
use Rattle.hex_bytes.proofs.pairs.Goals as goal

pub loop-i-init : goal.loop-i-init
loop-i-init c =
    sets-all (bytes_of c.args.line.now) c.args.bytes.now (c.requires.places ∙ sym (length_bytes c.args.line.now))

pub byte-requires : goal.byte-requires
byte-requires c =
    let b =
    both_digits c.args.line.now c.loop-i.i c.side_by_side.result c.requires.digits (omega arith)
    c.side_by_side.ensures
    in
    record { digits_value = b.0; digits_value_2 = b.1 }

pub loop-i-preserved : goal.loop-i-preserved
loop-i-preserved c =
    let line = c.args.line.now in
    let i = c.loop-i.i in
    let r = c.side_by_side.result in
    let e = c.side_by_side.ensures in
    paired line c.loop-i.bytes i c.byte.result (omega arith)
    (c.byte.ensures
    ∙ rw (lower line i r c.requires.digits (omega arith) e, upper line i r c.requires.digits (omega arith) e))
    ∙ c.loop-i.invariant

pub returns : goal.returns
returns c = all_paired c.args.line.now c.loop-i.bytes c.loop-i.i (omega arith) ∙ c.loop-i.invariant
