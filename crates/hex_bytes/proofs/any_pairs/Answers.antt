-- `any_pairs` stores `bytes_of`. Assumes nothing.
use mathlib.Core.Path.{sym, ◌∙◌}
use native.Mathlib.Omega.{arith}
use Rattle.hex_bytes.specs.Hex.{bytes_of}
use Rattle.hex_bytes.proofs.Turns.{all_paired, length_bytes, sets-all}
use Rattle.hex_bytes.proofs.any_pairs.Goals as goal

pub loop-i-init : goal.loop-i-init
loop-i-init c =
    sets-all (bytes_of c.args.line.now) c.args.bytes.now (c.requires ∙ sym (length_bytes c.args.line.now))

pub returns : goal.returns
returns c = all_paired c.args.line.now c.loop-i.bytes c.loop-i.i (omega arith) ∙ c.loop-i.invariant
