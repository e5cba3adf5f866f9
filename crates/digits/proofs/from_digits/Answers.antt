-- `from_digits` is `read_of`. Assumes nothing.
use mathlib.Core.Path.{◌∙◌}
use mathlib.Core.Logic.{⊎_elim}
use native.Mathlib.Omega.{arith}
use Rattle.digits.proofs.Both.{few, placed, refused, read}
use Rattle.digits.proofs.from_digits.Goals as goal

pub returns-in_err-get : goal.returns-in_err-get
returns-in_err-get c =
    c.from_residual.ensures
    ∙ few c.args.line.now c.args.at (⊎_elim (λ h. omega arith) (λ h. omega arith) c.in_err-get.ensures.lookup.0)

pub returns-in_err-characters : goal.returns-in_err-characters
returns-in_err-characters c =
    c.from_residual-in_err-characters.ensures
    ∙ few c.args.line.now c.args.at (omega (arith, c.in_err-characters.ensures.cases, c.in_ok-get.ensures.lookup.0))

pub returns-then-not-decode : goal.returns-then-not-decode
returns-then-not-decode c =
    let h = c.in_ok-characters.ensures.cases in
    let k = c.in_ok-get.ensures.lookup.0 in
    refused c.args.line.now c.args.at (omega arith) c.decode.result c.decode.new.bytes
    (placed c.args.line.now c.args.at c.in_ok-get.field-0.now c.in_ok-characters.characters.now k.2 h.same
    c.decode.ensures)
    c.if-not-decode.true

pub returns : goal.returns
returns c =
    let h = c.in_ok-characters.ensures.cases in
    let k = c.in_ok-get.ensures.lookup.0 in
    rw (c.from_bits.ensures, c.u64_from_be_bytes.ensures)
    (read c.args.line.now c.args.at (omega arith) c.decode.result c.decode.new.bytes
    (placed c.args.line.now c.args.at c.in_ok-get.field-0.now c.in_ok-characters.characters.now k.2 h.same
    c.decode.ensures)
    c.if-not-decode.false)
