-- No refusal has a reply's number. Assumes nothing.
use mathlib.Core.Path.{◌≡◌}
use native.Mathlib.Omega.{arith}
use Rattle.line_kinds.specs.declared.refusals.Refusal.{Refusal}
use Rattle.line_kinds.specs.declared.refusals.Refusal.TheVariants.{Length, Digits, Kind, Bytes, OutOfRange, NotFinite}
use Rattle.line_kinds.specs.declared.refusals.Refusal.TheVariants.{RootAnswers, Places}
use Rattle.line_kinds.specs.Refusals.{refusal_number_of}

pub not_0 : (refusal : Refusal) → refusal_number_of refusal ≡ 0 → ⊥
not_0 Length h = omega arith
not_0 Digits h = omega arith
not_0 Kind h = omega arith
not_0 Bytes h = omega arith
not_0 OutOfRange h = omega arith
not_0 NotFinite h = omega arith
not_0 RootAnswers h = omega arith
not_0 Places h = omega arith
