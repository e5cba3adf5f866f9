-- Document 01's number of each refusal, which is that of the question with a no. Definitions only.
use Rattle.std.specs.Prelude.{ℕ, Result, Ok, Err}
use Rattle.line_kinds.specs.declared.refusals.Refusal.{Refusal}
use Rattle.line_kinds.specs.declared.refusals.Refusal.TheVariants.{Length, Digits, Kind, Bytes, OutOfRange, NotFinite}
use Rattle.line_kinds.specs.declared.refusals.Refusal.TheVariants.{RootAnswers, Places}

abbrev pub refusal_number_of : Refusal → ℕ
refusal_number_of Length = 1
refusal_number_of Digits = 2
refusal_number_of Kind = 3
refusal_number_of Bytes = 4
refusal_number_of OutOfRange = 5
refusal_number_of NotFinite = 6
refusal_number_of RootAnswers = 7
refusal_number_of Places = 8

-- 0 is no refusal's
abbrev pub number_of : {T : Type 0} → Result T Refusal → ℕ
number_of (Ok x) = 0
number_of (Err refusal) = refusal_number_of refusal
