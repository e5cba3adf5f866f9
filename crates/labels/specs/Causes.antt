-- Why `check` said no: document 02's numbers for the causes, a row of tests each with its cause, and the count of
-- calls. Definitions only.
use Rattle.std.specs.Prelude.{Bool, true, cond, ◌&&◌, List, [], ◌∷◌, ℕ, ◌+◌, eqb, ltb}
use Rattle.labels.specs.declared.causes.Cause.{Cause}
use Rattle.labels.specs.declared.causes.Cause.TheVariants.{Yes, NegativeTime, T3, T1, T5, Total, VelocityAtZero}
use Rattle.labels.specs.declared.causes.Cause.TheVariants.{EndPosition, EndVelocity, EndAcceleration}
use Rattle.labels.specs.declared.causes.Cause.TheVariants.{AccelerationLimit, VelocityLimit, NoCall, NoRoot}

-- T3, T1 and T5: such a time is too short for its label. NoCall: `check` was not called. NoRoot: the attempt took a
-- square root that does not exist.
abbrev pub cause_number_of : Cause → ℕ
cause_number_of Yes = 0
cause_number_of NegativeTime = 1
cause_number_of T3 = 2
cause_number_of T1 = 3
cause_number_of T5 = 4
cause_number_of Total = 5
cause_number_of VelocityAtZero = 6
cause_number_of EndPosition = 7
cause_number_of EndVelocity = 8
cause_number_of EndAcceleration = 9
cause_number_of AccelerationLimit = 10
cause_number_of VelocityLimit = 11
cause_number_of NoCall = 12
cause_number_of NoRoot = 13

abbrev pub is_yes : Cause → Bool
is_yes c = eqb (cause_number_of c) 0

-- ---- tests in a row
-- what a no is put down to, and whether the test passed
pub record Test : Type 0 where
  pub cause : Cause
  pub passed : Bool

abbrev pub test : Cause → Bool → Test
test c b = record { cause = c; passed = b }

-- none fails
abbrev pub none_fails : List Test → Bool
none_fails [] = true
none_fails (x ∷ xs) = x.passed && none_fails xs

-- the cause of the first test that fails; Yes where none does
abbrev pub cause_of : List Test → Cause
cause_of [] = Yes
cause_of (x ∷ xs) = cond x.passed (cause_of xs) x.cause

-- the causes of a row, by their numbers
abbrev pub causes_in : List Test → List ℕ
causes_in [] = []
causes_in (x ∷ xs) = cause_number_of x.cause ∷ causes_in xs

-- ---- one call more; the count stops at 255, the most that a reply's byte holds
abbrev pub counted_of : ℕ → ℕ
counted_of n = cond (ltb n 255) (n + 1) 255
