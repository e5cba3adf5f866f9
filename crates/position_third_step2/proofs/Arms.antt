-- The arm of `ask` for two shapes: the attempt of either is what `attempts_of` has for it. Assumes nothing.
use mathlib.Core.Path.{◌≡◌, refl}
use mathlib.Core.Logic.{⊎_elim}
use mathlib.Core.List.{[], ◌∷◌}
use Prim.Native.Nat.{ℕ}
use native.Mathlib.Omega.{arith}
use types.Run.{OneOf}
use denote.Enum.Declared.{tag_of}
use Rattle.roots.specs.declared.RootAnswer.{RootAnswer}
use Rattle.step2_solver.specs.declared.PositionThirdOrderStep2.{PositionThirdOrderStep2}
use Rattle.step2_solver.specs.declared.Limits.{Limits}
use Rattle.step2_solver.specs.declared.Shape.{Shape}
use Rattle.step2_solver.specs.declared.Shape.TheVariants.{Acc0Acc1Vel, Acc1Vel, Acc0Vel, Acc0Acc1, Acc0, RestToRest}
use Rattle.step2_solver.specs.contracts.Shape as shapes
use Rattle.step2_quartics.specs.declared.Quartics.{Quartics}
use Rattle.time_acc0_acc1.specs.RestToRest.{acc0_acc1_by}
use Rattle.position_third_step2.specs.Shape.{is_rest_to_rest_of, attempts_of}

-- the shapes of that arm, whose keys are 3 and 5
other : (n : ℕ) → OneOf (3 ∷ 5 ∷ []) n → (n ≡ 3 → ⊥) → (n ≡ 5 → ⊥) → ⊥
other n h a b = ⊎_elim a b h

pub of_two : (shape : Shape) → OneOf (3 ∷ 5 ∷ []) (tag_of shapes.the_type shape) → (s : PositionThirdOrderStep2)
    (l : Limits) (q : Quartics) (first second : RootAnswer)
    → acc0_acc1_by (is_rest_to_rest_of shape) s l ∷ [] ≡ attempts_of shape s l q first second
of_two Acc0Acc1Vel h s l q first second = absurd (other 0 h (λ e. omega arith) (λ e. omega arith))
of_two Acc1Vel h s l q first second = absurd (other 1 h (λ e. omega arith) (λ e. omega arith))
of_two Acc0Vel h s l q first second = absurd (other 2 h (λ e. omega arith) (λ e. omega arith))
of_two Acc0Acc1 h s l q first second = refl
of_two Acc0 h s l q first second = absurd (other 4 h (λ e. omega arith) (λ e. omega arith))
of_two RestToRest h s l q first second = refl
