-- The trials of a shape's attempts, in their order, are the trials that the shape makes: the attempts named are all.
-- Assumes nothing.
use mathlib.Core.Path.{◌≡◌, refl}
use mathlib.Core.Bool.{Bool, true, false, cond}
use mathlib.Core.List.{List, [], ◌∷◌, ◌++◌}
use Rattle.roots.specs.declared.RootAnswer.{RootAnswer}
use Rattle.step2_solver.specs.declared.PositionThirdOrderStep2.{PositionThirdOrderStep2}
use Rattle.step2_solver.specs.declared.Limits.{Limits}
use Rattle.step2_solver.specs.declared.Trial.{Trial}
use Rattle.step2_solver.specs.declared.Shape.{Shape}
use Rattle.step2_solver.specs.declared.Shape.TheVariants.{Acc0Acc1Vel, Acc1Vel, Acc0Vel, Acc0Acc1, Acc0, RestToRest}
use Rattle.step2_quartics.specs.declared.Quartics.{Quartics}
use Rattle.time_acc0_vel.specs.TimeAcc0Vel.{acc0_vel_too_short}
use Rattle.time_acc0_acc1.specs.TimeAcc0Acc1.{acc0_acc1_rest_applies}
use Rattle.position_third_step2.specs.Shape.{attempts_of}
use Rattle.worked_lines.specs.Attempts.{Attempt, trials_by, in_order_of}

-- a choice of one list or of none, made of each part
none_of_both : (b : Bool) (x y : List Trial) → cond b [] (x ++ y) ≡ cond b [] x ++ cond b [] y
none_of_both true x y = refl
none_of_both false x y = refl

one_of_two : (b : Bool) (x y : Trial) → cond b x y ∷ [] ≡ cond b (x ∷ []) [] ++ cond b [] (y ∷ [])
one_of_two true x y = refl
one_of_two false x y = refl

pub whole : (shape : Shape) (s : PositionThirdOrderStep2) (l : Limits) (q : Quartics) (first second : RootAnswer)
    → attempts_of shape s l q first second ≡ in_order_of (λ (a : Attempt). trials_by a s l q first second) shape
whole Acc0Acc1Vel s l q first second = refl
whole Acc1Vel s l q first second = refl
whole Acc0Vel s l q first second = none_of_both (acc0_vel_too_short s l.a_max l.j_max) _ _
whole Acc0Acc1 s l q first second = one_of_two (acc0_acc1_rest_applies s) _ _
whole Acc0 s l q first second = refl
whole RestToRest s l q first second = one_of_two (acc0_acc1_rest_applies s) _ _
