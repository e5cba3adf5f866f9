-- What holds of each attempt of the shapes holds of all that a shape makes, whatever it is (`all_attempts`). An
-- attempt at a root is asked about roots of which Q is known. Assumes nothing.
use mathlib.Core.Bool.{Bool, true, false, cond}
use mathlib.Core.List.{List, [], ◌∷◌, ◌++◌, map}
use lib.Ieee.{Float}
use Rattle.positive_set.specs.Set.{sorted_of}
use Rattle.positive_set.proofs.Laws.{Every, every_append}
use Rattle.roots.specs.declared.RootAnswer.{RootAnswer}
use Rattle.roots.specs.Quartic.{polynom_roots_of}
use Rattle.step2_solver.specs.declared.PositionThirdOrderStep2.{PositionThirdOrderStep2}
use Rattle.step2_solver.specs.declared.Limits.{Limits}
use Rattle.step2_solver.specs.declared.Shape.{Shape}
use Rattle.step2_solver.specs.declared.Shape.TheVariants.{Acc0Acc1Vel, Acc1Vel, Acc0Vel, Acc0Acc1, Acc0, RestToRest}
use Rattle.step2_solver.specs.declared.Trial.{Trial}
use Rattle.step2_quartics.specs.declared.Quartics.{Quartics}
use Rattle.time_acc0_acc1_vel.specs.TimeAcc0Acc1Vel.{acc0_acc1_vel_uddu, acc0_acc1_vel_udud}
use Rattle.time_acc1_vel.specs.TimeAcc1Vel.{acc1_vel_uddu_window, acc1_vel_uddu, acc1_vel_udud_window, acc1_vel_udud}
use Rattle.time_acc0_vel.specs.TimeAcc0Vel.{acc0_vel_too_short}
use Rattle.time_acc0_vel.specs.TimeAcc0Vel.{acc0_vel_uddu_window, acc0_vel_uddu, acc0_vel_udud_window, acc0_vel_udud}
use Rattle.time_acc0_acc1.specs.TimeAcc0Acc1.{acc0_acc1_of}
use Rattle.time_acc0_acc1.specs.RestToRest.{rest_to_rest_of}
use Rattle.time_acc0.specs.TimeAcc0.{acc0_first, acc0_second, acc0_third}
use Rattle.step2_over_roots.specs.OverRoots.{over_roots}
use Rattle.position_third_step2.specs.Shape.{attempts_of}

pub record Each (P : Trial → Type 0) (Q : Float → Type 0) (s : PositionThirdOrderStep2) (l : Limits) : Type 0 where
  pub of_acc0_acc1_vel_uddu : P (acc0_acc1_vel_uddu s l)
  pub of_acc0_acc1_vel_udud : P (acc0_acc1_vel_udud s l)
  pub of_acc1_vel_uddu : (root : Float) → Q root → P (acc1_vel_uddu s l (acc1_vel_uddu_window s l) root)
  pub of_acc1_vel_udud : (root : Float) → Q root → P (acc1_vel_udud s l (acc1_vel_udud_window s l) root)
  pub of_acc0_vel_uddu : (root : Float) → Q root → P (acc0_vel_uddu s l (acc0_vel_uddu_window s l) root)
  pub of_acc0_vel_udud : (root : Float) → Q root → P (acc0_vel_udud s l (acc0_vel_udud_window s l) root)
  pub of_acc0_acc1 : P (acc0_acc1_of s l)
  pub of_acc0_first : P (acc0_first s l)
  pub of_acc0_second : P (acc0_second s l)
  pub of_acc0_third : P (acc0_third s l)
  pub of_rest_to_rest : P (rest_to_rest_of s l)

-- Q is known of the roots that an answer gives, whatever the quartic
abbrev pub OfRoots : (Float → Type 0) → RootAnswer → Type 0
OfRoots Q answer = (p : List Float) → Every Q (sorted_of (polynom_roots_of p answer))

module _ (P : Trial → Type 0) (Q : Float → Type 0) where
  at_roots : (f : Float → Trial) → ((x : Float) → Q x → P (f x)) → (xs : List Float) → Every Q xs → Every P (map f xs)
  at_roots f h [] e = tt
  at_roots f h (x ∷ xs) e = (h x e.0, at_roots f h xs e.1)

  -- the roots of one quartic, then of another
  at_both : (f g : Float → Trial) → ((x : Float) → Q x → P (f x)) → ((x : Float) → Q x → P (g x)) → (q : Quartics)
      (first second : RootAnswer) → OfRoots Q first → OfRoots Q second
      → Every P (over_roots f q.uddu first ++ over_roots g q.udud second)
  at_both f g h k q first second e e' =
      every_append P (over_roots f q.uddu first) (over_roots g q.udud second)
      (at_roots f h (sorted_of (polynom_roots_of q.uddu first)) (e q.uddu))
      (at_roots g k (sorted_of (polynom_roots_of q.udud second)) (e' q.udud))

  unless : (b : Bool) (ks : List Trial) → Every P ks → Every P (cond b [] ks)
  unless true ks h = tt
  unless false ks h = h

  pub all_attempts : {s : PositionThirdOrderStep2} {l : Limits} → Each P Q s l → (shape : Shape) (q : Quartics)
      (first second : RootAnswer) → OfRoots Q first → OfRoots Q second
      → Every P (attempts_of shape s l q first second)
  all_attempts h Acc0Acc1Vel q first second e e' = (h.of_acc0_acc1_vel_uddu, (h.of_acc0_acc1_vel_udud, tt))
  all_attempts h Acc1Vel q first second e e' = at_both _ _ h.of_acc1_vel_uddu h.of_acc1_vel_udud q first second e e'
  all_attempts {s} {l} h Acc0Vel q first second e e' =
      unless (acc0_vel_too_short s l.a_max l.j_max) _
      (at_both _ _ h.of_acc0_vel_uddu h.of_acc0_vel_udud q first second e e')
  all_attempts h Acc0Acc1 q first second e e' = (h.of_acc0_acc1, tt)
  all_attempts h Acc0 q first second e e' = (h.of_acc0_first, (h.of_acc0_second, (h.of_acc0_third, tt)))
  all_attempts h RestToRest q first second e e' = (h.of_rest_to_rest, tt)
