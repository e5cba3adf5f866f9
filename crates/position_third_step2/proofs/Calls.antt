-- Count and cause of a shape on the profile of a line: the count is that of its calls of `check`, at most eight; the
-- verdict is yes exactly where the cause is 0, and the cause is 12 exactly where there was no call. Assumes nothing.
use mathlib.Core.Path.{◌≡◌, refl, ap, ◌∙◌}
use mathlib.Core.Bool.{Bool, true, false, cond}
use mathlib.Core.List.{List, [], ◌++◌}
use Prim.Native.Nat.{◌≤◌}
use native.Mathlib.Nat.{zero-add}
use native.Mathlib.Omega.{arith}
use lib.Dec.{lit≤}
use lib.ListN.{length, get_or, length-append, length-map}
use lib.Ieee.{Float, nan}
use Rattle.labels.specs.declared.causes.Cause.TheVariants.{NoCall}
use Rattle.labels.specs.Causes.{cause_number_of, is_yes}
use Rattle.profile.specs.declared.Profile.{Profile}
use Rattle.profile.specs.Boundary.{boundary_of}
use Rattle.positive_set.specs.Set.{sorted_of}
use Rattle.roots.specs.declared.RootAnswer.{RootAnswer}
use Rattle.roots.specs.Quartic.{polynom_roots_of}
use Rattle.roots.proofs.Laws.{tried_length}
use Rattle.step2_solver.specs.declared.PositionThirdOrderStep2.{PositionThirdOrderStep2}
use Rattle.step2_solver.specs.declared.Limits.{Limits}
use Rattle.step2_solver.specs.declared.Move.{Move}
use Rattle.step2_solver.specs.declared.Shape.{Shape}
use Rattle.step2_solver.specs.declared.Shape.TheVariants.{Acc0Acc1Vel, Acc1Vel, Acc0Vel, Acc0Acc1, Acc0, RestToRest}
use Rattle.step2_solver.specs.declared.Trial.{Trial}
use Rattle.step2_quartics.specs.declared.Quartics.{Quartics}
use Rattle.time_acc0_vel.specs.TimeAcc0Vel.{acc0_vel_too_short}
use Rattle.time_acc0_vel.specs.TimeAcc0Vel.{acc0_vel_uddu_window, acc0_vel_uddu, acc0_vel_udud_window, acc0_vel_udud}
use Rattle.step2_attempt.specs.Attempt.{calls_of}
use Rattle.step2_attempt.proofs.Calls.{calls_are, calls_few, none_called, verdict_is_cause, called}
use Rattle.step2_over_roots.specs.OverRoots.{over_roots}
use Rattle.position_third_step2.specs.Shape.{attempts_of, shape_of, fresh}

-- ---- how many attempts a shape has
four : (f : Float → Trial) (p : List Float) (answer : RootAnswer) → length (over_roots f p answer) ≤ 4
four f p answer =
    rw (length-map (sorted_of (polynom_roots_of p answer)) f)
    (tried_length (get_or p 0 nan) (get_or p 1 nan) (get_or p 2 nan) (get_or p 3 nan) answer)

eight : (f g : Float → Trial) (p r : List Float) (a b : RootAnswer)
    → length (over_roots f p a ++ over_roots g r b) ≤ 8
eight f g p r a b =
    let h = four f p a in let k = four g r b in
    rw (length-append (over_roots f p a) (over_roots g r b)) (omega arith)

unless : (b : Bool) (ks : List Trial) → length ks ≤ 8 → length (cond b [] ks) ≤ 8
unless true ks h = lit≤ tt
unless false ks h = h

module _ (s : PositionThirdOrderStep2) (l : Limits) (q : Quartics) (first second : RootAnswer) where
  attempts_few : (shape : Shape) → length (attempts_of shape s l q first second) ≤ 8
  attempts_few Acc0Acc1Vel = lit≤ tt
  attempts_few Acc1Vel = eight _ _ q.uddu q.udud first second
  attempts_few Acc0Vel =
      unless (acc0_vel_too_short s l.a_max l.j_max)
      (over_roots (acc0_vel_uddu s l (acc0_vel_uddu_window s l)) q.uddu first
      ++ over_roots (acc0_vel_udud s l (acc0_vel_udud_window s l)) q.udud second)
      (eight _ _ q.uddu q.udud first second)
  attempts_few Acc0Acc1 = lit≤ tt
  attempts_few Acc0 = lit≤ tt
  attempts_few RestToRest = lit≤ tt

  -- ---- from the profile of a line, which has count 0 and cause 12
  module _ (shape : Shape) (x : Move) where
    pub shape_calls : (shape_of shape s l q first second (fresh x)).profile.calls
        ≡ calls_of l (attempts_of shape s l q first second) (fresh x)
    unfolding boundary_of
    shape_calls =
        calls_are l (attempts_of shape s l q first second) (fresh x)
        (let h = attempts_few shape in omega arith)
        ∙ zero-add (calls_of l (attempts_of shape s l q first second) (fresh x))

    pub few_calls : (shape_of shape s l q first second (fresh x)).profile.calls ≤ 8
    few_calls =
        let n = calls_few l (attempts_of shape s l q first second) (fresh x) in let h = attempts_few shape in
        rw shape_calls (omega arith)

    pub shape_verdict : (shape_of shape s l q first second (fresh x)).ok
        ≡ is_yes (shape_of shape s l q first second (fresh x)).profile.cause
    unfolding boundary_of
    shape_verdict = verdict_is_cause l (attempts_of shape s l q first second) (fresh x) refl

    pub no_call : calls_of l (attempts_of shape s l q first second) (fresh x) ≡ 0
        → (shape_of shape s l q first second (fresh x)).profile.cause ≡ NoCall
    unfolding boundary_of
    no_call z = ap (λ (p : Profile). p.cause) (none_called l (attempts_of shape s l q first second) (fresh x) z)

    pub some-call : (calls_of l (attempts_of shape s l q first second) (fresh x) ≡ 0 → ⊥)
        → cause_number_of (shape_of shape s l q first second (fresh x)).profile.cause ≡ 12 → ⊥
    some-call h = called l (attempts_of shape s l q first second) (fresh x) h
