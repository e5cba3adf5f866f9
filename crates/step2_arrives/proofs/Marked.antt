-- A marked attempt never gets a yes, so the causes 13 and 0 never compete: NaN goes on from its root, one of its times
-- is NaN for that, and from that phase on every position is, so that the end is not at the goal. Where it is made, its
-- cause is 13; without a mark it is not. Assumes nothing.
use mathlib.Core.Path.{◌≡◌, refl, ap}
use mathlib.Core.Bool.{Bool, true, false, cond, false≢true}
use mathlib.Core.List.{List, [], ◌∷◌}
use Prim.Native.Nat.{ℕ, zero, suc, ◌≤◌, ◌<◌}
use native.Mathlib.Omega.{arith}
use lib.Dec.{T, eqb, lit≤, eqb→eq}
use lib.ListN.{get_or}
use lib.Ieee.{Float, nan}
use Rattle.float.proofs.Nan.{add-nan, sub-nan, nan-mul, mul-nan, nan-div, div-nan, neg-nan}
use Rattle.labels.specs.declared.ReachedLimits.{ReachedLimits}
use Rattle.labels.specs.declared.ControlSigns.{ControlSigns}
use Rattle.labels.specs.declared.causes.Cause.{Cause}
use Rattle.labels.specs.Causes.{cause_number_of}
use Rattle.positive_set.specs.Set.{sorted_of}
use Rattle.positive_set.proofs.Laws.{Every, every_of_all}
use Rattle.sqrt.specs.Sqrt.{square_root_of}
use Rattle.sqrt.proofs.Laws.{mark_is_nan}
use Rattle.row.specs.Row.{with_times}
use Rattle.profile.specs.declared.Profile.{Profile}
use Rattle.profile.specs.Parts.{changed}
use Rattle.profile.specs.Timing.{timing_of}
use Rattle.profile.proofs.Marks.{timing_marked, timing_unmarked}
use Rattle.profile_arrives.proofs.NanTimes.{nan-time}
use Rattle.roots.specs.declared.RootAnswer.{RootAnswer}
use Rattle.roots.specs.Quartic.{polynom_roots_of}
use Rattle.step2_solver.specs.declared.PositionThirdOrderStep2.{PositionThirdOrderStep2}
use Rattle.step2_solver.specs.declared.Limits.{Limits}
use Rattle.step2_solver.specs.declared.Shape.{Shape}
use Rattle.step2_solver.specs.declared.Times.{Times}
use Rattle.step2_solver.specs.declared.Trial.{Trial}
use Rattle.step2_solver.specs.declared.Window.{Window}
use Rattle.step2_solver.specs.Window.{outside_of}
use Rattle.step2_solver.specs.Trials.{the_trial, no_trial_of}
use Rattle.step2_quartics.specs.declared.Quartics.{Quartics}
use Rattle.time_acc0_acc1_vel.specs.TimeAcc0Acc1Vel.{acc0_acc1_vel_uddu_applies}
use Rattle.time_acc0_acc1_vel.specs.TimeAcc0Acc1Vel.{acc0_acc1_vel_uddu_h1, acc0_acc1_vel_uddu_times}
use Rattle.time_acc0_acc1_vel.specs.TimeAcc0Acc1Vel.{acc0_acc1_vel_uddu}
use Rattle.time_acc0_acc1_vel.specs.TimeAcc0Acc1Vel.{acc0_acc1_vel_udud_applies, acc0_acc1_vel_udud}
use Rattle.time_acc1_vel.specs.TimeAcc1Vel.{acc1_vel_uddu, acc1_vel_udud}
use Rattle.time_acc0_vel.specs.TimeAcc0Vel.{acc0_vel_uddu, acc0_vel_udud}
use Rattle.time_acc0_acc1.specs.TimeAcc0Acc1.{acc0_acc1_rest_applies, acc0_acc1_rest, acc0_acc1_uddu_jf}
use Rattle.time_acc0_acc1.specs.TimeAcc0Acc1.{acc0_acc1_uddu_times, acc0_acc1_uddu}
use Rattle.time_acc0_acc1.specs.RestToRest.{rest_to_rest_trial}
use Rattle.time_acc0.specs.TimeAcc0.{acc0_first_radicand, acc0_first_times, acc0_first}
use Rattle.time_acc0.specs.TimeAcc0.{acc0_second_h0, acc0_second_times}
use Rattle.time_acc0.specs.TimeAcc0.{acc0_second, acc0_third_h1}
use Rattle.time_acc0.specs.TimeAcc0.{acc0_third_times, acc0_third}
use Rattle.step2_attempt.specs.Attempt.{seven_of, attempt_of, nothing, try_of}
use Rattle.position_third_step2.specs.Shape.{attempts_of}
use Rattle.step2_arrives.proofs.Each.{Each, all_attempts}

-- ---- a marked attempt has a NaN among its times
abbrev pub NanIfMarked : Trial → Type 0
NanIfMarked k = k.marked ≡ true → (i : ℕ) × (i < 7) × (get_or (seven_of k.times) i nan ≡ nan)

-- an attempt that is made where a condition holds, or another one
either : (b : Bool) (k k' : Trial) → NanIfMarked k → NanIfMarked k' → NanIfMarked (cond b k k')
either true k k' h h' = h
either false k k' h h' = h'

module _ (s : PositionThirdOrderStep2) (l : Limits) where
  -- t[3] of (a_min - a_max + h1) / (2 j_max)
  acc0_acc1_vel_uddu_lem : NanIfMarked (acc0_acc1_vel_uddu s l)
  unfolding acc0_acc1_vel_uddu acc0_acc1_vel_uddu_times acc0_acc1_vel_uddu_h1
  acc0_acc1_vel_uddu_lem =
      either (acc0_acc1_vel_uddu_applies s l.a_max l.a_min l.j_max) _ _
      (λ h. (3, lit≤ tt, rw (mark_is_nan _ h, nan-mul _, nan-div l.j_max, add-nan _, nan-div _)))
      (λ h. absurd (false≢true h))

  acc0_acc1_vel_udud_lem : NanIfMarked (acc0_acc1_vel_udud s l)
  unfolding acc0_acc1_vel_udud
  acc0_acc1_vel_udud_lem =
      either (acc0_acc1_vel_udud_applies s l.a_max l.j_max) _ _ (λ h. absurd (false≢true h))
      (λ h. absurd (false≢true h))

  -- an attempt at a root of a quartic has no mark
  inside : (w : Window) (root : Float) (x : Times) (signs : ControlSigns) (label : ReachedLimits) (jf : Float)
      → NanIfMarked (cond (outside_of w root) no_trial_of (the_trial false x signs label jf))
  inside w root x signs label jf =
      either (outside_of w root) _ _ (λ h. absurd (false≢true h)) (λ h. absurd (false≢true h))

  acc0_acc1_rest_lem : NanIfMarked (acc0_acc1_rest s l)
  unfolding acc0_acc1_rest
  acc0_acc1_rest_lem h = absurd (false≢true h)

  rest_to_rest_lem : NanIfMarked (rest_to_rest_trial s l)
  unfolding rest_to_rest_trial
  rest_to_rest_lem h = absurd (false≢true h)

  -- jf, and so t[0] of (a_max - a0) / jf
  acc0_acc1_uddu_lem : NanIfMarked (acc0_acc1_uddu s l)
  unfolding acc0_acc1_uddu acc0_acc1_uddu_times acc0_acc1_uddu_jf
  acc0_acc1_uddu_lem h = (0, lit≤ tt, rw (mark_is_nan _ h, nan-div _, add-nan _, neg-nan, nan-div _, div-nan _))

  -- t[2], which is h1
  acc0_first_lem : NanIfMarked (acc0_first s l)
  unfolding acc0_first acc0_first_times
  acc0_first_lem h = (2, lit≤ tt, mark_is_nan (square_root_of (acc0_first_radicand s l.a_max l.j_max)) h)

  -- t[3] of h0 / (j_max h1)
  acc0_second_lem : NanIfMarked (acc0_second s l)
  unfolding acc0_second acc0_second_times acc0_second_h0
  acc0_second_lem h = (3, lit≤ tt, rw (mark_is_nan _ h, mul-nan _, nan-div _))

  -- t[3] of (2 h0a - h1) / h2
  acc0_third_lem : NanIfMarked (acc0_third s l)
  unfolding acc0_third acc0_third_times acc0_third_h1
  acc0_third_lem h = (3, lit≤ tt, rw (mark_is_nan _ h, mul-nan _, sub-nan _, nan-div _))

  each : Each NanIfMarked (λ root. Unit {0}) s l
  unfolding acc1_vel_uddu acc1_vel_udud acc0_vel_uddu acc0_vel_udud
  each =
      record {
        of_acc0_acc1_vel_uddu = acc0_acc1_vel_uddu_lem;
        of_acc0_acc1_vel_udud = acc0_acc1_vel_udud_lem;
        of_acc1_vel_uddu = λ root z. inside _ root _ _ _ _;
        of_acc1_vel_udud = λ root z. inside _ root _ _ _ _;
        of_acc0_vel_uddu = λ root z. inside _ root _ _ _ _;
        of_acc0_vel_udud = λ root z. inside _ root _ _ _ _;
        of_acc0_acc1 =
            either (acc0_acc1_rest_applies s) (acc0_acc1_rest s l) (acc0_acc1_uddu s l) acc0_acc1_rest_lem
            acc0_acc1_uddu_lem;
        of_acc0_first = acc0_first_lem;
        of_acc0_second = acc0_second_lem;
        of_acc0_third = acc0_third_lem;
        of_rest_to_rest =
            either (acc0_acc1_rest_applies s) (rest_to_rest_trial s l) (acc0_acc1_uddu s l) rest_to_rest_lem
            acc0_acc1_uddu_lem;
      }

-- ---- what comes of such an attempt, on any profile
module _ (l : Limits) (k : Trial) (h : NanIfMarked k) (p : Profile) where
  abbrev timed : Profile
  timed = changed (with_times (seven_of k.times)) p

  attempt_no : k.marked ≡ true → (attempt_of l k p).ok ≡ false
  unfolding attempt_of timing_of
  attempt_no e = let i = h e in nan-time _ _ _ _ _ _ _ _ timed i.0 i.1 i.2

  try_no : k.marked ≡ true → (try_of l k p).ok ≡ false
  unfolding try_of
  try_no e = by k.made
    where
      by : (b : Bool) → (cond b (attempt_of l k p) (nothing p)).ok ≡ false
      by true = attempt_no e
      by false = refl

  not_13 : (n : ℕ) → n ≤ 11 → eqb n 13 ≡ false
  not_13 n h = by (eqb n 13) (λ z. let e = eqb→eq n 13 z in omega arith)
    where
      by : (b : Bool) → (T b → ⊥) → b ≡ false
      by true h = absurd (h tt)
      by false h = refl

  try_cause : k.made ≡ true → eqb (cause_number_of (try_of l k p).profile.cause) 13 ≡ k.marked
  unfolding try_of attempt_of
  try_cause made = rw made (by k.marked refl)
    where
      by : (b : Bool) → k.marked ≡ b → eqb (cause_number_of (attempt_of l k p).profile.cause) 13 ≡ b
      by true e =
          ap (λ (c : Cause). eqb (cause_number_of c) 13) (timing_marked _ _ _ _ _ _ _ _ timed e (attempt_no e))
      by false e = not_13 _ (timing_unmarked _ _ _ _ _ _ _ _ timed e)

-- ---- attempt i of a shape; past the last there is none
every_at : (ks : List Trial) → Every NanIfMarked ks → (i : ℕ) → NanIfMarked (get_or ks i no_trial_of)
every_at [] h i = λ e. absurd (false≢true e)
every_at (k ∷ ks) h zero = h.0
every_at (k ∷ ks) h (suc i) = every_at ks h.1 i

module _ (shape : Shape) (s : PositionThirdOrderStep2) (l : Limits) (q : Quartics) (first second : RootAnswer) (i : ℕ)
    (p : Profile) where
  abbrev attempt : Trial
  attempt = get_or (attempts_of shape s l q first second) i no_trial_of

  has_nan : NanIfMarked attempt
  has_nan =
      every_at (attempts_of shape s l q first second)
      (all_attempts NanIfMarked (λ root. Unit {0}) (each s l) shape q first second
      (λ p. every_of_all (λ root. Unit {0}) (λ root. tt) (sorted_of (polynom_roots_of p first)))
      (λ p. every_of_all (λ root. Unit {0}) (λ root. tt) (sorted_of (polynom_roots_of p second))))
      i

  -- a marked one gets no yes
  pub marked_never_yes : (get_or (attempts_of shape s l q first second) i no_trial_of).marked ≡ true
      → (try_of l (get_or (attempts_of shape s l q first second) i no_trial_of) p).ok ≡ false
  marked_never_yes = try_no l attempt has_nan p

  -- one that is made has the cause 13 exactly where it is marked
  pub marked_have_13 : (get_or (attempts_of shape s l q first second) i no_trial_of).made ≡ true
      → eqb
      (cause_number_of (try_of l (get_or (attempts_of shape s l q first second) i no_trial_of) p).profile.cause) 13
      ≡ (get_or (attempts_of shape s l q first second) i no_trial_of).marked
  marked_have_13 = try_cause l attempt has_nan p
