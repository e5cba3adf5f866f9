-- An accepted move arrives. Assumes nothing.
-- `check` adds the seven phases up in f64s, rounding at every step, and under some labels it sets a[3] to 0. It says
-- yes where the numbers that it recorded are the goal within its tolerances, and keep the limits within theirs. The
-- theorem is about the motion that is really made: from the recorded start, by the recorded times and jerks, each as
-- the exact number that its bits stand for, with no rounding and with no acceleration set to 0.
-- For a start of at most 8 in size, a total time of at most 8 and jerks of at most 64 (`Within`), every recorded number
-- is near that motion's (`check_recorded`). So the motion ends at the goal and keeps its limits, within `check`'s
-- tolerances and the rounding errors (`check_arrives_closely`), and so within the distances that are demanded
-- (`check_arrives`).
-- What setting a[3] to 0 adds is not known here: it is the residual r, and whoever chose the times says how large it is
-- (`Residual`). Where the label sets nothing, r is 0. The limits are finite numbers; nothing is asked of jf but that it
-- is an f64, and nothing of the goal.
use mathlib.Core.Path.{◌≡◌, sym, ap, subst}
use mathlib.Core.Logic.{◌⊎◌, inl, inr}
use mathlib.Core.Bool.{Bool, true, false, cond, ◌&&◌}
use Prim.Native.Nat.{ℕ, suc, ◌*◌, ◌^◌, ◌≤◌, ◌<◌}
use native.Mathlib.Nat.{le_trans}
use native.Mathlib.Omega.{arith}
use lib.Dec.{T, eqb, eqb→eq, lit≤}
use lib.Ieee.{Float, binary64, fits, lt}
use Rattle.float.specs.Ops.{#0}
use Rattle.labels.specs.declared.ReachedLimits.{ReachedLimits}
use Rattle.labels.specs.declared.ControlSigns.{ControlSigns}
use Rattle.profile.specs.declared.Profile.{Profile}
use Rattle.labels.specs.Tests.{tests_of}
use Rattle.profile.specs.Check.{check_of}
use Rattle.rounding.specs.Exact.{D, signed, Below, Same}
use Rattle.rounding.specs.Value.{unit, Number}
use Rattle.rounding.specs.Motion.{lasts, elapsed}
use Rattle.rounding.specs.Step.{Node, step_of, Replaced}
use Rattle.rounding.specs.Run.{Run, Recorded}
use Rattle.rounding.proofs.Run.{recorded}
use Rattle.profile_arrives.specs.Reply.{time, jerk, node, exact, after, upper, lower, Held, Within, Residual}
use Rattle.profile_arrives.specs.Arrives.{Arrives, demanded, proved}
use Rattle.profile_arrives.proofs.Yes.{Yes, check_yes, held-left}
use Rattle.profile_arrives.proofs.Facts.{end_p, end_v, end_a, end_finite, held-jerk, total_is, limits-kept}
use Rattle.profile_arrives.proofs.Nodes.{at_p, at_v, at_a, v_between, a_between}
use Rattle.profile_arrives.proofs.Distances.{wider, narrower}

-- ---- what `check` recorded is a run of seven phases
chosen : (a b : Bool) (w x z : Float) → w ≡ cond (a && b) z x → (w ≡ x) ⊎ (T a × T b × (w ≡ z))
chosen true true w x z h = inr (tt, tt, h)
chosen true false w x z h = inl h
chosen false b w x z h = inl h

pub at_most : (s : D) (e m : ℕ) → Same s (signed false e) → Below s (signed false m) → e ≤ m
at_most s e m h k = omega arith

module _ {signs : ControlSigns} {limits : ReachedLimits} {jf v_max v_min a_max a_min : Float} {q q' : Profile}
    (y : Yes signs limits jf v_max v_min a_max a_min q q') (h : Held q) (fj : T (fits binary64 jf)) where
  next_a : (r : ℕ) → Residual r limits q' → (i : ℕ) → i < 7
      → ((node q' (suc i)).a ≡ (step_of (time q' i) (jerk q' i) (node q' i)).a)
      ⊎ Replaced r (node q' (suc i)).a (after q' i).a
  next_a r z i l =
      elim
      (chosen (tests_of limits).a3 (eqb i 2) (node q' (suc i)).a (step_of (time q' i) (jerk q' i) (node q' i)).a #0
      (ap (λ (n : Node). n.a) (y.step i l))) [
        | inl e ↦ inl e
        | inr w ↦ inr
            (subst (λ (x : Float). Replaced r x (after q' i).a) (sym w.2)
            (subst (λ (k : ℕ). Replaced r #0 (after q' k).a) (sym (eqb→eq i 2 w.1)) (z w.0)))
      ]

  pub run_of : (r : ℕ) → r ≤ 2 ^ 40 → Within q' → Residual r limits q' → Run r (time q') (jerk q') (node q')
  run_of r few w z =
      let k = held-left y.carried h in
      record {
        small = few;
        held_t = k.held_t;
        held_j = held-jerk y fj;
        held_a = k.held_a;
        held_v = k.held_v;
        held_p = k.held_p;
        size_a_lem = w.start_a;
        size_v_lem = w.start_v;
        size_p_lem = w.start_p;
        total = at_most (lasts (time q') 7) (elapsed (time q') 7) (8 * unit) (total_is y h) w.total;
        jerks = w.jerks;
        steps =
            λ (i : ℕ) (l : i < 7).
            record {
              position = ap (λ (n : Node). n.p) (y.step i l);
              velocity = ap (λ (n : Node). n.v) (y.step i l);
              acceleration = next_a r z i l;
            };
        last_a = (end_finite y).0;
        last_v = (end_finite y).1;
        last_p = (end_finite y).2;
      }

-- ---- the limits are numbers, whichever way round they are
either : (b : Bool) (x y : Float) → Number x → Number y → Number (cond b x y)
either true x y f g = f
either false x y f g = g

-- ---- the theorem
module _ (signs : ControlSigns) (limits : ReachedLimits) (jf v_max v_min a_max a_min : Float) (q : Profile) where
  -- the profile that `check` leaves
  abbrev pub reply : Profile
  reply = (check_of signs limits false jf v_max v_min a_max a_min q).profile

  module _ (h : Held q) (fj : T (fits binary64 jf)) (n_v_max : Number v_max) (n_v_min : Number v_min)
      (n_a_max : Number a_max) (n_a_min : Number a_min)
      (accepted : (check_of signs limits false jf v_max v_min a_max a_min q).ok ≡ true) where
    made : Yes signs limits jf v_max v_min a_max a_min q reply
    made = check_yes signs limits jf v_max v_min a_max a_min q h accepted

    -- every recorded number is near the exact motion's: within off_a r, off_v r and off_p r times 2 ^ -53
    pub check_recorded : (r : ℕ) → r ≤ 2 ^ 40 → Within reply → Residual r limits reply → (i : ℕ) → i ≤ 7
        → Recorded r (node reply i) (exact reply i)
    check_recorded r few w residual = recorded (run_of made h fj r few w residual)

    arrives : (q' : Profile) → Yes signs limits jf v_max v_min a_max a_min q q' → (r : ℕ) → r ≤ 2 ^ 40 → Within q'
        → Residual r limits q' → Arrives (proved r) v_max v_min a_max a_min q'
    arrives q' y r few w residual =
        let z = run_of y h fj r few w residual in
        let g = held-left y.carried h in
        let k = limits-kept y in
        let b = lt #0 v_max in
        let v_low = either b v_min v_max n_v_min n_v_max in
        let v_upp = either b v_max v_min n_v_max n_v_min in
        let a_low = either b a_min a_max n_a_min n_a_max in
        let a_upp = either b a_max a_min n_a_max n_a_min in
        record {
          position = at_p z q'.pf g.held_pf (end_p y);
          velocity = at_v z q'.vf g.held_vf (end_v y);
          acceleration = at_a z q'.af g.held_af (end_a y);
          velocity_2 = v_between z 3 (lit≤ tt) (lower v_max v_max v_min) (upper v_max v_max v_min) v_low v_upp k.v3;
          velocity_3 = v_between z 4 (lit≤ tt) (lower v_max v_max v_min) (upper v_max v_max v_min) v_low v_upp k.v4;
          velocity_4 = v_between z 5 (lit≤ tt) (lower v_max v_max v_min) (upper v_max v_max v_min) v_low v_upp k.v5;
          velocity_5 = v_between z 6 (lit≤ tt) (lower v_max v_max v_min) (upper v_max v_max v_min) v_low v_upp k.v6;
          acceleration_0 =
              a_between z 1 (lit≤ tt) (lower v_max a_max a_min) (upper v_max a_max a_min) a_low a_upp k.a1;
          acceleration_2 =
              a_between z 3 (lit≤ tt) (lower v_max a_max a_min) (upper v_max a_max a_min) a_low a_upp k.a3;
          acceleration_4 =
              a_between z 5 (lit≤ tt) (lower v_max a_max a_min) (upper v_max a_max a_min) a_low a_upp k.a5;
        }

    pub check_arrives_closely : (r : ℕ) → r ≤ 2 ^ 40 → Within reply → Residual r limits reply
        → Arrives (proved r) v_max v_min a_max a_min reply
    check_arrives_closely = arrives reply made

    -- a residual of at most 500,000 times 2 ^ -53, 5.6e-11
    pub check_arrives : (r : ℕ) → r ≤ 500_000 → Within reply → Residual r limits reply
        → Arrives demanded v_max v_min a_max a_min reply
    check_arrives r few w residual =
        wider (proved r) demanded v_max v_min a_max a_min reply (narrower r few)
        (check_arrives_closely r (le_trans few (lit≤ tt)) w residual)
