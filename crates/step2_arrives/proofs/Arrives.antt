-- From the yes of an attempt to the exact motion: it arrives, in the duration, within the limits. Assumes nothing.
-- Everything here is about any attempt whose times are known well enough (`Made`): the shapes' formulas are not named.
use mathlib.Core.Path.{◌≡◌, refl, sym, ap, ◌∙◌, subst}
use mathlib.Core.Bool.{true}
use mathlib.Core.List.{List}
use Prim.Native.Nat.{ℕ, ◌*◌, ◌^◌, ◌≤◌, ◌<◌}
use native.Mathlib.Nat.{mul_comm, le_of_eq, le_trans, mul-le-mul_left, mul-le-mul_right, le_of_mul-le-mul_right}
use native.Mathlib.Omega.{arith}
use lib.Dec.{lit≤}
use lib.Pow.{pow_pos}
use lib.ListN.{get_or}
use lib.Ieee.{Float, nan}
use Rattle.float.specs.Ops.{#0}
use Rattle.labels.specs.declared.ControlSigns.{ControlSigns}
use Rattle.labels.specs.declared.ControlSigns.TheVariants.{UDDU, UDUD}
use Rattle.jerks.specs.declared.Sign.{Sign}
use Rattle.jerks.specs.declared.Sign.TheVariants.{Plus, Zero, Minus}
use Rattle.profile.specs.declared.Profile.{Profile}
use Rattle.profile.specs.declared.Checked.{Checked}
use Rattle.jerks.specs.Jerks.{pattern_of, jerk_of, jerks_of}
use Rattle.rounding.specs.Exact.{◌⊙◌}
use Rattle.rounding.specs.Value.{unit, val}
use Rattle.rounding.specs.Motion.{motion, state, lasts, elapsed}
use Rattle.rounding.specs.Step.{Node, Replaced}
use Rattle.rounding.specs.Run.{Recorded}
use Rattle.rounding.proofs.Linear.{near_times, near_weaken}
use Rattle.profile_arrives.specs.Reply.{time, jerk, node, exact, Within, Residual}
use Rattle.profile_arrives.specs.Arrives.{Fraction, Arrives, proved}
use Rattle.profile_arrives.proofs.Yes.{Yes, check_yes}
use Rattle.profile_arrives.proofs.Facts.{jerk_is, yes_finite, time-above, total_is}
use Rattle.profile_arrives.proofs.Distances.{Narrowed, wider}
use Rattle.profile_arrives.proofs.CheckArrives.{at_most, check_recorded, check_arrives_closely}
use Rattle.step2_solver.specs.declared.Move.{Move}
use Rattle.step2_times.specs.Facts.{Accepted, roundings, Lasts, Jerks, residual}
use Rattle.step2_attempt.specs.Attempt.{seven_of}
use Rattle.step2_arrives.specs.Moves.{MoveNumbers, Starts, Close, in_place, in_time}
use Rattle.step2_arrives.specs.Moves.{ArrivesDemanded, ArrivesClosely}
use Rattle.step2_arrives.proofs.Made.{Made, starts-left}
use Rattle.step2_arrives.proofs.Sound.{AlwaysSound}

-- both patterns of signs begin with +, 0, -
begin : (signs : ControlSigns)
    → (get_or (pattern_of signs) 0 Zero ≡ Plus)
    × (get_or (pattern_of signs) 1 Zero ≡ Zero)
    × (get_or (pattern_of signs) 2 Zero ≡ Minus)
begin UDDU = (refl, refl, refl)
begin UDUD = (refl, refl, refl)

-- an error in units, as a distance
close : {t : ℕ → Float} {tf : Float} (l : Lasts t tf) (f : Fraction) → l.err * f.d ≤ f.m * unit
    → Close f (lasts t 7) tf
close {t} {tf} l f h =
    near_weaken (f.d ⊙ lasts t 7) (f.d ⊙ val tf) (f.d * l.err) (f.m * unit)
    (near_times f.d (lasts t 7) (val tf) l.err l.near)
    (le_trans (le_of_eq (mul_comm f.d l.err)) h)

-- e is at most r parts in W, and those are at most m parts in d
less : (e U W r d m : ℕ) → 0 < W → e * W ≤ r * U → r * d ≤ m * W → e * d ≤ m * U
less e U W r d m z h k = le_of_mul-le-mul_right (joined e U W r d m (mul-le-mul_left d h) (mul-le-mul_right U k)) z
  where
    joined : (e U W r d m : ℕ) → d * (e * W) ≤ d * (r * U) → r * d * U ≤ m * W * U → e * d * W ≤ m * U * W
    joined e U W r d m h k = omega arith

-- what is proved is within what is demanded
distances : Narrowed (proved residual) in_place
distances =
    record {
      position = (lit≤ tt, lit≤ tt);
      velocity = (lit≤ tt, lit≤ tt);
      acceleration = (lit≤ tt, lit≤ tt);
      velocity_limit = (lit≤ tt, lit≤ tt);
      acceleration_limit = (lit≤ tt, lit≤ tt);
    }

module _ {m : Move} {q : Profile} (d : Made m q) where
  -- ---- what `check` recorded and tested
  pub made_yes : Yes d.signs d.limits d.jf m.v_max m.v_min m.a_max m.a_min d.before q
  made_yes =
      subst
      (λ (z : Profile).
      Yes d.signs d.limits d.jf m.v_max m.v_min m.a_max m.a_min d.before z)
      (sym d.left)
      (check_yes d.signs d.limits d.jf m.v_max m.v_min m.a_max m.a_min d.before
      d.starts.held d.said)

  pub made_starts : Starts m q
  made_starts = starts-left made_yes.carried d.starts

  time_is : (i : ℕ) → time q i ≡ get_or (seven_of d.times) i nan
  time_is i = ap (λ (t : List Float). get_or t i nan) (made_yes.carried.t_is ∙ d.times_are)

  jerk_at : (i : ℕ) → i < 7 → (s : Sign) → get_or (pattern_of d.signs) i Zero ≡ s
      → jerk q i ≡ jerk_of s (time q i) d.jf
  jerk_at i l s e =
      ap (λ (j : List Float). get_or j i nan) made_yes.j_is
      ∙ ap (λ (t : List Float). get_or (jerks_of d.signs t d.jf) i nan) (sym made_yes.carried.t_is)
      ∙ jerk_is d.signs q.t d.jf i l
      ∙ ap (λ (z : Sign). jerk_of z (time q i) d.jf) e

  module _ (w : Within q) where
    -- ---- the times and the jerks, as the facts about the formulas take them
    pub made_accepted : Accepted (time q) d.times
    made_accepted =
        record {
          is0 = time_is 0;
          is1 = time_is 1;
          is2 = time_is 2;
          is3 = time_is 3;
          is4 = time_is 4;
          is5 = time_is 5;
          is6 = time_is 6;
          held = made_starts.held.held_t;
          finite = λ i l. (yes_finite made_yes i l).t_finite;
          above = time-above made_yes d.starts.held;
          total =
              at_most (lasts (time q) 7) (elapsed (time q) 7) (8 * unit) (total_is made_yes d.starts.held)
              w.total;
        }

    pub made_jerks : Jerks d.jf (time q) (jerk q)
    made_jerks =
        let b = begin d.signs in
        record {
          plus = jerk_at 0 (lit≤ tt) Plus b.0;
          none = jerk_at 1 (lit≤ tt) Zero b.1;
          minus = jerk_at 2 (lit≤ tt) Minus b.2;
          finite = λ i l. (yes_finite made_yes i l).j_finite;
          size = w.jerks;
        }

    -- ---- the duration, and what the label's 0 for a[3] is off by
    pub made_lasts : Lasts (time q) m.tf
    made_lasts = d.timed.lasts (time q) made_accepted

    pub made_residual : Residual residual d.limits q
    made_residual z =
        subst
        (λ (a : Float). Replaced residual #0 (motion (time q) (jerk q) (state (node q 0).p (node q 0).v a) 3).a)
        (sym (ap (λ (n : Node). n.a) made_starts.start))
        (d.timed.replaced z (time q) made_accepted (jerk q) (node q 0).p (node q 0).v made_jerks)

    module _ (n : MoveNumbers m) where
      -- ---- every recorded number is near the exact motion's
      pub made_recorded : (i : ℕ) → i ≤ 7 → Recorded residual (node q i) (exact q i)
      made_recorded =
          subst (λ (z : Profile). (i : ℕ) → i ≤ 7 → Recorded residual (node z i) (exact z i)) (sym d.left)
          (check_recorded d.signs d.limits d.jf m.v_max m.v_min m.a_max m.a_min d.before
          d.starts.held d.held_jf n.of_v_max n.of_v_min n.of_a_max n.of_a_min d.said residual
          (lit≤ tt) (subst (λ (z : Profile). Within z) d.left w)
          (subst (λ (z : Profile). Residual residual d.limits z) d.left made_residual))

      -- ---- the theorem, of any attempt
      closely : Arrives (proved residual) m.v_max m.v_min m.a_max m.a_min q
      closely =
          subst (λ (z : Profile). Arrives (proved residual) m.v_max m.v_min m.a_max m.a_min z)
          (sym d.left)
          (check_arrives_closely d.signs d.limits d.jf m.v_max m.v_min m.a_max m.a_min
          d.before d.starts.held d.held_jf n.of_v_max n.of_v_min n.of_a_max n.of_a_min d.said
          residual (lit≤ tt) (subst (λ (z : Profile). Within z) d.left w)
          (subst (λ (z : Profile). Residual residual d.limits z) d.left made_residual))

      pub attempt_arrives_closely : ArrivesClosely m q
      attempt_arrives_closely =
          record {
            starts = made_starts;
            arrives = closely;
            duration = close made_lasts (record { m = roundings; d = 2 ^ 53 }) made_lasts.bound;
          }

      pub attempt_arrives : ArrivesDemanded m q
      attempt_arrives =
          record {
            starts = made_starts;
            arrives =
                wider (proved residual) in_place m.v_max m.v_min m.a_max m.a_min q distances
                closely;
            duration =
                close made_lasts in_time
                (less made_lasts.err unit (2 ^ 53) roundings in_time.d in_time.m (pow_pos 53)
                made_lasts.bound (lit≤ tt));
          }

-- ---- and of whatever is made of attempts: a shape, or any other choice among them
module _ {m : Move} (n : MoveNumbers m) {f : Profile → Checked} (h : AlwaysSound m f) (q : Profile) (s : Starts m q)
    (accepted : (f q).ok ≡ true) where
  pub sound_arrives : Within (f q).profile → ArrivesDemanded m (f q).profile
  sound_arrives w = attempt_arrives ((h q s).made accepted) w n

  pub sound_arrives_closely : Within (f q).profile → ArrivesClosely m (f q).profile
  sound_arrives_closely w = attempt_arrives_closely ((h q s).made accepted) w n
