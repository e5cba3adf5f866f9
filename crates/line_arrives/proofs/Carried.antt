-- Assumes nothing. From the record that a shape leaves to the characters of a line and of its reply:
-- where they hold the same numbers, the sizes and the arrival of the one are those of the other.
use mathlib.Core.Path.{◌≡◌, sym, ap, ◌∙◌, subst}
use Prim.Native.Nat.{ℕ, zero, suc, ◌*◌, ◌≤◌, ◌<◌}
use native.Mathlib.Nat.{le_trans}
use native.Mathlib.Omega.{arith}
use mathlib.Core.Bool.{false}
use mathlib.Core.List.{List}
use lib.Dec.{lit≤}
use lib.Ieee.{Float}
use Rattle.profile.specs.declared.Profile.{Profile}
use Rattle.rounding.specs.Exact.{D, Size, Below, signed}
use Rattle.rounding.specs.Value.{unit, val, Finite}
use Rattle.rounding.specs.Motion.{Moving, per_a, per_v, per_p, motion}
use Rattle.rounding.specs.Step.{Node, from}
use Rattle.profile_arrives.specs.Reply.{time, jerk, node, after, Within}
use Rattle.profile_arrives.specs.Arrives.{Fraction, Distances, At}
use Rattle.step2_arrives.specs.Moves.{MoveNumbers, Starts, Close, Arrival}
use Rattle.line_arrives.specs.LineArrives.{move_in, time_in, jerk_in, state_after, Sizes, VelocityKept}
use Rattle.line_arrives.specs.LineArrives.{AccelerationKept, LineArrives}
use Rattle.line_arrives.proofs.Agreeing.{Agree, motion_agrees, lasts_agrees}

-- what holds of 2, 3, 4 and 5
two_to_five : (P : ℕ → Type 0) → P 2 → P 3 → P 4 → P 5 → (i : ℕ) → 2 ≤ i → i ≤ 5 → P i
two_to_five P a b c d zero l h = absurd (omega arith)
two_to_five P a b c d (suc zero) l h = absurd (omega arith)
two_to_five P a b c d (suc (suc zero)) l h = a
two_to_five P a b c d (suc (suc (suc zero))) l h = b
two_to_five P a b c d (suc (suc (suc (suc zero)))) l h = c
two_to_five P a b c d (suc (suc (suc (suc (suc zero))))) l h = d
two_to_five P a b c d (suc (suc (suc (suc (suc (suc i)))))) l h = absurd (past i h)
  where
    past : (i : ℕ) → suc (suc (suc (suc (suc (suc i))))) ≤ 5 → ⊥
    past i h = omega arith

module _ (line reply : List ℕ) {q : Profile} (s : Starts (move_in line) q) (t : Agree 7 (time q) (time_in reply))
    (j : Agree 7 (jerk q) (jerk_in reply)) where
  start_is : (P : Node → Type 0) → P (record { a = (move_in line).a0; v = (move_in line).v0; p = (move_in line).p0 })
      → P (node q 0)
  start_is P h = subst P (sym s.start) h

  pub within : Sizes line reply → Within q
  within z =
      record {
        start_p = start_is (λ (n : Node). Size (val n.p) (8 * unit)) z.position;
        start_v = start_is (λ (n : Node). Size (val n.v) (8 * unit)) z.velocity;
        start_a = start_is (λ (n : Node). Size (val n.a) (8 * unit)) z.acceleration;
        total = subst (λ (d : D). Below d (signed false (8 * unit))) (sym (lasts_agrees 7 t)) z.total;
        jerks = λ i l. subst (λ (x : Float). Size (val x) (64 * unit)) (sym (j i l)) (z.jerks i l);
      }

  after_is : (i : ℕ) → i < 7 → after q i ≡ state_after line reply i
  after_is i l =
      ap (λ (n : Node). motion (time q) (jerk q) (from n) (suc i)) s.start
      ∙ motion_agrees (from (record { a = (move_in line).a0; v = (move_in line).v0; p = (move_in line).p0 })) (suc i)
      (λ k h. t k (le_trans h l)) (λ k h. j k (le_trans h l))

  module _ (n : MoveNumbers (move_in line)) (finite : (i : ℕ) → i < 7 → Finite (time q i) × Finite (jerk q i))
      {w : Distances} {f : Fraction} (a : Arrival w f (move_in line) q) where
    moved : (P : Moving → Type 0) (i : ℕ) → i < 7 → P (after q i) → P (state_after line reply i)
    moved P i l h = subst P (after_is i l) h

    pub line-arrives : LineArrives w f line reply
    line-arrives =
        let m = move_in line in
        let r = a.arrives in
        record {
          numbers = n;
          phases_finite =
              λ i l. (
                subst (λ (x : Float). Finite x) (t i l) (finite i l).0,
                subst (λ (x : Float). Finite x) (j i l) (finite i l).1,
              );
          position = moved (λ (x : Moving). At w.position per_p x.p m.pf) 6 (lit≤ tt)
              (subst (λ (x : Float). At w.position per_p (after q 6).p x) s.pf_is r.position);
          velocity = moved (λ (x : Moving). At w.velocity per_v x.v m.vf) 6 (lit≤ tt)
              (subst (λ (x : Float). At w.velocity per_v (after q 6).v x) s.vf_is r.velocity);
          acceleration = moved (λ (x : Moving). At w.acceleration per_a x.a m.af) 6 (lit≤ tt)
              (subst (λ (x : Float). At w.acceleration per_a (after q 6).a x) s.af_is r.acceleration);
          lasting = subst (λ (d : D). Close f d m.tf) (lasts_agrees 7 t) a.duration;
          velocity_limits = two_to_five (λ (i : ℕ). VelocityKept w.velocity_limit m (state_after line reply i).v)
              (moved (λ (x : Moving). VelocityKept w.velocity_limit m x.v) 2 (lit≤ tt) r.velocity_2)
              (moved (λ (x : Moving). VelocityKept w.velocity_limit m x.v) 3 (lit≤ tt) r.velocity_3)
              (moved (λ (x : Moving). VelocityKept w.velocity_limit m x.v) 4 (lit≤ tt) r.velocity_4)
              (moved (λ (x : Moving). VelocityKept w.velocity_limit m x.v) 5 (lit≤ tt) r.velocity_5);
          acceleration_0 =
              moved (λ (x : Moving). AccelerationKept w.acceleration_limit m x.a) 0 (lit≤ tt) r.acceleration_0;
          acceleration_2 =
              moved (λ (x : Moving). AccelerationKept w.acceleration_limit m x.a) 2 (lit≤ tt) r.acceleration_2;
          acceleration_4 =
              moved (λ (x : Moving). AccelerationKept w.acceleration_limit m x.a) 4 (lit≤ tt) r.acceleration_4;
        }
