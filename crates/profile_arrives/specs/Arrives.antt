-- That an exact motion arrives and keeps its limits, by given distances. Definitions only.
-- And the distances of the demand, and those that are proved.
use Rattle.std.specs.Prelude.{false, ℕ, ◌+◌, ◌*◌, ◌^◌, Float}
use Rattle.profile.specs.declared.Profile.{Profile}
use Rattle.rounding.specs.Exact.{D, Near, Below, signed, ◌⊞◌, ◌⊙◌}
use Rattle.rounding.specs.Value.{unit, val}
use Rattle.rounding.specs.Motion.{per_a, per_v, per_p}
use Rattle.rounding.specs.Run.{off_a, off_v, off_p}
use Rattle.profile_arrives.specs.Reply.{after, upper, lower}

-- the number m / d
pub record Fraction : Type 0 where
  pub m : ℕ
  pub d : ℕ

infix 60 ◌over◌
abbrev pub ◌over◌ : ℕ → ℕ → Fraction
m over d = record { m = m; d = d }

-- K is `per_p`, `per_v` or `per_a`: a float x is K ⊙ val x in the units of the exact motion, and the number 1 is
-- K * unit there.
-- The exact number X is within f of the float x: |d X - d x| ≤ m.
abbrev pub At : Fraction → ℕ → D → Float → Type 0
At f K X x = Near (f.d ⊙ X) (f.d ⊙ (K ⊙ val x)) (f.m * (K * unit))

-- The exact number X is between the floats low and upp, within f.
pub record Between (f : Fraction) (K : ℕ) (low : Float) (X : D) (upp : Float) : Type 0 where
  pub above : Below (f.d ⊙ (K ⊙ val low)) (f.d ⊙ X ⊞ signed false (f.m * (K * unit)))
  pub below : Below (f.d ⊙ X) (f.d ⊙ (K ⊙ val upp) ⊞ signed false (f.m * (K * unit)))

-- how far the end may be from the goal, and how far beyond its limits the motion may go
pub record Distances : Type 0 where
  pub position : Fraction
  pub velocity : Fraction
  pub acceleration : Fraction
  pub velocity_limit : Fraction
  pub acceleration_limit : Fraction

-- The exact motion of the profile q ends at its goal, keeps between its velocity limits after phases 2 to 5 and between
-- its acceleration limits after phases 0, 2 and 4, each within w.
pub record Arrives (w : Distances) (v_max v_min a_max a_min : Float) (q : Profile) : Type 0 where
  pub position : At w.position per_p (after q 6).p q.pf
  pub velocity : At w.velocity per_v (after q 6).v q.vf
  pub acceleration : At w.acceleration per_a (after q 6).a q.af
  pub velocity_2 : Between w.velocity_limit per_v (lower v_max v_max v_min) (after q 2).v (upper v_max v_max v_min)
  pub velocity_3 : Between w.velocity_limit per_v (lower v_max v_max v_min) (after q 3).v (upper v_max v_max v_min)
  pub velocity_4 : Between w.velocity_limit per_v (lower v_max v_max v_min) (after q 4).v (upper v_max v_max v_min)
  pub velocity_5 : Between w.velocity_limit per_v (lower v_max v_max v_min) (after q 5).v (upper v_max v_max v_min)
  pub acceleration_0 : Between w.acceleration_limit per_a (lower v_max a_max a_min) (after q 0).a
      (upper v_max a_max a_min)
  pub acceleration_2 : Between w.acceleration_limit per_a (lower v_max a_max a_min) (after q 2).a
      (upper v_max a_max a_min)
  pub acceleration_4 : Between w.acceleration_limit per_a (lower v_max a_max a_min) (after q 4).a
      (upper v_max a_max a_min)

-- the demand: 2e-8 of the position and the velocity, 2e-10 of the acceleration, 1e-8 of the velocity limits, 1e-10 of
-- the acceleration limits
abbrev pub demanded : Distances
demanded =
    record {
      position = 2 over 100_000_000;
      velocity = 2 over 100_000_000;
      acceleration = 2 over 10_000_000_000;
      velocity_limit = 1 over 100_000_000;
      acceleration_limit = 1 over 10_000_000_000;
    }

-- `check`'s tolerance 1 / k, and c times 2 ^ -53 more
abbrev pub tolerance : ℕ → ℕ → Fraction
tolerance k c = (2 ^ 53 + k * c) over (k * 2 ^ 53)

-- What is proved, where the residual of a[3] is r: `check`'s own tolerance, 1e-8, 1e-10 or 1e-12, and the rounding
-- errors, which are multiples of 2 ^ -53.
-- For r = 1540 that is 1.04e-8, 1.003e-8, 1.02e-10, 2.7e-11 and 2.5e-12; every 1000 more of r add 1.1e-11 to the
-- position, 8.9e-13 to the velocities and 1.2e-13 to the accelerations.
abbrev pub proved : ℕ → Distances
proved r =
    record {
      position = tolerance 100_000_000 (off_p r + 2);
      velocity = tolerance 100_000_000 (off_v r + 2);
      acceleration = tolerance 10_000_000_000 (off_a r + 2);
      velocity_limit = tolerance 1_000_000_000_000 (off_v r + 4171);
      acceleration_limit = tolerance 1_000_000_000_000 (off_a r + 523);
    }
