-- How far each recorded number of a run of seven phases in f64s is from the exact motion. Definitions only.
-- All bounds are multiples of 2 ^ -53, for a run whose replaced accelerations are within r times 2 ^ -53 of the exact.
use Rattle.std.specs.Prelude.{ℕ, suc, ◌+◌, ◌*◌, ◌^◌, ◌≤◌, ◌<◌, T, Float}
use Rattle.std.specs.Float.{binary64}
use Rattle.std.specs.Float.Ieee.{fits}
use Rattle.rounding.specs.Exact.{Size, ◌⊙◌}
use Rattle.rounding.specs.Value.{unit, val, Finite}
use Rattle.rounding.specs.Bounds.{Off}
use Rattle.rounding.specs.Motion.{Moving, motion, elapsed, per_a, per_v, per_p}
use Rattle.rounding.specs.Step.{Node, from, Next}

-- seven times 1547; 8 seconds of a's error and of 1292, and seven times 16635;
-- 8 seconds of v's error, 32 of a's and 8 of 15987, and seven times 144635
abbrev pub off_a : ℕ → ℕ
off_a r = 10829 + r

abbrev pub off_v : ℕ → ℕ
off_v r = 8 * (off_a r + 1292) + 116445

abbrev pub off_p : ℕ → ℕ
off_p r = 8 * (off_v r + 4 * off_a r + 15987) + 1012445

-- The recorded numbers n are within off_a r, off_v r and off_p r times 2 ^ -53 of the exact state m.
pub record Recorded (r : ℕ) (n : Node) (m : Moving) : Type 0 where
  pub a : Off (per_a * unit) (per_a ⊙ val n.a) m.a (off_a r)
  pub v : Off (per_v * unit) (per_v ⊙ val n.v) m.v (off_v r)
  pub p : Off (per_p * unit) (per_p ⊙ val n.p) m.p (off_p r)

-- A run: node 0 is the start, of size 8 at most in each number; each later node is the step from the one before;
-- the times add up to 8 at most, and each jerk is 64 at most in size. Only the last node is said to be finite.
pub record Run (r : ℕ) (t j : ℕ → Float) (n : ℕ → Node) : Type 0 where
  pub small : r ≤ 2 ^ 40
  pub held_t : (i : ℕ) → i < 7 → T (fits binary64 (t i))
  pub held_j : (i : ℕ) → i < 7 → T (fits binary64 (j i))
  pub held_a : T (fits binary64 (n 0).a)
  pub held_v : T (fits binary64 (n 0).v)
  pub held_p : T (fits binary64 (n 0).p)
  pub size_a_lem : Size (val (n 0).a) (8 * unit)
  pub size_v_lem : Size (val (n 0).v) (8 * unit)
  pub size_p_lem : Size (val (n 0).p) (8 * unit)
  pub total : elapsed t 7 ≤ 8 * unit
  pub jerks : (i : ℕ) → i < 7 → Size (val (j i)) (64 * unit)
  pub steps : (i : ℕ) → i < 7 → Next r (t i) (j i) (n i) (n (suc i)) (motion t j (from (n 0)) (suc i))
  pub last_a : Finite (n 7).a
  pub last_v : Finite (n 7).v
  pub last_p : Finite (n 7).p
