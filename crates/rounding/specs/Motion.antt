-- The seven-phase motion without rounding, in whole numbers. Definitions only.
-- Document 01: phase i, with T = t[i] and J = j[i], adds T v + T² a / 2 + T³ J / 6 to p, then T a + T² J / 2 to v,
-- then T J to a, in that order.
-- With U = 2 ^ 1074 every f64 is a whole number of 1 / U. So a state is kept as three whole numbers, in the same units:
--   the acceleration a as U² a, the velocity v as 2 U³ v, the position p as 6 U⁴ p.
-- With t = U T and j = U J the phase adds, in these units,
--   6 U⁴ (T v + T² a / 2 + T³ J / 6) = 3 t (2 U³ v) + 3 t² (U² a) + t³ j   to the position,
--   2 U³ (T a + T² J / 2)            = 2 t (U² a) + t² j                   to the velocity,
--   U² (T J)                         = t j                                 to the acceleration.
-- `phase_spelled` in proofs/Phase.antt proves that `phase` is these sums, multiplied out.
use Rattle.std.specs.Prelude.{ℕ, zero, suc, ◌+◌, ◌*◌, Float}
use Rattle.rounding.specs.Exact.{D, nought, ◌⊞◌, ◌⊠◌, ◌⊙◌}
use Rattle.rounding.specs.Value.{unit, mag, val}

-- a float is a whole number of 1 / U; times this it is in the units above
abbrev pub per_a : ℕ
per_a = unit

abbrev pub per_v : ℕ
per_v = 2 * (unit * unit)

abbrev pub per_p : ℕ
per_p = 6 * (unit * unit * unit)

pub record Moving : Type 0 where
  pub a : D
  pub v : D
  pub p : D

-- the state with the numbers p, v and a, each exact
abbrev pub state : Float → Float → Float → Moving
state p v a = record { a = per_a ⊙ val a; v = per_v ⊙ val v; p = per_p ⊙ val p }

-- one phase, of duration t and jerk j
abbrev pub phase : D → D → Moving → Moving
phase t j s =
    record {
      a = s.a ⊞ t ⊠ j;
      v = s.v ⊞ t ⊠ (2 ⊙ s.a ⊞ t ⊠ j);
      p = s.p ⊞ t ⊠ (3 ⊙ s.v ⊞ t ⊠ (3 ⊙ s.a ⊞ t ⊠ j));
    }

-- the state after i phases from s, by the times t and the jerks j
unfoldable pub motion : (ℕ → Float) → (ℕ → Float) → Moving → ℕ → Moving
motion t j s zero = s
motion t j s (suc i) = phase (val (t i)) (val (j i)) (motion t j s i)

-- the time that the first i phases take: the exact sum, and the sum of the sizes, which is the same where no time is
-- negative
unfoldable pub lasts : (ℕ → Float) → ℕ → D
lasts t zero = nought
lasts t (suc i) = lasts t i ⊞ val (t i)

unfoldable pub elapsed : (ℕ → Float) → ℕ → ℕ
elapsed t zero = 0
elapsed t (suc i) = elapsed t i + mag (t i)
