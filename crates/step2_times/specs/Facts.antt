-- What is said of the seven times of an attempt. Definitions only.
-- How long the exact motion lasts, and how far the acceleration that `check` replaced by 0 is from 0.
use Rattle.std.specs.Prelude.{◌≡◌, cond, ℕ, ◌*◌, ◌^◌, ◌≤◌, ◌<◌, T, Float}
use Rattle.std.specs.Float.{binary64}
use Rattle.std.specs.Float.Ieee.{fits, lt, neg}
use Rattle.float.specs.Ops.{#0}
use Rattle.rounding.specs.Exact.{nought, Near, Size, Below}
use Rattle.rounding.specs.Value.{unit, val, Finite, Number}
use Rattle.rounding.specs.Motion.{state, motion, lasts, elapsed}
use Rattle.rounding.specs.Step.{Replaced}
use Rattle.step2_solver.specs.declared.Times.{Times}

-- the numbers of a line that the time formulas name themselves: finite, as its sixth question asks
pub record FormulaNumbers (tf a0 af a_max a_min j_max : Float) : Type 0 where
  pub of_tf : Number tf
  pub of_a0 : Number a0
  pub of_af : Number af
  pub of_a_max : Number a_max
  pub of_a_min : Number a_min
  pub of_j_max : Number j_max

-- t are the times x of an attempt, as a yes leaves them: finite and not below 0. Together they are 8 seconds at most.
pub record Accepted (t : ℕ → Float) (x : Times) : Type 0 where
  pub is0 : t 0 ≡ x.t0
  pub is1 : t 1 ≡ x.t1
  pub is2 : t 2 ≡ x.t2
  pub is3 : t 3 ≡ x.t3
  pub is4 : t 4 ≡ x.t4
  pub is5 : t 5 ≡ x.t5
  pub is6 : t 6 ≡ x.t6
  pub held : (i : ℕ) → i < 7 → T (fits binary64 (t i))
  pub finite : (i : ℕ) → i < 7 → Finite (t i)
  pub above : (i : ℕ) → i < 7 → Below nought (val (t i))
  pub total : elapsed t 7 ≤ 8 * unit

-- The motion lasts tf within `roundings` times 2 ^ -53 seconds, about 1.2e-13.
abbrev pub roundings : ℕ
roundings = 1000

pub record Lasts (t : ℕ → Float) (tf : Float) : Type 0 where
  pub err : ℕ
  pub near : Near (lasts t 7) (val tf) err
  pub bound : err * 2 ^ 53 ≤ roundings * unit

-- the jerk of a phase of the time t: x where t is above 0, else 0
abbrev pub recorded_jerk : Float → Float → Float
recorded_jerk t x = cond (lt #0 t) x #0

-- j are the jerks that are recorded with the times t and the jerk jf: + 0 - in phases 0 to 2, under both sign patterns.
-- Each is 64 at most in size.
pub record Jerks (jf : Float) (t j : ℕ → Float) : Type 0 where
  pub plus : j 0 ≡ recorded_jerk (t 0) jf
  pub none : j 1 ≡ recorded_jerk (t 1) #0
  pub minus : j 2 ≡ recorded_jerk (t 2) (neg jf)
  pub finite : (i : ℕ) → i < 7 → Finite (j i)
  pub size : (i : ℕ) → i < 7 → Size (val (j i)) (64 * unit)

-- 0 stands for the acceleration after phase 2 within `residual` times 2 ^ -53.
abbrev pub residual : ℕ
residual = 4000

-- What an attempt shows whose label replaces a[3].
pub record Replaces (t : ℕ → Float) (tf a0 jf : Float) : Type 0 where
  pub lasts : Lasts t tf
  pub replaced : (j : ℕ → Float) (p0 v0 : Float) → Jerks jf t j
      → Replaced residual #0 (motion t j (state p0 v0 a0) 3).a
