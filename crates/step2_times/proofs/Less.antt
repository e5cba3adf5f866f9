-- Six attempts in which one time is tf less the sum of the others: their seven times add up to tf. Assumes nothing.
use Prim.Native.Nat.{ℕ}
use native.Mathlib.Omega.{arith}
use lib.Dec.{T}
use lib.Ieee.{Float, binary64, neg, sub, fits}
use lib.Ieee.Fits.{div-fits, neg-fits}
use Rattle.float.specs.Ops.{◌⊕◌, ◌⊖◌, ◌⊗◌, ◌⊘◌, #0, #2}
use Rattle.rounding.specs.Exact.{D, nought, Same, ◌⊞◌, ◌⊟◌, ◌⊙◌}
use Rattle.rounding.specs.Value.{unit, val}
use Rattle.rounding.specs.Bounds.{Off, Sized}
use Rattle.rounding.proofs.Errors.{off-sum}
use Rattle.rounding.proofs.Sizes.{on}
use Rattle.rounding.proofs.Sums.{on_add}
use Rattle.rounding.proofs.Products.{on_twice}
use Rattle.step2_solver.specs.New.{new_of}
use Rattle.time_acc0_acc1_vel.specs.TimeAcc0Acc1Vel.{acc0_acc1_vel_uddu_times, acc0_acc1_vel_udud_times}
use Rattle.time_acc0_acc1.specs.TimeAcc0Acc1.{acc0_acc1_rest_times, acc0_acc1_uddu_times}
use Rattle.time_acc0.specs.TimeAcc0.{acc0_second_times, acc0_third_times}
use Rattle.step2_times.specs.Facts.{Accepted, Lasts}
use Rattle.step2_times.proofs.Within.{sum, within, lasts_of, zero-none, less, more}

-- a time that is tf less four others
four_less : {t0 t1 t2 t3 : Float} (tf : Float) → T (fits binary64 tf)
    → Sized unit t0 8 → Sized unit t1 8 → Sized unit t2 8 → Sized unit t3 8
    → Sized unit (tf ⊖ (t0 ⊕ t1 ⊕ t2 ⊕ t3)) 8
    → Off unit (val (tf ⊖ (t0 ⊕ t1 ⊕ t2 ⊕ t3))) (val tf ⊟ (val t0 ⊞ val t1 ⊞ val t2 ⊞ val t3)) 83
four_less tf f s0 s1 s2 s3 z = less tf f (on_add (on_add (on_add (on s0) (on s1) tt) (on s2) tt) (on s3) tt) z

module _ {t : ℕ → Float} (tf : Float) (f : T (fits binary64 tf)) where
  -- `time_acc0_acc1_vel`: t[6] is t[4] + y, where y is af / j, or -(af / j)
  vel_lasts : (t0 t1 t2 t3 t4 y : Float) → T (fits binary64 y)
      → Accepted t
      (record { t0 = t0; t1 = t1; t2 = t2; t3 = t3; t4 = t4; t5 = tf ⊖ (t0 ⊕ t1 ⊕ t2 ⊕ t3 ⊕ #2 ⊗ t4 ⊕ y); t6 = t4 ⊕ y })
      → Lasts t tf
  vel_lasts t0 t1 t2 t3 t4 y g a =
      let w = within a in
      let t6 = more t4 y g w.t4 w.t6 in
      let t5 = less tf f
      (on_add
      (on_add (on_add (on_add (on_add (on w.t0) (on w.t1) tt) (on w.t2) tt) (on w.t3) tt)
      (on_twice w.t4 tt) tt) (on t6.0) tt) w.t5 in
      lasts_of a (off-sum t5 t6.1)
      (identity (val t0) (val t1) (val t2) (val t3) (val t4) (val (tf ⊖ (t0 ⊕ t1 ⊕ t2 ⊕ t3 ⊕ #2 ⊗ t4 ⊕ y)))
      (val (t4 ⊕ y)) (val y) (val tf)) tt
    where
      identity : (t0 t1 t2 t3 t4 t5 t6 q f : D)
          → Same (t5 ⊞ t6 ⊟ (f ⊟ (t0 ⊞ t1 ⊞ t2 ⊞ t3 ⊞ 2 ⊙ t4 ⊞ q) ⊞ (t4 ⊞ q))) (sum t0 t1 t2 t3 t4 t5 t6 ⊟ f)
      identity t0 t1 t2 t3 t4 t5 t6 q f = omega arith

  -- `time_acc0_acc1`: there is no phase 3
  uddu_lasts : (t0 t1 t2 t4 y : Float) → T (fits binary64 y)
      → Accepted t
      (record { t0 = t0; t1 = t1; t2 = t2; t3 = #0; t4 = t4; t5 = tf ⊖ (t0 ⊕ t1 ⊕ t2 ⊕ #2 ⊗ t4 ⊕ y); t6 = t4 ⊕ y })
      → Lasts t tf
  uddu_lasts t0 t1 t2 t4 y g a =
      let w = within a in
      let t6 = more t4 y g w.t4 w.t6 in
      let t5 = less tf f
      (on_add (on_add (on_add (on_add (on w.t0) (on w.t1) tt) (on w.t2) tt) (on_twice w.t4 tt) tt)
      (on t6.0) tt) w.t5 in
      lasts_of a (off-sum t5 t6.1)
      (identity (val t0) (val t1) (val t2) (val #0) (val t4) (val (tf ⊖ (t0 ⊕ t1 ⊕ t2 ⊕ #2 ⊗ t4 ⊕ y))) (val (t4 ⊕ y))
      (val y) (val tf) zero-none) tt
    where
      identity : (t0 t1 t2 t3 t4 t5 t6 q f : D) → Same t3 nought
          → Same (t5 ⊞ t6 ⊟ (f ⊟ (t0 ⊞ t1 ⊞ t2 ⊞ 2 ⊙ t4 ⊞ q) ⊞ (t4 ⊞ q))) (sum t0 t1 t2 t3 t4 t5 t6 ⊟ f)
      identity t0 t1 t2 t3 t4 t5 t6 q f z = omega arith

  rest_lasts : (t0 t1 t4 : Float)
      → Accepted t (record { t0 = t0; t1 = t1; t2 = t0; t3 = #0; t4 = t4; t5 = tf ⊖ (#2 ⊗ t0 ⊕ t1 ⊕ #2 ⊗ t4); t6 = t4 })
      → Lasts t tf
  rest_lasts t0 t1 t4 a =
      let w = within a in
      lasts_of a (less tf f (on_add (on_add (on_twice w.t0 tt) (on w.t1) tt) (on_twice w.t4 tt) tt) w.t5)
      (identity (val t0) (val t1) (val #0) (val t4) (val (tf ⊖ (#2 ⊗ t0 ⊕ t1 ⊕ #2 ⊗ t4))) (val tf) zero-none) tt
    where
      identity : (t0 t1 t3 t4 t5 f : D) → Same t3 nought
          → Same (t5 ⊟ (f ⊟ (2 ⊙ t0 ⊞ t1 ⊞ 2 ⊙ t4))) (sum t0 t1 t0 t3 t4 t5 t4 ⊟ f)
      identity t0 t1 t3 t4 t5 f z = omega arith

  -- `time_acc0`: phases 0 to 3, and the last in phase 6 or 4
  second_lasts : (t0 t1 t2 t3 : Float)
      → Accepted t (record { t0 = t0; t1 = t1; t2 = t2; t3 = t3; t4 = #0; t5 = #0; t6 = tf ⊖ (t0 ⊕ t1 ⊕ t2 ⊕ t3) })
      → Lasts t tf
  second_lasts t0 t1 t2 t3 a =
      let w = within a in
      lasts_of a (four_less tf f w.t0 w.t1 w.t2 w.t3 w.t6)
      (late (val t0) (val t1) (val t2) (val t3) (val #0) (val (tf ⊖ (t0 ⊕ t1 ⊕ t2 ⊕ t3))) (val tf) zero-none) tt
    where
      late : (t0 t1 t2 t3 z y f : D) → Same z nought
          → Same (y ⊟ (f ⊟ (t0 ⊞ t1 ⊞ t2 ⊞ t3))) (sum t0 t1 t2 t3 z z y ⊟ f)
      late t0 t1 t2 t3 z y f e = omega arith

  third_lasts : (t0 t1 t2 t3 : Float)
      → Accepted t (record { t0 = t0; t1 = t1; t2 = t2; t3 = t3; t4 = tf ⊖ (t0 ⊕ t1 ⊕ t2 ⊕ t3); t5 = #0; t6 = #0 })
      → Lasts t tf
  third_lasts t0 t1 t2 t3 a =
      lasts_of a (four_less tf f (within a).t0 (within a).t1 (within a).t2 (within a).t3 (within a).t4)
      (early (val t0) (val t1) (val t2) (val t3) (val #0) (val (tf ⊖ (t0 ⊕ t1 ⊕ t2 ⊕ t3))) (val tf) zero-none) tt
    where
      early : (t0 t1 t2 t3 z y f : D) → Same z nought
          → Same (y ⊟ (f ⊟ (t0 ⊞ t1 ⊞ t2 ⊞ t3))) (sum t0 t1 t2 t3 y z z ⊟ f)
      early t0 t1 t2 t3 z y f e = omega arith

-- ---- the attempts
module _ (tf p0 v0 a0 pf vf af a_max a_min j : Float) (f : T (fits binary64 tf)) {t : ℕ → Float} where
  pub acc0_acc1_vel_uddu_lasts : (h1 t1 : Float)
      → Accepted t (acc0_acc1_vel_uddu_times (new_of tf p0 v0 a0 pf vf af j) a_max a_min j h1 t1) → Lasts t tf
  unfolding acc0_acc1_vel_uddu_times new_of
  acc0_acc1_vel_uddu_lasts h1 t1 a =
      vel_lasts tf f ((neg a0 ⊕ a_max) ⊘ j) t1 (a_max ⊘ j) ((a_min ⊖ a_max ⊕ h1) ⊘ (#2 ⊗ j)) (neg a_min ⊘ j) (af ⊘ j)
      (div-fits binary64 af j) a

  pub acc0_acc1_vel_udud_lasts : (t1 t3 : Float)
      → Accepted t (acc0_acc1_vel_udud_times (new_of tf p0 v0 a0 pf vf af j) a_max j t1 t3) → Lasts t tf
  unfolding acc0_acc1_vel_udud_times new_of sub
  acc0_acc1_vel_udud_lasts t1 t3 a =
      vel_lasts tf f ((neg a0 ⊕ a_max) ⊘ j) t1 (a_max ⊘ j) t3 (a_max ⊘ j) (neg (af ⊘ j))
      (neg-fits binary64 (af ⊘ j) (div-fits binary64 af j)) a

  pub acc0_acc1_rest_lasts : (jf t1 : Float)
      → Accepted t (acc0_acc1_rest_times (new_of tf p0 v0 a0 pf vf af j) a_max a_min jf t1) → Lasts t tf
  unfolding acc0_acc1_rest_times new_of
  acc0_acc1_rest_lasts jf t1 a = rest_lasts tf f (a_max ⊘ jf) t1 (neg a_min ⊘ jf) a

  pub acc0_acc1_uddu_lasts : (jf t1 : Float)
      → Accepted t (acc0_acc1_uddu_times (new_of tf p0 v0 a0 pf vf af j) a_max a_min jf t1) → Lasts t tf
  unfolding acc0_acc1_uddu_times new_of
  acc0_acc1_uddu_lasts jf t1 a =
      uddu_lasts tf f ((a_max ⊖ a0) ⊘ jf) t1 (a_max ⊘ jf) (neg a_min ⊘ jf) (af ⊘ jf) (div-fits binary64 af jf) a

  pub acc0_second_lasts : (h0 h1 t1 : Float)
      → Accepted t (acc0_second_times (new_of tf p0 v0 a0 pf vf af j) a_max j h0 h1 t1) → Lasts t tf
  unfolding acc0_second_times new_of
  acc0_second_lasts h0 h1 t1 a =
      second_lasts tf f ((neg a0 ⊕ a_max) ⊘ j) t1 (neg (af ⊖ a0 ⊕ h0 ⊘ h1) ⊘ (#2 ⊗ j) ⊕ tf ⊘ #2 ⊖ t1 ⊘ #2)
      (h0 ⊘ (j ⊗ h1)) a

  pub acc0_third_lasts : (h0a h1 h2 : Float)
      → Accepted t (acc0_third_times (new_of tf p0 v0 a0 pf vf af j) a_max j h0a h1 h2) → Lasts t tf
  unfolding acc0_third_times new_of
  acc0_third_lasts h0a h1 h2 a =
      let t0 = (neg a0 ⊕ a_max) ⊘ j in
      let t3 = (#2 ⊗ h0a ⊖ h1) ⊘ h2 in
      third_lasts tf f t0 ((af ⊖ a0) ⊘ j ⊖ #2 ⊗ t0 ⊖ t3 ⊕ tf) (neg (#2 ⊗ h0a ⊕ h1) ⊘ h2) t3 a
