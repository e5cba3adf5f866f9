-- Five attempts that divide numerators by the jerk: the seven times add up to tf. Assumes nothing.
-- The numerators cancel.
use Prim.Native.Nat.{ℕ, ◌*◌}
use native.Mathlib.Omega.{arith}
use lib.Dec.{T}
use lib.Ieee.{Float, binary64, neg, sub, fits}
use lib.Ieee.Fits.{add-fits, sub-fits, div-fits, neg-fits}
use Rattle.float.specs.Ops.{◌⊕◌, ◌⊖◌, ◌⊗◌, ◌⊘◌, #0, #2}
use Rattle.rounding.specs.Exact.{D, nought, opposite, Same, Size, ◌⊞◌, ◌⊟◌, ◌⊙◌}
use Rattle.rounding.specs.Value.{unit, mag, val}
use Rattle.rounding.specs.Bounds.{Off, Sized, On}
use Rattle.rounding.proofs.Operands.{divisor_above}
use Rattle.rounding.proofs.Errors.{off-sum}
use Rattle.rounding.proofs.Sizes.{about, on, on_within, exact-size}
use Rattle.rounding.proofs.Negations.{neg_same, sized_neg, neg_sized, about-neg, on_neg}
use Rattle.rounding.proofs.Sums.{on_sum, on_sum_forth, on_add, left_sized}
use Rattle.rounding.proofs.Quotients.{dividend, quotient}
use Rattle.rounding.proofs.Parts.{part-sum, part_none}
use Rattle.step2_solver.specs.New.{new_of}
use Rattle.time_acc1_vel.specs.TimeAcc1Vel.{acc1_vel_uddu_times, acc1_vel_udud_times}
use Rattle.time_acc0_vel.specs.TimeAcc0Vel.{acc0_vel_uddu_times, acc0_vel_udud_times}
use Rattle.time_acc0.specs.TimeAcc0.{acc0_first_times}
use Rattle.step2_times.specs.Facts.{FormulaNumbers, Accepted, Lasts}
use Rattle.step2_times.proofs.Turned.{Turned, turned, unturned}
use Rattle.step2_times.proofs.Within.{sum, within, lasts_of, zero-none, more, more', twice_less}

module _ (tf p0 v0 a0 pf vf af a_max a_min j : Float) (n : FormulaNumbers tf a0 af a_max a_min j)
    {t : ℕ → Float} where
  -- ---- `time_acc1_vel`: t[2] is r + a0 / j in either order, t[3] is tf + y3 - 2 r, t[4] is c / j, t[5] is d / j and
  -- t[6] is t[4] + y6
  acc1_vel_lasts : (r t2 m y3 c d y6 : Float) {by3 by6 : D → D} {X C E : D} → Turned (m ⊘ j) y3 by3
      → Turned (af ⊘ j) y6 by6
      → (Sized unit r 8 → Sized unit t2 8 → Sized unit (a0 ⊘ j) 17 × Off unit (val t2) (val r ⊞ val (a0 ⊘ j)) 8)
      → (Sized (mag j) a0 35 → Sized (mag j) af 35 → Sized unit (c ⊘ j) 8 → Sized unit (d ⊘ j) 8
      → On (mag j) m 125 1 X 300 × On (mag j) c 17 1 C 0 × On (mag j) d 17 1 E 17)
      → Same (val a0 ⊞ by3 X ⊞ C ⊞ E ⊞ C ⊞ by6 (val af)) nought
      → Accepted t (record { t0 = r; t1 = #0; t2 = t2; t3 = tf ⊕ y3 ⊖ #2 ⊗ r; t4 = c ⊘ j; t5 = d ⊘ j; t6 = c ⊘ j ⊕ y6 })
      → Lasts t tf
  acc1_vel_lasts r t2 m y3 c d y6 {by3} {by6} {X} {C} {E} e3 e6 second numerators cancels a =
      let w = within a in
      let g = n.of_j_max in
      let o2 = second w.t0 w.t2 in
      let o3 = twice_less tf y3 r n.of_tf.held e3.held w.t0 w.t3 in
      let o6 = more (c ⊘ j) y6 e6.held w.t4 w.t6 in
      let sf = e6.sized unit 17 o6.0 in
      let s0 = dividend a0 j n.of_a0.held g o2.0 in
      let s1 = dividend af j n.of_af.held g sf in
      let b = numerators s0 s1 w.t4 w.t5 in
      let q0 = quotient j (on s0) g o2.0.finite in
      let q3 = e3.part j X 426 (quotient j b.0 g (e3.finite o3.0)) in
      let q4 = quotient j b.1 g w.t4.finite in
      let q5 = quotient j b.2 g w.t5.finite in
      let q6 = e6.part j (val af) 36 (quotient j (on s1) g sf.finite) in
      lasts_of a
      (off-sum (off-sum (off-sum o2.1 o3.1) o6.1)
      (part_none (part-sum (part-sum (part-sum (part-sum (part-sum q0 q3) q4) q5) q4) q6) cancels
      (divisor_above a0 j g.held g.finite o2.0.finite)))
      (identity (val r) (val #0) (val t2) (val (tf ⊕ y3 ⊖ #2 ⊗ r)) (val (c ⊘ j)) (val (d ⊘ j)) (val (c ⊘ j ⊕ y6))
      (val (a0 ⊘ j)) (val y3) (val y6) (val tf) zero-none) tt
    where
      identity : (t0 t1 t2 t3 t4 t5 t6 q0 y3 y6 f : D) → Same t1 nought
          → Same (t2 ⊞ t3 ⊞ t6 ⊞ (q0 ⊞ y3 ⊞ t4 ⊞ t5 ⊞ t4 ⊞ y6) ⊟ (t0 ⊞ q0 ⊞ (f ⊞ y3 ⊟ 2 ⊙ t0) ⊞ (t4 ⊞ y6) ⊞ nought))
          (sum t0 t1 t2 t3 t4 t5 t6 ⊟ f)
      identity t0 t1 t2 t3 t4 t5 t6 q0 y3 y6 f z = omega arith

  pub acc1_vel_uddu_lasts : (r h1 : Float) → T (fits binary64 h1)
      → Accepted t (acc1_vel_uddu_times (new_of tf p0 v0 a0 pf vf af j) a_min j r h1) → Lasts t tf
  unfolding acc1_vel_uddu_times new_of sub
  acc1_vel_uddu_lasts r h1 f =
      let m = h1 ⊖ a_min ⊕ a0 ⊕ af in
      acc1_vel_lasts r (a0 ⊘ j ⊕ r) m (neg (m ⊘ j)) (neg a_min) (h1 ⊕ a_min) (af ⊘ j)
      (turned (m ⊘ j) (div-fits binary64 m j)) (unturned (af ⊘ j) (div-fits binary64 af j))
      (more' (a0 ⊘ j) r (div-fits binary64 a0 j))
      (λ s0 sf s4 s5.
      let sc = neg_sized a_min n.of_a_min.held
      (dividend (neg a_min) j (neg-fits binary64 a_min n.of_a_min.held) n.of_j_max s4) in
      let sd = dividend (h1 ⊕ a_min) j (add-fits binary64 h1 a_min) n.of_j_max s5 in
      let sh = left_sized h1 a_min f sd sc tt in (
        on_within 125 300 (on_add (on_add (on_add (on sh) (on_neg (on sc)) tt) (on s0) tt) (on sf) tt) tt tt,
        on_neg
            (on sc),
        on_sum (about (mag j) h1 f) (about (mag j) a_min n.of_a_min.held) sd,
      ))
      (cancels (val a0) (val af) (val a_min) (val h1))
    where
      cancels : (a0 af m h : D)
          → Same (a0 ⊞ opposite (h ⊞ opposite m ⊞ a0 ⊞ af) ⊞ opposite m ⊞ (h ⊞ m) ⊞ opposite m ⊞ af) nought
      cancels a0 af m h = omega arith

  pub acc1_vel_udud_lasts : (r h1 : Float) → T (fits binary64 h1)
      → Accepted t (acc1_vel_udud_times (new_of tf p0 v0 a0 pf vf af j) a_max j r h1) → Lasts t tf
  unfolding acc1_vel_udud_times new_of sub
  acc1_vel_udud_lasts r h1 f =
      let m = h1 ⊕ (af ⊖ a0) ⊖ a_max in
      acc1_vel_lasts r (r ⊕ a0 ⊘ j) m (m ⊘ j) a_max (neg (h1 ⊕ a_max)) (neg (af ⊘ j))
      (unturned (m ⊘ j) (div-fits binary64 m j)) (turned (af ⊘ j) (div-fits binary64 af j))
      (more r (a0 ⊘ j) (div-fits binary64 a0 j))
      (λ s0 sf s4 s5.
      let sc = dividend a_max j n.of_a_max.held n.of_j_max s4 in
      let sd = neg_sized (h1 ⊕ a_max) (add-fits binary64 h1 a_max)
      (dividend (neg (h1 ⊕ a_max)) j (neg-fits binary64 (h1 ⊕ a_max) (add-fits binary64 h1 a_max)) n.of_j_max s5) in
      let sh = left_sized h1 a_max f sd sc tt in (
        on_within 125 300 (on_add (on_add (on sh) (on_add (on sf) (on_neg (on s0)) tt) tt) (on_neg (on sc)) tt) tt tt,
        on
            sc,
        on_neg (on_sum (about (mag j) h1 f) (about (mag j) a_max n.of_a_max.held) sd),
      ))
      (cancels (val a0) (val af) (val a_max) (val h1))
    where
      cancels : (a0 af m h : D)
          → Same (a0 ⊞ (h ⊞ (af ⊞ opposite a0) ⊞ opposite m) ⊞ m ⊞ opposite (h ⊞ m) ⊞ m ⊞ opposite af) nought
      cancels a0 af m h = omega arith

  -- ---- `time_acc0_vel`: t[3] is tf - m / j - 2 r, t[4] is r and t[6] is y6 + r
  acc0_vel_lasts : (r h1 m y6 : Float) {by6 : D → D} {X : D} → T (fits binary64 h1) → Turned (af ⊘ j) y6 by6
      → (Sized (mag j) a0 35 → Sized (mag j) af 35 → Sized (mag j) h1 35 → Sized (mag j) a_max 17
      → On (mag j) m 125 1 X 300)
      → Same (opposite (val a0) ⊞ val a_max ⊞ (val h1 ⊞ opposite (val a_max)) ⊞ val a_max ⊞ opposite X ⊞ by6 (val af))
      nought
      → Accepted t
      (record {
        t0 = (neg a0 ⊕ a_max) ⊘ j;
        t1 = (h1 ⊖ a_max) ⊘ j;
        t2 = a_max ⊘ j;
        t3 = tf ⊖ m ⊘ j ⊖ #2 ⊗ r;
        t4 = r;
        t5 = #0;
        t6 = y6 ⊕ r;
      }) → Lasts t tf
  unfolding sub
  acc0_vel_lasts r h1 m y6 {by6} {X} f e6 numerator cancels a =
      let w = within a in
      let g = n.of_j_max in
      let e3 = turned (m ⊘ j) (div-fits binary64 m j) in
      let o3 = twice_less tf (neg (m ⊘ j)) r n.of_tf.held e3.held w.t4 w.t3 in
      let o6 = more' y6 r e6.held w.t4 w.t6 in
      let sf = e6.sized unit 17 o6.0 in
      let s2 = dividend a_max j n.of_a_max.held g w.t2 in
      let s0 = dividend (neg a0 ⊕ a_max) j (add-fits binary64 (neg a0) a_max) g w.t0 in
      let s1 = dividend (h1 ⊖ a_max) j (sub-fits binary64 h1 a_max) g w.t1 in
      let s6 = dividend af j n.of_af.held g sf in
      let sa = neg_sized a0 n.of_a0.held
      (left_sized (neg a0) a_max (neg-fits binary64 a0 n.of_a0.held) s0 s2 tt) in
      let sh = left_sized h1 (neg a_max) f s1 (sized_neg s2) tt in
      let b = about (mag j) a_max n.of_a_max.held in
      let q0 = quotient j (on_sum (about-neg (about (mag j) a0 n.of_a0.held)) b s0) g w.t0.finite in
      let q1 = quotient j (on_sum (about (mag j) h1 f) (about-neg b) s1) g w.t1.finite in
      let q2 = quotient j (on s2) g w.t2.finite in
      let q3 = e3.part j X 426 (quotient j (numerator sa s6 sh s2) g (e3.finite o3.0)) in
      let q6 = e6.part j (val af) 36 (quotient j (on s6) g sf.finite) in
      lasts_of a
      (off-sum (off-sum o3.1 o6.1)
      (part_none (part-sum (part-sum (part-sum (part-sum q0 q1) q2) q3) q6) cancels
      (divisor_above a_max j g.held g.finite w.t2.finite)))
      (identity (val ((neg a0 ⊕ a_max) ⊘ j)) (val ((h1 ⊖ a_max) ⊘ j)) (val (a_max ⊘ j)) (val (tf ⊖ m ⊘ j ⊖ #2 ⊗ r))
      (val r) (val #0) (val (y6 ⊕ r)) (val (neg (m ⊘ j))) (val y6) (val tf) zero-none) tt
    where
      identity : (t0 t1 t2 t3 t4 t5 t6 y3 y6 f : D) → Same t5 nought
          → Same (t3 ⊞ t6 ⊞ (t0 ⊞ t1 ⊞ t2 ⊞ y3 ⊞ y6) ⊟ (f ⊞ y3 ⊟ 2 ⊙ t4 ⊞ (t4 ⊞ y6) ⊞ nought))
          (sum t0 t1 t2 t3 t4 t5 t6 ⊟ f)
      identity t0 t1 t2 t3 t4 t5 t6 y3 y6 f z = omega arith

  pub acc0_vel_uddu_lasts : (r h1 : Float) → T (fits binary64 h1)
      → Accepted t (acc0_vel_uddu_times (new_of tf p0 v0 a0 pf vf af j) a_max j r h1) → Lasts t tf
  unfolding acc0_vel_uddu_times new_of sub
  acc0_vel_uddu_lasts r h1 f =
      acc0_vel_lasts r h1 (h1 ⊕ (af ⊖ a0) ⊕ a_max) (af ⊘ j) f (unturned (af ⊘ j) (div-fits binary64 af j))
      (λ sa sf sh sm. on_add (on_add (on sh) (on_add (on sf) (on_neg (on sa)) tt) tt) (on sm) tt)
      (cancels (val a0) (val af) (val a_max) (val h1))
    where
      cancels : (a0 af m h : D)
          → Same (opposite a0 ⊞ m ⊞ (h ⊞ opposite m) ⊞ m ⊞ opposite (h ⊞ (af ⊞ opposite a0) ⊞ m) ⊞ af) nought
      cancels a0 af m h = omega arith

  pub acc0_vel_udud_lasts : (r h1 : Float) → T (fits binary64 h1)
      → Accepted t (acc0_vel_udud_times (new_of tf p0 v0 a0 pf vf af j) a_max j r h1) → Lasts t tf
  unfolding acc0_vel_udud_times new_of sub
  acc0_vel_udud_lasts r h1 f =
      acc0_vel_lasts r h1 (h1 ⊖ a0 ⊖ af ⊕ a_max) (neg (af ⊘ j)) f (turned (af ⊘ j) (div-fits binary64 af j))
      (λ sa sf sh sm. on_add (on_add (on_add (on sh) (on_neg (on sa)) tt) (on_neg (on sf)) tt) (on sm) tt)
      (cancels (val a0) (val af) (val a_max) (val h1))
    where
      cancels : (a0 af m h : D)
          → Same (opposite a0 ⊞ m ⊞ (h ⊞ opposite m) ⊞ m ⊞ opposite (h ⊞ opposite a0 ⊞ opposite af ⊞ m) ⊞ opposite af)
          nought
      cancels a0 af m h = omega arith

  -- ---- `time_acc0`, first attempt. What is divided is small on the jerk's scale, but a0, a_max and af need not be
  pub acc0_first_lasts : (h1 : Float) → Accepted t (acc0_first_times (new_of tf p0 v0 a0 pf vf af j) a_max j h1)
      → Lasts t tf
  unfolding acc0_first_times new_of sub
  acc0_first_lasts h1 a =
      let w = within a in
      let g = n.of_j_max in
      let ad = af ⊖ a0 in
      let b = af ⊖ a_max in
      let e1 = turned (ad ⊘ j) (div-fits binary64 ad j) in
      let o1 = twice_less tf (neg (ad ⊘ j)) h1 n.of_tf.held e1.held w.t2 w.t1 in
      let o4 = more' (b ⊘ j) h1 (div-fits binary64 b j) w.t2 w.t4 in
      let s0 = dividend (a_max ⊖ a0) j (sub-fits binary64 a_max a0) g w.t0 in
      let s4 = dividend b j (sub-fits binary64 af a_max) g o4.0 in
      let c0 = about-neg (about (mag j) a0 n.of_a0.held) in
      let cm = about (mag j) a_max n.of_a_max.held in
      let cf = about (mag j) af n.of_af.held in
      let n0 = on_sum cm c0 s0 in
      let n4 = on_sum cf (about-neg cm) s4 in
      let nd = on_sum_forth 54 cf c0
      (λ h. between (val a0) (val (neg a0)) (val af) (val a_max) (mag j) (neg_same a0) (exact-size n0 s0.finite tt)
      (exact-size n4 s4.finite tt)) tt in
      let q0 = quotient j n0 g w.t0.finite in
      let q1 = e1.part j (val af ⊞ opposite (val a0)) 110 (quotient j nd g (e1.finite o1.0)) in
      let q4 = quotient j n4 g o4.0.finite in
      lasts_of a
      (off-sum (off-sum o1.1 o4.1)
      (part_none (part-sum (part-sum q0 q1) q4) (cancels (val a0) (val af) (val a_max))
      (divisor_above (a_max ⊖ a0) j g.held g.finite w.t0.finite)))
      (identity (val ((a_max ⊖ a0) ⊘ j)) (val (tf ⊖ ad ⊘ j ⊖ #2 ⊗ h1)) (val h1) (val #0) (val (b ⊘ j ⊕ h1))
      (val (neg (ad ⊘ j))) (val (b ⊘ j)) (val tf) zero-none) tt
    where
      between : (a0 c0 af m : D) (J : ℕ) → Same c0 (opposite a0) → Size (m ⊞ opposite a0) (18 * J)
          → Size (af ⊞ opposite m) (36 * J) → Size (af ⊞ c0) (54 * J)
      between a0 c0 af m J e h k = omega arith

      cancels : (a0 af m : D) → Same (m ⊞ opposite a0 ⊞ opposite (af ⊞ opposite a0) ⊞ (af ⊞ opposite m)) nought
      cancels a0 af m = omega arith

      identity : (t0 t1 t2 z t4 y1 q4 f : D) → Same z nought
          → Same (t1 ⊞ t4 ⊞ (t0 ⊞ y1 ⊞ q4) ⊟ (f ⊞ y1 ⊟ 2 ⊙ t2 ⊞ (t2 ⊞ q4) ⊞ nought)) (sum t0 t1 t2 z t4 z z ⊟ f)
      identity t0 t1 t2 z t4 y1 q4 f e = omega arith
