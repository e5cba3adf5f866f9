-- The eleven attempts: the times add up to tf, and the acceleration replaced by 0 is near 0. Assumes nothing.
-- The root r and the numbers h1, t1, t3, .. are any f64s: only the last line of formulas counts.
-- h1 is asked to fit where it is a numerator.
use Prim.Native.Nat.{ℕ}
use mathlib.Core.Path.{◌≡◌, refl, sym, ◌∙◌}
use native.Mathlib.Omega.{arith}
use lib.Dec.{T}
use lib.Ieee.{Float, binary64, neg, sub, fits, lt}
use lib.Ieee.Fits.{add-fits, sub-fits, div-fits, and_l}
use Rattle.float.specs.Ops.{◌⊕◌, ◌⊖◌, ◌⊗◌, ◌⊘◌, #2, #ε}
use Rattle.float.specs.Helpers.{abs_of}
use Rattle.rounding.specs.Exact.{D, opposite, Same, ◌⊞◌}
use Rattle.rounding.specs.Value.{val, Finite}
use Rattle.rounding.proofs.Operands.{sub-finite, mul-finite, div-finite}
use Rattle.rounding.proofs.Sizes.{about}
use Rattle.rounding.proofs.Negations.{about-neg}
use Rattle.rounding.proofs.Sums.{sum_back, on_sum}
use Rattle.step2_solver.specs.declared.Times.{Times}
use Rattle.step2_solver.specs.New.{new_of}
use Rattle.time_acc0_acc1_vel.specs.TimeAcc0Acc1Vel.{acc0_acc1_vel_uddu_times, acc0_acc1_vel_udud_times}
use Rattle.time_acc0_acc1.specs.TimeAcc0Acc1.{acc0_acc1_rest_applies, acc0_acc1_rest_times}
use Rattle.time_acc0_acc1.specs.TimeAcc0Acc1.{acc0_acc1_uddu_t1, acc0_acc1_uddu_times}
use Rattle.time_acc0.specs.TimeAcc0.{acc0_first_times, acc0_second_times, acc0_third_times}
use Rattle.time_acc1_vel.specs.TimeAcc1Vel.{acc1_vel_uddu_times, acc1_vel_udud_times}
use Rattle.time_acc0_vel.specs.TimeAcc0Vel.{acc0_vel_uddu_times, acc0_vel_udud_times}
use Rattle.step2_times.specs.Facts.{FormulaNumbers, Accepted, Lasts, Replaces}
use Rattle.step2_times.proofs.Within.{within, more, more'}
use Rattle.step2_times.proofs.Less.{acc0_acc1_vel_uddu_lasts, acc0_acc1_vel_udud_lasts, acc0_acc1_rest_lasts}
use Rattle.step2_times.proofs.Less.{acc0_acc1_uddu_lasts, acc0_second_lasts, acc0_third_lasts}
use Rattle.step2_times.proofs.Quotients.{acc1_vel_uddu_lasts, acc1_vel_udud_lasts, acc0_vel_uddu_lasts}
use Rattle.step2_times.proofs.Quotients.{acc0_vel_udud_lasts, acc0_first_lasts}
use Rattle.step2_times.proofs.Ramps.{ramps, coasts, rests}

swapped : (a b : D) → Same (a ⊞ b) (b ⊞ a)
swapped a b = omega arith

-- `time_acc0_acc1` computes its jf; an infinite one would make t[1] a NaN
jf_finite : (tf p0 v0 a0 pf vf af a_max a_min j_max jf : Float)
    → Finite (acc0_acc1_uddu_t1 (new_of tf p0 v0 a0 pf vf af j_max) a_max a_min jf) → Finite jf
unfolding acc0_acc1_uddu_t1 new_of
jf_finite tf p0 v0 a0 pf vf af a_max a_min j_max jf h =
    let b = a_max ⊗ a_max ⊖ #2 ⊗ a_max ⊗ a_min ⊕ a_min ⊗ a_min ⊕ a_min ⊗ jf ⊗ tf in
    let c = a0 ⊗ a0 ⊖ af ⊗ af ⊕ #2 ⊗ (af ⊖ a0) ⊗ a_min in
    let vd = vf ⊖ v0 in
    (mul-finite jf vd
    (sub-finite b (jf ⊗ vd)
    (mul-finite #2 (b ⊖ jf ⊗ vd)
    (sub-finite c (#2 ⊗ (b ⊖ jf ⊗ vd))
    (div-finite (c ⊖ #2 ⊗ (b ⊖ jf ⊗ vd)) (#2 ⊗ (a_max ⊖ a_min) ⊗ jf) h)).1).1).1).0

module _ (tf p0 v0 a0 pf vf af a_max a_min j_max : Float) (n : FormulaNumbers tf a0 af a_max a_min j_max)
    {t : ℕ → Float} where
  -- t[0] is (-a0 + a_max) / j_max and t[2] is a_max / j_max: the first and the third shape
  up_down : {x : Times} → Accepted t x → Lasts t tf → t 0 ≡ (neg a0 ⊕ a_max) ⊘ j_max → t 2 ≡ a_max ⊘ j_max
      → Replaces t tf a0 j_max
  up_down a l e0 e2 =
      record {
        lasts = l;
        replaced = λ j p v h.
            ramps a h p v a0 n.of_j_max (neg a0 ⊕ a_max) a_max (add-fits binary64 (neg a0) a_max) n.of_a_max.held
            (λ S R z. on_sum (about-neg (about S a0 n.of_a0.held)) (about S a_max n.of_a_max.held) z)
            (swapped (opposite (val a0)) (val a_max)) e0 e2;
      }

  -- ---- `time_acc0_acc1_vel`
  pub acc0_acc1_vel_uddu_lem : (h1 t1 : Float)
      → Accepted t (acc0_acc1_vel_uddu_times (new_of tf p0 v0 a0 pf vf af j_max) a_max a_min j_max h1 t1)
      → Replaces t tf a0 j_max
  acc0_acc1_vel_uddu_lem h1 t1 a =
      let l = acc0_acc1_vel_uddu_lasts tf p0 v0 a0 pf vf af a_max a_min j_max n.of_tf.held h1 t1 a in
      unfold acc0_acc1_vel_uddu_times new_of in up_down a l a.is0 a.is2

  pub acc0_acc1_vel_udud_lem : (t1 t3 : Float)
      → Accepted t (acc0_acc1_vel_udud_times (new_of tf p0 v0 a0 pf vf af j_max) a_max j_max t1 t3)
      → Replaces t tf a0 j_max
  acc0_acc1_vel_udud_lem t1 t3 a =
      let l = acc0_acc1_vel_udud_lasts tf p0 v0 a0 pf vf af a_max a_min j_max n.of_tf.held t1 t3 a in
      unfold acc0_acc1_vel_udud_times new_of in up_down a l a.is0 a.is2

  -- ---- `time_acc1_vel`
  pub acc1_vel_uddu_lem : (r h1 : Float) → T (fits binary64 h1)
      → Accepted t (acc1_vel_uddu_times (new_of tf p0 v0 a0 pf vf af j_max) a_min j_max r h1) → Replaces t tf a0 j_max
  acc1_vel_uddu_lem r h1 f a =
      record {
        lasts = acc1_vel_uddu_lasts tf p0 v0 a0 pf vf af a_max a_min j_max n r h1 f a;
        replaced = λ j p v h.
            unfold acc1_vel_uddu_times new_of in
            (let w = within a in
            coasts a h p v a0 n.of_j_max r (a0 ⊘ j_max ⊕ r) n.of_a0.held
            (λ R z. sum_back (a0 ⊘ j_max) r (div-fits binary64 a0 j_max) w.t0.held z)
            (swapped (val (a0 ⊘ j_max)) (val r)) a.is0 a.is2 w.t2
            (more' (a0 ⊘ j_max) r (div-fits binary64 a0 j_max) w.t0 w.t2).0);
      }

  pub acc1_vel_udud_lem : (r h1 : Float) → T (fits binary64 h1)
      → Accepted t (acc1_vel_udud_times (new_of tf p0 v0 a0 pf vf af j_max) a_max j_max r h1) → Replaces t tf a0 j_max
  acc1_vel_udud_lem r h1 f a =
      record {
        lasts = acc1_vel_udud_lasts tf p0 v0 a0 pf vf af a_max a_min j_max n r h1 f a;
        replaced = λ j p v h.
            unfold acc1_vel_udud_times new_of in
            (let w = within a in
            coasts a h p v a0 n.of_j_max r (r ⊕ a0 ⊘ j_max) n.of_a0.held
            (λ R z. sum_back r (a0 ⊘ j_max) w.t0.held (div-fits binary64 a0 j_max) z) refl a.is0 a.is2 w.t2
            (more r (a0 ⊘ j_max) (div-fits binary64 a0 j_max) w.t0 w.t2).0);
      }

  -- ---- `time_acc0_vel`
  pub acc0_vel_uddu_lem : (r h1 : Float) → T (fits binary64 h1)
      → Accepted t (acc0_vel_uddu_times (new_of tf p0 v0 a0 pf vf af j_max) a_max j_max r h1) → Replaces t tf a0 j_max
  acc0_vel_uddu_lem r h1 f a =
      let l = acc0_vel_uddu_lasts tf p0 v0 a0 pf vf af a_max a_min j_max n r h1 f a in
      unfold acc0_vel_uddu_times new_of in up_down a l a.is0 a.is2

  pub acc0_vel_udud_lem : (r h1 : Float) → T (fits binary64 h1)
      → Accepted t (acc0_vel_udud_times (new_of tf p0 v0 a0 pf vf af j_max) a_max j_max r h1) → Replaces t tf a0 j_max
  acc0_vel_udud_lem r h1 f a =
      let l = acc0_vel_udud_lasts tf p0 v0 a0 pf vf af a_max a_min j_max n r h1 f a in
      unfold acc0_vel_udud_times new_of in up_down a l a.is0 a.is2

  -- ---- `time_acc0_acc1`: in the rest formula t[2] is t[0], so nothing is needed of jf
  pub acc0_acc1_rest_lem : (jf t1 : Float) → T (acc0_acc1_rest_applies (new_of tf p0 v0 a0 pf vf af j_max))
      → Accepted t (acc0_acc1_rest_times (new_of tf p0 v0 a0 pf vf af j_max) a_max a_min jf t1) → Replaces t tf a0 jf
  unfolding acc0_acc1_rest_applies new_of acc0_acc1_rest_times
  acc0_acc1_rest_lem jf t1 l a =
      record {
        lasts = acc0_acc1_rest_lasts tf p0 v0 a0 pf vf af a_max a_min j_max n.of_tf.held jf t1 a;
        replaced =
            λ j p v h. rests a h p v a0 n.of_a0 (and_l (lt (abs_of a0) #ε) (lt (abs_of af) #ε) l)
            (a.is0 ∙ sym a.is2);
      }

  pub acc0_acc1_uddu_lem : (jf : Float) → T (fits binary64 jf)
      → Accepted t
      (acc0_acc1_uddu_times (new_of tf p0 v0 a0 pf vf af j_max) a_max a_min jf
      (acc0_acc1_uddu_t1 (new_of tf p0 v0 a0 pf vf af j_max) a_max a_min jf)) → Replaces t tf a0 jf
  acc0_acc1_uddu_lem jf f a =
      record {
        lasts =
            acc0_acc1_uddu_lasts tf p0 v0 a0 pf vf af a_max a_min j_max n.of_tf.held jf
            (acc0_acc1_uddu_t1 (new_of tf p0 v0 a0 pf vf af j_max) a_max a_min jf) a;
        replaced = λ j p v h.
            unfold acc0_acc1_uddu_times new_of sub in
            ramps a h p v a0
            (record { held = f; finite = jf_finite tf p0 v0 a0 pf vf af a_max a_min j_max jf (within a).t1.finite })
            (a_max ⊖ a0) a_max (sub-fits binary64 a_max a0) n.of_a_max.held
            (λ S R z. on_sum (about S a_max n.of_a_max.held) (about-neg (about S a0 n.of_a0.held)) z) refl
            a.is0 a.is2;
      }

  -- ---- `time_acc0`: labels None, None and Acc0 replace nothing
  pub acc0_first_lem : (h1 : Float) → Accepted t (acc0_first_times (new_of tf p0 v0 a0 pf vf af j_max) a_max j_max h1)
      → Lasts t tf
  acc0_first_lem h1 a = acc0_first_lasts tf p0 v0 a0 pf vf af a_max a_min j_max n h1 a

  pub acc0_second_lem : (h0 h1 t1 : Float)
      → Accepted t (acc0_second_times (new_of tf p0 v0 a0 pf vf af j_max) a_max j_max h0 h1 t1) → Lasts t tf
  acc0_second_lem h0 h1 t1 a = acc0_second_lasts tf p0 v0 a0 pf vf af a_max a_min j_max n.of_tf.held h0 h1 t1 a

  pub acc0_third_lem : (h0a h1 h2 : Float)
      → Accepted t (acc0_third_times (new_of tf p0 v0 a0 pf vf af j_max) a_max j_max h0a h1 h2) → Lasts t tf
  acc0_third_lem h0a h1 h2 a = acc0_third_lasts tf p0 v0 a0 pf vf af a_max a_min j_max n.of_tf.held h0a h1 h2 a
