-- From a yes of `check` to exact numbers. Assumes nothing.
-- All that it added up is finite, no time is negative, and each test at the end is a bound.
use mathlib.Core.Path.{◌≡◌, refl, sym, ap, ◌∙◌, subst}
use mathlib.Core.Bool.{Bool, true, false, not, ◌&&◌}
use mathlib.Core.List.{List}
use Prim.Native.Nat.{ℕ, zero, suc, ◌<◌}
use lib.Dec.{T}
use lib.ListN.{get_or}
use lib.Ieee.{Float, nan, inf, fin, binary64, lt, le, fits}
use lib.Ieee.Bits.{of_bits-fits}
use lib.Ieee.Fits.{cond-fits, neg-fits, sub-fits}
use Rattle.float.specs.Ops.{◌⊕◌, ◌⊖◌, #0, #1e-8, #1e-10, #1e-12}
use Rattle.float.specs.Helpers.{abs_of}
use Rattle.labels.specs.declared.ReachedLimits.{ReachedLimits}
use Rattle.labels.specs.declared.ControlSigns.{ControlSigns}
use Rattle.jerks.specs.declared.Sign.{Sign}
use Rattle.jerks.specs.declared.Sign.TheVariants.{Plus, Zero, Minus}
use Rattle.profile.specs.declared.Profile.{Profile}
use Rattle.jerks.specs.Jerks.{pattern_of, signed_of, jerk_of, jerks_of}
use Rattle.limits.specs.Limits.{band_of, within_of, accelerations_kept_of, velocities_kept_of, end_tests}
use Rattle.profile.specs.Parts.{nodes_of}
use Rattle.rounding.specs.Exact.{D, nought, signed, Size, Below, Same}
use Rattle.rounding.specs.Value.{mag, sign, val, Finite, Number}
use Rattle.rounding.specs.Motion.{lasts, elapsed}
use Rattle.rounding.specs.Step.{Node}
use Rattle.rounding.proofs.Operands.{sub-finite}
use Rattle.rounding.proofs.Literals.{val_0, number_0, number_1e-8, number_1e-10}
use Rattle.rounding.proofs.Compare.{lt_not, lt-finite, lt_size, val_cleared}
use Rattle.rounding.proofs.Phase.{AllFinite}
use Rattle.rounding.proofs.Run.{all_finite_lem, lasts-elapsed}
use Rattle.profile_arrives.specs.Reply.{time, jerk, node, Held, upper, lower}
use Rattle.profile_arrives.proofs.Steps.{by_seven}
use Rattle.profile_arrives.proofs.Yes.{Yes, both, held-left}

is_true : {b : Bool} → b ≡ true → T b
is_true e = subst T (sym e) tt

pub is_false : {b : Bool} → b ≡ false → T (not b)
is_false e = subst (λ (z : Bool). T (not z)) (sym e) tt

-- ---- an absolute value
abs_sign : (x : Float) → sign (abs_of x) ≡ false
unfolding sign abs_of
abs_sign nan = refl
abs_sign (inf s) = refl
abs_sign (fin s m e) = refl

abs_finite : (x : Float) → Finite (abs_of x) → Finite x
unfolding abs_of
abs_finite nan h = h
abs_finite (inf s) h = h
abs_finite (fin s m e) h = tt

abs_val : (x : Float) → val (abs_of x) ≡ signed false (mag x)
unfolding abs_of
abs_val nan = unfold val sign mag in refl
abs_val (inf s) = unfold val sign mag in refl
abs_val (fin s m e) = val_cleared s m e

abs_fits : (x : Float) → T (fits binary64 x) → T (fits binary64 (abs_of x))
unfolding abs_of fits
abs_fits nan h = tt
abs_fits (inf s) h = tt
abs_fits (fin s zero e) h = h
abs_fits (fin s (suc m) e) h = h

-- x - f, rounded, is finite and c at most in size
abbrev pub Close : Float → Float → Float → Type 0
Close x f c = Finite (x ⊖ f) × Size (val (x ⊖ f)) (mag c)

close : (x f c : Float) → Number c → lt (abs_of (x ⊖ f)) c ≡ true → Close x f c
close x f c g h =
    let d = x ⊖ f in
    let l = lt-finite (abs_of d) c (abs_sign d) (is_true h) in
    let s = lt_size (abs_of d) d c (abs_fits d (sub-fits binary64 x f)) g.held l g.finite (abs_val d)
    (is_true h) in
    (abs_finite d l, s)

-- ---- the jerks: ±jf or 0, and 0 where the time is not above 0
pub jerk_is : (signs : ControlSigns) (t : List Float) (jf : Float) (i : ℕ) → i < 7
    → get_or (jerks_of signs t jf) i nan ≡ jerk_of (get_or (pattern_of signs) i Zero) (get_or t i nan) jf
unfolding jerks_of
jerk_is signs t jf =
    by_seven
    (λ (i : ℕ). get_or (jerks_of signs t jf) i nan ≡ jerk_of (get_or (pattern_of signs) i Zero) (get_or t i nan) jf)
    refl refl refl refl refl refl refl

signed-fits : (s : Sign) (jf : Float) → T (fits binary64 jf) → T (fits binary64 (signed_of s jf))
signed-fits Plus jf h = h
signed-fits Zero jf h = of_bits-fits binary64 0
signed-fits Minus jf h = neg-fits binary64 jf h

jerk-fits : (s : Sign) (t jf : Float) → T (fits binary64 jf) → T (fits binary64 (jerk_of s t jf))
jerk-fits s t jf h = cond-fits binary64 (lt #0 t) (signed_of s jf) #0 (signed-fits s jf h) (of_bits-fits binary64 0)

-- x is between two limits, each moved outwards by 1e-12 and rounded
abbrev pub Inside : Float → Float → Float → Type 0
Inside low x upp = T (le (low ⊖ #1e-12) x) × T (le x (upp ⊕ #1e-12))

inside : (low x upp : Float) → le (low ⊖ #1e-12) x && le x (upp ⊕ #1e-12) ≡ true → Inside low x upp
inside low x upp h = let w = both (le (low ⊖ #1e-12) x) (le x (upp ⊕ #1e-12)) h in (is_true w.0, is_true w.1)

pub record Kept (v_max v_min a_max a_min : Float) (q : Profile) : Type 0 where
  pub a1 : Inside (lower v_max a_max a_min) (node q 1).a (upper v_max a_max a_min)
  pub a3 : Inside (lower v_max a_max a_min) (node q 3).a (upper v_max a_max a_min)
  pub a5 : Inside (lower v_max a_max a_min) (node q 5).a (upper v_max a_max a_min)
  pub v3 : Inside (lower v_max v_max v_min) (node q 3).v (upper v_max v_max v_min)
  pub v4 : Inside (lower v_max v_max v_min) (node q 4).v (upper v_max v_max v_min)
  pub v5 : Inside (lower v_max v_max v_min) (node q 5).v (upper v_max v_max v_min)
  pub v6 : Inside (lower v_max v_max v_min) (node q 6).v (upper v_max v_max v_min)

module _ {signs : ControlSigns} {limits : ReachedLimits} {jf v_max v_min a_max a_min : Float} {q q' : Profile}
    (y : Yes signs limits jf v_max v_min a_max a_min q q') where
  -- ---- the three tests at the end
  ends : (lt (abs_of ((node q' 7).p ⊖ q'.pf)) #1e-8 ≡ true) × (lt (abs_of ((node q' 7).v ⊖ q'.vf)) #1e-8 ≡ true)
      × (lt (abs_of ((node q' 7).a ⊖ q'.af)) #1e-10 ≡ true)
  unfolding end_tests
  ends =
      let p = both (lt (abs_of ((node q' 7).p ⊖ q'.pf)) #1e-8) _ y.at_end in
      let v = both (lt (abs_of ((node q' 7).v ⊖ q'.vf)) #1e-8) _ p.1 in
      let a = both (lt (abs_of ((node q' 7).a ⊖ q'.af)) #1e-10) _ v.1 in
      (p.0, v.0, a.0)

  both_kept : (accelerations_kept_of (nodes_of q') (band_of v_max a_max a_min) ≡ true)
      × (velocities_kept_of (nodes_of q') (band_of v_max v_max v_min) ≡ true)
  unfolding end_tests
  both_kept =
      let p = both (lt (abs_of ((node q' 7).p ⊖ q'.pf)) #1e-8) _ y.at_end in
      let v = both (lt (abs_of ((node q' 7).v ⊖ q'.vf)) #1e-8) _ p.1 in
      let a = both (lt (abs_of ((node q' 7).a ⊖ q'.af)) #1e-10) _ v.1 in
      let k = both (accelerations_kept_of (nodes_of q') (band_of v_max a_max a_min)) _ a.1 in
      (k.0, (both (velocities_kept_of (nodes_of q') (band_of v_max v_max v_min)) true k.1).0)

  pub end_p : Close (node q' 7).p q'.pf #1e-8
  end_p = close (node q' 7).p q'.pf #1e-8 number_1e-8 ends.0

  pub end_v : Close (node q' 7).v q'.vf #1e-8
  end_v = close (node q' 7).v q'.vf #1e-8 number_1e-8 ends.1

  pub end_a : Close (node q' 7).a q'.af #1e-10
  end_a = close (node q' 7).a q'.af #1e-10 number_1e-10 ends.2

  -- ---- all is finite: the times, the jerks and the recorded numbers before the end; and the end
  pub yes_finite : (i : ℕ) → i < 7 → AllFinite (time q' i) (jerk q' i) (node q' i)
  yes_finite =
      all_finite_lem (time q') (jerk q') (node q') 7 (λ (i : ℕ) (l : i < 7). ap (λ (z : Node). z.p) (y.step i l))
      (sub-finite (node q' 7).p q'.pf end_p.0).0

  pub end_finite : Finite (node q' 7).a × Finite (node q' 7).v × Finite (node q' 7).p
  end_finite = (
    (sub-finite (node q' 7).a q'.af end_a.0).0,
    (sub-finite (node q' 7).v q'.vf end_v.0).0,
    (sub-finite (node q' 7).p q'.pf end_p.0).0,
  )

  pub held-jerk : T (fits binary64 jf) → (i : ℕ) → i < 7 → T (fits binary64 (jerk q' i))
  held-jerk f i l =
      subst (λ (z : Float). T (fits binary64 z))
      (sym (ap (λ (t : List Float). get_or t i nan) y.j_is ∙ jerk_is signs q.t jf i l))
      (jerk-fits (get_or (pattern_of signs) i Zero) (time q i) jf f)

  module _ (h : Held q) where
    -- no time is negative, so that the exact sum of the times is the sum of their sizes
    pub time-above : (i : ℕ) → i < 7 → Below nought (val (time q' i))
    time-above i l =
        subst (λ (z : D). Below z (val (time q' i))) val_0
        (lt_not (time q' i) #0 ((held-left y.carried h).held_t i l) number_0.held (yes_finite i l).t_finite
        number_0.finite (is_false (y.not_negative i l)))

    pub total_is : Same (lasts (time q') 7) (signed false (elapsed (time q') 7))
    total_is = lasts-elapsed (time q') 7 time-above

  -- ---- the seven tests of the limits
  pub limits-kept : Kept v_max v_min a_max a_min q'
  unfolding accelerations_kept_of velocities_kept_of band_of
  limits-kept =
      let w1 = within_of (node q' 1).a (band_of v_max a_max a_min) in
      let w2 = within_of (node q' 3).a (band_of v_max a_max a_min) in
      let w3 = within_of (node q' 5).a (band_of v_max a_max a_min) in
      let w4 = within_of (node q' 3).v (band_of v_max v_max v_min) in
      let w5 = within_of (node q' 4).v (band_of v_max v_max v_min) in
      let w6 = within_of (node q' 5).v (band_of v_max v_max v_min) in
      let w7 = within_of (node q' 6).v (band_of v_max v_max v_min) in
      let h7 = both (w4 && w5 && w6) w7 both_kept.1 in
      let h6 = both (w4 && w5) w6 h7.0 in
      let h5 = both w4 w5 h6.0 in
      let h3 = both (w1 && w2) w3 both_kept.0 in
      let h2 = both w1 w2 h3.0 in
      record {
        a1 = inside (lower v_max a_max a_min) (node q' 1).a (upper v_max a_max a_min) h2.0;
        a3 = inside (lower v_max a_max a_min) (node q' 3).a (upper v_max a_max a_min) h2.1;
        a5 = inside (lower v_max a_max a_min) (node q' 5).a (upper v_max a_max a_min) h3.1;
        v3 = inside (lower v_max v_max v_min) (node q' 3).v (upper v_max v_max v_min) h5.0;
        v4 = inside (lower v_max v_max v_min) (node q' 4).v (upper v_max v_max v_min) h5.1;
        v5 = inside (lower v_max v_max v_min) (node q' 5).v (upper v_max v_max v_min) h6.1;
        v6 = inside (lower v_max v_max v_min) (node q' 6).v (upper v_max v_max v_min) h7.1;
      }
