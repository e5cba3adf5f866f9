-- The two ways to make phases 0 and 2: the acceleration after phase 2 is near 0. Assumes nothing.
use mathlib.Core.Path.{◌≡◌, sym, ◌∙◌, subst}
use Prim.Native.Nat.{ℕ, ◌+◌, ◌*◌, ◌^◌, ◌≤◌, ◌<◌}
use native.Mathlib.Nat.{le_trans, le_of_eq, zero-mul, le_of_mul-le-mul_right}
use native.Mathlib.Omega.{arith}
use mathlib.Core.Bool.{Bool, true, false}
use lib.Dec.{T}
use lib.Pow.{pow_pos}
use lib.Arith.{le-zero}
use lib.Ieee.{Float, nan, inf, fin, binary64, neg, fits, lt}
use lib.Ieee.Fits.{neg-fits}
use Rattle.float.specs.Ops.{◌⊘◌, #0, #ε}
use Rattle.float.specs.Helpers.{abs_of}
use Rattle.rounding.specs.Exact.{D, nought, opposite, Near, Size, Same, ◌⊞◌, ◌⊟◌, ◌⊠◌, ◌⊙◌}
use Rattle.rounding.specs.Value.{unit, mag, val, Number}
use Rattle.rounding.specs.Bounds.{Off, Sized, On, Part}
use Rattle.rounding.specs.Motion.{motion, state}
use Rattle.rounding.specs.Step.{Replaced}
use Rattle.rounding.proofs.Compare.{val-size, size-mag, mag_sum, val_cleared, lt_size}
use Rattle.rounding.proofs.Literals.{mag_eps, number_eps}
use Rattle.rounding.proofs.Limits.{dividend_none}
use Rattle.rounding.proofs.Errors.{off_as, off-sum, off-neg, off-times, off_cancel, off-size}
use Rattle.rounding.proofs.Sizes.{about-off, on}
use Rattle.rounding.proofs.Quotients.{dividend, quotient}
use Rattle.rounding.proofs.Parts.{part-sum, part-neg, part_same, part-near}
use Rattle.step2_solver.specs.declared.Times.{Times}
use Rattle.step2_times.specs.Facts.{Accepted, Jerks, residual}
use Rattle.step2_times.proofs.Within.{within}
use Rattle.step2_times.proofs.Residual.{replaced_of_lem, residual_of}

-- a dividend whose quotient is 0 is 4 times 2 ^ -53 at most, and one at most
module _ (x jf : Float) (f : T (fits binary64 x)) (g : Number jf) {R : ℕ} (z : Sized unit (x ⊘ jf) R)
    (e : mag (x ⊘ jf) ≡ 0) where
  none-off : Off unit (val x) nought 4
  none-off =
      off_cancel (2 ^ 51) (pow_pos 51)
      (record {
        err = unit;
        near = near (val x) (2 ^ 51) unit
            (dividend_none x jf f g.held g.finite z.finite e);
        bound = four (2 ^ 51) unit;
      })
    where
      near : (x : D) (k U : ℕ) → Size (k ⊙ x) U → Near (k ⊙ x) (k ⊙ nought) U
      near x k U h = omega arith

      four : (Q U : ℕ) → U * (4 * Q) ≤ 4 * (Q * U)
      four Q U = omega arith

  none-size : Size (val x) (1 * unit)
  none-size = off-size 0 none-off tt (nothing unit)
    where
      nothing : (U : ℕ) → Size nought (0 * U)
      nothing U = omega arith

module _ {t : ℕ → Float} {x : Times} (a : Accepted t x) {jf : Float} {j : ℕ → Float} (h : Jerks jf t j)
    (p0 v0 a0 : Float) (g : Number jf) where
  -- t[0] is d / jf and t[2] is b / jf, where d is b - a0, rounded once
  pub ramps : (d b : Float) {X : D} → T (fits binary64 d) → T (fits binary64 b)
      → ((S R : ℕ) → Sized S d R → On S d R 1 X (R + (0 + 0)))
      → Same X (val b ⊟ val a0) → t 0 ≡ d ⊘ jf → t 2 ≡ b ⊘ jf → Replaced residual #0 (motion t j (state p0 v0 a0) 3).a
  ramps d b {X} fd fb rounded e e0 e2 = residual_of a h p0 v0 a0 (λ k. parts) none tt tt
    where
      w0 : Sized unit (d ⊘ jf) 8
      w0 = subst (λ (z : Float). Sized unit z 8) (sym a.is0 ∙ e0) (within a).t0

      w2 : Sized unit (b ⊘ jf) 8
      w2 = subst (λ (z : Float). Sized unit z 8) (sym a.is2 ∙ e2) (within a).t2

      s0 : Sized (mag jf) d 17
      s0 = dividend d jf fd g w0

      ends : (X a b : D) → Same X (b ⊟ a) → Same (X ⊞ opposite b) (opposite a)
      ends X a b h = omega arith

      parts : Part jf (val (t 0) ⊟ val (t 2)) (opposite (val a0)) 53
      parts =
          subst (λ (z : Float). Part jf (val z ⊟ val (t 2)) (opposite (val a0)) 53) (sym e0)
          (subst (λ (z : Float). Part jf (val (d ⊘ jf) ⊟ val z) (opposite (val a0)) 53) (sym e2)
          (part_same (opposite (val a0))
          (part-sum (quotient jf (rounded (mag jf) 17 s0) g w0.finite)
          (part-neg (quotient jf (on (dividend b jf fb g w2)) g w2.finite)))
          (ends X (val a0) (val b) e)))

      left : (d X a b : D) → Same X (b ⊟ a)
          → Same (d ⊞ (b ⊞ opposite d) ⊟ (X ⊞ (nought ⊞ opposite nought))) (a ⊟ nought)
      left d X a b h = omega arith

      none : mag (t 0) ≡ 0 → mag (t 2) ≡ 0 → Off unit (val a0) nought 9
      none z0 z2 =
          let m0 : mag (d ⊘ jf) ≡ 0 = subst (λ (z : Float). mag z ≡ 0) e0 z0 in
          let m2 : mag (b ⊘ jf) ≡ 0 = subst (λ (z : Float). mag z ≡ 0) e2 z2 in
          let o = rounded unit 1 (record { held = fd; finite = s0.finite; size = none-size d jf fd g w0 m0 }) in
          off_as (val a0) nought
          (off-sum (about-off o.about s0.finite)
          (off-sum (none-off b jf fb g w2 m2) (off-neg (none-off d jf fd g w0 m0))))
          (left (val d) X (val a0) (val b) e)

  -- t[2] is the sum of t[0] and a0 / jf, rounded once
  pub coasts : (r s : Float) {X : D} → T (fits binary64 a0) → ((R : ℕ) → Sized unit s R → Off unit (val s) X R)
      → Same X (val r ⊞ val (a0 ⊘ jf))
      → t 0 ≡ r → t 2 ≡ s → Sized unit s 8 → Sized unit (a0 ⊘ jf) 17
      → Replaced residual #0 (motion t j (state p0 v0 a0) 3).a
  coasts r s {X} f rounded e e0 e2 ws w = residual_of a h p0 v0 a0 (λ k. parts) none tt tt
    where
      turned : (s r q X : D) → Same X (r ⊞ q) → Same (opposite s ⊟ opposite X) (r ⊟ s ⊟ opposite q)
      turned s r q X h = omega arith

      parts : Part jf (val (t 0) ⊟ val (t 2)) (opposite (val a0)) 44
      parts =
          subst (λ (z : Float). Part jf (val z ⊟ val (t 2)) (opposite (val a0)) 44) (sym e0)
          (subst (λ (z : Float). Part jf (val r ⊟ val z) (opposite (val a0)) 44) (sym e2)
          (part-near (val r ⊟ val s) (part-neg (quotient jf (on (dividend a0 jf f g w)) g w.finite))
          (off_as (val r ⊟ val s) (opposite (val (a0 ⊘ jf))) (off-neg (rounded 8 ws))
          (turned (val s) (val r) (val (a0 ⊘ jf)) X e))))

      nothing : (s r q X : D) (e P U : ℕ) → 0 < P → Same X (r ⊞ q) → s.p + s.n ≡ 0 → r.p + r.n ≡ 0 → Near s X e
          → e * P ≤ 0 * U → Size q 0
      nothing s r q X e P U Z x a b h k =
          gone s r q X e x a b h (le_of_mul-le-mul_right (le_trans k (le_of_eq (zero-mul U ∙ sym (zero-mul P)))) Z)
        where
          gone : (s r q X : D) (e : ℕ) → Same X (r ⊞ q) → s.p + s.n ≡ 0 → r.p + r.n ≡ 0 → Near s X e → e ≤ 0
              → Size q 0
          gone s r q X e x a b h k = omega arith

      none : mag (t 0) ≡ 0 → mag (t 2) ≡ 0 → Off unit (val a0) nought 4
      none z0 z2 =
          let mr : mag r ≡ 0 = subst (λ (z : Float). mag z ≡ 0) e0 z0 in
          let ms : mag s ≡ 0 = subst (λ (z : Float). mag z ≡ 0) e2 z2 in
          let o = rounded 0
          (record {
            held = ws.held;
            finite = ws.finite;
            size = subst (λ (z : ℕ). Size (val s) z)
                (ms ∙ sym (zero-mul unit)) (val-size s);
          }) in
          let q = nothing (val s) (val r) (val (a0 ⊘ jf)) X o.err (2 ^ 53) unit (pow_pos 53) e (mag_sum s ∙ ms)
          (mag_sum r ∙ mr) o.near o.bound in
          none-off a0 jf f g w (le-zero (size-mag (a0 ⊘ jf) 0 q))

-- ---- t[2] is t[0], and |a0| < EPS
below_eps : (a0 : Float) → Number a0 → T (lt (abs_of a0) #ε) → Size (val a0) (mag #ε)
unfolding abs_of neg
below_eps nan n h = absurd n.finite
below_eps (inf s) n h = absurd n.finite
below_eps (fin s m e) n h =
    lt_size (fin false m e) (fin s m e) #ε (cleared s n.held) number_eps.held tt number_eps.finite
    (val_cleared s m e) h
  where
    cleared : (s : Bool) → T (fits binary64 (fin s m e)) → T (fits binary64 (fin false m e))
    cleared false f = f
    cleared true f = neg-fits binary64 (fin true m e) f

pub rests : {t : ℕ → Float} {x : Times} (a : Accepted t x) {jf : Float} {j : ℕ → Float} (h : Jerks jf t j)
    (p0 v0 a0 : Float) → Number a0
    → T (lt (abs_of a0) #ε) → t 0 ≡ t 2 → Replaced residual #0 (motion t j (state p0 v0 a0) 3).a
rests {t} a {jf} h p0 v0 a0 n l e =
    replaced_of_lem a h p0 v0 a0
    (off_as (unit ⊙ val a0 ⊞ (val (t 0) ⊟ val (t 2)) ⊠ val jf) nought (off-times {b = nought} {β = 2} unit small)
    (subst (λ (z : Float). Same (unit ⊙ val a0 ⊟ unit ⊙ nought) (unit ⊙ val a0 ⊞ (val (t 0) ⊟ val z) ⊠ val jf ⊟ nought))
    e
    (gone unit (val a0) (val (t 0)) (val jf)))) tt
  where
    near : (x : D) (e : ℕ) → Size x e → Near x nought e
    near x e h = omega arith

    two : (f Q U : ℕ) → f * Q ≤ U → f * (2 * Q) ≤ 2 * U
    two f Q U h = omega arith

    small : Off unit (val a0) nought 2
    small =
        record {
          err = mag #ε;
          near = near (val a0) (mag #ε) (below_eps a0 n l);
          bound = two (mag #ε) (2 ^ 52) unit (le_of_eq mag_eps);
        }

    gone : (U : ℕ) (s t y : D) → Same (U ⊙ s ⊟ U ⊙ nought) (U ⊙ s ⊞ (t ⊟ t) ⊠ y ⊟ nought)
    gone U s t y = omega arith
