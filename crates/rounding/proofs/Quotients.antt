-- Quotients by any divisor and by a whole literal, and sizes found backwards. Assumes nothing.
-- By any divisor j an error is told multiplied through by j: `Part`.
use mathlib.Core.Path.{◌≡◌, ap, subst, sym, ◌∙◌}
use Prim.Native.Nat.{ℕ, ◌+◌, ◌*◌, ◌^◌, ◌≤◌}
use native.Mathlib.Nat.{le_trans, le_of_eq, add-zero, mul_assoc, mul_left_comm, mul-le-mul_left}
use native.Mathlib.Nat.{mul-le-mul_right}
use native.Mathlib.Omega.{arith}
use mathlib.Core.Bool.{false}
use lib.Dec.{T, leb, leb→le, lit≤}
use lib.Ieee.{Float, binary64, fits}
use lib.Ieee.Fits.{div-fits}
use Rattle.float.specs.Ops.{◌⊘◌}
use Rattle.rounding.specs.Exact.{D, signed, Near, Size, Same, ◌⊞◌, ◌⊟◌, ◌⊠◌, ◌⊙◌}
use Rattle.rounding.specs.Value.{unit, mag, val, Finite, Number}
use Rattle.rounding.specs.Bounds.{Off, Sized, On, Part}
use Rattle.rounding.proofs.Linear.{wider, size-times, size_divide, size_product, size_weaken}
use Rattle.rounding.proofs.Unit.{unit-pos}
use Rattle.rounding.proofs.Operands.{div-finite}
use Rattle.rounding.proofs.Ops.{div_rounds}
use Rattle.rounding.proofs.Compare.{val-size, mag_sum}
use Rattle.rounding.proofs.Errors.{rounds_off, off_as, off_scale, off_once, off-sum, off-times}
use Rattle.rounding.proofs.Errors.{off_cancel, off-size}
use Rattle.rounding.proofs.Sizes.{unit_52}

-- ---- the rounding alone: j is c at most on the scale of x
pub quotient_off : (S : ℕ) (x j : Float) (R c : ℕ) → T (fits binary64 x) → Number j → mag j ≤ c * S
    → Size (val x) (R * S) → Finite (x ⊘ j)
    → Off (unit * S) (val (x ⊘ j) ⊠ val j) (unit ⊙ val x) (R + c)
quotient_off S x j R c f g l s k =
    let w = div_rounds x j f g.held g.finite k in
    rounds_off (unit * S) (R + c) w
    (le_trans (w.forward (unit * (R * S)) (size-times unit (val x) (R * S) s))
    (bounded unit S (mag j) (2 ^ 52) R c l unit_52))
  where
    bounded : (U S J H R c : ℕ) → J ≤ c * S → H ≤ U → U * (R * S) + J * H ≤ (R + c) * (U * S)
    bounded U S J H R c a b =
        le_trans (wider (U * (R * S)) (J * H) (c * S * U) (le_trans (mul-le-mul_left J b) (mul-le-mul_right U a)))
        (le_of_eq (gather U S R c))
      where
        gather : (U S R c : ℕ) → U * (R * S) + c * S * U ≡ (R + c) * (U * S)
        gather U S R c = omega arith

-- ---- by a literal c
module _ {x : Float} {R K : ℕ} {X : D} {β : ℕ} (y : Float) (c Q γ : ℕ) (a : On unit x R K X β)
    (e : val y ≡ signed false (c * unit)) (g : Number y) where
  size_of : mag y ≡ c * unit
  size_of = sym (mag_sum y) ∙ ap (λ (z : D). z.p + z.n) e ∙ add-zero (c * unit)

  -- c times the quotient is the dividend, rounded
  times-back : Finite (x ⊘ y) → Off unit (c ⊙ val (x ⊘ y)) (val x) (R + c)
  times-back k =
      off_cancel unit unit-pos
      (off_as (unit ⊙ (c ⊙ val (x ⊘ y))) (unit ⊙ val x)
      (quotient_off unit x y R c a.about.held g (le_of_eq size_of) (a.size (div-finite x y k)) k)
      (subst (λ (z : D). Same (val (x ⊘ y) ⊠ z ⊟ unit ⊙ val x) (unit ⊙ (c ⊙ val (x ⊘ y)) ⊟ unit ⊙ val x)) (sym e)
      (regroup (val (x ⊘ y)) (unit ⊙ val x) c unit)))
    where
      regroup : (q x : D) (c U : ℕ) → Same (q ⊠ signed false (c * U) ⊟ x) (U ⊙ (c ⊙ q) ⊟ x)
      regroup q x c U = omega arith

  pub on_div : T (leb 1 c) → T (leb (R + c) (2 ^ 53)) → T (leb (R + 1) (c * Q)) → T (leb (R + c + β) (c * γ))
      → On unit (x ⊘ y) Q (c * K) X γ
  on_div p l m n =
      record {
        about = record { held = div-fits binary64 x y; off = off };
        size = λ k.
            size_divide c (val (x ⊘ y)) (Q * unit) (leb→le 1 c p)
            (size_weaken (c ⊙ val (x ⊘ y)) ((R + 1) * unit) (c * (Q * unit))
            (off-size R (times-back k) l (a.size (div-finite x y k)))
            (le_trans (mul-le-mul_right unit (leb→le (R + 1) (c * Q) m)) (le_of_eq (mul_assoc c Q unit))));
      }
    where
      joined : (c K : ℕ) (q x X : D) → Same (K ⊙ (c ⊙ q) ⊞ K ⊙ x ⊟ (K ⊙ x ⊞ X)) ((c * K) ⊙ q ⊟ X)
      joined c K q x X = omega arith

      regroup : (c γ N : ℕ) → c * γ * N ≡ γ * (c * N)
      regroup c γ N = omega arith

      off : Finite (x ⊘ y) → Off (c * K * unit) ((c * K) ⊙ val (x ⊘ y)) X γ
      off k =
          off_scale (c * K * unit) γ
          (off_as ((c * K) ⊙ val (x ⊘ y)) X (off-sum (off-times K (times-back k)) (a.about.off (div-finite x y k)))
          (joined c K (val (x ⊘ y)) (val x) X))
          (le_trans (mul-le-mul_right (K * unit) (leb→le (R + c + β) (c * γ) n))
          (le_of_eq (regroup c γ (K * unit) ∙ ap (λ (z : ℕ). γ * z) (sym (mul_assoc c K unit)))))

-- ---- sizes found backwards: a quotient of size R has a dividend of (2 * R + 1) times the divisor's size at most
pub dividend : (x j : Float) {R : ℕ} → T (fits binary64 x) → Number j → Sized unit (x ⊘ j) R
    → Sized (mag j) x (2 * R + 1)
dividend x j {R} f g z =
    let w = div_rounds x j f g.held g.finite z.finite in
    let q = val (x ⊘ j) ⊠ val j in
    let s = size_product (val (x ⊘ j)) (val j) (R * unit) (mag j) z.size (val-size j) in
    record {
      held = f;
      finite = div-finite x j z.finite;
      size = size_divide unit (val x) ((2 * R + 1) * mag j) unit-pos
          (grown q (unit ⊙ val x) R unit (mag j) w.err w.near s
          (small w.err (2 ^ 53) (2 ^ 52) R unit (mag j) (lit≤ tt) unit_52 (w.backward (R * unit * mag j) s)));
    }
  where
    small : (e P H R U J : ℕ) → 1 ≤ P → H ≤ U → e * P ≤ R * U * J + J * H → e ≤ R * U * J + U * J
    small e P H R U J p h b = omega (arith, mul-le-mul_left e p, mul-le-mul_left J h)

    grown : (a b : D) (R U J e : ℕ) → Near a b e → Size a (R * U * J) → e ≤ R * U * J + U * J
        → Size b (U * ((2 * R + 1) * J))
    grown a b R U J e n s h = omega arith

-- ---- with what the dividend was off
pub quotient_about : {S : ℕ} {x : Float} {R K : ℕ} {X : D} {β : ℕ} (j : Float) (c : ℕ) → On S x R K X β → Number j
    → mag j ≤ c * S
    → Finite (x ⊘ j) → Off (K * (unit * S)) (K ⊙ (val (x ⊘ j) ⊠ val j)) (unit ⊙ X) (R + c + β)
quotient_about {S} {x} {R} {K} {X} {β} j c a g l k =
    let f = div-finite x j k in
    let q = val (x ⊘ j) ⊠ val j in
    off_as (K ⊙ q) (unit ⊙ X)
    (off-sum (off-times K (quotient_off S x j R c a.about.held g l (a.size f) k))
    (off_scale (K * (unit * S)) β (off-times unit (a.about.off f))
    (le_of_eq (ap (λ (z : ℕ). β * z) (mul_left_comm unit K S)))))
    (joined K unit q (val x) X)
  where
    joined : (K U : ℕ) (q x X : D) → Same (K ⊙ q ⊞ U ⊙ (K ⊙ x) ⊟ (K ⊙ (U ⊙ x) ⊞ U ⊙ X)) (K ⊙ q ⊟ U ⊙ X)
    joined K U q x X = omega arith

-- by j, which is the scale
pub quotient : {x : Float} {R : ℕ} {X : D} {β : ℕ} (j : Float) → On (mag j) x R 1 X β → Number j → Finite (x ⊘ j)
    → Part j (val (x ⊘ j)) X (R + 1 + β)
quotient j a g k = record { off = off_once (quotient_about j 1 a g (le_of_eq (once (mag j))) k) }
  where
    once : (J : ℕ) → J ≡ 1 * J
    once J = omega arith
