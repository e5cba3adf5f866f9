-- A product on a scale: one factor on the scale S, the other absolute. Assumes nothing.
use mathlib.Core.Path.{◌≡◌, subst, sym}
use Prim.Native.Nat.{ℕ, ◌+◌, ◌*◌, ◌^◌, ◌≤◌}
use native.Mathlib.Nat.{le_trans, le_of_eq, mul_comm, mul_assoc, mul_left_comm, mul-le-mul_left}
use native.Mathlib.Omega.{arith}
use mathlib.Core.Bool.{false}
use lib.Dec.{T, leb}
use lib.Ieee.{Float, binary64, fits}
use lib.Ieee.Fits.{mul-fits}
use Rattle.float.specs.Ops.{◌⊗◌, #2}
use Rattle.rounding.specs.Exact.{D, signed, Size, Same, ◌⊞◌, ◌⊟◌, ◌⊠◌, ◌⊙◌}
use Rattle.rounding.specs.Value.{unit, val, Finite}
use Rattle.rounding.specs.Bounds.{Off, Sized, On}
use Rattle.rounding.proofs.Linear.{wider, size-times, size_divide, size_product}
use Rattle.rounding.proofs.Unit.{unit-pos}
use Rattle.rounding.proofs.Operands.{mul-finite}
use Rattle.rounding.proofs.Ops.{mul_rounds}
use Rattle.rounding.proofs.Literals.{val_2, number_2}
use Rattle.rounding.proofs.Errors.{rounds_off, off_as, off_scale, off-sum, off-times, off_product, off-sym}
use Rattle.rounding.proofs.Errors.{off-size}
use Rattle.rounding.proofs.Sizes.{unit_52, on, on_is, on_most, on_cancel}

-- ---- the rounding alone
pub product_off : {S : ℕ} (x y : Float) (R Q : ℕ) → T (fits binary64 x) → T (fits binary64 y) → 2 ^ 52 ≤ S
    → Size (val x) (R * S) → Size (val y) (Q * unit) → Finite (x ⊗ y)
    → Off (unit * S) (unit ⊙ val (x ⊗ y)) (val x ⊠ val y) (R * Q + 1)
product_off {S} x y R Q f g h a b k =
    let w = mul_rounds x y f g k in
    let s = size_product (val x) (val y) (R * S) (Q * unit) a b in
    rounds_off (unit * S) (R * Q + 1) w
    (le_trans (w.forward (R * S * (Q * unit)) s)
    (le_trans (wider (R * S * (Q * unit)) (unit * 2 ^ 52) (unit * S) (mul-le-mul_left unit h))
    (le_of_eq (gather R Q S unit))))
  where
    gather : (R Q S U : ℕ) → R * S * (Q * U) + U * S ≡ (R * Q + 1) * (U * S)
    gather R Q S U = omega arith

-- ---- with what the factors were off
module _ {S : ℕ} {x : Float} {R K : ℕ} {X : D} {β : ℕ} {y : Float} {Q L : ℕ} {Y : D} {γ : ℕ} (a : On S x R K X β)
    (b : On unit y Q L Y γ) (h : 2 ^ 52 ≤ S) (c : T (leb γ (2 ^ 53))) where
  -- |Y| is one more at most than |L y|
  other_size : Finite y → Size Y ((Q + 1) * (L * unit))
  other_size k = off-size Q (off-sym (b.about.off k)) c (size_as (size-times L (val y) (Q * unit) (b.size k)))
    where
      size_as : Size (L ⊙ val y) (L * (Q * unit)) → Size (L ⊙ val y) (Q * (L * unit))
      size_as s = subst (λ (z : ℕ). Size (L ⊙ val y) z) (mul_left_comm L Q unit) s

  factors_off : Finite (x ⊗ y) → Off (K * L * unit * S) (K ⊙ val x ⊠ (L ⊙ val y)) (X ⊠ Y) (R * γ + (Q + 1) * β)
  factors_off k =
      let f = mul-finite x y k in
      off_as (K ⊙ val x ⊠ (L ⊙ val y)) (X ⊠ Y)
      (off-sum
      (off_scale (K * L * unit * S) (R * γ)
      (off_product (K ⊙ val x) (K * (R * S)) (size-times K (val x) (R * S) (a.size f.0)) (b.about.off f.1))
      (le_of_eq (simp (mul_assoc, mul_comm, mul_left_comm))))
      (off_scale (K * L * unit * S) ((Q + 1) * β)
      (off_product Y ((Q + 1) * (L * unit)) (other_size f.1) (a.about.off f.0))
      (le_of_eq (simp (mul_assoc, mul_comm, mul_left_comm)))))
      (joined (K ⊙ val x) (L ⊙ val y) X Y)
    where
      joined : (x y X Y : D) → Same (x ⊠ y ⊞ Y ⊠ x ⊟ (x ⊠ Y ⊞ Y ⊠ X)) (x ⊠ y ⊟ X ⊠ Y)
      joined x y X Y = omega arith

  pub on_mul : T (leb (R * Q + 1) (2 ^ 53))
      → On S (x ⊗ y) (R * Q + 1) (K * L * unit) (X ⊠ Y) (R * Q + 1 + (R * γ + (Q + 1) * β))
  on_mul l =
      record {
        about = record { held = mul-fits binary64 x y; off = both };
        size = λ k. size_divide unit (val (x ⊗ y)) ((R * Q + 1) * S) unit-pos (sized k);
      }
    where
      squares : (R Q S U : ℕ) → R * S * (Q * U) ≡ R * Q * (U * S)
      squares R Q S U = omega arith

      rounded : Finite (x ⊗ y) → Off (unit * S) (unit ⊙ val (x ⊗ y)) (val x ⊠ val y) (R * Q + 1)
      rounded k =
          let f = mul-finite x y k in
          product_off x y R Q a.about.held b.about.held h (a.size f.0) (b.size f.1) k

      joined : (K L U : ℕ) (r x y X Y : D) → Same ((K * L) ⊙ (U ⊙ r)) ((K * L * U) ⊙ r)
          → Same ((K * L) ⊙ (x ⊠ y)) (K ⊙ x ⊠ (L ⊙ y))
          → Same ((K * L) ⊙ (U ⊙ r) ⊞ K ⊙ x ⊠ (L ⊙ y) ⊟ ((K * L) ⊙ (x ⊠ y) ⊞ X ⊠ Y)) ((K * L * U) ⊙ r ⊟ X ⊠ Y)
      joined K L U r x y X Y h k =
          go ((K * L) ⊙ (U ⊙ r)) ((K * L * U) ⊙ r) ((K * L) ⊙ (x ⊠ y)) (K ⊙ x ⊠ (L ⊙ y)) (X ⊠ Y) h k
        where
          go : (a b c d e : D) → Same a b → Same c d → Same (a ⊞ d ⊟ (c ⊞ e)) (b ⊟ e)
          go a b c d e h k = omega arith

      left : (K L U : ℕ) (r : D) → Same ((K * L) ⊙ (U ⊙ r)) ((K * L * U) ⊙ r)
      left K L U r = omega arith

      right : (K L : ℕ) (x y : D) → Same ((K * L) ⊙ (x ⊠ y)) (K ⊙ x ⊠ (L ⊙ y))
      right K L x y = omega arith

      both : Finite (x ⊗ y)
          → Off (K * L * unit * S) ((K * L * unit) ⊙ val (x ⊗ y)) (X ⊠ Y) (R * Q + 1 + (R * γ + (Q + 1) * β))
      both k =
          off_as ((K * L * unit) ⊙ val (x ⊗ y)) (X ⊠ Y)
          (off-sum
          (off_scale (K * L * unit * S) (R * Q + 1) (off-times (K * L) (rounded k)) (le_of_eq (simp (mul_assoc))))
          (factors_off k))
          (joined K L unit (val (x ⊗ y)) (val x) (val y) X Y (left K L unit (val (x ⊗ y))) (right K L (val x) (val y)))

      sized : Finite (x ⊗ y) → Size (unit ⊙ val (x ⊗ y)) (unit * ((R * Q + 1) * S))
      sized k =
          let f = mul-finite x y k in
          subst (λ (z : ℕ). Size (unit ⊙ val (x ⊗ y)) z) (mul_left_comm (R * Q + 1) unit S)
          (off-size (R * Q) (rounded k) l
          (subst (λ (z : ℕ). Size (val x ⊠ val y) z) (squares R Q S unit)
          (size_product (val x) (val y) (R * S) (Q * unit) (a.size f.0) (b.size f.1))))

-- ---- twice a number
pub on_twice : {t : Float} {R : ℕ} → Sized unit t R → T (leb (2 * R + 1) (2 ^ 53))
    → On unit (#2 ⊗ t) (2 * R + 1) 1 (2 ⊙ val t) (2 * R + 1)
on_twice {t} {R} z h =
    on_most (2 * R + 1) (2 * R + 1)
    (on_cancel unit unit-pos
    (on_is unit (unit ⊙ (2 ⊙ val t)) (on_mul (on two) (on z) unit_52 tt h) (once unit)
    (subst (λ (y : D). Same (y ⊠ val t) (unit ⊙ (2 ⊙ val t))) (sym val_2) (doubled unit (val t))))) (same R) (none R)
  where
    two : Sized unit #2 2
    two =
        record {
          held = number_2.held;
          finite = number_2.finite;
          size = subst (λ (y : D). Size y (2 * unit)) (sym val_2) (itself (2 * unit));
        }
      where
        itself : (k : ℕ) → Size (signed false k) k
        itself k = omega arith

    once : (U : ℕ) → 1 * 1 * U ≡ U
    once U = omega arith

    doubled : (U : ℕ) (t : D) → Same (signed false (2 * U) ⊠ t) (U ⊙ (2 ⊙ t))
    doubled U t = omega arith

    same : (R : ℕ) → 2 * R + 1 ≤ 2 * R + 1
    same R = omega arith

    none : (R : ℕ) → 2 * R + 1 + (2 * 0 + (R + 1) * 0) ≤ 2 * R + 1
    none R = omega arith
