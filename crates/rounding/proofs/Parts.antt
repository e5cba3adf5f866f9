-- Quotients by one divisor j together, each multiplied through by j. Assumes nothing.
use mathlib.Core.Path.{◌≡◌, refl, ap, subst}
use Prim.Native.Nat.{ℕ, ◌+◌, ◌*◌, ◌<◌}
use native.Mathlib.Nat.{le_of_eq, mul_comm}
use native.Mathlib.Omega.{arith}
use mathlib.Core.Bool.{Bool, true, false}
use lib.Ieee.{Float}
use Rattle.rounding.specs.Exact.{D, nought, signed, opposite, Same, ◌⊞◌, ◌⊟◌, ◌⊠◌, ◌⊙◌}
use Rattle.rounding.specs.Value.{unit, mag, sign, val}
use Rattle.rounding.specs.Bounds.{Off, Part}
use Rattle.rounding.proofs.Compare.{val-size}
use Rattle.rounding.proofs.Errors.{off_as, off_scale, off-sum, off-neg, off_cancel, off_product}

pub part-sum : {j : Float} {q X : D} {β : ℕ} {r Y : D} {γ : ℕ} → Part j q X β → Part j r Y γ
    → Part j (q ⊞ r) (X ⊞ Y) (β + γ)
part-sum {j} {q} {X} {β} {r} {Y} {γ} a b =
    record { off = off_as ((q ⊞ r) ⊠ val j) (unit ⊙ (X ⊞ Y)) (off-sum a.off b.off) (joined q r X Y (val j) unit) }
  where
    joined : (q r X Y j : D) (U : ℕ) → Same (q ⊠ j ⊞ r ⊠ j ⊟ (U ⊙ X ⊞ U ⊙ Y)) ((q ⊞ r) ⊠ j ⊟ U ⊙ (X ⊞ Y))
    joined q r X Y j U = omega arith

pub part-neg : {j : Float} {q X : D} {β : ℕ} → Part j q X β → Part j (opposite q) (opposite X) β
part-neg {j} {q} {X} {β} a =
    record { off = off_as (opposite q ⊠ val j) (unit ⊙ opposite X) (off-neg a.off) (turned q X (val j) unit) }
  where
    turned : (q X j : D) (U : ℕ) → Same (opposite (q ⊠ j) ⊟ opposite (U ⊙ X)) (opposite q ⊠ j ⊟ U ⊙ opposite X)
    turned q X j U = omega arith

pub part_same : {j : Float} {q X : D} {β : ℕ} (Y : D) → Part j q X β → Same X Y → Part j q Y β
part_same {j} {q} {X} Y a e = record { off = off_as (q ⊠ val j) (unit ⊙ Y) a.off (moved (q ⊠ val j) X Y unit e) }
  where
    moved : (q X Y : D) (U : ℕ) → Same X Y → Same (q ⊟ U ⊙ X) (q ⊟ U ⊙ Y)
    moved q X Y U h = omega (arith, ap (λ (z : ℕ). U * z) h)

-- r is q, but for γ times 2 ^ -53
pub part-near : {j : Float} {q X : D} {β : ℕ} {γ : ℕ} (r : D) → Part j q X β → Off unit r q γ → Part j r X (γ + β)
part-near {j} {q} {X} {β} {γ} r a o =
    record {
      off = off_as (r ⊠ val j) (unit ⊙ X)
          (off-sum
          (off_scale (unit * mag j) γ (off_product (val j) (mag j) (val-size j) o)
          (le_of_eq (ap (λ (z : ℕ). γ * z) (mul_comm (mag j) unit)))) a.off)
          (joined r q (val j) (unit ⊙ X));
    }
  where
    joined : (r q j X : D) → Same (j ⊠ r ⊞ q ⊠ j ⊟ (j ⊠ q ⊞ X)) (r ⊠ j ⊟ X)
    joined r q j X = omega arith

val-signed : (j : Float) → val j ≡ signed (sign j) (mag j)
unfolding val
val-signed j = refl

-- a sum of quotients whose numerators cancel
pub part_none : {j : Float} {q X : D} {β : ℕ} → Part j q X β → Same X nought → 0 < mag j → Off unit q nought β
part_none {j} {q} {X} {β} a e Z =
    off_cancel (mag j) Z
    (off_scale (mag j * unit) β
    (go (sign j) (mag j) (subst (λ (z : D). Off (unit * mag j) (q ⊠ z) (unit ⊙ X) β) (val-signed j) a.off))
    (le_of_eq (ap (λ (z : ℕ). β * z) (mul_comm unit (mag j)))))
  where
    like : (q X : D) (U k : ℕ) → Same X nought → Same (q ⊠ signed false k ⊟ U ⊙ X) (k ⊙ q ⊟ k ⊙ nought)
    like q X U k h = omega (arith, ap (λ (z : ℕ). U * z) h)

    unlike : (q X : D) (U k : ℕ) → Same X nought
        → Same (opposite (q ⊠ signed true k) ⊟ opposite (U ⊙ X)) (k ⊙ q ⊟ k ⊙ nought)
    unlike q X U k h = omega (arith, ap (λ (z : ℕ). U * z) h)

    go : (s : Bool) (k : ℕ) → Off (unit * mag j) (q ⊠ signed s k) (unit ⊙ X) β
        → Off (unit * mag j) (k ⊙ q) (k ⊙ nought) β
    go true k o = off_as (k ⊙ q) (k ⊙ nought) (off-neg o) (unlike q X unit k e)
    go false k o = off_as (k ⊙ q) (k ⊙ nought) o (like q X unit k e)
