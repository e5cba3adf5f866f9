-- Floats themselves as `About` and `On`, and the same with other numerals. Assumes nothing.
use mathlib.Core.Path.{◌≡◌, subst}
use Prim.Native.Nat.{ℕ, ◌+◌, ◌*◌, ◌^◌, ◌≤◌, ◌<◌}
use native.Mathlib.Nat.{le_trans, mul-le-mul_right}
use native.Mathlib.Omega.{arith}
use lib.Dec.{T, leb, leb→le, lit≤}
use lib.Ieee.{Float, binary64, fits}
use Rattle.rounding.specs.Exact.{D, Size, Same, ◌⊟◌, ◌⊙◌}
use Rattle.rounding.specs.Value.{unit, val, Finite}
use Rattle.rounding.specs.Bounds.{Off, Sized, About, On}
use Rattle.rounding.proofs.Linear.{size_weaken}
use Rattle.rounding.proofs.Unit.{unit_large}
use Rattle.rounding.proofs.Errors.{off-none, off_as, off_scale, off_once, off-times, off_cancel, off-sym}
use Rattle.rounding.proofs.Errors.{off-size}

pub unit_52 : 2 ^ 52 ≤ unit
unit_52 = le_trans (lit≤ tt) unit_large

-- ---- a float itself has no error: taken K times, and once
pub about-whole : (S : ℕ) (x : Float) (K : ℕ) → T (fits binary64 x) → About S x K (K ⊙ val x) 0
about-whole S x K f = record { held = f; off = λ k. off-none (K * S) (K ⊙ val x) }

pub about : (S : ℕ) (x : Float) → T (fits binary64 x) → About S x 1 (val x) 0
about S x f = record { held = f; off = λ k. off_as (1 ⊙ val x) (val x) (off-none (1 * S) (val x)) (once (val x)) }
  where
    once : (a : D) → Same (a ⊟ a) (1 ⊙ a ⊟ a)
    once a = omega arith

pub on_whole : {S : ℕ} {x : Float} {R : ℕ} (K : ℕ) → Sized S x R → On S x R K (K ⊙ val x) 0
on_whole {S} {x} K z = record { about = about-whole S x K z.held; size = λ k. z.size }

pub on : {S : ℕ} {x : Float} {R : ℕ} → Sized S x R → On S x R 1 (val x) 0
on {S} {x} z = record { about = about S x z.held; size = λ k. z.size }

pub sized : {S : ℕ} {x : Float} {R K : ℕ} {X : D} {β : ℕ} → On S x R K X β → Finite x → Sized S x R
sized a f = record { held = a.about.held; finite = f; size = a.size f }

-- ---- K is 1: the float is X itself
pub about-off : {S : ℕ} {x : Float} {X : D} {β : ℕ} → About S x 1 X β → Finite x → Off S (val x) X β
about-off a f = off_once (a.off f)

-- the size of the exact value
pub exact-size : {S : ℕ} {x : Float} {R : ℕ} {X : D} {β : ℕ} → On S x R 1 X β → Finite x → T (leb β (2 ^ 53))
    → Size X ((R + 1) * S)
exact-size {R = R} o f h = off-size R (off-sym (about-off o.about f)) h (o.size f)

-- ---- larger numbers
pub on_most : {S : ℕ} {x : Float} {R K : ℕ} {X : D} {β : ℕ} (Q γ : ℕ) → On S x R K X β → R ≤ Q → β ≤ γ → On S x Q K X γ
on_most {S} {x} {R} {K} Q γ a h k =
    record {
      about = record {
        held = a.about.held;
        off = λ f. off_scale (K * S) γ (a.about.off f) (mul-le-mul_right (K * S) k);
      };
      size = λ f. size_weaken (val x) (R * S) (Q * S) (a.size f) (mul-le-mul_right S h);
    }

-- larger numerals
pub on_within : {S : ℕ} {x : Float} {R K : ℕ} {X : D} {β : ℕ} (Q γ : ℕ) → On S x R K X β → T (leb R Q) → T (leb β γ)
    → On S x Q K X γ
on_within {R = R} {β = β} Q γ a h k = on_most Q γ a (leb→le R Q h) (leb→le β γ k)

-- an equal K, an X of the same value
pub on_is : {S : ℕ} {x : Float} {R K : ℕ} {X : D} {β : ℕ} (L : ℕ) (Y : D) → On S x R K X β → K ≡ L → Same X Y
    → On S x R L Y β
on_is {S} {x} {R} {K} {X} {β} L Y a k e =
    subst (λ (z : ℕ). On S x R z Y β) k
    (record {
      about = record {
        held = a.about.held;
        off = λ f. off_as (K ⊙ val x) Y (a.about.off f) (other (K ⊙ val x) X Y e);
      };
      size = a.size;
    })
  where
    other : (a b c : D) → Same b c → Same (a ⊟ b) (a ⊟ c)
    other a b c h = omega arith

-- both K and X taken c times, and c times less
pub on_times : {S : ℕ} {x : Float} {R K : ℕ} {X : D} {β : ℕ} (c : ℕ) → On S x R K X β → On S x R (c * K) (c ⊙ X) β
on_times {S} {x} {R} {K} {X} {β} c a =
    record { about = record { held = a.about.held; off = λ f. again (a.about.off f) }; size = a.size }
  where
    regroup : (c K : ℕ) (a b : D) → Same (c ⊙ (K ⊙ a) ⊟ b) ((c * K) ⊙ a ⊟ b)
    regroup c K a b = omega arith

    same : (c K S β : ℕ) → β * (c * (K * S)) ≤ β * (c * K * S)
    same c K S β = omega arith

    again : Off (K * S) (K ⊙ val x) X β → Off (c * K * S) ((c * K) ⊙ val x) (c ⊙ X) β
    again o =
        off_scale (c * K * S) β (off_as ((c * K) ⊙ val x) (c ⊙ X) (off-times c o) (regroup c K (val x) (c ⊙ X)))
        (same c K S β)

pub on_cancel : {S : ℕ} {x : Float} {R : ℕ} {X : D} {β : ℕ} (c : ℕ) → 0 < c → On S x R c (c ⊙ X) β → On S x R 1 X β
on_cancel {S} {x} {R} {X} {β} c Z a =
    record {
      about = record {
        held = a.about.held;
        off =
            λ f. off_as (1 ⊙ val x) X (off_scale (1 * S) β (off_cancel c Z (a.about.off f)) (alone β S))
            (once (val x) X);
      };
      size = a.size;
    }
  where
    once : (a b : D) → Same (a ⊟ b) (1 ⊙ a ⊟ b)
    once a b = omega arith

    alone : (β S : ℕ) → β * S ≤ β * (1 * S)
    alone β S = omega arith
