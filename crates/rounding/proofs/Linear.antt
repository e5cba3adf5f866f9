-- Steps with exact numbers: sums, multiples and products of numbers that are near. Assumes nothing.
use mathlib.Core.Path.{◌≡◌, ap, ap₂}
use mathlib.Core.Logic.{◌⊎◌, inl, inr}
use Prim.Native.Nat.{ℕ, ◌+◌, ◌-◌, ◌*◌, ◌≤◌, ◌<◌}
use native.Mathlib.Nat.{mul_assoc, mul-le-mul_left, mul-le-mul, le_of_mul-le-mul_left}
use native.Mathlib.Omega.{arith}
use mathlib.Core.Bool.{Bool, true, false, not}
use lib.Dec.{T, leb, leb→le, nleb→lt}
use Rattle.rounding.specs.Exact.{D, opposite, Near, Size, Same, ◌⊞◌, ◌⊟◌, ◌⊠◌, ◌⊙◌}

-- two numbers differ by some e, one way or the other
pub apart : (a b : ℕ) → (e : ℕ) × ((a ≡ b + e) ⊎ (b ≡ a + e))
apart a b = go (leb a b) (leb→le a b) (nleb→lt a b)
  where
    up_to : (x y : ℕ) → x ≤ y → y ≡ x + (y - x)
    up_to x y h = omega arith

    down_to : (x y : ℕ) → y < x → x ≡ y + (x - y)
    down_to x y h = omega arith

    go : (t : Bool) → (T t → a ≤ b) → (T (not t) → b < a) → (e : ℕ) × ((a ≡ b + e) ⊎ (b ≡ a + e))
    go true h k = (b - a, inr (up_to a b (h tt)))
    go false h k = (a - b, inl (down_to a b (k tt)))

pub wider : (x y z : ℕ) → y ≤ z → x + y ≤ x + z
wider x y z h = omega arith

pub near_self : (a : D) → Near a a 0
near_self a = omega arith

pub near_trans : (a b c : D) (e f : ℕ) → Near a b e → Near b c f → Near a c (e + f)
near_trans a b c e f h k = omega arith

pub near_weaken : (a b : D) (e f : ℕ) → Near a b e → e ≤ f → Near a b f
near_weaken a b e f h k = omega arith

pub near-sym : (a b : D) (e : ℕ) → Near a b e → Near b a e
near-sym a b e h = omega arith

pub near_same : (a b a' b' : D) (e : ℕ) → Same a a' → Same b b' → Near a b e → Near a' b' e
near_same a b a' b' e p q h = omega arith

-- it is only their difference that counts
pub near_as : (a b c d : D) (e : ℕ) → Same (a ⊟ b) (c ⊟ d) → Near a b e → Near c d e
near_as a b c d e h k = omega arith

pub near-sum : (a b c d : D) (e f : ℕ) → Near a b e → Near c d f → Near (a ⊞ c) (b ⊞ d) (e + f)
near-sum a b c d e f h k = omega arith

pub apart-size : (a b : D) (e : ℕ) → Near a b e → Size (a ⊟ b) e
apart-size a b e h = omega arith

pub size-opposite : (a : D) (e : ℕ) → Size a e → Size (opposite a) e
size-opposite a e h = omega arith

pub size_weaken : (a : D) (e f : ℕ) → Size a e → e ≤ f → Size a f
size_weaken a e f h k = omega arith

pub size-sum : (a b : D) (e f : ℕ) → Size a e → Size b f → Size (a ⊞ b) (e + f)
size-sum a b e f h k = omega arith

-- the same in a common unit
pub size-sum_in : (x y : D) (R S U : ℕ) → Size x (R * U) → Size y (S * U) → Size (x ⊞ y) ((R + S) * U)
size-sum_in x y R S U h k = omega arith

-- ---- multiples
abbrev pair : ℕ → ℕ → D
pair x y = record { p = x; n = y }

pub times-times : (k l : ℕ) (a : D) → (k * l) ⊙ a ≡ k ⊙ (l ⊙ a)
times-times k l a = ap₂ pair (mul_assoc k l a.p) (mul_assoc k l a.n)

pub near_times : (k : ℕ) (a b : D) (e : ℕ) → Near a b e → Near (k ⊙ a) (k ⊙ b) (k * e)
near_times k a b e h = omega (arith, mul-le-mul_left k h.over, mul-le-mul_left k h.under)

pub size-times : (k : ℕ) (a : D) (e : ℕ) → Size a e → Size (k ⊙ a) (k * e)
size-times k a e h = omega (arith, mul-le-mul_left k h.over, mul-le-mul_left k h.under)

pub size_divide : (k : ℕ) (a : D) (e : ℕ) → 0 < k → Size (k ⊙ a) (k * e) → Size a e
size_divide k a e K h =
    record {
      over = le_of_mul-le-mul_left (spread k a.p a.n e h.over) K;
      under = le_of_mul-le-mul_left (spread k a.n a.p e h.under) K;
    }
  where
    spread : (k x y e : ℕ) → k * x ≤ k * y + k * e → k * x ≤ k * (y + e)
    spread k x y e h = omega arith

-- |a - b| * k ≤ e bounds |a - b| alone
pub near_cancel : (k : ℕ) (a b : D) (e : ℕ) → Near (k ⊙ a) (k ⊙ b) e → (f : ℕ) × Near a b f × (f * k ≤ e)
near_cancel k a b e h =
    let d = apart (a.p + b.n) (b.p + a.n) in
    (d.0, near a b d.0 d.1, less d.0 d.1)
  where
    near : (a b : D) (f : ℕ) → (a.p + b.n ≡ b.p + a.n + f) ⊎ (b.p + a.n ≡ a.p + b.n + f) → Near a b f
    near a b f (inl k) = omega arith
    near a b f (inr k) = omega arith

    less : (f : ℕ) → (a.p + b.n ≡ b.p + a.n + f) ⊎ (b.p + a.n ≡ a.p + b.n + f) → f * k ≤ e
    less f (inl g) = omega (arith, ap (λ (z : ℕ). z * k) g, h.over)
    less f (inr g) = omega (arith, ap (λ (z : ℕ). z * k) g, h.under)

-- ---- products
abbrev Crossed : ℕ → ℕ → ℕ → ℕ → ℕ → Type 0
Crossed p n q m z = (p * q + n * m ≤ p * m + n * q + z) × (p * m + n * q ≤ p * q + n * m + z)

cross_of : (p n q m c d e f : ℕ) → p ≡ n + c → q ≡ m + d → p ≤ n + e → q ≤ m + f → Crossed p n q m (e * f)
cross_of p n q m c d e f u w x y =
    omega (
      arith,
      ap (λ (z : ℕ). z * q) u,
      ap (λ (z : ℕ). z * m) u,
      ap (λ (z : ℕ). c * z) w,
      mul-le-mul (less p n c e u x)
          (less q m d f w y),
    )
  where
    less : (x y z w : ℕ) → x ≡ y + z → x ≤ y + w → z ≤ w
    less x y z w p q = omega arith

pub size_product : (a b : D) (e f : ℕ) → Size a e → Size b f → Size (a ⊠ b) (e * f)
size_product a b e f h k = let r = apart a.p a.n in let s = apart b.p b.n in go r.0 s.0 r.1 s.1
  where
    go : (c d : ℕ) → (a.p ≡ a.n + c) ⊎ (a.n ≡ a.p + c) → (b.p ≡ b.n + d) ⊎ (b.n ≡ b.p + d)
        → Size (a ⊠ b) (e * f)
    go c d (inl u) (inl w) = omega (arith, cross_of a.p a.n b.p b.n c d e f u w h.over k.over)
    go c d (inl u) (inr w) = omega (arith, cross_of a.p a.n b.n b.p c d e f u w h.over k.under)
    go c d (inr u) (inl w) = omega (arith, cross_of a.n a.p b.p b.n c d e f u w h.under k.over)
    go c d (inr u) (inr w) = omega (arith, cross_of a.n a.p b.n b.p c d e f u w h.under k.under)

-- two numbers that are near, each times c
pub product_near : (c a b : D) (M e : ℕ) → Size c M → Near a b e → Near (c ⊠ a) (c ⊠ b) (M * e)
product_near c a b M e s n = apart c a b (M * e) (size_product c (a ⊟ b) M e s (apart-size a b e n))
  where
    apart : (c a b : D) (e : ℕ) → Size (c ⊠ (a ⊟ b)) e → Near (c ⊠ a) (c ⊠ b) e
    apart c a b e h = omega arith
