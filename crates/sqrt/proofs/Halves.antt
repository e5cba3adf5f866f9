-- The root's lower digits by one division. h is the whole part of √a, and B the weight of h's last digit in the
-- whole part of the root of a * B²:
-- with c and t the quotient and the remainder of (a - h²) * B by 2 * h, that root is h * B + c,
-- or one less where t * B is below c².
-- For a * B² is h² * B² + 2 * h * B * c + t * B, which is (h * B + c)² with t * B in place of c². Assumes nothing.
use mathlib.Core.Path.{◌≡◌, sym, ap}
use Prim.Native.Nat.{ℕ, zero, suc, ◌+◌, ◌-◌, ◌*◌, ◌/◌, ◌%◌, ◌^◌, ◌≤◌, ◌<◌}
use native.Mathlib.Nat.{mul-le-mul_right, le_trans, le_of_lt, le_of_suc-le-suc, le_of_mul-le-mul_right, div-mul-le_self}
use native.Mathlib.Nat.{div-add-mod', mod-lt}
use native.Mathlib.Omega.{arith}
use Rattle.sqrt.specs.Sqrt.{IsRoot}
use Rattle.sqrt.specs.Steps.{Radicand}
use Rattle.sqrt.proofs.Squares.{between_squares, square_le}

-- with e for a - h²
expand : (h B e c t : ℕ) → e * B ≡ c * (2 * h) + t → (h * h + e) * (B * B) ≡ h * B * (h * B) + 2 * (h * B) * c + t * B
expand h B e c t d = let m : e * B * B ≡ (c * (2 * h) + t) * B = ap (λ (x : ℕ). x * B) d in omega arith

-- 2 * h * B, as the square's middle term has it
twice : {x : ℕ} (h B : ℕ) → x ≤ 2 * h → x * B ≤ 2 * (h * B)
twice h B l = le_trans (mul-le-mul_right B l) (same h B)
  where
    same : (x y : ℕ) → 2 * x * y ≤ 2 * (x * y)
    same x y = omega arith

root_kept : (h B e c t : ℕ) → e * B ≡ c * (2 * h) + t → t < 2 * h → c * c ≤ t * B
    → IsRoot ((h * h + e) * (B * B)) (h * B + c)
root_kept h B e c t d l k =
    rw (expand h B e c t d)
    (record { under = under (h * B) (t * B) k; over = over (h * B) (t * B) (twice h B (le_of_lt l)) })
  where
    under : (r s : ℕ) → c * c ≤ s → (r + c) * (r + c) ≤ r * r + 2 * r * c + s
    under r s g = omega arith

    over : (r s : ℕ) → s ≤ 2 * r → r * r + 2 * r * c + s < suc (r + c) * suc (r + c)
    over r s g = omega arith

-- where it is one less, the quotient is not 0
root_less : (h B e c t : ℕ) → e * B ≡ suc c * (2 * h) + t → B ≤ 2 * h → suc c ≤ B → t * B < suc c * suc c
    → IsRoot ((h * h + e) * (B * B)) (h * B + c)
root_less h B e c t d low small k =
    rw (expand h B e (suc c) t d)
    (record {
      under = under (h * B) (t * B) (le_trans (square_le (le_of_lt small)) (twice h B low));
      over = over (h * B) (t * B) k;
    })
  where
    under : (r s : ℕ) → c * c ≤ 2 * r → (r + c) * (r + c) ≤ r * r + 2 * r * suc c + s
    under r s g = omega arith

    over : (r s : ℕ) → s < suc c * suc c → r * r + 2 * r * suc c + s < suc (r + c) * suc (r + c)
    over r s g = omega arith

-- ---- at B = 2 ^ 27, of which the code has 54 = 27 + 27 digits: e, c and t are what it computes from a and h
pub record Halves (h e c t : ℕ) : Type 0 where
  pub low : 2 ^ 26 ≤ h
  pub high : h < 2 ^ 27
  pub rest : e ≤ 2 * h
  pub upper : c ≤ 2 ^ 27
  pub lower : t < 2 * h
  pub divides : e * 2 ^ 27 ≡ c * (2 * h) + t

pub halves : (a h : ℕ) → Radicand a → IsRoot a h
    → Halves h (a - h * h) ((a - h * h) * 2 ^ 27 / (2 * h)) ((a - h * h) * 2 ^ 27 % (2 * h))
halves a h A H = record {
  low = low;
  high = high;
  rest = rest;
  upper = upper;
  lower = mod-lt n d_pos;
  divides = sym (div-add-mod' n (2 * h));
}
  where
    low : 2 ^ 26 ≤ h
    low = le_of_suc-le-suc (between_squares (2 ^ 26) a (suc h) A.low H.over)

    high : h < 2 ^ 27
    high = between_squares h a (2 ^ 27) H.under (le_of_lt A.high)

    rest : a - h * h ≤ 2 * h
    rest = let l : a < suc h * suc h = H.over in omega arith

    n : ℕ
    n = (a - h * h) * 2 ^ 27

    d_pos : 0 < 2 * h
    d_pos = omega (arith, low)

    upper : n / (2 * h) ≤ 2 ^ 27
    upper = le_of_mul-le-mul_right (le_trans (div-mul-le_self n (2 * h)) (at (a - h * h) (2 * h) rest)) d_pos
      where
        at : (x y : ℕ) → x ≤ y → x * 2 ^ 27 ≤ 2 ^ 27 * y
        at x y l = omega arith

-- the whole part of the root of a * 2 ^ 54
module _ (a h e c t : ℕ) (A : a ≡ h * h + e) (H : Halves h e c t) where
  pub kept : c * c ≤ t * 2 ^ 27 → IsRoot (a * 2 ^ 54) (h * 2 ^ 27 + c)
  kept k = rw A (root_kept h (2 ^ 27) e c t H.divides H.lower k)

  pub less : t * 2 ^ 27 < c * c → IsRoot (a * 2 ^ 54) (h * 2 ^ 27 + c - 1)
  less k = go c H.divides H.upper k
    where
      wide : 2 ^ 27 ≤ 2 * h
      wide = omega (arith, H.low)

      go : (x : ℕ) → e * 2 ^ 27 ≡ x * (2 * h) + t → x ≤ 2 ^ 27 → t * 2 ^ 27 < x * x
          → IsRoot (a * 2 ^ 54) (h * 2 ^ 27 + x - 1)
      go zero d u l = absurd (omega arith)
      go (suc x) d u l =
          let p : h * 2 ^ 27 + suc x - 1 ≡ h * 2 ^ 27 + x = omega arith in
          rw (p, A) (root_less h (2 ^ 27) e x t d wide u l)
