-- `nearest_root` from a whole root of 54 digits: where w is b * 4 ^ K for an even b, and r is the whole part of √b and
-- has 54 digits, the nearest f64 to √w units is (r + 1) / 2 * 2 ^ (K + 1) units. The last digit of r says whether √b is
-- above or below the middle, and no tie can be: the middle's square is odd. Assumes nothing.
use mathlib.Core.Path.{◌≡◌, refl, sym, ap, ◌∙◌, subst}
use Prim.Native.Nat.{ℕ, zero, suc, ◌+◌, ◌-◌, ◌*◌, ◌/◌, ◌%◌, ◌^◌, ◌≤◌, ◌<◌, compare, Ordering}
use native.Mathlib.Nat.{le_trans, le_of_eq, le_of_lt, le_antisymm, le_of_suc-le-suc, lt_of_lt_of_le, lt_of_not-le}
use native.Mathlib.Nat.{not-le_of_lt, lt_irrefl, mul-le-mul_right, mul-lt-mul_of_pos_right, mul-pos, le-div_iff_mul-le}
use native.Mathlib.Nat.{div-lt_iff_lt-mul, div-div-eq-div-mul, pow-suc}
use native.Mathlib.Omega.{arith}
use mathlib.Core.Bool.{false, not}
use lib.Dec.{T, is_le, compare_is_eq, leb→le, nleb→lt, eqb→eq}
use lib.Pow.{pow-add, pow_pos, pow_mono}
use lib.Ieee.{binary64, size, nearest, units}
use lib.Ieee.Digits.{size-lt, size-le}
use Rattle.sqrt.specs.Sqrt.{IsRoot, root, nearest_root}
use Rattle.sqrt.proofs.Root.{root-under, root_largest}
use Rattle.sqrt.proofs.Squares.{between_squares, square_product}

-- ---- what `compare` answers
pub compare-lt : (a b : ℕ) → a < b → compare a b ≡ Ordering.lt
compare-lt a b h = go (compare a b) (nleb→lt a b) (eqb→eq a b)
  where
    go : (o : Ordering) → (T (not (is_le o)) → b < a) → (T (compare_is_eq o) → a ≡ b) → o ≡ Ordering.lt
    go Ordering.lt g e = refl
    go Ordering.eq g e = absurd (lt_irrefl b (subst (λ (x : ℕ). x < b) (e tt) h))
    go Ordering.gt g e = absurd (not-le_of_lt h (le_of_lt (g tt)))

pub compare_gt : (a b : ℕ) → b < a → compare a b ≡ Ordering.gt
compare_gt a b h = go (compare a b) (leb→le a b)
  where
    go : (o : Ordering) → (T (is_le o) → a ≤ b) → o ≡ Ordering.gt
    go Ordering.lt g = absurd (not-le_of_lt h (g tt))
    go Ordering.eq g = absurd (not-le_of_lt h (g tt))
    go Ordering.gt g = refl

-- ---- `nearest_root` from the digits that it drops and the number that it keeps
abbrev pub middle : ℕ → ℕ → ℕ
middle q k = (2 * q + 1) * 2 ^ k

abbrev pub rounded : ℕ → ℕ → ℕ → ℕ
rounded w q k = nearest q (compare (4 * w) (middle q k * middle q k))

pub nearest_root_is : (w : ℕ)
    → nearest_root w ≡ (let k = size (root w) - 53 in units binary64 false (rounded w (root w / 2 ^ k) k) k)
unfolding nearest_root
nearest_root_is w = refl

-- a number between two powers of two has that many digits
pub size_is : (n d : ℕ) → 2 ^ d ≤ n → n < 2 ^ suc d → size n ≡ suc d
size_is n d lo hi = le_antisymm (size-le n (suc d) hi)
    (lt_of_not-le (λ (g : size n ≤ d). not-le_of_lt (lt_of_lt_of_le (size-lt n) (pow_mono g)) lo))

-- ---- the root of b * 4 ^ K
module _ (b r K : ℕ) (h : IsRoot b r) where
  scaled_low : r * 2 ^ K ≤ root (b * (2 ^ K * 2 ^ K))
  scaled_low = root_largest (r * 2 ^ K) (b * (2 ^ K * 2 ^ K))
      (le_trans (le_of_eq (square_product r (2 ^ K))) (mul-le-mul_right (2 ^ K * 2 ^ K) h.under))

  scaled_high : root (b * (2 ^ K * 2 ^ K)) < suc r * 2 ^ K
  scaled_high =
      between_squares (root (b * (2 ^ K * 2 ^ K))) (b * (2 ^ K * 2 ^ K)) (suc r * 2 ^ K)
      (root-under (b * (2 ^ K * 2 ^ K)))
      (lt_of_lt_of_le (mul-lt-mul_of_pos_right h.over (mul-pos (pow_pos K) (pow_pos K)))
      (le_of_eq (sym (square_product (suc r) (2 ^ K)))))

  scaled_kept : root (b * (2 ^ K * 2 ^ K)) / 2 ^ K ≡ r
  scaled_kept = le_antisymm (le_of_suc-le-suc ((div-lt_iff_lt-mul (pow_pos K)).1 scaled_high))
      ((le-div_iff_mul-le (pow_pos K)).1 scaled_low)

  scaled_size : 2 ^ 53 ≤ r → r < 2 ^ 54 → size (root (b * (2 ^ K * 2 ^ K))) ≡ suc (53 + K)
  scaled_size lo hi =
      size_is (root (b * (2 ^ K * 2 ^ K))) (53 + K)
      (le_trans (le_of_eq (pow-add 2 53 K)) (le_trans (mul-le-mul_right (2 ^ K) lo) scaled_low))
      (lt_of_lt_of_le scaled_high
      (le_trans (mul-le-mul_right (2 ^ K) hi) (le_of_eq (sym (pow-add 2 54 K) ∙ ap (λ (x : ℕ). 2 ^ x) (next K)))))
    where
      next : (z : ℕ) → 54 + z ≡ suc (53 + z)
      next z = omega arith

-- ---- the last digit of r decides
twice_square : (q P : ℕ) → (2 * q + 1) * (P * 2) * ((2 * q + 1) * (P * 2)) ≡ 4 * ((2 * q + 1) * (2 * q + 1) * (P * P))
twice_square q P = omega arith

four_le : {x y : ℕ} → x < y → 4 * x < 4 * y
four_le h = omega arith

odd_square : (q b : ℕ) → b % 2 ≡ 0 → (2 * q + 1) * (2 * q + 1) ≤ b → (2 * q + 1) * (2 * q + 1) < b
odd_square q b e h = omega arith

decides : (b r K : ℕ) → b % 2 ≡ 0 → IsRoot b r → rounded (b * (2 ^ K * 2 ^ K)) (r / 2) (suc K) ≡ (r + 1) / 2
decides b r K e h = go (r % 2) refl (mod_two r)
  where
    mod_two : (z : ℕ) → z % 2 < 2
    mod_two z = omega arith

    u_pos : 0 < 2 ^ K * 2 ^ K
    u_pos = mul-pos (pow_pos K) (pow_pos K)

    form : middle (r / 2) (suc K) * middle (r / 2) (suc K)
        ≡ 4 * ((2 * (r / 2) + 1) * (2 * (r / 2) + 1) * (2 ^ K * 2 ^ K))
    form = ap (λ (x : ℕ). (2 * (r / 2) + 1) * x * ((2 * (r / 2) + 1) * x)) (pow-suc 2 K) ∙ twice_square (r / 2) (2 ^ K)

    below : b < (2 * (r / 2) + 1) * (2 * (r / 2) + 1) → rounded (b * (2 ^ K * 2 ^ K)) (r / 2) (suc K) ≡ r / 2
    below l = ap (λ (x : ℕ). nearest (r / 2) (compare (4 * (b * (2 ^ K * 2 ^ K))) x)) form
        ∙ ap (nearest (r / 2)) (compare-lt _ _ (four_le (mul-lt-mul_of_pos_right l u_pos)))

    above : (2 * (r / 2) + 1) * (2 * (r / 2) + 1) < b → rounded (b * (2 ^ K * 2 ^ K)) (r / 2) (suc K) ≡ suc (r / 2)
    above l = ap (λ (x : ℕ). nearest (r / 2) (compare (4 * (b * (2 ^ K * 2 ^ K))) x)) form
        ∙ ap (nearest (r / 2)) (compare_gt _ _ (four_le (mul-lt-mul_of_pos_right l u_pos)))

    even : r % 2 ≡ 0 → suc r ≡ 2 * (r / 2) + 1
    even z = omega arith

    odd : r % 2 ≡ 1 → r ≡ 2 * (r / 2) + 1
    odd z = omega arith

    half_even : r % 2 ≡ 0 → r / 2 ≡ (r + 1) / 2
    half_even z = omega arith

    half_odd : r % 2 ≡ 1 → suc (r / 2) ≡ (r + 1) / 2
    half_odd z = omega arith

    go : (d : ℕ) → r % 2 ≡ d → d < 2 → rounded (b * (2 ^ K * 2 ^ K)) (r / 2) (suc K) ≡ (r + 1) / 2
    go zero z l = below (subst (λ (x : ℕ). b < x * x) (even z) h.over) ∙ half_even z
    go (suc zero) z l = above (odd_square (r / 2) b e (subst (λ (x : ℕ). x * x ≤ b) (odd z) h.under)) ∙ half_odd z
    go (suc (suc d)) z l = absurd (omega arith)

pub nearest_root_at : (b r K : ℕ) → b % 2 ≡ 0 → IsRoot b r → 2 ^ 53 ≤ r → r < 2 ^ 54
    → nearest_root (b * (2 ^ K * 2 ^ K)) ≡ units binary64 false ((r + 1) / 2) (suc K)
nearest_root_at b r K e h lo hi =
    let w = b * (2 ^ K * 2 ^ K) in
    let k_is : size (root w) - 53 ≡ suc K = ap (λ (z : ℕ). z - 53) (scaled_size b r K h lo hi) ∙ less K in
    let q-is : root w / 2 ^ suc K ≡ r / 2 =
    ap (λ (z : ℕ). root w / z) (pow-suc 2 K) ∙ sym (div-div-eq-div-mul (root w) (2 ^ K) 2)
    ∙ ap (λ (z : ℕ). z / 2) (scaled_kept b r K h) in
    nearest_root_is w
    ∙ ap (λ (k : ℕ). units binary64 false (rounded w (root w / 2 ^ k) k) k) k_is
    ∙ ap (λ (q : ℕ). units binary64 false (rounded w q (suc K)) (suc K)) q-is
    ∙ ap (λ (z : ℕ). units binary64 false z (suc K)) (decides b r K e h)
  where
    less : (z : ℕ) → suc (53 + z) - 53 ≡ suc z
    less z = omega arith
