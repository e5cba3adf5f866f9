-- From the bits of a finite number above zero to the bits of its root. The number is m * 2 ^ k units. A subnormal m is
-- brought up to 53 digits by its leading zeros, and one place more where the power of two that is left is odd;
-- the root of what that gives, times 2 ^ 54, has 54 digits, and `proofs/Rounded.antt` rounds it. Assumes nothing.
use mathlib.Core.Path.{◌≡◌, sym, ap, ◌∙◌, subst}
use Prim.Native.Nat.{ℕ, zero, suc, ◌+◌, ◌-◌, ◌*◌, ◌/◌, ◌%◌, ◌^◌, ◌≤◌, ◌<◌, suc-le-suc}
use native.Mathlib.Nat.{le_trans, le_of_eq, le_of_lt, lt_of_lt_of_le, lt_of_not-le, not-le_of_lt, le_of_suc-le-suc}
use native.Mathlib.Nat.{mul_assoc, mul-le-mul_right, mul-one, mod-eq_of_lt}
use native.Mathlib.Omega.{arith}
use mathlib.Core.Bool.{false}
use lib.Pow.{pow-add, pow_mono, shl_lt, shl_exact}
use lib.Count.{count_leading_zeros, leading_top}
use lib.Ieee.{binary64, units}
use Rattle.sqrt.specs.Sqrt.{IsRoot, nearest_root}
use Rattle.sqrt.specs.Steps.{Radicand, Parts, Digits, RootBits}
use Rattle.sqrt.proofs.Squares.{between_squares}
use Rattle.sqrt.proofs.Rounded.{nearest_root_at}
use Rattle.sqrt.proofs.Units.{of_bits_units}

-- ---- the number's parts
pub parts_low : (bits m k : ℕ) → Parts bits m k → bits < 0x7ff0_0000_0000_0000 → k ≤ 2045
parts_low bits m zero p h = omega arith
parts_low bits m (suc k) p h = let l : 2 ^ 52 ≤ m = p.full (omega arith) in omega (arith, p.sum)

-- m and k are the only ones
not_less : (bits m k m' k' : ℕ) → Parts bits m k → Parts bits m' k' → k < k' → ⊥
not_less bits m k m' k' p p' h = let l : 2 ^ 52 ≤ m' = p'.full (omega arith) in omega (arith, p.sum, p'.sum, p.few)

pub parts_one : (bits m k m' k' : ℕ) → Parts bits m k → Parts bits m' k' → (m ≡ m') × (k ≡ k')
parts_one bits m k m' k' p p' =
    let l : k ≤ k' = le_of_suc-le-suc (lt_of_not-le (λ (g : suc k' ≤ k). not_less bits m' k' m k p' p g)) in
    let g : k' ≤ k = le_of_suc-le-suc (lt_of_not-le (λ (g : suc k ≤ k'). not_less bits m k m' k' p p' g)) in
    (omega (arith, p.sum, p'.sum), omega arith)

-- ---- the shift
abbrev pub shift : ℕ → ℕ
shift m = count_leading_zeros 64 m - 11

record Shifts (m z : ℕ) : Type 0 where
  many : 11 ≤ z
  few : z - 11 ≤ 52
  low : 2 ^ 52 ≤ m * 2 ^ (z - 11)
  high : m * 2 ^ (z - 11) < 2 ^ 53

shifts_at : (m z j : ℕ) → z + suc j ≡ 64 → 2 ^ j ≤ m → m < 2 ^ suc j → m < 2 ^ 53 → Shifts m z
shifts_at m z j e lo hi l =
    let j_le : j < 53 = lt_of_not-le (λ (g : 53 ≤ j). not-le_of_lt l (le_trans (pow_mono g) lo)) in
    let s-is : j + (z - 11) ≡ 52 = omega arith in
    let s-is' : suc j + (z - 11) ≡ 53 = omega arith in
    record {
      many = omega arith;
      few = omega arith;
      low = subst (λ (x : ℕ). 2 ^ x ≤ m * 2 ^ (z - 11)) s-is
          (le_trans (le_of_eq (pow-add 2 j (z - 11))) (mul-le-mul_right (2 ^ (z - 11)) lo));
      high = subst (λ (x : ℕ). m * 2 ^ (z - 11) < 2 ^ x) s-is' (shl_lt (suc j) (z - 11) hi);
    }

shifts : (m : ℕ) → 0 < m → m < 2 ^ 53 → Shifts m (count_leading_zeros 64 m)
shifts m p h =
    let t = leading_top 64 m p (lt_of_lt_of_le h (pow_mono {i = 53} {j = 64} (omega arith))) in
    shifts_at m (count_leading_zeros 64 m) t.0 t.1 t.2 t.3 h

pub many_zeros : (m : ℕ) → 0 < m → m < 2 ^ 53 → 11 ≤ count_leading_zeros 64 m
many_zeros m p h = (shifts m p h).many

-- ---- 53 digits: of a subnormal number, and of any other
pub subnormal : (bits : ℕ) → 0 < bits → bits < 2 ^ 52 → Digits bits (bits * 2 ^ shift bits % 2 ^ 64) (1022 - shift bits)
subnormal bits p h =
    let f : bits < 2 ^ 53 = omega arith in
    let z = shifts bits p f in
    let q-is = mod-eq_of_lt (lt_of_lt_of_le z.high (pow_mono {i = 53} {j = 64} (omega arith))) in
    record {
      m = bits;
      k = 0;
      s = shift bits;
      parts = record { sum = omega arith; few = f; full = λ l. absurd (omega arith) };
      brought = q-is;
      few = z.few;
      low = rw q-is z.low;
      high = rw q-is z.high;
      power = left (shift bits) z.few;
    }
  where
    left : (s : ℕ) → s ≤ 52 → 1022 - s + s ≡ 0 + 1022
    left s l = omega arith

pub normal : (bits : ℕ) → 2 ^ 52 ≤ bits → Digits bits (bits % 2 ^ 52 + 2 ^ 52) (bits / 2 ^ 52 + 1021)
normal bits h =
    record {
      m = bits % 2 ^ 52 + 2 ^ 52;
      k = bits / 2 ^ 52 - 1;
      s = 0;
      parts = record { sum = omega arith; few = omega arith; full = λ l. omega arith };
      brought = sym (mul-one (bits % 2 ^ 52 + 2 ^ 52));
      few = omega arith;
      low = omega arith;
      high = omega arith;
      power = omega arith;
    }

-- all that `parts` rests on
pub ruleset in_digits = (many_zeros, subnormal, normal)

-- ---- what the integer root is taken of: one place more where the power of two is odd
abbrev pub shifted : ℕ → ℕ → ℕ
shifted q e = q * 2 ^ (e % 2) % 2 ^ 64

two_values : (z : ℕ) → z % 2 ≤ 1
two_values z = omega arith

shifted_is : (q e : ℕ) → q < 2 ^ 53 → shifted q e ≡ q * 2 ^ (e % 2)
shifted_is q e h = shl_exact 53 (e % 2) 64 h (room (e % 2) (two_values e))
  where
    room : (d : ℕ) → d ≤ 1 → 53 + d ≤ 64
    room d l = omega arith

doubled : (q d : ℕ) → d ≤ 1 → 2 ^ 52 ≤ q → q < 2 ^ 53 → Radicand (q * 2 ^ d)
doubled q zero l lo hi = rw (mul-one q) (record { low = lo; high = omega arith })
doubled q (suc zero) l lo hi = record { low = omega arith; high = omega arith }
doubled q (suc (suc d)) l lo hi = absurd (omega arith)

pub shifted_radicand : (q e : ℕ) → 2 ^ 52 ≤ q → q < 2 ^ 53 → Radicand (shifted q e)
shifted_radicand q e lo hi = subst Radicand (sym (shifted_is q e hi)) (doubled q (e % 2) (two_values e) lo hi)

-- ---- the 54 digits of its root
pub digits_low : (a r : ℕ) → Radicand a → IsRoot (a * 2 ^ 54) r → 2 ^ 53 ≤ r
digits_low a r A H =
    le_of_suc-le-suc (between_squares (2 ^ 53) (a * 2 ^ 54) (suc r) (mul-le-mul_right (2 ^ 54) A.low) H.over)

-- not all of them are 1, so that rounding up adds no digit
pub digits-high : (a r : ℕ) → Radicand a → IsRoot (a * 2 ^ 54) r → suc r < 2 ^ 54
digits-high a r A H =
    suc-le-suc
    (between_squares r (a * 2 ^ 54) (2 ^ 54 - 1) H.under (under a (2 ^ 54 - 1) (le_of_suc-le-suc A.high)))
  where
    under : (a p : ℕ) → a < p → a * suc p < p * p
    under a p h = let l : suc a * p ≤ p * p = mul-le-mul_right p h in omega arith

-- ---- the powers of two add up
powers : (m k s d K N L : ℕ) → s + d + N + (K + K) ≡ k + L
    → m * 2 ^ k * 2 ^ L ≡ m * 2 ^ s * 2 ^ d * 2 ^ N * (2 ^ K * 2 ^ K)
powers m k s d K N L e =
    joined m k L ∙ ap (λ (x : ℕ). m * 2 ^ x) (sym e)
    ∙ sym (ap (λ (x : ℕ). m * 2 ^ s * 2 ^ d * 2 ^ N * x) (sym (pow-add 2 K K))
    ∙ ap (λ (x : ℕ). x * 2 ^ N * 2 ^ (K + K)) (joined m s d) ∙ ap (λ (x : ℕ). x * 2 ^ (K + K)) (joined m (s + d) N)
    ∙ joined m (s + d + N) (K + K))
  where
    joined : (m a b : ℕ) → m * 2 ^ a * 2 ^ b ≡ m * 2 ^ (a + b)
    joined m a b = mul_assoc m (2 ^ a) (2 ^ b) ∙ ap (λ (x : ℕ). m * x) (sym (pow-add 2 a b))

-- ---- the root, and its bits
half_power : (e k s : ℕ) → s ≤ 52 → e + s ≡ k + 1022 → s + e % 2 + 54 + (e / 2 - 1 + (e / 2 - 1)) ≡ k + 1074
half_power e k s l h = omega arith

pub half_most : (bits q e : ℕ) → Digits bits q e → bits < 0x7ff0_0000_0000_0000 → e / 2 ≤ 1533
half_most bits q e N hi = most N.k N.s (parts_low bits N.m N.k N.parts hi) N.power
  where
    most : (k s : ℕ) → k ≤ 2045 → e + s ≡ k + 1022 → e / 2 ≤ 1533
    most k s l h = omega arith

module _ (bits q e r : ℕ) (N : Digits bits q e) (H : IsRoot (shifted q e * 2 ^ 54) r) where
  taken : Radicand (shifted q e)
  taken = shifted_radicand q e N.low N.high

  nearest_is : nearest_root (N.m * 2 ^ N.k * 2 ^ 1074) ≡ units binary64 false ((r + 1) / 2) (e / 2)
  nearest_is =
      let a = shifted q e in
      let K = e / 2 - 1 in
      let w_is : N.m * 2 ^ N.k * 2 ^ 1074 ≡ a * 2 ^ 54 * (2 ^ K * 2 ^ K) =
      powers N.m N.k N.s (e % 2) K 54 1074 (half_power e N.k N.s N.few N.power)
      ∙ ap (λ (x : ℕ). x * 2 ^ (e % 2) * 2 ^ 54 * (2 ^ K * 2 ^ K)) (sym N.brought)
      ∙ ap (λ (x : ℕ). x * 2 ^ 54 * (2 ^ K * 2 ^ K)) (sym (shifted_is q e N.high)) in
      ap nearest_root w_is
      ∙ nearest_root_at (a * 2 ^ 54) r K (even a) H (digits_low a r taken H) (le_of_lt (digits-high a r taken H))
      ∙ ap (units binary64 false ((r + 1) / 2)) (back e (large e N.k N.s N.few N.power))
    where
      even : (a : ℕ) → a * 2 ^ 54 % 2 ≡ 0
      even a = omega arith

      large : (e k s : ℕ) → s ≤ 52 → e + s ≡ k + 1022 → 2 ≤ e
      large e k s l h = omega arith

      back : (e : ℕ) → 2 ≤ e → suc (e / 2 - 1) ≡ e / 2
      back e l = omega arith

  pub root_bits_lem : bits < 0x7ff0_0000_0000_0000 → RootBits bits (e / 2 * 2 ^ 52 + (r + 1) / 2)
  root_bits_lem hi =
      let a = shifted q e in
      let q_low : 2 ^ 52 ≤ (r + 1) / 2 = half-low r (digits_low a r taken H) in
      let q-high : (r + 1) / 2 < 2 ^ 53 = half_high r (digits-high a r taken H) in
      let e-low = half_most bits q e N hi in
      record {
        finite = under ((r + 1) / 2) (e / 2) q-high e-low;
        root = λ m' k' P'.
            let one = parts_one bits N.m N.k m' k' N.parts P' in
            of_bits_units ((r + 1) / 2) (e / 2) q_low q-high (le_trans e-low (omega arith))
            ∙ sym nearest_is
            ∙ ap (λ (x : ℕ). nearest_root (x * 2 ^ N.k * 2 ^ 1074)) one.0
            ∙ ap (λ (x : ℕ). nearest_root (m' * 2 ^ x * 2 ^ 1074)) one.1;
      }
    where
      half-low : (r : ℕ) → 2 ^ 53 ≤ r → 2 ^ 52 ≤ (r + 1) / 2
      half-low r l = omega arith

      half_high : (r : ℕ) → suc r < 2 ^ 54 → (r + 1) / 2 < 2 ^ 53
      half_high r l = omega arith

      under : (q e : ℕ) → q < 2 ^ 53 → e ≤ 1533 → e * 2 ^ 52 + q < 0x7ff0_0000_0000_0000
      under q e l g = omega arith
