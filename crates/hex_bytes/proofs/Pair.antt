-- Two digits worked out side by side, in the lower and the upper half of one number. Assumes nothing.
use mathlib.Core.Path.{◌≡◌, refl, sym}
use mathlib.Core.Bool.{Bool, true, false, cond, ◌||◌, true≢false}
use Prim.Native.Nat.{ℕ, ◌+◌, ◌-◌, ◌*◌, ◌/◌, ◌%◌, ◌≤◌, ◌<◌}
use native.Mathlib.Omega.{arith}
use Rattle.hex_bytes.specs.Hex.{is_decimal, is_letter, is_digit_of, value_of}
use Rattle.hex_bytes.proofs.Digits.{from_low, to_high, value_lt}

-- a digit less 48 is its value, and 7 more where there is 16 in it
above : (c : ℕ) → is_digit_of c ≡ true → (x : ℕ) × (c ≡ x + 48) × (x ≡ value_of c + 7 * (x / 16)) × (x < 32)
above c h = let b = by (is_decimal c) (is_letter c) refl refl h in (c - 48, b.0, b.1, b.2)
  where
    decimal : 48 ≤ c → c ≤ 57 → (c ≡ c - 48 + 48) × (c - 48 ≡ c - 48 + 7 * ((c - 48) / 16)) × (c - 48 < 32)
    decimal l u = (omega arith, omega arith, omega arith)

    letter : 65 ≤ c → c ≤ 70 → (c ≡ c - 48 + 48) × (c - 48 ≡ c - 55 + 7 * ((c - 48) / 16)) × (c - 48 < 32)
    letter l u = (omega arith, omega arith, omega arith)

    by : (p q : Bool) → is_decimal c ≡ p → is_letter c ≡ q → p || q ≡ true
        → (c ≡ c - 48 + 48) × (c - 48 ≡ cond p (c - 48) (cond q (c - 55) 0) + 7 * ((c - 48) / 16)) × (c - 48 < 32)
    by true q d e o = decimal (from_low 48 57 c d) (to_high 48 57 c d)
    by false true d e o = letter (from_low 65 70 c e) (to_high 65 70 c e)
    by false false d e o = absurd (true≢false (sym o))

pub digit_lt : (c : ℕ) → is_digit_of c ≡ true → c < 80
digit_lt c h = let a = above c h in omega (arith, a.1, a.3)

abbrev pub letters_of : ℕ → ℕ
letters_of both = both / 0x10 % 2 + both / 0x1000 % 2 * 0x100

module _ (x y m n : ℕ) (e : x ≡ m + 7 * (x / 16)) (f : y ≡ n + 7 * (y / 16)) (g : x < 32) (h : y < 32) where
  abbrev both : ℕ
  both = x + y * 0x100

  lower : both / 0x10 % 2 ≡ x / 16
  lower =
      let a : both / 0x10 ≡ x / 16 + 16 * y = omega arith in
      let b : x / 16 < 2 = omega arith in
      rw a (even (x / 16) y b)
    where
      even : (k y : ℕ) → k < 2 → (k + 16 * y) % 2 ≡ k
      even k y b = omega arith

  upper : both / 0x1000 % 2 ≡ y / 16
  upper =
      let a : both / 0x1000 ≡ y / 16 = omega arith in
      let b : y / 16 < 2 = omega arith in
      rw a (small (y / 16) b)
    where
      small : (k : ℕ) → k < 2 → k % 2 ≡ k
      small k b = omega arith

  pub values_are : both - 7 * letters_of both ≡ m + n * 0x100
  values_are = rw (lower, upper) (less x y m n (x / 16) (y / 16) e f)
    where
      less : (x y m n k l : ℕ) → x ≡ m + 7 * k → y ≡ n + 7 * l → x + y * 0x100 - 7 * (k + l * 0x100) ≡ m + n * 0x100
      less x y m n k l e f = omega arith

module _ (digits high low : ℕ) (d : digits ≡ high + low * 0x100) (h : is_digit_of high ≡ true)
    (l : is_digit_of low ≡ true) where
  pub from_0 : 0x3030 ≤ digits
  from_0 = omega (arith, d, (above high h).1, (above low l).1)

  abbrev less_0 : ℕ
  less_0 = digits - 0x3030

  abbrev values : ℕ
  values = less_0 - 7 * letters_of less_0

  side_by_side : values ≡ value_of high + value_of low * 0x100
  side_by_side =
      let a = above high h in
      let b = above low l in
      let e : less_0 ≡ a.0 + b.0 * 0x100 = omega (arith, d, a.1, b.1) in
      rw e (values_are a.0 b.0 (value_of high) (value_of low) a.2 b.2 a.3 b.3)

  -- no bit is lost
  pub small : values + values % 0x10 * 0x1000 < 0x1_0000
  small = rw side_by_side (fits (value_of high) (value_of low) (value_lt high) (value_lt low))
    where
      fits : (m n : ℕ) → m < 16 → n < 16 → m + n * 0x100 + (m + n * 0x100) % 0x10 * 0x1000 < 0x1_0000
      fits m n a b = omega arith

  pub byte_is : (values + values % 0x10 * 0x1000) / 0x100 ≡ 16 * value_of high + value_of low
  byte_is = rw side_by_side (joined (value_of high) (value_of low) (value_lt high) (value_lt low))
    where
      joined : (m n : ℕ) → m < 16 → n < 16 → (m + n * 0x100 + (m + n * 0x100) % 0x10 * 0x1000) / 0x100 ≡ 16 * m + n
      joined m n a b =
          let e : (m + n * 0x100) % 0x10 ≡ m = omega arith in
          rw e (omega arith)
