-- What a digit's tests say of its number, and the bound of its value. Assumes nothing.
use mathlib.Core.Path.{◌≡◌, refl, sym}
use mathlib.Core.Bool.{Bool, true, false, cond, ◌&&◌, ◌||◌, true≢false}
use Prim.Native.Nat.{ℕ, ◌+◌, ◌-◌, ◌≤◌, ◌<◌}
use native.Mathlib.Omega.{arith}
use lib.Dec.{leb, ltb}
use borrow.Author.Tests.{leb-true}
use Rattle.hex_bytes.specs.Hex.{is_decimal, is_letter, value_of, digit_of}

pub and_left : (a b : Bool) → a && b ≡ true → a ≡ true
and_left true b h = refl
and_left false b h = h

pub and_right : (a b : Bool) → a && b ≡ true → b ≡ true
and_right true b h = h
and_right false b h = absurd (true≢false (sym h))

pub or_right : (a b : Bool) → a || b ≡ false → b ≡ false
or_right true b h = absurd (true≢false h)
or_right false b h = h

-- the two ends of a test of a range
pub from_low : (l u c : ℕ) → leb l c && leb c u ≡ true → l ≤ c
from_low l u c h = leb-true l c (and_left (leb l c) (leb c u) h)

pub to_high : (l u c : ℕ) → leb l c && leb c u ≡ true → c ≤ u
to_high l u c h = leb-true c u (and_right (leb l c) (leb c u) h)

below : (p q : Bool) (x y : ℕ) → (p ≡ true → x < 16) → (q ≡ true → y < 16) → cond p x (cond q y 0) < 16
below true q x y f g = f refl
below false true x y f g = g refl
below false false x y f g = omega arith

pub value_lt : (c : ℕ) → value_of c < 16
value_lt c =
    below (is_decimal c) (is_letter c) (c - 48) (c - 55) (λ h. decimal (to_high 48 57 c h))
    (λ h. letter (to_high 65 70 c h))
  where
    decimal : c ≤ 57 → c - 48 < 16
    decimal h = omega arith

    letter : c ≤ 70 → c - 55 < 16
    letter h = omega arith

-- a digit by its gap
pub gap_le : (n : ℕ) → cond (ltb n 10) 0 7 ≤ 7
gap_le n = by (ltb n 10)
  where
    by : (b : Bool) → cond b 0 7 ≤ 7
    by true = omega arith
    by false = omega arith

pub digit_is : (n : ℕ) → n + 48 + cond (ltb n 10) 0 7 ≡ digit_of n
digit_is n = by (ltb n 10)
  where
    by : (b : Bool) → n + 48 + cond b 0 7 ≡ cond b (n + 48) (n + 55)
    by true = omega arith
    by false = omega arith
