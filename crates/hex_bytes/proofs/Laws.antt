-- Characters out and back: the characters of bytes are digits, two a byte, and stand for these bytes. Assumes nothing.
use mathlib.Core.Path.{◌≡◌, refl, ap}
use mathlib.Core.Bool.{Bool, true, false, cond}
use mathlib.Core.List.{List, [], ◌∷◌, ◌++◌}
use Prim.Native.Nat.{ℕ, suc, ◌+◌, ◌-◌, ◌*◌, ◌/◌, ◌%◌, ◌≤◌, ◌<◌}
use native.Mathlib.Omega.{arith}
use lib.Dec.{ltb}
use lib.ListN.{length, get_or}
use borrow.Author.Tests.{ltb-true, ltb-false, le-leb, lt-leb}
use Rattle.hex_bytes.specs.Hex.{is_digit_of, all_digits_of, value_of, bytes_of, digit_of, hex_of}

-- the digit of a value is a digit, and has this value
decimal : (n : ℕ) → n < 10 → (is_digit_of (n + 48) ≡ true) × (value_of (n + 48) ≡ n)
decimal n h =
    let a : 48 ≤ n + 48 = omega arith in
    let b : n + 48 ≤ 57 = omega arith in
    let e : n + 48 - 48 ≡ n = omega arith in
    rw (le-leb 48 (n + 48) a, le-leb (n + 48) 57 b) (refl, e)

letter : (n : ℕ) → 10 ≤ n → n < 16 → (is_digit_of (n + 55) ≡ true) × (value_of (n + 55) ≡ n)
letter n l h =
    let a : 48 ≤ n + 55 = omega arith in
    let b : 57 < n + 55 = omega arith in
    let c : 65 ≤ n + 55 = omega arith in
    let d : n + 55 ≤ 70 = omega arith in
    let e : n + 55 - 55 ≡ n = omega arith in
    rw (le-leb 48 (n + 55) a, lt-leb (n + 55) 57 b, le-leb 65 (n + 55) c, le-leb (n + 55) 70 d) (refl, e)

digit_of_lem : (n : ℕ) → n < 16 → (is_digit_of (digit_of n) ≡ true) × (value_of (digit_of n) ≡ n)
digit_of_lem n h = by (ltb n 10) refl
  where
    by : (t : Bool) → ltb n 10 ≡ t
        → (is_digit_of (cond t (n + 48) (n + 55)) ≡ true) × (value_of (cond t (n + 48) (n + 55)) ≡ n)
    by true e = decimal n (ltb-true n 10 e)
    by false e = letter n (ltb-false n 10 e) h

module _ (b : ℕ) (h : b < 256) where
  high : b / 16 < 16
  high = omega arith

  low : b % 16 < 16
  low = omega arith

  whole : 16 * (b / 16) + b % 16 ≡ b
  whole = omega arith

pub all_digits : (bytes : List ℕ) → ((i : ℕ) → get_or bytes i 0 < 256) → all_digits_of (hex_of bytes) ≡ true
all_digits [] h = refl
all_digits (b ∷ bytes) h =
    rw ((digit_of_lem (b / 16) (high b (h 0))).0, (digit_of_lem (b % 16) (low b (h 0))).0)
    (all_digits bytes (λ i. h (suc i)))

pub bytes_back : (bytes : List ℕ) → ((i : ℕ) → get_or bytes i 0 < 256) → bytes_of (hex_of bytes) ≡ bytes
bytes_back [] h = refl
bytes_back (b ∷ bytes) h =
    rw ((digit_of_lem (b / 16) (high b (h 0))).1, (digit_of_lem (b % 16) (low b (h 0))).1, whole b (h 0))
    (ap (λ (r : List ℕ). b ∷ r) (bytes_back bytes (λ i. h (suc i))))

pub length_hex : (bytes : List ℕ) → length (hex_of bytes) ≡ 2 * length bytes
length_hex [] = refl
length_hex (b ∷ bytes) = let h : length (hex_of bytes) ≡ 2 * length bytes = length_hex bytes in omega arith

pub hex_append : (xs ys : List ℕ) → hex_of (xs ++ ys) ≡ hex_of xs ++ hex_of ys
hex_append [] ys = refl
hex_append (b ∷ xs) ys = rw (hex_append xs ys)
