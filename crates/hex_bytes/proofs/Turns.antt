-- A turn of each loop, and its end: what is still to be stored from here is the whole from the start. Assumes nothing.
use mathlib.Core.Path.{◌≡◌, refl, ap, ◌∙◌}
use mathlib.Core.Bool.{true}
use mathlib.Core.List.{List, [], ◌∷◌, ◌++◌, map, append-nil}
use Prim.Native.Nat.{ℕ, zero, suc, ◌+◌, ◌-◌, ◌*◌, ◌/◌, ◌%◌, ◌≤◌, ◌<◌}
use native.Mathlib.Nat.{zero-add, add-zero}
use native.Mathlib.Numerals.{add-one}
use native.Mathlib.Omega.{arith}
use lib.ListN.{length, get_or, take, drop, set, length-drop, length-map, drop_of_length-le}
use lib.Seq.{take_all, drop-cons, get_or-drop}
use lib.Seq.{sets, sets-eq}
use Rattle.hex_bytes.specs.Hex.{is_digit_of, all_digits_of, value_of, pairs_of, bytes_of, digit_of, hex_of, fill}
use Rattle.hex_bytes.specs.Steps.{nibbles_of}
use Rattle.hex_bytes.proofs.Digits.{and_left, and_right}
use Rattle.hex_bytes.proofs.Pair.{digit_lt}
use Rattle.hex_bytes.proofs.Laws.{length_hex}

-- ---- decoding: characters that are digits
pub each_digit : (line : List ℕ) (k : ℕ) → all_digits_of line ≡ true → k < length line
    → is_digit_of (get_or line k 0) ≡ true
each_digit [] k h l = absurd (none k l)
  where
    none : (k : ℕ) → k < 0 → ⊥
    none k l = omega arith
each_digit (c ∷ line) zero h l = and_left (is_digit_of c) (all_digits_of line) h
each_digit (c ∷ line) (suc k) h l = each_digit line k (and_right (is_digit_of c) (all_digits_of line) h) (omega arith)

-- ---- decoding: characters two by two
two : (l : List ℕ) (i j : ℕ) → i + 1 < length l → j ≡ i + 2 → drop i l ≡ get_or l i 0 ∷ get_or l (i + 1) 0 ∷ drop j l
two l i j h e =
    let h₀ : i < length l = omega arith in
    let f : suc (suc i) ≡ j = omega arith in
    drop-cons l i 0 h₀
    ∙ ap (λ (x : List ℕ). get_or l i 0 ∷ x) (rw (← add-one i) (drop-cons l (i + 1) 0 h ∙ rw (add-one i, f)))

-- a slice from a place on
module _ (l : List ℕ) (a k : ℕ) (h : a + k < length l) where
  abbrev part : List ℕ
  part = take (length l - a) (drop a l)

  part_is : part ≡ drop a l
  part_is = take_all (length l - a) (drop a l) (rw (length-drop a l) (omega arith))

  pub in_part : k < length part
  in_part = rw (part_is, length-drop a l) (omega arith)

  pub part_at : get_or part k 0 ≡ get_or l (a + k) 0
  part_at = rw part_is (get_or-drop a l k 0)

-- two digits read side by side
module _ (line : List ℕ) (i r : ℕ) (all : all_digits_of line ≡ true) (h : i < length line / 2) where
  abbrev rest : List ℕ
  rest = take (length line - 2 * i) (drop (2 * i) line)

  module _ (e : r ≡ get_or rest 0 0 + get_or rest 1 0 * 0x100) where
    first_at : get_or rest 0 0 ≡ get_or line (2 * i) 0
    first_at = rw (part_at line (2 * i) 0 (omega arith), add-zero (2 * i))

    second_at : get_or rest 1 0 ≡ get_or line (2 * i + 1) 0
    second_at = part_at line (2 * i) 1 (omega arith)

    first_digit : is_digit_of (get_or line (2 * i) 0) ≡ true
    first_digit = each_digit line (2 * i) all (omega arith)

    second_digit : is_digit_of (get_or line (2 * i + 1) 0) ≡ true
    second_digit = each_digit line (2 * i + 1) all (omega arith)

    pub lower : r % 0x100 ≡ get_or line (2 * i) 0
    lower =
        halved (get_or line (2 * i) 0) (get_or line (2 * i + 1) 0) (e ∙ rw (first_at, second_at))
        (digit_lt (get_or line (2 * i) 0) first_digit)
      where
        halved : (a b : ℕ) → r ≡ a + b * 0x100 → a < 80 → r % 0x100 ≡ a
        halved a b f l = omega arith

    pub upper : r / 0x100 ≡ get_or line (2 * i + 1) 0
    upper =
        halved (get_or line (2 * i) 0) (get_or line (2 * i + 1) 0) (e ∙ rw (first_at, second_at))
        (digit_lt (get_or line (2 * i) 0) first_digit)
      where
        halved : (a b : ℕ) → r ≡ a + b * 0x100 → a < 80 → r / 0x100 ≡ b
        halved a b f l = omega arith

    pub both_digits : (is_digit_of (r % 0x100) ≡ true) × (is_digit_of (r / 0x100) ≡ true)
    both_digits = rw (lower, upper) (first_digit, second_digit)

pub paired : (line bytes : List ℕ) (i b : ℕ) → i < length line / 2
    → b ≡ 16 * value_of (get_or line (2 * i) 0) + value_of (get_or line (2 * i + 1) 0)
    → sets (set bytes i b) (i + 1) (bytes_of (drop (2 * (i + 1)) line)) ≡ sets bytes i (bytes_of (drop (2 * i) line))
paired line bytes i b h e = rw (two line (2 * i) (2 * (i + 1)) (omega arith) (omega arith), add-one i, e)

pub length_pairs : (vs : List ℕ) → length (pairs_of vs) ≡ length vs / 2
length_pairs [] = omega arith
length_pairs (a ∷ []) = omega arith
length_pairs (a ∷ b ∷ vs) = let h : length (pairs_of vs) ≡ length vs / 2 = length_pairs vs in omega arith

pub length_bytes : (line : List ℕ) → length (bytes_of line) ≡ length line / 2
length_bytes line = length_pairs (map value_of line) ∙ rw (length-map line value_of)

-- no byte is left where fewer than two characters are
pub all_paired : (line bytes : List ℕ) (i : ℕ) → length line / 2 ≤ i
    → bytes ≡ sets bytes i (bytes_of (drop (2 * i) line))
all_paired line bytes i h =
    rw (empty (bytes_of (drop (2 * i) line))
    (omega (arith, length_bytes (drop (2 * i) line), length-drop (2 * i) line)))
  where
    empty : (xs : List ℕ) → length xs ≡ 0 → xs ≡ []
    empty [] e = refl
    empty (x ∷ xs) e = absurd (some (length xs) e)
      where
        some : (n : ℕ) → suc n ≡ 0 → ⊥
        some n e = omega arith

-- ---- encoding: the values of the digits
pub halved : (bytes reply : List ℕ) (i : ℕ) → i < length bytes
    → sets (set (set reply (2 * i) (get_or bytes i 0 / 16)) (2 * i + 1) (get_or bytes i 0 % 16)) (2 * (i + 1))
    (nibbles_of (drop (i + 1) bytes))
    ≡ sets reply (2 * i) (nibbles_of (drop i bytes))
halved bytes reply i h =
    let e : 2 * (i + 1) ≡ suc (suc (2 * i)) = omega arith in
    rw (e, add-one (2 * i), add-one i, drop-cons bytes i 0 h)

pub all_halved : (bytes reply : List ℕ) (i : ℕ) → length bytes ≤ i
    → reply ≡ sets reply (2 * i) (nibbles_of (drop i bytes))
all_halved bytes reply i h = rw (drop_of_length-le bytes h)

-- ---- encoding: from values to digits, in place
-- digits before a place, and from it on what was there
abbrev pub digits_to : List ℕ → ℕ → List ℕ
digits_to l i = map digit_of (take i l) ++ drop i l

next_digit : (l : List ℕ) (i : ℕ) → i < length l
    → set (digits_to l i) i (digit_of (get_or (digits_to l i) i 0)) ≡ digits_to l (suc i)
next_digit [] i h = absurd (omega arith)
next_digit (x ∷ l) zero h = refl
next_digit (x ∷ l) (suc i) h =
    let k : i < length l = omega arith in
    ap (λ (r : List ℕ). digit_of x ∷ r) (next_digit l i k)

pub spelt : (l places : List ℕ) (i : ℕ) → i < length l → places ≡ digits_to l i
    → set places i (digit_of (get_or places i 0)) ≡ digits_to l (i + 1)
spelt l places i h e = rw (e, add-one i) (next_digit l i h)

-- ---- lengths, and stores from the first place on
pub length_nibbles : (bytes : List ℕ) → length (nibbles_of bytes) ≡ 2 * length bytes
length_nibbles [] = refl
length_nibbles (b ∷ bytes) = let h : length (nibbles_of bytes) ≡ 2 * length bytes = length_nibbles bytes in omega arith

pub nibble_lt : (bytes : List ℕ) → ((i : ℕ) → get_or bytes i 0 < 256) → (k : ℕ) → get_or (nibbles_of bytes) k 0 < 16
nibble_lt [] h k = omega arith
nibble_lt (b ∷ bytes) h zero = let g : b < 256 = h 0 in omega arith
nibble_lt (b ∷ bytes) h (suc zero) = omega arith
nibble_lt (b ∷ bytes) h (suc (suc k)) = nibble_lt bytes (λ i. h (suc i)) k

-- a byte's characters are the digits of its two values
spelling : (bytes : List ℕ) → map digit_of (nibbles_of bytes) ≡ hex_of bytes
spelling [] = refl
spelling (b ∷ bytes) = ap (λ (x : List ℕ). digit_of (b / 16) ∷ digit_of (b % 16) ∷ x) (spelling bytes)

pub sets-fill : (xs lent : List ℕ) → length xs ≤ length lent → sets lent 0 xs ≡ fill xs lent
sets-fill xs lent h =
    let h₀ : 0 + length xs ≤ length lent = omega arith in sets-eq xs lent 0 h₀ ∙ rw (zero-add (length xs))

-- stores into all places
pub sets-all : (xs lent : List ℕ) → length lent ≡ length xs → sets lent 0 xs ≡ xs
sets-all xs lent h =
    let h₀ : length xs ≤ length lent = omega arith in
    let h₁ : length lent ≤ length xs = omega arith in
    sets-fill xs lent h₀ ∙ rw (drop_of_length-le lent h₁) (append-nil xs)

-- ---- the ways out
pub encoded : (bytes lent : List ℕ)
    → map digit_of (nibbles_of bytes) ++ drop (2 * length bytes) lent ≡ fill (hex_of bytes) lent
encoded bytes lent = rw (spelling bytes, length_hex bytes)

-- what `encode` stands on
pub ruleset encoding = (encoded, nibble_lt)

pub decoded : (line lent : List ℕ) → bytes_of line ++ drop (length line / 2) lent ≡ fill (bytes_of line) lent
decoded line lent = rw (length_bytes line)
