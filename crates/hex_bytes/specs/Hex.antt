-- Hexadecimal digits and bytes: two digits a byte, the higher half first. Definitions only.
use Rattle.std.specs.Prelude.{Bool, true, false, cond, ◌&&◌, ◌||◌, List, [], ◌∷◌, ◌++◌, map, ℕ, ◌+◌, ◌-◌, ◌*◌, ◌/◌, ◌%◌}
use Rattle.std.specs.Prelude.{eqb, leb, ltb, length, drop}

-- 0 to 9, and A to F; no lower case
abbrev pub is_decimal : ℕ → Bool
is_decimal c = leb 48 c && leb c 57

abbrev pub is_letter : ℕ → Bool
is_letter c = leb 65 c && leb c 70

abbrev pub is_digit_of : ℕ → Bool
is_digit_of c = is_decimal c || is_letter c

abbrev pub all_digits_of : List ℕ → Bool
all_digits_of [] = true
all_digits_of (c ∷ cs) = is_digit_of c && all_digits_of cs

-- the value of a digit; of any other character, 0
abbrev pub value_of : ℕ → ℕ
value_of c = cond (is_decimal c) (c - 48) (cond (is_letter c) (c - 55) 0)

-- two values a byte; a last value without a second is left out
abbrev pub pairs_of : List ℕ → List ℕ
pairs_of [] = []
pairs_of (high ∷ []) = []
pairs_of (high ∷ low ∷ vs) = (16 * high + low) ∷ pairs_of vs

-- the bytes that characters stand for
abbrev pub bytes_of : List ℕ → List ℕ
bytes_of line = pairs_of (map value_of line)

-- the digit of a value below 16
abbrev pub digit_of : ℕ → ℕ
digit_of n = cond (ltb n 10) (n + 48) (n + 55)

-- the characters of bytes
abbrev pub hex_of : List ℕ → List ℕ
hex_of [] = []
hex_of (b ∷ bs) = digit_of (b / 16) ∷ digit_of (b % 16) ∷ hex_of bs

-- lent places, of which the first now hold xs
abbrev pub fill : List ℕ → List ℕ → List ℕ
fill xs lent = xs ++ drop (length xs) lent

-- an answer, and what lent places hold after it
pub record Filled : Type 0 where
  pub ok : Bool
  pub left : List ℕ

-- Whether all characters are digits, with their bytes in the first lent places and the others as they came.
-- No, and all places as they came, where the count of characters is odd or the places are fewer than the bytes.
unfoldable pub decode_of : List ℕ → List ℕ → Filled
decode_of line lent =
    cond (eqb (length line % 2) 1 || ltb (length lent) (length line / 2))
    (record { ok = false; left = lent })
    (record { ok = all_digits_of line; left = fill (bytes_of line) lent })

-- Yes, with the characters of the bytes in the first lent places, two a byte;
-- or no, and the places as they came, where these are too few.
unfoldable pub encode_of : List ℕ → List ℕ → Filled
encode_of bytes lent =
    cond (ltb (length lent / 2) (length bytes))
    (record { ok = false; left = lent })
    (record { ok = true; left = fill (hex_of bytes) lent })
