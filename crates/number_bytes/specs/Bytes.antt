-- Numbers in bytes, the highest first. Definitions only.
use Rattle.std.specs.Prelude.{List, [], ◌∷◌, ℕ, ◌+◌, ◌*◌, ◌/◌, ◌%◌, Float}
use Rattle.std.specs.Float.{binary64}
use Rattle.std.specs.Float.Ieee.{of_bits, to_bits}

-- the number that bytes stand for after those that stand for w
abbrev pub appended : ℕ → List ℕ → ℕ
appended w [] = w
appended w (b ∷ bs) = appended (256 * w + b) bs

abbrev pub word_of : List ℕ → ℕ
word_of bs = appended 0 bs

-- the eight bytes of a word below 2 ^ 64
abbrev pub word_bytes : ℕ → List ℕ
word_bytes w =
    w / 0x100_0000_0000_0000 % 256
    ∷ w / 0x1_0000_0000_0000 % 256
    ∷ w / 0x100_0000_0000 % 256
    ∷ w / 0x1_0000_0000 % 256
    ∷ w / 0x100_0000 % 256
    ∷ w / 0x1_0000 % 256
    ∷ w / 0x100 % 256
    ∷ w % 256
    ∷ []

-- the f64 whose bits eight bytes are
abbrev pub number_of : List ℕ → Float
number_of bs = of_bits binary64 (word_of bs)

-- the eight bytes of an f64's bits; all NaNs are one, 7FF8000000000000 hex
abbrev pub number_bytes_of : Float → List ℕ
number_bytes_of x = word_bytes (to_bits binary64 x)
