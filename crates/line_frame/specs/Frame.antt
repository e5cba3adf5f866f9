-- A line's frame: its bytes, and the numbers in them. Definitions only.
use Rattle.std.specs.Prelude.{Bool, true, ◌&&◌, List, [], ◌∷◌, ℕ, zero, suc, ◌+◌, get_or, Float}
use Rattle.std.specs.Float.{binary64}
use Rattle.std.specs.Float.Ieee.{of_bits}
use Rattle.std.specs.Float.Ieee.Scale.{finite}
use Rattle.number_bytes.specs.Bytes.{word_of}

-- byte i of a frame; 0 past its end
abbrev pub byte_at : List ℕ → ℕ → ℕ
byte_at bytes i = get_or bytes i 0

-- A frame is given by what stands at each place, as `byte_at bytes`.
abbrev pub Frame : Type 0
Frame = ℕ → ℕ

-- the word in the eight bytes from place i on, and the f64 with these bits
unfoldable pub word_at : Frame → ℕ → ℕ
word_at at i =
    word_of (at i ∷ at (i + 1) ∷ at (i + 2) ∷ at (i + 3) ∷ at (i + 4) ∷ at (i + 5) ∷ at (i + 6) ∷ at (i + 7) ∷ [])

abbrev pub number_at : Frame → ℕ → Float
number_at at i = of_bits binary64 (word_at at i)

-- n numbers, one after the other, from place i on
abbrev pub numbers_at : Frame → ℕ → ℕ → List Float
numbers_at at i zero = []
numbers_at at i (suc n) = number_at at i ∷ numbers_at at (i + 8) n

abbrev pub all_finite_of : List Float → Bool
all_finite_of [] = true
all_finite_of (x ∷ xs) = finite x && all_finite_of xs
