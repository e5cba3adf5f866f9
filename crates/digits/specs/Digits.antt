-- A number in sixteen digits of a line. Definitions only.
use Rattle.std.specs.Prelude.{cond, List, [], ◌∷◌, ℕ, ◌+◌, ◌*◌, ltb, length, take, drop, Float, Option, Some, None}
use Rattle.std.specs.Float.{binary64}
use Rattle.std.specs.Float.Ieee.{of_bits}
use Rattle.hex_bytes.specs.Hex.{all_digits_of, value_of}

-- the number that digits stand for after those that stand for w, the highest first
abbrev pub value_after : ℕ → List ℕ → ℕ
value_after w [] = w
value_after w (c ∷ cs) = value_after (16 * w + value_of c) cs

-- The f64 whose bits the sixteen characters from a place on are, where all are digits; none where one is not, or
-- where they are fewer.
unfoldable pub read_of : List ℕ → ℕ → Option Float
read_of line at =
    let cs = take 16 (drop at line) in
    cond (ltb (length line) (at + 16)) None
    (cond (all_digits_of cs) (Some (of_bits binary64 (value_after 0 cs))) None)
