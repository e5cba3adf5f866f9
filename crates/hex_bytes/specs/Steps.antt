-- The steps of the code: what its private functions leave. No public promise cites these. Definitions only.
use Rattle.std.specs.Prelude.{List, [], ◌∷◌, ℕ, ◌/◌, ◌%◌}

-- the values of the digits of bytes
abbrev pub nibbles_of : List ℕ → List ℕ
nibbles_of [] = []
nibbles_of (b ∷ bs) = b / 16 ∷ b % 16 ∷ nibbles_of bs
