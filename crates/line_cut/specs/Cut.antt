-- The lines of an input, a line that goes on, and a text in lent places. Definitions only.
use Rattle.std.specs.Prelude.{cond, List, [], ◌∷◌, ◌++◌, ◌≡◌, ℕ, suc, ◌+◌, length, take}
use Rattle.std.specs.Prelude.{eqb}
use Rattle.std.proofs.lemmas.List.Edits.{sets}
use Rattle.hex_bytes.specs.Hex.{fill}

-- What is left where the input ends is a line if it has a character: after a line feed at the very end there is no
-- further line.
abbrev pub last_lines : List ℕ → List (List ℕ)
last_lines [] = []
last_lines (c ∷ line) = (c ∷ line) ∷ []

-- the lines of an input, cut at line feeds, where `line` has been read of the first one already
abbrev pub lines_from : List ℕ → List ℕ → List (List ℕ)
lines_from line [] = last_lines line
lines_from line (c ∷ input) = cond (eqb c 10) (line ∷ lines_from [] input) (lines_from (line ++ (c ∷ [])) input)

-- the characters before the first line feed
abbrev pub line_length : List ℕ → ℕ
line_length [] = 0
line_length (c ∷ input) = cond (eqb c 10) 0 (suc (line_length input))

-- as much of a line as there are places: its first `count` characters stand there, and `part` goes on
abbrev pub lengthened : List ℕ → ℕ → List ℕ → List ℕ
lengthened kept count part = take (length kept) (take count kept ++ part)

-- a text in the first of the lent places, and how many these are
pub record Fills (lent text : List ℕ) (count : ℕ) (out : List ℕ) : Type 0 where
  pub count_is : count ≡ length text
  pub out_is : out ≡ fill text lent

-- a text stored from one place on, and where it ends
pub record Put (lent : List ℕ) (at : ℕ) (text : List ℕ) (end : ℕ) (out : List ℕ) : Type 0 where
  pub end_is : end ≡ at + length text
  pub out_is : out ≡ sets lent at text
