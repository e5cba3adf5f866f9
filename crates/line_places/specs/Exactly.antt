-- What the lent places hold after the line entry, in plain form: which of them the reply fills, and which stay.
-- Definitions only.
use Rattle.std.specs.Prelude.{◌≡◌, true, List, ◌++◌, ℕ, ◌≤◌, length, drop, Option}
use Rattle.hex_bytes.specs.Hex.{all_digits_of, bytes_of, hex_of}
use Rattle.line_frame.specs.Frame.{byte_at}
use Rattle.line_kinds.specs.declared.Row.{Row}
use Rattle.line_kinds.specs.Kinds.{row_of, asks_of, places_in}
use Rattle.line_answers.specs.FrameAnswer.{reply_in}
use Rattle.lines.specs.Answer.{answer_of}

-- the kind of a line: the first byte that its characters stand for
abbrev pub kind_of : List ℕ → ℕ
kind_of line = byte_at (bytes_of line) 0

-- its row in the table of kinds, and the places that its reply takes by that
abbrev pub row_for : List ℕ → Option Row
row_for line = row_of (kind_of line)

abbrev pub places_for : List ℕ → ℕ
places_for line = places_in (row_for line)

-- the characters of the reply to a line
abbrev pub reply_to_of : List ℕ → List ℕ
reply_to_of line = hex_of (reply_in (asks_of (row_for line)) (byte_at (bytes_of line)))

-- After a number: every place holds what it held before.
abbrev pub Untouched : List ℕ → List ℕ → Type 0
Untouched line lent = (answer_of line lent).places ≡ lent

-- After 0: the reply in the first places, as many as the table says, and nothing else.
pub record FilledExactly (line lent : List ℕ) : Type 0 where
  -- the lent places were enough
  pub enough : places_for line ≤ length lent
  -- the reply is as long as the table says
  pub exactly : length (reply_to_of line) ≡ places_for line
  -- the first places hold the reply, and every later one what it held before
  pub first : (answer_of line lent).places ≡ reply_to_of line ++ drop (places_for line) lent
  -- every character of the reply is one of 0 to 9 and A to F
  pub digits : all_digits_of (reply_to_of line) ≡ true
