-- What the line entry answers: a number, what the lent places hold after it, and how many are filled. Definitions only.
use Rattle.std.specs.Prelude.{cond, List, ℕ, eqb, length, Result, Ok, Err}
use Rattle.hex_bytes.specs.Hex.{bytes_of}
use Rattle.line_kinds.specs.declared.refusals.Refusal.{Refusal}
use Rattle.line_kinds.specs.Kinds.{row_of, asks_of, places_in}
use Rattle.line_frame.specs.Frame.{byte_at}
use Rattle.line_questions.specs.Questions.{questions}
use Rattle.line_answers.specs.FrameAnswer.{Answer, reply_in, replied_of}

-- Of the line's characters and of what the lent places hold: the questions in their order, then what byte 0's row asks.
unfoldable pub answer_of : List ℕ → List ℕ → Answer
answer_of line lent =
    let at = byte_at (bytes_of line) in
    replied_of (questions line (length lent)) (reply_in (asks_of (row_of (at 0))) at) lent

-- and with the count of places that the reply fills: those of its kind, or none after a number
pub record Outcome : Type 0 where
  pub number : ℕ
  pub filled : ℕ
  pub places : List ℕ

-- what an answer in the code says of it
abbrev pub filled_of : Result ℕ Refusal → ℕ
filled_of (Ok filled) = filled
filled_of (Err refusal) = 0

unfoldable pub outcome_of : List ℕ → List ℕ → Outcome
outcome_of line lent =
    let answer = answer_of line lent in
    record {
      number = answer.number;
      filled = cond (eqb answer.number 0) (places_in (row_of (byte_at (bytes_of line) 0))) 0;
      places = answer.places;
    }
