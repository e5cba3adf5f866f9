-- That a line of kinds 11 to 15 acts as a line of kinds 01 to 05. Definitions only.
use Rattle.std.specs.Prelude.{◌≡◌, cond, List, [], ◌∷◌, ◌++◌, ℕ, eqb, leb, length}
use Rattle.hex_bytes.specs.Hex.{bytes_of, hex_of}
use Rattle.labels.specs.Causes.{cause_number_of}
use Rattle.step2_solver.specs.declared.Shape.{Shape}
use Rattle.step2_solver.specs.declared.Shape.TheVariants.{Acc0Acc1Vel, Acc1Vel, Acc0Vel, Acc0Acc1, Acc0, RestToRest}
use Rattle.line_kinds.specs.Kinds.{causes_places}
use Rattle.line_frame.specs.Frame.{byte_at}
use Rattle.line_answers.specs.ShapeLine.{shape_line_of}
use Rattle.lines.specs.Answer.{answer_of}
use Rattle.line_places.specs.Exactly.{reply_to_of}

-- the second character of a line that asks a shape: a digit from 1 to 5, or 8. The first is 0, or 1 for count and
-- cause.
abbrev pub digit_for : Shape → ℕ
digit_for Acc0Acc1Vel = 49
digit_for Acc1Vel = 50
digit_for Acc0Vel = 51
digit_for Acc0Acc1 = 52
digit_for Acc0 = 53
digit_for RestToRest = 56

-- a line that asks a shape for count and cause, and another that asks it without
pub record ActsAs (shape : Shape) (line like : List ℕ) : Type 0 where
  -- The line gets the other's number; but 8 where the other gets a reply and fewer than 732 places are lent.
  pub number :
      (lent : List ℕ)
      → (answer_of line lent).number
      ≡ cond (eqb (answer_of like lent).number 0) (cond (leb causes_places (length lent)) 0 8)
      (answer_of like lent).number
  -- Its reply is the other's, with the count of the calls of `check` and the cause of the last one after it.
  pub reply :
      let left = (shape_line_of shape (byte_at (bytes_of like))).profile in
      reply_to_of line ≡ reply_to_of like ++ hex_of (left.calls ∷ cause_number_of left.cause ∷ [])
