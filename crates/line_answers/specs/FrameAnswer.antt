-- What a frame of the length of its kind is answered: a number, and what the lent places then hold. Definitions only.
use Rattle.std.specs.Prelude.{cond, List, [], ◌∷◌, ◌++◌, ℕ, eqb, leb, length, Option, Some, None}
use Rattle.hex_bytes.specs.Hex.{hex_of, fill}
use Rattle.step2_solver.specs.declared.Shape.{Shape}
use Rattle.line_kinds.specs.declared.Asks.{Asks}
use Rattle.line_kinds.specs.declared.Asks.TheVariants.{OfCheck, OfShape, OfQuartics, OfCauses}
use Rattle.line_kinds.specs.Kinds.{places_of}
use Rattle.line_frame.specs.Frame.{Frame}
use Rattle.line_questions.specs.Questions.{Question, ask, first_no, questions_of}
use Rattle.line_reply.specs.Reply.{reply_bytes_of, causes_bytes_of}
use Rattle.line_answers.specs.declared.shape_line.Wanted.{Wanted}
use Rattle.line_answers.specs.declared.shape_line.Wanted.TheVariants.{Record, Causes}
use Rattle.line_answers.specs.CheckLine.{check_line_of}
use Rattle.line_answers.specs.ShapeLine.{shape_line_of}
use Rattle.line_answers.specs.QuarticLine.{quartic_line_of}

pub record Answer : Type 0 where
  pub number : ℕ
  pub places : List ℕ

-- the reply's bytes, by what the frame asks
unfoldable pub reply_of : Asks → Frame → List ℕ
reply_of OfCheck at = reply_bytes_of (check_line_of at)
reply_of (OfShape shape) at = reply_bytes_of (shape_line_of shape at)
reply_of (OfQuartics shape) at = quartic_line_of shape at
reply_of (OfCauses shape) at = causes_bytes_of (shape_line_of shape at)

-- none where nothing is asked
abbrev pub reply_in : Option Asks → Frame → List ℕ
reply_in None at = []
reply_in (Some asks) at = reply_of asks at

-- a line asks a shape with count and cause or without
abbrev pub of_shape : Wanted → Shape → Asks
of_shape Record shape = OfShape shape
of_shape Causes shape = OfCauses shape

-- 0, with the reply's characters in the first lent places;
-- or the number of the first question with a no, and the places as they came
unfoldable pub replied_of : List Question → List ℕ → List ℕ → Answer
replied_of qs bytes lent =
    let number = first_no qs in
    record { number = number; places = cond (eqb number 0) (fill (hex_of bytes) lent) lent }

-- The questions from the fifth on: the others are the line's, and the eighth comes last.
unfoldable pub frame_answer_of : Asks → Frame → List ℕ → Answer
frame_answer_of asks at lent =
    replied_of (questions_of asks at ++ (ask 8 (leb (places_of asks) (length lent)) ∷ [])) (reply_of asks at) lent

-- a frame of no kind is asked nothing: 0, and the places as they came
abbrev pub frame_answer_in : Option Asks → Frame → List ℕ → Answer
frame_answer_in None at lent = record { number = 0; places = lent }
frame_answer_in (Some asks) at lent = frame_answer_of asks at lent
