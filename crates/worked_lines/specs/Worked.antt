-- What is said of a line for which an attempt finds a yes. Definitions only.
use Rattle.std.specs.Prelude.{◌≡◌, List, ℕ, replicate}
use Rattle.line_kinds.specs.Kinds.{reply_most}
use Rattle.line_answers.specs.FrameAnswer.{Answer}
use Rattle.lines.specs.Answer.{answer_of}
use Rattle.line_arrives.specs.LineArrives.{SaysYes, Sizes, Demand3}
use Rattle.worked_lines.specs.Attempts.{Attempt, MadeBy}

-- the answer to a line, where the places of the longest reply are lent
abbrev pub answer_for : List ℕ → Answer
answer_for line = answer_of line (replicate reply_most 0)

abbrev pub reply_for : List ℕ → List ℕ
reply_for line = (answer_for line).places

-- The line meets the premises of demand 3 by this attempt, and arrives.
pub record Worked (attempt : Attempt) (line : List ℕ) : Type 0 where
  pub number : (answer_for line).number ≡ 0
  pub says : SaysYes (reply_for line)
  pub sizes : Sizes line (reply_for line)
  pub trial : ℕ
  pub made_by : MadeBy attempt trial line (reply_for line)
  pub arrives : Demand3 line (reply_for line)
