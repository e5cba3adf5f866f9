-- An empty line and a line of more than `line_most` characters fail question 1. Assumes nothing.
use mathlib.Core.Path.{◌≡◌, refl}
use mathlib.Core.Bool.{Bool, true, false, ◌&&◌}
use mathlib.Core.List.{List, []}
use Prim.Native.Nat.{ℕ, ◌%◌, ◌<◌}
use lib.Dec.{eqb, leb}
use lib.ListN.{length}
use borrow.Author.Tests.{lt-leb}
use Rattle.line_kinds.specs.Kinds.{line_most}
use Rattle.line_questions.specs.Questions.{length_fits_of}
use Rattle.line_answers.specs.FrameAnswer.{replied_of}
use Rattle.lines.specs.Answer.{answer_of}

long : (n : ℕ) → line_most < n → length_fits_of n ≡ false
long n h = rw (lt-leb n line_most h) (by (eqb (n % 2) 0 && leb 2 n))
  where
    by : (b : Bool) → b && false ≡ false
    by true = refl
    by false = refl

pub too_long : (line lent : List ℕ) → line_most < length line → (answer_of line lent).number ≡ 1
unfolding answer_of replied_of
too_long line lent h = rw (long (length line) h)

pub empty : (lent : List ℕ) → (answer_of [] lent).number ≡ 1
unfolding answer_of replied_of
empty lent = refl
