-- The C entry is `answer_of`: the number and the places of `answered`. Assumes nothing.
use mathlib.Core.Path.{ap}
use Rattle.lines.specs.Answer.{Outcome, outcome_of}
use Rattle.lines.proofs.answer_line.Goals as goal

pub returns : goal.returns
unfolding outcome_of
returns c =
    rw c.number.ensures
    (ap (λ (o : Outcome). record { number = o.number; places = o.places }) c.answered.ensures)
