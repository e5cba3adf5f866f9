-- A shape by value is `asked_of`: what the shape in place leaves in the row of the record. Assumes nothing.
use Rattle.profile.specs.Parts.{profile_in}
use Rattle.profile.proofs.Ways.{put_together}
use Rattle.position_third_step2.specs.Shape.{asked_of}
use Rattle.position_third_step2.proofs.asked.Goals as goal

pub returns : goal.returns
unfolding profile_in
returns c =
    rw c.from_row.ensures
    (put_together (asked_of c.args.shape c.args.s c.args.l c.args.answers.uddu c.args.answers.udud) c.args.profile
    c.row-x.ensures c.labels.ensures (rw (← c.quartics_of-q.ensures) c.ask-answer.ensures))
