-- `shape_reply` writes the reply of the shape. Assumes nothing.
use mathlib.Core.Path.{ap, ◌∙◌}
use Rattle.profile.specs.declared.Checked.{Checked}
use Rattle.profile.specs.Parts.{profile_in}
use Rattle.position_third_step2.specs.Shape.{shape_of}
use Rattle.line_answers.specs.ShapeLine.{shape_written}
use Rattle.line_answers.proofs.Records.{shaped}
use Rattle.line_answers.proofs.shape_line.shape_reply.Goals as goal

pub returns : goal.returns
unfolding profile_in
returns c =
    let lent = c.args.reply.now in
    c.write.ensures
    ∙ ap (λ (y : Checked). shape_written c.args.wanted y lent)
    (shaped c.start_labels.ensures
    (shape_of c.args.shape c.args.s c.args.l c.args.q c.args.answers.uddu c.args.answers.udud) c.args.x
    c.start-row.ensures c.ask-answer.ensures)
