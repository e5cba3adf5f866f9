-- `check_reply` writes the reply of `checked_of`. Assumes nothing.
use mathlib.Core.Path.{ap, ◌∙◌}
use Rattle.profile.specs.declared.Checked.{Checked}
use Rattle.profile.specs.Parts.{profile_in}
use Rattle.line_kinds.specs.Kinds.{record_places}
use Rattle.line_frame.specs.Frame.{byte_at}
use Rattle.line_reply.specs.Reply.{reply_bytes_of, written_of}
use Rattle.line_answers.proofs.Records.{checked}
use Rattle.line_answers.proofs.check_line.check_reply.Goals as goal

pub returns : goal.returns
unfolding profile_in
returns c =
    let lent = c.args.reply.now in
    c.write_record.ensures
    ∙ ap (λ (y : Checked). written_of record_places (reply_bytes_of y) lent)
    (checked c.start_labels.ensures (byte_at c.args.frame.now) c.args.x c.start-row.ensures
    c.set_times.ensures c.from.ensures c.from-2.ensures c.check-answer.ensures)
