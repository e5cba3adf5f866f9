-- `write_line` stores `line_output`. Assumes nothing.
use mathlib.Core.Path.{refl}
use borrow.Author.Rules.{rules}
use Rattle.line_kinds.proofs.Numbers.{not_0}
use Rattle.line_stream.proofs.Lent.{filled_few, replied, refused}
use Rattle.line_stream.proofs.answer.write_line.Goals as goal

pub end_reply-requires : goal.end_reply-requires
end_reply-requires c =
    let e = rw c.in-Ok.is at c.answered.ensures in
    let m = filled_few c.args.text.now c.args.out.now _ c.args.at _ _ c.requires e in
    search rules

pub returns-in-Ok : goal.returns-in-Ok
returns-in-Ok c =
    rw (c.end_reply.ensures.0, c.end_reply.ensures.1)
    (replied c.args.text.now c.args.out.now _ c.args.at _ _ c.requires (rw c.in-Ok.is at c.answered.ensures) refl)

pub returns-in-Err : goal.returns-in-Err
returns-in-Err c =
    refused c.args.text.now c.args.out.now _ c.args.at _ _ c.requires (rw c.in-Err.is at c.answered.ensures)
    (not_0 _) _ _ (rw c.from.ensures at c.write_number.ensures)
