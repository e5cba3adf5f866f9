-- The line entry is `outcome_of`: one law for each way out (Entry.antt). Assumes nothing.
use mathlib.Core.Path.{sym, ◌∙◌}
use Rattle.line_answers.proofs.Replies.{went_on, stopped}
use Rattle.lines.proofs.Entry.{first, second, third, fourth, ends}
use Rattle.lines.proofs.answered.Goals as goal

pub returns-then-not-length_fits : goal.returns-then-not-length_fits
returns-then-not-length_fits c =
    first c.args.request.now c.args.reply.now (sym c.length_fits.ensures ∙ c.if-not-length_fits.true)

pub returns-then-not-decode : goal.returns-then-not-decode
returns-then-not-decode c =
    second c.args.request.now c.args.reply.now
    (sym c.length_fits.ensures ∙ c.if-not-length_fits.false) c.decode.ensures c.if-not-decode.true

pub returns-in_err-row : goal.returns-in_err-row
returns-in_err-row c =
    let stop = stopped c.from_residual.result c.ok_or.ensures.value c.in_err-row.was c.from_residual.ensures in
    rw stop.1
    (third c.args.request.now c.args.reply.now
    (sym c.length_fits.ensures ∙ c.if-not-length_fits.false) c.decode.ensures c.if-not-decode.false
    (stop.0 ∙ c.row_of.ensures))

pub returns-then-n-row : goal.returns-then-n-row
returns-then-n-row c =
    fourth c.args.request.now c.args.reply.now
    (sym c.length_fits.ensures ∙ c.if-not-length_fits.false) c.decode.ensures c.if-not-decode.false
    (went_on c.ok_or.ensures.ok_part c.in_ok-row.was ∙ c.row_of.ensures) c.if-n-row.true

pub returns : goal.returns
returns c =
    rw c.and.ensures
    (ends c.args.request.now c.args.reply.now
    (sym c.length_fits.ensures ∙ c.if-not-length_fits.false) c.decode.ensures c.if-not-decode.false
    (went_on c.ok_or.ensures.ok_part c.in_ok-row.was ∙ c.row_of.ensures) c.if-n-row.false c.reply_to.result
    c.reply_to.ensures)
