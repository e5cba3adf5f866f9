-- `check_line` is the answer to a frame of kind 00: its questions in order, then the reply. Assumes nothing.
use mathlib.Core.Path.{ap, sym, ◌∙◌}
use mathlib.Core.List.{List, [], ◌∷◌}
use Prim.Native.Nat.{ℕ}
use native.Mathlib.Omega.{arith}
use lib.ListN.{length}
use borrow.Author.Tests.{le-leb, lt-leb}
use Rattle.line_kinds.specs.declared.Asks.TheVariants.{OfCheck}
use Rattle.line_kinds.specs.Kinds.{record_places}
use Rattle.line_frame.specs.declared.CheckNumbers.{CheckNumbers}
use Rattle.line_frame.specs.Frame.{Frame, byte_at}
use Rattle.line_frame.specs.Numbers.{check_numbers_of, check_finite}
use Rattle.line_frame.proofs.Finite.{check_read, check_unread}
use Rattle.line_questions.specs.Questions.{ask, choices_fit_of, questions_of}
use Rattle.line_reply.specs.Reply.{reply_bytes_of, written_of}
use Rattle.line_answers.specs.CheckLine.{checked_of}
use Rattle.line_answers.specs.FrameAnswer.{reply_of, frame_answer_of}
use Rattle.line_reply.proofs.Written.{filled}
use Rattle.line_answers.proofs.Replies.{refused, replied, went_on, stopped}
use Rattle.line_answers.proofs.check_line.check_line.Goals as goal

-- what is known past question 5 is `fits`, past question 6 `read`
pub returns-then-not-choices_fit : goal.returns-then-not-choices_fit
unfolding frame_answer_of questions_of
returns-then-not-choices_fit c =
    refused _ c.args.reply.now [] 5 _ tt (sym c.choices_fit.ensures ∙ c.if-not-choices_fit.true) (λ e. omega arith)

pub returns-in_err-x : goal.returns-in_err-x
unfolding frame_answer_of questions_of
returns-in_err-x c =
    let fits = sym c.choices_fit.ensures ∙ c.if-not-choices_fit.false in
    let stop = stopped c.from_residual.result c.ok_or.ensures.value c.in_err-x.was c.from_residual.ensures in
    rw stop.1
    (refused _ c.args.reply.now (ask 5 (choices_fit_of (byte_at c.args.frame.now)) ∷ []) 6 _ (fits, tt)
    (check_unread (byte_at c.args.frame.now) (stop.0 ∙ c.check_numbers.ensures)) (λ e. omega arith))

pub returns-then-reply-lt-RECORD : goal.returns-then-reply-lt-RECORD
unfolding frame_answer_of questions_of
returns-then-reply-lt-RECORD c =
    let at : Frame = byte_at c.args.frame.now in
    let fits = sym c.choices_fit.ensures ∙ c.if-not-choices_fit.false in
    let read = check_read at (went_on c.ok_or.ensures.ok_part c.in_ok-x.was ∙ c.check_numbers.ensures) in
    refused _ c.args.reply.now (ask 5 (choices_fit_of at) ∷ ask 6 (check_finite at) ∷ []) 8 _ (fits, (read.0, tt))
    (lt-leb record_places (length c.args.reply.now) c.if-reply-lt-RECORD.true) (λ e. omega arith)

pub returns : goal.returns
unfolding frame_answer_of questions_of reply_of
returns c =
    let at : Frame = byte_at c.args.frame.now in
    let lent : List ℕ = c.args.reply.now in
    let fits = sym c.choices_fit.ensures ∙ c.if-not-choices_fit.false in
    let read = check_read at (went_on c.ok_or.ensures.ok_part c.in_ok-x.was ∙ c.check_numbers.ensures) in
    replied (reply_of OfCheck at) lent _
    (fits, (read.0, (le-leb record_places (length lent) c.if-reply-lt-RECORD.false, tt))) _
    (filled record_places (reply_bytes_of (checked_of (check_numbers_of at) at)) lent _ c.check_reply.result
    c.if-reply-lt-RECORD.false
    (c.check_reply.ensures
    ∙ ap (λ (x : CheckNumbers). written_of record_places (reply_bytes_of (checked_of x at)) lent) read.1))
