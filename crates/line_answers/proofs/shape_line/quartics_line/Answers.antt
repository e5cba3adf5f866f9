-- `quartics_line` is the answer to a frame that asks the quartics of a shape: its questions in order, then the reply.
-- Assumes nothing.
use mathlib.Core.Path.{ap, ◌∙◌}
use mathlib.Core.List.{List, [], ◌∷◌}
use Prim.Native.Nat.{ℕ}
use native.Mathlib.Omega.{arith}
use lib.ListN.{length}
use borrow.Author.Tests.{le-leb, lt-leb}
use Rattle.step2_quartics.specs.declared.Quartics.{Quartics}
use Rattle.line_kinds.specs.declared.Asks.TheVariants.{OfQuartics}
use Rattle.line_kinds.specs.Kinds.{quartics_places}
use Rattle.line_frame.specs.Frame.{Frame, byte_at}
use Rattle.line_frame.specs.Numbers.{move_finite}
use Rattle.line_frame.proofs.Finite.{move_read, move_unread}
use Rattle.line_questions.specs.Questions.{ask, quartics_at, questions_of}
use Rattle.line_reply.specs.Reply.{written_of}
use Rattle.line_answers.specs.QuarticLine.{both_bytes}
use Rattle.line_answers.specs.FrameAnswer.{reply_of, frame_answer_of}
use Rattle.line_reply.proofs.Written.{filled}
use Rattle.line_answers.proofs.Replies.{refused, replied, went_on, stopped}
use Rattle.line_answers.proofs.Moves.{quartics_are}
use Rattle.line_answers.proofs.shape_line.quartics_line.Goals as goal

-- what is known past question 6 is `read`
pub returns-in_err-x : goal.returns-in_err-x
unfolding frame_answer_of questions_of
returns-in_err-x c =
    let stop = stopped c.from_residual.result c.ok_or.ensures.value c.in_err-x.was c.from_residual.ensures in
    rw stop.1
    (refused _ c.args.reply.now [] 6 _ tt
    (move_unread (byte_at c.args.frame.now) (stop.0 ∙ c.move_numbers.ensures)) (λ e. omega arith))

pub returns-then-reply-lt-QUARTICS : goal.returns-then-reply-lt-QUARTICS
unfolding frame_answer_of questions_of
returns-then-reply-lt-QUARTICS c =
    let at : Frame = byte_at c.args.frame.now in
    let read = move_read at (went_on c.ok_or.ensures.ok_part c.in_ok-x.was ∙ c.move_numbers.ensures) in
    refused _ c.args.reply.now (ask 6 (move_finite at) ∷ []) 8 _ (read.0, tt)
    (lt-leb quartics_places (length c.args.reply.now) c.if-reply-lt-QUARTICS.true) (λ e. omega arith)

pub returns : goal.returns
unfolding frame_answer_of questions_of reply_of both_bytes
returns c =
    let at : Frame = byte_at c.args.frame.now in
    let lent : List ℕ = c.args.reply.now in
    let read = move_read at (went_on c.ok_or.ensures.ok_part c.in_ok-x.was ∙ c.move_numbers.ensures) in
    replied (reply_of (OfQuartics c.args.shape) at) lent _
    (read.0, (le-leb quartics_places (length lent) c.if-reply-lt-QUARTICS.false, tt)) _
    (filled quartics_places (both_bytes (quartics_at c.args.shape at)) lent _ c.write_quartics.result
    c.if-reply-lt-QUARTICS.false
    (c.write_quartics.ensures
    ∙ ap (λ (q : Quartics). written_of quartics_places (both_bytes q) lent)
    (quartics_are c.args.shape at read.1 c.solver.ensures c.limits.ensures c.quartics_of-q.ensures)))
