-- `shape_line` is the answer to a frame that asks a shape: its questions in order, then the reply. Assumes nothing.
use mathlib.Core.Path.{◌≡◌, ap, sym, ◌∙◌}
use mathlib.Core.Bool.{true}
use mathlib.Core.List.{List, [], ◌∷◌}
use Prim.Native.Nat.{ℕ, ◌≤◌}
use native.Mathlib.Omega.{arith}
use lib.ListN.{length}
use borrow.Author.Tests.{le-leb, lt-leb}
use Rattle.profile.specs.declared.Checked.{Checked}
use Rattle.line_frame.specs.Frame.{Frame, byte_at}
use Rattle.line_frame.specs.Numbers.{move_finite}
use Rattle.line_frame.proofs.Finite.{move_read, move_unread}
use Rattle.line_questions.specs.Questions.{ask, counts_fit_of, counts_suit_of, quartics_at, shape_questions}
use Rattle.line_answers.specs.ShapeLine.{shape_line_of, shape_bytes, shape_places, shape_written}
use Rattle.line_reply.proofs.Written.{filled}
use Rattle.line_answers.proofs.Replies.{refused, replied, went_on, stopped}
use Rattle.line_answers.proofs.Moves.{shape_is_asked, quartics_are, shape_is}
use Rattle.line_answers.proofs.shape_line.shape_line.Goals as goal

-- what is known past question 5 is `fits`, past question 6 `read`, and once the quartics are worked out `worked`
pub returns-then-not-counts_fit : goal.returns-then-not-counts_fit
returns-then-not-counts_fit c =
    let at : Frame = byte_at c.args.frame.now in
    refused _ c.args.reply.now [] 5 _ tt (sym c.counts_fit.ensures ∙ c.if-not-counts_fit.true) (λ e. omega arith)
    ∙ shape_is_asked c.args.wanted c.args.shape at c.args.reply.now

pub returns-in_err-x : goal.returns-in_err-x
returns-in_err-x c =
    let at : Frame = byte_at c.args.frame.now in
    let fits = sym c.counts_fit.ensures ∙ c.if-not-counts_fit.false in
    let stop = stopped c.from_residual.result c.ok_or.ensures.value c.in_err-x.was c.from_residual.ensures in
    rw stop.1
    (refused _ c.args.reply.now (ask 5 (counts_fit_of c.args.shape at) ∷ []) 6 _ (fits, tt)
    (move_unread at (stop.0 ∙ c.move_numbers.ensures)) (λ e. omega arith)
    ∙ shape_is_asked c.args.wanted c.args.shape at c.args.reply.now)

pub returns-then-not-counts_suit : goal.returns-then-not-counts_suit
returns-then-not-counts_suit c =
    let at : Frame = byte_at c.args.frame.now in
    let fits = sym c.counts_fit.ensures ∙ c.if-not-counts_fit.false in
    let read = move_read at (went_on c.ok_or.ensures.ok_part c.in_ok-x.was ∙ c.move_numbers.ensures) in
    let worked =
    quartics_are c.args.shape at read.1 c.solver-s.ensures c.limits-l.ensures c.quartics_of-q.ensures in
    refused _ c.args.reply.now (ask 5 (counts_fit_of c.args.shape at) ∷ ask 6 (move_finite at) ∷ []) 7 _
    (fits, (read.0, tt)) (rw (← worked) (sym c.counts_suit.ensures ∙ c.if-not-counts_suit.true)) (λ e. omega arith)
    ∙ shape_is_asked c.args.wanted c.args.shape at c.args.reply.now

pub returns-then-reply-places : goal.returns-then-reply-places
returns-then-reply-places c =
    let at : Frame = byte_at c.args.frame.now in
    let fits = sym c.counts_fit.ensures ∙ c.if-not-counts_fit.false in
    let read = move_read at (went_on c.ok_or.ensures.ok_part c.in_ok-x.was ∙ c.move_numbers.ensures) in
    let worked =
    quartics_are c.args.shape at read.1 c.solver-s.ensures c.limits-l.ensures c.quartics_of-q.ensures in
    let suits : counts_suit_of c.args.shape (quartics_at c.args.shape at) at ≡ true =
    rw (← worked) (sym c.counts_suit.ensures ∙ c.if-not-counts_suit.false) in
    refused _ c.args.reply.now (shape_questions c.args.shape at) 8 _ (fits, (read.0, (suits, tt)))
    (lt-leb (shape_places c.args.wanted) (length c.args.reply.now)
    (rw (← c.places.ensures) c.if-reply-places.true)) (λ e. omega arith)
    ∙ shape_is_asked c.args.wanted c.args.shape at c.args.reply.now

pub returns : goal.returns
returns c =
    let at : Frame = byte_at c.args.frame.now in
    let lent : List ℕ = c.args.reply.now in
    let fits = sym c.counts_fit.ensures ∙ c.if-not-counts_fit.false in
    let read = move_read at (went_on c.ok_or.ensures.ok_part c.in_ok-x.was ∙ c.move_numbers.ensures) in
    let worked =
    quartics_are c.args.shape at read.1 c.solver-s.ensures c.limits-l.ensures c.quartics_of-q.ensures in
    let suits : counts_suit_of c.args.shape (quartics_at c.args.shape at) at ≡ true =
    rw (← worked) (sym c.counts_suit.ensures ∙ c.if-not-counts_suit.false) in
    let enough : shape_places c.args.wanted ≤ length lent = rw (← c.places.ensures) c.if-reply-places.false in
    replied (shape_bytes c.args.wanted (shape_line_of c.args.shape at)) lent _
    (fits, (read.0, (suits, (le-leb (shape_places c.args.wanted) (length lent) enough, tt)))) _
    (filled (shape_places c.args.wanted) (shape_bytes c.args.wanted (shape_line_of c.args.shape at)) lent _
    c.shape_reply.result enough
    (c.shape_reply.ensures
    ∙ ap (λ (y : Checked). shape_written c.args.wanted y lent)
    (shape_is c.args.shape at read.1 c.solver-s.ensures c.limits-l.ensures
    c.quartics_of-q.ensures c.first_answer.ensures c.second_answer.ensures)))
    ∙ shape_is_asked c.args.wanted c.args.shape at lent
