-- A line of kind 08 gets the number of the same line of kind 04, and its answer unless both ends are at rest: where the
-- rest formula does not apply the two make the same attempt. Assumes nothing.
use mathlib.Core.Path.{◌≡◌, refl, ap, ◌∙◌}
use mathlib.Core.Bool.{false}
use mathlib.Core.List.{List, ◌∷◌}
use Prim.Native.Nat.{ℕ}
use lib.ListN.{length}
use Rattle.hex_bytes.specs.Hex.{bytes_of}
use Rattle.profile.specs.declared.Checked.{Checked}
use Rattle.step2_solver.specs.declared.Shape.TheVariants.{Acc0Acc1, RestToRest}
use Rattle.step2_solver.specs.New.{new_of, solver_of}
use Rattle.time_acc0_acc1.specs.TimeAcc0Acc1.{acc0_acc1_rest_applies}
use Rattle.line_kinds.specs.declared.Asks.TheVariants.{OfShape}
use Rattle.line_kinds.specs.Kinds.{row_of}
use Rattle.line_frame.specs.Frame.{Frame, byte_at, word_at}
use Rattle.line_frame.specs.Numbers.{move_of}
use Rattle.line_questions.specs.Questions.{Question, first_no, counts_fit_of, counts_suit_of, questions_of, questions}
use Rattle.line_reply.specs.Reply.{reply_bytes_of}
use Rattle.line_answers.specs.ShapeLine.{shape_line_of}
use Rattle.line_answers.specs.FrameAnswer.{reply_of, replied_of}
use Rattle.lines.specs.Answer.{answer_of}
use Rattle.line_places.specs.RestToRest.{of08, of04, at_rest_of, As04}
use Rattle.line_places.proofs.ActsAs.{same_shape}

-- ---- one frame: where the rest formula does not apply, the shapes leave the same
same_attempt : (at : Frame) → acc0_acc1_rest_applies (solver_of (move_of at)) ≡ false
    → shape_line_of RestToRest at ≡ shape_line_of Acc0Acc1 at
unfolding shape_line_of
same_attempt at h = rw h

module _ (body : List ℕ) where
  abbrev bs : List ℕ
  bs = bytes_of body

  same-questions : questions_of (OfShape RestToRest) (byte_at (8 ∷ bs)) ≡ questions_of (OfShape Acc0Acc1)
      (byte_at (4 ∷ bs))
  unfolding questions_of counts_fit_of counts_suit_of move_of word_at
  same-questions = refl

  same_asked : (p : ℕ) → questions (of08 body) p ≡ questions (of04 body) p
  unfolding row_of
  same_asked p = rw same-questions

  applies : at_rest_of (of08 body) ≡ acc0_acc1_rest_applies (solver_of (move_of (byte_at (8 ∷ bs))))
  unfolding acc0_acc1_rest_applies new_of
  applies = refl

  same-reply : at_rest_of (of08 body) ≡ false
      → reply_of (OfShape RestToRest) (byte_at (8 ∷ bs)) ≡ reply_of (OfShape Acc0Acc1) (byte_at (4 ∷ bs))
  unfolding reply_of
  same-reply h =
      ap (λ (c : Checked). reply_bytes_of c)
      (same_attempt (byte_at (8 ∷ bs)) (rw (← applies) h) ∙ same_shape Acc0Acc1 8 4 bs)

  pub as_04 : As04 body
  unfolding answer_of replied_of row_of
  as_04 =
      record {
        number = λ lent. ap (λ (qs : List Question). first_no qs) (same_asked (length lent));
        elsewhere = λ h lent.
            ap (λ (qs : List Question). replied_of qs (reply_of (OfShape RestToRest) (byte_at (8 ∷ bs))) lent)
            (same_asked (length lent))
            ∙ ap (λ (bytes : List ℕ). replied_of (questions (of04 body) (length lent)) bytes lent) (same-reply h);
      }
