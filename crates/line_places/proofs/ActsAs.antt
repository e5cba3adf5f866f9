-- Kinds 11 to 15 act as 01 to 05: a line that begins with 11 to 15 gets the number of the same line with 0 in the place
-- of its first character, but for the four places more that it asks for, and its reply is that line's with count and
-- cause after it. Assumes nothing.
use mathlib.Core.Path.{◌≡◌, refl, sym, ap, ◌∙◌}
use mathlib.Core.Bool.{true, false, cond, true≢false}
use mathlib.Core.List.{List, [], ◌∷◌, ◌++◌}
use Prim.Native.Nat.{ℕ, ◌+◌, ◌*◌}
use native.Mathlib.Omega.{arith}
use lib.Dec.{eqb, leb}
use lib.ListN.{length}
use borrow.Author.Tests.{le-leb, leb-true}
use Rattle.std.specs.Prelude.{Some}
use Rattle.hex_bytes.specs.Hex.{is_digit_of, value_of, bytes_of, hex_of}
use Rattle.hex_bytes.proofs.Laws.{hex_append}
use Rattle.labels.specs.Causes.{cause_number_of}
use Rattle.profile.specs.declared.Checked.{Checked}
use Rattle.step2_solver.specs.declared.Shape.{Shape}
use Rattle.step2_solver.specs.declared.Shape.TheVariants.{Acc0Acc1Vel, Acc1Vel, Acc0Vel, Acc0Acc1, Acc0, RestToRest}
use Rattle.position_third_step2.specs.Shape.{is_rest_to_rest_of}
use Rattle.line_kinds.specs.declared.Asks.TheVariants.{OfShape, OfCauses}
use Rattle.line_kinds.specs.declared.Asks.{Asks}
use Rattle.line_kinds.specs.declared.Row.{Row}
use Rattle.line_kinds.specs.Kinds.{record_places, causes_places, places_of, row_of}
use Rattle.line_frame.specs.Frame.{Frame, byte_at, word_at}
use Rattle.line_frame.specs.Numbers.{move_of, root_answer_of}
use Rattle.line_questions.specs.Questions.{Question, ask, counts_fit_of, counts_suit_of, questions_of}
use Rattle.line_questions.specs.Questions.{first_no, bytes_fit, line_questions_of, questions}
use Rattle.line_questions.proofs.Asked.{Numbered, harder_last}
use Rattle.line_reply.specs.Reply.{reply_bytes_of, causes_bytes_of}
use Rattle.line_answers.specs.ShapeLine.{shape_line_of}
use Rattle.line_answers.specs.FrameAnswer.{reply_of, replied_of}
use Rattle.lines.specs.Answer.{answer_of}
use Rattle.line_places.specs.ActsAs.{digit_for, ActsAs}
use Rattle.line_places.proofs.Places.{numbered, of_asks}

-- ---- what a shape is asked and reads of a frame stands after the kind
module _ (shape : Shape) (x y : ℕ) (bs : List ℕ) where
  pub same_shape : shape_line_of shape (byte_at (x ∷ bs)) ≡ shape_line_of shape (byte_at (y ∷ bs))
  unfolding shape_line_of move_of root_answer_of word_at
  same_shape = refl

  same-questions : questions_of (OfCauses shape) (byte_at (x ∷ bs)) ≡ questions_of (OfShape shape) (byte_at (y ∷ bs))
  unfolding questions_of counts_fit_of counts_suit_of move_of word_at
  same-questions = refl

  reply_begins : let left = (shape_line_of shape (byte_at (y ∷ bs))).profile in
      hex_of (reply_of (OfCauses shape) (byte_at (x ∷ bs)))
      ≡ hex_of (reply_of (OfShape shape) (byte_at (y ∷ bs))) ++ hex_of (left.calls ∷ cause_number_of left.cause ∷ [])
  unfolding reply_of causes_bytes_of
  reply_begins =
      ap (λ (c : Checked). hex_of (causes_bytes_of c)) same_shape
      ∙ hex_append (reply_bytes_of (shape_line_of shape (byte_at (y ∷ bs)))) _

-- ---- two lines that differ in their first character alone
abbrev row_with : ℕ → Asks → Row
row_with n asks = record { bytes = n; places = places_of asks; asks = asks }

module _ (shape : Shape) (a b d n : ℕ) (rest : List ℕ) where
  abbrev x : ℕ
  x = 16 * value_of a + value_of d

  abbrev y : ℕ
  y = 16 * value_of b + value_of d

  module _ (e : row_of x ≡ Some (row_with n (OfCauses shape))) (f : row_of y ≡ Some (row_with n (OfShape shape)))
      (h : is_digit_of a ≡ is_digit_of b) where
    abbrev at : Frame
    at = byte_at (y ∷ bytes_of rest)

    -- what both are asked before the places
    abbrev asked : List Question
    asked =
        line_questions_of (b ∷ d ∷ rest) (Some (row_with n (OfShape shape)))
        ++ (ask 4 (bytes_fit (length (y ∷ bytes_of rest)) (row_with n (OfShape shape)))
        ∷ questions_of (OfShape shape) at)

    line-asked : (p : ℕ) → questions (a ∷ d ∷ rest) p ≡ asked ++ (ask 8 (leb causes_places p) ∷ [])
    line-asked p = rw (e, h, same-questions shape x y (bytes_of rest))

    like_asked : (p : ℕ) → questions (b ∷ d ∷ rest) p ≡ asked ++ (ask 8 (leb record_places p) ∷ [])
    like_asked p = rw f

    all_numbered : Numbered asked
    all_numbered = (
      λ z. omega arith,
      (
        λ z. omega arith,
        (λ z. omega arith, (λ z. omega arith, numbered (questions_of (OfShape shape) at) (of_asks (OfShape shape) at))),
      ),
    )

    enough : (p : ℕ) → leb causes_places p ≡ true → leb record_places p ≡ true
    enough p k = let l = leb-true causes_places p k in le-leb record_places p (omega arith)

    number_is : (lent : List ℕ)
        → (answer_of (a ∷ d ∷ rest) lent).number
        ≡ cond (eqb (answer_of (b ∷ d ∷ rest) lent).number 0) (cond (leb causes_places (length lent)) 0 8)
        (answer_of (b ∷ d ∷ rest) lent).number
    unfolding answer_of replied_of
    number_is lent =
        let p = length lent in
        ap (λ (qs : List Question). first_no qs) (line-asked p)
        ∙ harder_last asked 8 (leb causes_places p) (leb record_places p) all_numbered (λ z. omega arith) (enough p)
        ∙ ap (λ (qs : List Question). cond (eqb (first_no qs) 0) (cond (leb causes_places p) 0 8) (first_no qs))
        (sym (like_asked p))

    acts : ActsAs shape (a ∷ d ∷ rest) (b ∷ d ∷ rest)
    acts = record { number = number_is; reply = rw (e, f) (reply_begins shape x y (bytes_of rest)) }

-- 48 and 49 are the digits 0 and 1; there is no kind 18
pub acts_as : (shape : Shape) → is_rest_to_rest_of shape ≡ false → (rest : List ℕ)
    → ActsAs shape (49 ∷ digit_for shape ∷ rest) (48 ∷ digit_for shape ∷ rest)
unfolding row_of
acts_as Acc0Acc1Vel h rest = acts Acc0Acc1Vel 49 48 49 97 rest refl refl refl
acts_as Acc1Vel h rest = acts Acc1Vel 49 48 50 147 rest refl refl refl
acts_as Acc0Vel h rest = acts Acc0Vel 49 48 51 147 rest refl refl refl
acts_as Acc0Acc1 h rest = acts Acc0Acc1 49 48 52 97 rest refl refl refl
acts_as Acc0 h rest = acts Acc0 49 48 53 97 rest refl refl refl
acts_as RestToRest h rest = absurd (true≢false h)
