-- Demand 1 in plain form: after a number every lent place is as it came; after 0 the reply stands in the first places,
-- exactly as many as the table of kinds says, all digits, and every later place is as it came. Assumes nothing.
use mathlib.Core.Path.{◌≡◌, refl, sym, ap, ◌∙◌}
use mathlib.Core.Bool.{Bool, true, false, cond}
use mathlib.Core.List.{List, [], ◌∷◌, ◌++◌}
use Prim.Native.Nat.{ℕ, ◌≤◌}
use native.Mathlib.Omega.{arith}
use lib.Dec.{eqb, lit≤}
use lib.ListN.{length, drop, length-append, length-drop}
use borrow.Author.Tests.{ne_eqb, eqb-true, eqb-false, leb-true}
use Rattle.std.specs.Prelude.{Option, Some, None}
use Rattle.hex_bytes.specs.Hex.{bytes_of, hex_of}
use Rattle.hex_bytes.proofs.Laws.{length_hex}
use Rattle.line_kinds.specs.declared.Asks.{Asks}
use Rattle.line_kinds.specs.declared.Asks.TheVariants.{OfCheck, OfShape, OfQuartics, OfCauses}
use Rattle.line_kinds.specs.declared.Row.{Row}
use Rattle.line_kinds.specs.Kinds.{asks_of, places_in}
use Rattle.line_kinds.proofs.Rows.{sound}
use Rattle.line_frame.specs.Frame.{Frame, byte_at}
use Rattle.step2_solver.specs.declared.Shape.{Shape}
use Rattle.line_questions.specs.Questions.{Question, ask, places_fit, first_no, shape_questions, questions_of, AllYes}
use Rattle.line_questions.specs.Questions.{line_questions_of, frame_questions, questions}
use Rattle.line_questions.proofs.Asked.{Numbered, all_yes, all_first, all_rest}
use Rattle.line_answers.specs.FrameAnswer.{reply_of, reply_in, replied_of}
use Rattle.lines.specs.Answer.{answer_of}
use Rattle.line_places.specs.Exactly.{row_for, places_for, reply_to_of, Untouched, FilledExactly}
use Rattle.line_places.proofs.Bytes.{bytes_digits}
use Rattle.line_places.proofs.Replies.{reply_of_length, reply_in_bytes}

-- ---- after a number
pub after_a_number : (line lent : List ℕ) → ((answer_of line lent).number ≡ 0 → ⊥) → Untouched line lent
unfolding answer_of replied_of
after_a_number line lent h = rw (ne_eqb (first_no (questions line (length lent))) 0 h)

-- ---- the numbers of the questions: from 1 to 8, whoever is asked
abbrev UpToEight : List Question → Type 0
UpToEight [] = Unit {0}
UpToEight (q ∷ qs) = ((q.number ≡ 0 → ⊥) × (q.number ≤ 8)) × UpToEight qs

up_to_eight : (qs : List Question) → UpToEight qs → first_no qs ≤ 8
up_to_eight [] h = lit≤ tt
up_to_eight (q ∷ qs) h = by q.yes h.0.1 (up_to_eight qs h.1)
  where
    by : (b : Bool) {n k : ℕ} → k ≤ 8 → n ≤ 8 → cond b n k ≤ 8
    by true h k = k
    by false h k = h

pub numbered : (qs : List Question) → UpToEight qs → Numbered qs
numbered [] h = tt
numbered (q ∷ qs) h = (h.0.0, numbered qs h.1)

eight_numbers : (first rest : List Question) → UpToEight first → UpToEight rest → UpToEight (first ++ rest)
eight_numbers [] rest h k = k
eight_numbers (q ∷ first) rest h k = (h.0, eight_numbers first rest h.1 k)

of_shape_lem : (shape : Shape) (at : Frame) → UpToEight (shape_questions shape at)
of_shape_lem shape at =
    ((λ e. omega arith, lit≤ tt), ((λ e. omega arith, lit≤ tt), ((λ e. omega arith, lit≤ tt), tt)))

pub of_asks : (asks : Asks) (at : Frame) → UpToEight (questions_of asks at)
unfolding questions_of
of_asks OfCheck at = ((λ e. omega arith, lit≤ tt), ((λ e. omega arith, lit≤ tt), tt))
of_asks (OfShape shape) at = of_shape_lem shape at
of_asks (OfQuartics shape) at = ((λ e. omega arith, lit≤ tt), tt)
of_asks (OfCauses shape) at = of_shape_lem shape at

module _ (line lent : List ℕ) where
  abbrev at : Frame
  at = byte_at (bytes_of line)

  abbrev n : ℕ
  n = length (bytes_of line)

  all_numbers : UpToEight (questions line (length lent))
  all_numbers = by (row_for line)
    where
      by : (row : Option Row) → UpToEight (line_questions_of line row ++ frame_questions n at row (length lent))
      by None = ((λ e. omega arith, lit≤ tt), ((λ e. omega arith, lit≤ tt), ((λ e. omega arith, lit≤ tt), tt)))
      by (Some row) = (
        (λ e. omega arith, lit≤ tt),
        (
          (λ e. omega arith, lit≤ tt),
          (
            (λ e. omega arith, lit≤ tt),
            (
              (λ e. omega arith, lit≤ tt),
              eight_numbers (questions_of row.asks at) _ (of_asks row.asks at) ((λ e. omega arith, lit≤ tt), tt),
            ),
          ),
        ),
      )

  pub at_most_eight : (answer_of line lent).number ≤ 8
  unfolding answer_of replied_of
  at_most_eight = up_to_eight (questions line (length lent)) all_numbers

  -- ---- after 0
  -- every question was answered yes
  pub every_yes : (answer_of line lent).number ≡ 0 → AllYes (questions line (length lent))
  unfolding answer_of replied_of
  every_yes said = all_yes (questions line (length lent)) (numbered (questions line (length lent)) all_numbers) said

  module _ (said : (answer_of line lent).number ≡ 0) where
    pub frame_yes : AllYes (frame_questions n at (row_for line) (length lent))
    frame_yes = (every_yes said).1.1.1

    -- what the kind asks
    pub asked_yes : {asks : Asks} → asks_of (row_for line) ≡ Some asks → AllYes (questions_of asks at)
    asked_yes {asks = asks} = by (row_for line) frame_yes
      where
        by : (row : Option Row) → AllYes (frame_questions n at row (length lent)) → asks_of row ≡ Some asks
            → AllYes (questions_of asks at)
        by None y e = cc
        by (Some row) y e = let g : row.asks ≡ asks = cc in rw (← g) (all_first (questions_of row.asks at) _ y.1)

    places-enough : places_for line ≤ length lent
    places-enough = by (row_for line) frame_yes
      where
        by : (row : Option Row) → AllYes (frame_questions n at row (length lent)) → places_in row ≤ length lent
        by None y = omega arith
        by (Some row) y =
            leb-true row.places (length lent)
            (all_rest (questions_of row.asks at) (ask 8 (places_fit row (length lent)) ∷ []) y.1).0

    reply-exact : length (reply_to_of line) ≡ places_for line
    reply-exact = by (row_for line) refl
      where
        by : (row : Option Row) → row_for line ≡ row → length (hex_of (reply_in (asks_of row) at)) ≡ places_in row
        by None e = refl
        by (Some row) e =
            length_hex (reply_of row.asks at) ∙ reply_of_length row.asks at ∙ sym (sound (at 0) e).0

    places_are : (answer_of line lent).places ≡ reply_to_of line ++ drop (length (reply_to_of line)) lent
    unfolding answer_of replied_of
    places_are = rw said

pub after_a_reply : (line lent : List ℕ) → (answer_of line lent).number ≡ 0 → FilledExactly line lent
after_a_reply line lent said =
    let exact = reply-exact line lent said in
    let asks = asks_of (row_for line) in
    record {
      enough = places-enough line lent said;
      exactly = exact;
      first = places_are line lent said ∙ ap (λ (n : ℕ). reply_to_of line ++ drop n lent) exact;
      digits = bytes_digits (reply_in asks (byte_at (bytes_of line))) (reply_in_bytes asks (byte_at (bytes_of line)));
    }

-- ---- after either
as_many : (reply lent : List ℕ) (n : ℕ) → length reply ≡ n → n ≤ length lent
    → length (reply ++ drop n lent) ≡ length lent
as_many reply lent n e h = rw (length-append reply (drop n lent), length-drop n lent) (omega arith)

pub same-places : (line lent : List ℕ) → length (answer_of line lent).places ≡ length lent
same-places line lent = by (eqb (answer_of line lent).number 0) refl
  where
    by : (b : Bool) → eqb (answer_of line lent).number 0 ≡ b → length (answer_of line lent).places ≡ length lent
    by true e =
        let f = after_a_reply line lent (eqb-true (answer_of line lent).number 0 e) in
        ap (λ (l : List ℕ). length l) f.first
        ∙ as_many (reply_to_of line) lent (places_for line) f.exactly f.enough
    by false e = ap (λ (l : List ℕ). length l) (after_a_number line lent (eqb-false (answer_of line lent).number 0 e))
