-- A line's text: its length is at most `answer_most`, and at most `spread` times the line's with its line feed; and it
-- does not depend on what the lent places hold, where `reply_most` are lent. Assumes nothing.
use mathlib.Core.Path.{◌≡◌, refl, ap, ◌∙◌}
use mathlib.Core.Bool.{Bool, true, false, cond}
use mathlib.Core.List.{List, [], ◌∷◌, ◌++◌}
use Prim.Native.Nat.{ℕ, suc, ◌+◌, ◌*◌, ◌/◌, ◌≤◌}
use native.Mathlib.Omega.{arith}
use lib.Dec.{eqb, lit≤}
use lib.ListN.{length, take, replicate, length-append, length-take}
use lib.Seq.{take_at}
use borrow.Author.Tests.{ne_eqb, eqb-true, le-leb}
use Rattle.std.specs.Prelude.{Option, Some, None}
use Rattle.hex_bytes.specs.Hex.{bytes_of}
use Rattle.hex_bytes.proofs.Turns.{length_bytes}
use Rattle.line_kinds.specs.declared.Row.{Row}
use Rattle.line_kinds.specs.Kinds.{reply_most, spread, places_in}
use Rattle.line_kinds.proofs.Rows.{sound, places_most}
use Rattle.line_questions.specs.Questions.{Question, AllYes, first_no, line_questions_of, frame_questions}
use Rattle.line_answers.specs.FrameAnswer.{replied_of}
use Rattle.lines.specs.Answer.{answer_of, Outcome, outcome_of}
use Rattle.line_places.specs.Exactly.{kind_of, row_for, places_for, reply_to_of}
use Rattle.line_places.proofs.Places.{frame_yes}
use Rattle.line_stream.specs.Output.{answer_most, pair_of_digits, text_of, line_output}
use Rattle.line_stream.proofs.Replies.{reply-first, reply-exact}

-- the places that `line_output` lends
abbrev zeros : List ℕ
zeros = replicate reply_most 0

-- ---- the most places
filled_within : (line lent : List ℕ) (n : ℕ) → ((answer_of line lent).number ≡ 0 → places_for line ≤ n)
    → (outcome_of line lent).filled ≤ n
unfolding outcome_of
filled_within line lent n h = by (eqb (answer_of line lent).number 0) refl
  where
    by : (b : Bool) → eqb (answer_of line lent).number 0 ≡ b → cond b (places_for line) 0 ≤ n
    by true e = h (eqb-true (answer_of line lent).number 0 e)
    by false e = omega arith

pub filled_most : (line lent : List ℕ) → (outcome_of line lent).filled ≤ reply_most
filled_most line lent = filled_within line lent reply_most (λ e. places_most (kind_of line))

-- an accepted line has two characters for each byte of its kind
filled-spread : (line lent : List ℕ) → (outcome_of line lent).filled ≤ spread * length line
filled-spread line lent =
    filled_within line lent (spread * length line) (λ e. of_kind _ (row_for line) refl (frame_yes line lent e))
  where
    by : (places bytes n line : ℕ) → places ≤ spread * (2 * bytes) → n ≡ bytes → n ≡ line / 2 → places ≤ spread * line
    by places bytes n line h e l = omega arith

    of_kind : (at : ℕ → ℕ) (row : Option Row) → row_for line ≡ row
        → AllYes (frame_questions (length (bytes_of line)) at row (length lent))
        → places_in row ≤ spread * length line
    of_kind at None e y = omega arith
    of_kind at (Some row) e y =
        by row.places row.bytes (length (bytes_of line)) (length line) (sound (kind_of line) e).3
        (eqb-true (length (bytes_of line)) row.bytes y.0) (length_bytes line)

output_within : (line : List ℕ) (n : ℕ) → 2 ≤ n → (outcome_of line zeros).filled ≤ n
    → length (line_output line) ≤ n + 1
unfolding line_output
output_within line n two h =
    let a : Outcome = outcome_of line zeros in
    rw (length-append (text_of a) (10 ∷ [])) (more (length (text_of a)) (by a (eqb a.number 0) h))
  where
    by : (a : Outcome) (b : Bool) → a.filled ≤ n
        → length (cond b (take a.filled a.places) (pair_of_digits a.number)) ≤ n
    by a true h = rw (length-take a.filled a.places) (omega arith)
    by a false h = two

    more : (m : ℕ) → m ≤ n → m + 1 ≤ n + 1
    more m h = omega arith

pub output_most : (line : List ℕ) → length (line_output line) ≤ answer_most
output_most line = output_within line reply_most (lit≤ tt) (filled_most line zeros)

pub output_spread : (line : List ℕ) → length (line_output line) ≤ spread * suc (length line)
output_spread line =
    up (length (line_output line)) (length line)
    (output_within line (spread * length line + 3) (omega arith)
    (three (outcome_of line zeros).filled (length line) (filled-spread line zeros)))
  where
    three : (n line : ℕ) → n ≤ spread * line → n ≤ spread * line + 3
    three n line h = omega arith

    up : (n line : ℕ) → n ≤ spread * line + 3 + 1 → n ≤ spread * suc line
    up n line h = omega arith

-- ---- the number, whatever is lent
-- question 8 is answered yes
same_questions : (n : ℕ) (at : ℕ → ℕ) (row : Option Row) (p q : ℕ) → places_in row ≤ reply_most → reply_most ≤ p
    → reply_most ≤ q → frame_questions n at row p ≡ frame_questions n at row q
same_questions n at None p q l h k = refl
same_questions n at (Some row) p q l h k =
    rw (le-leb row.places p (within row.places p l h), le-leb row.places q (within row.places q l k))
  where
    within : (r p : ℕ) → r ≤ reply_most → reply_most ≤ p → r ≤ p
    within r p l h = omega arith

same_number : (line lent other : List ℕ) → reply_most ≤ length lent → reply_most ≤ length other
    → (answer_of line lent).number ≡ (answer_of line other).number
unfolding answer_of replied_of
same_number line lent other h k =
    ap (λ (qs : List Question). first_no (line_questions_of line (row_for line) ++ qs))
    (same_questions (length (bytes_of line)) _ (row_for line) (length lent) (length other)
    (places_most (kind_of line)) h k)

zeros_enough : reply_most ≤ length zeros
zeros_enough = lit≤ tt

-- ---- the text
text-number : (a : Outcome) (n : ℕ) → a.number ≡ n → (n ≡ 0 → ⊥) → text_of a ≡ pair_of_digits n
text-number a n e z = rw (e, ne_eqb n 0 z)

reply-text : (line lent : List ℕ) → (answer_of line lent).number ≡ 0 → text_of (outcome_of line lent) ≡ reply_to_of line
unfolding outcome_of
reply-text line lent said =
    rw (said, reply-first line lent said, ← reply-exact line lent said)
    (take_at (reply_to_of line) _ (length (reply_to_of line)) refl)

module _ (line lent : List ℕ) (h : reply_most ≤ length lent) where
  zeros_number : (answer_of line zeros).number ≡ (answer_of line lent).number
  zeros_number = same_number line zeros lent zeros_enough h

  pub output_reply : (answer_of line lent).number ≡ 0 → line_output line ≡ reply_to_of line ++ (10 ∷ [])
  unfolding line_output
  output_reply said =
      ap (λ (l : List ℕ). l ++ (10 ∷ [])) (reply-text line zeros (zeros_number ∙ said))

  pub output_number : (n : ℕ) → (answer_of line lent).number ≡ n → (n ≡ 0 → ⊥)
      → line_output line ≡ pair_of_digits n ++ (10 ∷ [])
  unfolding line_output outcome_of
  output_number n e z =
      ap (λ (l : List ℕ). l ++ (10 ∷ []))
      (text-number (outcome_of line zeros) n (zeros_number ∙ e) z)
