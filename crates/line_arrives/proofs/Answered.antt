-- What the answer 0 to a line that asks a shape says: its twelve numbers are finite f64s, and the places hold first the
-- bytes of what the shape left. Assumes nothing.
use mathlib.Core.Path.{◌≡◌, refl, sym, ap, ◌∙◌, subst}
use mathlib.Core.Bool.{Bool, true, false, cond}
use mathlib.Core.List.{List, [], ◌∷◌, ◌++◌, append_assoc}
use Prim.Native.Nat.{ℕ, ◌+◌, ◌*◌, ◌<◌}
use lib.Dec.{T, eqb, lit≤}
use lib.ListN.{length, drop}
use lib.Ieee.{binary64}
use lib.Ieee.Bits.{of_bits-fits}
use Rattle.std.specs.Prelude.{Option}
use Rattle.rounding.specs.Value.{Number}
use Rattle.roots.specs.declared.RootAnswer.TheVariants.{CubeRoot, Resolved}
use Rattle.roots.specs.Fits.{AnswerFits}
use Rattle.profile.specs.declared.Checked.{Checked}
use Rattle.step2_solver.specs.declared.Shape.{Shape}
use Rattle.position_third_step2.specs.Shape.{fresh}
use Rattle.step2_arrives.specs.Moves.{MoveNumbers, asked}
use Rattle.hex_bytes.specs.Hex.{bytes_of, hex_of}
use Rattle.line_kinds.specs.declared.Asks.{Asks}
use Rattle.line_kinds.specs.declared.Asks.TheVariants.{OfShape, OfCauses}
use Rattle.line_frame.specs.Frame.{Frame, byte_at, word_at, number_at}
use Rattle.line_frame.specs.Numbers.{move_of, move_finite, root_answer_of, first_answer_of, second_answer_of}
use Rattle.line_frame.proofs.Numbers.{each_finite}
use Rattle.line_questions.specs.Questions.{shape_questions, questions_of, AllYes}
use Rattle.labels.specs.Causes.{cause_number_of}
use Rattle.line_reply.specs.Reply.{reply_bytes_of, causes_bytes_of}
use Rattle.line_answers.specs.ShapeLine.{shape_line_of}
use Rattle.line_answers.specs.FrameAnswer.{reply_of, reply_in, replied_of}
use Rattle.lines.specs.Answer.{answer_of}
use Rattle.line_places.specs.Exactly.{row_for, reply_to_of}
use Rattle.line_places.proofs.Replies.{reply_of_bytes}
use Rattle.line_places.proofs.Places.{asked_yes}
use Rattle.line_arrives.specs.LineArrives.{AsksShape, move_in}
use Rattle.line_arrives.proofs.Characters.{bytes_first}

-- ---- the numbers
number_at_lem : (at : Frame) → move_finite at ≡ true → (k : ℕ) → k < 12 → Number (number_at at (1 + 8 * k))
number_at_lem at h k l =
    record {
      held = of_bits-fits binary64 (word_at at (1 + 8 * k));
      finite = subst T (sym (each_finite at 1 12 h k l)) tt;
    }

twelve : (at : Frame) → move_finite at ≡ true → MoveNumbers (move_of at)
unfolding move_of
twelve at h =
    record {
      of_tf = number_at_lem at h 0 (lit≤ tt);
      of_p0 = number_at_lem at h 1 (lit≤ tt);
      of_v0 = number_at_lem at h 2 (lit≤ tt);
      of_a0 = number_at_lem at h 3 (lit≤ tt);
      of_pf = number_at_lem at h 4 (lit≤ tt);
      of_vf = number_at_lem at h 5 (lit≤ tt);
      of_af = number_at_lem at h 6 (lit≤ tt);
      of_v_max = number_at_lem at h 7 (lit≤ tt);
      of_v_min = number_at_lem at h 8 (lit≤ tt);
      of_a_max = number_at_lem at h 9 (lit≤ tt);
      of_a_min = number_at_lem at h 10 (lit≤ tt);
      of_j_max = number_at_lem at h 11 (lit≤ tt);
    }

-- a root answer holds an f64, whatever the bytes
pub answer-fits : (at : Frame) (i : ℕ) → AnswerFits (root_answer_of at i)
unfolding root_answer_of
answer-fits at i = by (eqb (at i) 0)
  where
    by : (b : Bool)
        → AnswerFits (cond b (CubeRoot (number_at at (i + 1)))
        (Resolved (at i) (record { x0 = number_at at (i + 1); x1 = number_at at (i + 9); x2 = number_at at (i + 17) })))
    by true = of_bits-fits binary64 (word_at at (i + 1))
    by false = tt

-- what the shape leaves of a line's profile
abbrev pub shaped : Shape → List ℕ → Checked
shaped shape line =
    let at = byte_at (bytes_of line) in
    asked shape (first_answer_of at) (second_answer_of at) (move_in line) (fresh (move_in line))

shaped_is : (shape : Shape) (line : List ℕ) → shape_line_of shape (byte_at (bytes_of line)) ≡ shaped shape line
unfolding shape_line_of
shaped_is shape line = refl

module _ (line lent : List ℕ) (zero : (answer_of line lent).number ≡ 0) (k : AsksShape line) where
  abbrev at : Frame
  at = byte_at (bytes_of line)

  -- every question that a shape is asked was answered yes
  shape_yes : AllYes (shape_questions k.shape at)
  unfolding questions_of
  shape_yes = either k.causes (asked_yes line lent zero k.asked)
    where
      either : (b : Bool) → AllYes (questions_of (cond b (OfCauses k.shape) (OfShape k.shape)) at)
          → AllYes (shape_questions k.shape at)
      either true y = y
      either false y = y

  pub numbers_are : MoveNumbers (move_in line)
  numbers_are = twelve at shape_yes.1.0

  -- count and cause, where the reply has them, and the places after the reply
  abbrev left : Checked
  left = shaped k.shape line

  abbrev beyond : List ℕ
  beyond = drop (length (reply_to_of line)) lent

  abbrev pub rest : List ℕ
  rest = cond k.causes (left.profile.calls ∷ cause_number_of left.profile.cause ∷ []) [] ++ bytes_of beyond

  places_are : (answer_of line lent).places ≡ reply_to_of line ++ beyond
  unfolding answer_of replied_of
  places_are = rw zero

  reply-first : (b : Bool) (l : List ℕ)
      → bytes_of (hex_of (reply_of (cond b (OfCauses k.shape) (OfShape k.shape)) at) ++ l)
      ≡ reply_bytes_of left ++ (cond b (left.profile.calls ∷ cause_number_of left.profile.cause ∷ []) [] ++ bytes_of l)
  unfolding reply_of causes_bytes_of
  reply-first true l =
      bytes_first (reply_of (OfCauses k.shape) at) l (reply_of_bytes (OfCauses k.shape) at)
      ∙ rw (shaped_is k.shape line) (append_assoc (reply_bytes_of left) _ (bytes_of l))
  reply-first false l =
      bytes_first (reply_of (OfShape k.shape) at) l (reply_of_bytes (OfShape k.shape) at)
      ∙ rw (shaped_is k.shape line)

  pub bytes_are : bytes_of (answer_of line lent).places ≡ reply_bytes_of left ++ rest
  bytes_are =
      ap (λ (r : List ℕ). bytes_of r) places_are
      ∙ ap (λ (asks : Option Asks). bytes_of (hex_of (reply_in asks at) ++ beyond)) k.asked
      ∙ reply-first k.causes beyond
