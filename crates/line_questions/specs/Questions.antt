-- The questions to a line, in order, and which of them each kind is asked. Definitions only.
-- A question that a kind has nothing to ask about is not asked.
-- One that a later kind brings stands in that kind's list alone.
use Rattle.std.specs.Prelude.{◌≡◌, Bool, true, cond, ◌&&◌, List, [], ◌∷◌, ◌++◌, ℕ, ◌%◌, eqb, leb, length}
use Rattle.std.specs.Prelude.{Option, Some, None, is_some}
use Rattle.hex_bytes.specs.Hex.{all_digits_of, bytes_of}
use Rattle.step2_solver.specs.declared.Shape.{Shape}
use Rattle.step2_solver.specs.New.{solver_of, limits_of}
use Rattle.step2_quartics.specs.declared.Quartics.{Quartics}
use Rattle.step2_quartics.specs.Quartics.{the_quartics}
use Rattle.line_kinds.specs.declared.Asks.{Asks}
use Rattle.line_kinds.specs.declared.Asks.TheVariants.{OfCheck, OfShape, OfQuartics, OfCauses}
use Rattle.line_kinds.specs.declared.Row.{Row}
use Rattle.line_kinds.specs.Kinds.{takes_roots_of, line_most, row_of}
use Rattle.line_frame.specs.Frame.{Frame, byte_at}
use Rattle.line_frame.specs.Numbers.{move_of, check_finite, move_finite}
use Rattle.line_questions.specs.Suits.{both_suit_of}

-- ---- the questions
-- 1. The count of characters is even, from 2 to the longest line's.
abbrev pub length_fits_of : ℕ → Bool
length_fits_of n = eqb (n % 2) 0 && leb 2 n && leb n line_most

-- 2. All characters are digits: `all_digits_of`.

-- 3. There is such a kind.
abbrev pub is_kind : Option Row → Bool
is_kind row = is_some row

-- 4. The length, in bytes, is that of the kind.
abbrev pub bytes_fit : ℕ → Row → Bool
bytes_fit n row = eqb n row.bytes

-- 5. Kind 00: signs 0 to 1, label 0 to 7, set_limits 0 to 1. A shape with root answers: both counts 0 to 3.
abbrev pub choices_fit_of : Frame → Bool
choices_fit_of at = leb (at 1) 1 && leb (at 2) 7 && leb (at 3) 1

unfoldable pub counts_fit_of : Shape → Frame → Bool
counts_fit_of shape at = cond (takes_roots_of shape) (leb (at 97) 3 && leb (at 122) 3) true

-- 6. All numbers are finite, but kind 00's times and the root answers: `check_finite`, `move_finite`.

-- 7. A shape with root answers: each count suits its quartic. Both are tested, also where the Rust stops earlier.
unfoldable pub counts_suit_of : Shape → Quartics → Frame → Bool
counts_suit_of shape q at = cond (takes_roots_of shape) (both_suit_of q (at 97) (at 122)) true

-- the quartics of a shape, for the twelve numbers of a frame
abbrev pub quartics_at : Shape → Frame → Quartics
quartics_at shape at = the_quartics shape (solver_of (move_of at)) (limits_of (move_of at))

-- 8. The lent places are enough for the reply.
abbrev pub places_fit : Row → ℕ → Bool
places_fit row p = leb row.places p

-- ---- a question's number, and whether the answer to it is yes
pub record Question : Type 0 where
  pub number : ℕ
  pub yes : Bool

abbrev pub ask : ℕ → Bool → Question
ask n b = record { number = n; yes = b }

-- the number of the first question with a no; 0 where there is none
abbrev pub first_no : List Question → ℕ
first_no [] = 0
first_no (q ∷ qs) = cond q.yes (first_no qs) q.number

-- every question of a list was answered yes
abbrev pub AllYes : List Question → Type 0
AllYes [] = Unit {0}
AllYes (q ∷ qs) = (q.yes ≡ true) × AllYes qs

-- ---- who is asked what
abbrev pub shape_questions : Shape → Frame → List Question
shape_questions shape at =
    ask 5 (counts_fit_of shape at)
    ∷ ask 6 (move_finite at)
    ∷ ask 7 (counts_suit_of shape (quartics_at shape at) at)
    ∷ []

-- what each kind is asked of its frame, between the length and the places
unfoldable pub questions_of : Asks → Frame → List Question
questions_of OfCheck at = ask 5 (choices_fit_of at) ∷ ask 6 (check_finite at) ∷ []
questions_of (OfShape shape) at = shape_questions shape at
questions_of (OfQuartics shape) at = ask 6 (move_finite at) ∷ []
questions_of (OfCauses shape) at = shape_questions shape at

-- any line
abbrev pub line_questions_of : List ℕ → Option Row → List Question
line_questions_of line row =
    ask 1 (length_fits_of (length line)) ∷ ask 2 (all_digits_of line) ∷ ask 3 (is_kind row) ∷ []

-- a frame of n bytes where p places are lent; one of no kind is asked nothing more
abbrev pub frame_questions : ℕ → Frame → Option Row → ℕ → List Question
frame_questions n at None p = []
frame_questions n at (Some row) p =
    ask 4 (bytes_fit n row) ∷ (questions_of row.asks at ++ (ask 8 (places_fit row p) ∷ []))

abbrev pub questions : List ℕ → ℕ → List Question
questions line p =
    let at = byte_at (bytes_of line) in
    let row = row_of (at 0) in
    line_questions_of line row ++ frame_questions (length (bytes_of line)) at row p
