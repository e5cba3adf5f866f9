-- The reply has the places that the table of kinds says, two characters a byte, after a no as after a yes; and every
-- entry of it is a byte. Assumes nothing.
use mathlib.Core.Path.{◌≡◌, refl, ap, ◌∙◌}
use Prim.Native.Nat.{ℕ, ◌+◌, ◌*◌}
use lib.Dec.{lit≤}
use lib.ListN.{length, length-append}
use lib.Ieee.{Float}
use Rattle.std.specs.Prelude.{Option, Some, None}
use Rattle.profile.specs.declared.Checked.{Checked}
use Rattle.profile.specs.Parts.{numbers_of}
use Rattle.profile.specs.Boundary.{default_of, boundary_of}
use Rattle.step2_solver.specs.declared.Shape.{Shape}
use Rattle.step2_solver.specs.New.{solver_of, limits_of}
use Rattle.position_third_step2.specs.Shape.{fresh}
use Rattle.position_third_step2.proofs.Keeps.{Lengths, check_keeps, shape_keeps}
use Rattle.line_kinds.specs.declared.Asks.{Asks}
use Rattle.line_kinds.specs.declared.Asks.TheVariants.{OfCheck, OfShape, OfQuartics, OfCauses}
use Rattle.line_kinds.specs.Kinds.{places_of}
use Rattle.line_frame.specs.Frame.{Frame}
use Rattle.line_frame.specs.Numbers.{check_numbers_of, move_of, first_answer_of, second_answer_of}
use Rattle.line_questions.specs.Questions.{quartics_at}
use Rattle.line_reply.specs.Reply.{head_of, reply_bytes_of, causes_bytes_of, quartic_bytes_of}
use Rattle.line_reply.proofs.Rows.{rows_length}
use Rattle.line_answers.specs.CheckLine.{checked_of, check_line_of}
use Rattle.line_answers.specs.ShapeLine.{shape_line_of}
use Rattle.line_answers.specs.QuarticLine.{both_bytes, quartic_line_of}
use Rattle.line_answers.specs.FrameAnswer.{reply_of, reply_in}
use Rattle.line_places.proofs.Bytes.{Bytes, reply_bytes, causes_bytes, quartics_bytes}

-- ---- a record: the one that a line starts from, and what `check` or a shape leaves of it
pub fresh_lengths : (p0 v0 a0 pf vf af : Float) → Lengths (boundary_of p0 v0 a0 pf vf af default_of)
unfolding boundary_of
fresh_lengths p0 v0 a0 pf vf af =
    record {
      seven_t = refl;
      seven_t_sum = refl;
      seven_j = refl;
      eight_a = refl;
      eight_v = refl;
      eight_p = refl;
      byte_calls = lit≤ tt;
    }

check_lengths : (at : Frame) → Lengths (check_line_of at).profile
unfolding checked_of check_numbers_of
check_lengths at =
    let h = fresh_lengths _ _ _ _ _ _ in
    (check_keeps _ _ _ _ _ _ _ _ _
    (record {
      seven_t = refl;
      seven_t_sum = h.seven_t_sum;
      seven_j = h.seven_j;
      eight_a = h.eight_a;
      eight_v = h.eight_v;
      eight_p = h.eight_p;
      byte_calls = h.byte_calls;
    })
    ).lengths

shape_lengths : (shape : Shape) (at : Frame) → Lengths (shape_line_of shape at).profile
unfolding shape_line_of
shape_lengths shape at =
    let x = move_of at in
    (shape_keeps shape (solver_of x) (limits_of x) (quartics_at shape at) (first_answer_of at) (second_answer_of at)
    (fresh x)
    (fresh_lengths _ _ _ _ _ _)
    ).lengths

-- ---- its bytes: four in the head and eight for each number; and count and cause
reply-length : (c : Checked) → Lengths c.profile → length (reply_bytes_of c) ≡ 364
unfolding reply_bytes_of head_of
reply-length c h =
    rw (rows_length (numbers_of c.profile) h.seven_t h.seven_t_sum h.seven_j h.eight_a h.eight_v
    h.eight_p)

causes-length : (c : Checked) → Lengths c.profile → length (causes_bytes_of c) ≡ 366
unfolding causes_bytes_of
causes-length c h = length-append (reply_bytes_of c) _ ∙ ap (λ (n : ℕ). n + 2) (reply-length c h)

-- ---- two quartics: a need and seven numbers each
quartics_length : (shape : Shape) (at : Frame) → length (quartic_line_of shape at) ≡ 114
unfolding both_bytes quartic_bytes_of
quartics_length shape at = refl

-- ---- the reply, by what is asked
pub reply_of_length : (asks : Asks) (at : Frame) → 2 * length (reply_of asks at) ≡ places_of asks
unfolding reply_of
reply_of_length OfCheck at = ap (λ (n : ℕ). 2 * n) (reply-length (check_line_of at) (check_lengths at))
reply_of_length (OfShape shape) at =
    ap (λ (n : ℕ). 2 * n) (reply-length (shape_line_of shape at) (shape_lengths shape at))
reply_of_length (OfQuartics shape) at = ap (λ (n : ℕ). 2 * n) (quartics_length shape at)
reply_of_length (OfCauses shape) at =
    ap (λ (n : ℕ). 2 * n) (causes-length (shape_line_of shape at) (shape_lengths shape at))

pub reply_of_bytes : (asks : Asks) (at : Frame) → Bytes (reply_of asks at)
unfolding reply_of
reply_of_bytes OfCheck at = reply_bytes (check_line_of at)
reply_of_bytes (OfShape shape) at = reply_bytes (shape_line_of shape at)
reply_of_bytes (OfQuartics shape) at = quartics_bytes shape at
reply_of_bytes (OfCauses shape) at = causes_bytes (shape_line_of shape at) (shape_lengths shape at).byte_calls

pub reply_in_bytes : (asks : Option Asks) (at : Frame) → Bytes (reply_in asks at)
reply_in_bytes None at = tt
reply_in_bytes (Some asks) at = reply_of_bytes asks at
