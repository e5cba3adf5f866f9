-- Kinds 01 to 05 and 08, and 11 to 15 with count and cause: what a shape answers to a frame. Definitions only.
use Rattle.std.specs.Prelude.{List, ℕ}
use Rattle.hex_bytes.specs.Hex.{Filled}
use Rattle.profile.specs.declared.Checked.{Checked}
use Rattle.step2_solver.specs.declared.Shape.{Shape}
use Rattle.step2_solver.specs.New.{solver_of, limits_of}
use Rattle.position_third_step2.specs.Shape.{shape_of, fresh}
use Rattle.line_kinds.specs.Kinds.{record_places, causes_places}
use Rattle.line_frame.specs.Frame.{Frame}
use Rattle.line_frame.specs.Numbers.{move_of, first_answer_of, second_answer_of}
use Rattle.line_questions.specs.Questions.{quartics_at}
use Rattle.line_reply.specs.Reply.{reply_bytes_of, causes_bytes_of, written_of}
use Rattle.line_answers.specs.declared.shape_line.Wanted.{Wanted}
use Rattle.line_answers.specs.declared.shape_line.Wanted.TheVariants.{Record, Causes}

-- the shape is passed the same limits as `new`
unfoldable pub shape_line_of : Shape → Frame → Checked
shape_line_of shape at =
    let x = move_of at in
    shape_of shape (solver_of x) (limits_of x) (quartics_at shape at) (first_answer_of at) (second_answer_of at)
    (fresh x)

-- the reply of what a shape left, with count and cause or without: its bytes, its places, and it in the lent ones
abbrev pub shape_bytes : Wanted → Checked → List ℕ
shape_bytes Record c = reply_bytes_of c
shape_bytes Causes c = causes_bytes_of c

abbrev pub shape_places : Wanted → ℕ
shape_places Record = record_places
shape_places Causes = causes_places

abbrev pub shape_written : Wanted → Checked → List ℕ → Filled
shape_written wanted c lent = written_of (shape_places wanted) (shape_bytes wanted c) lent
