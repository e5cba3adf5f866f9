-- Assumes nothing. What a line of twelve numbers is asked, with count and cause or without; and what is worked out of
-- its numbers.
use mathlib.Core.Path.{◌≡◌, refl}
use mathlib.Core.List.{List, [], ◌∷◌, ◌++◌}
use Prim.Native.Nat.{ℕ}
use lib.Dec.{leb}
use lib.ListN.{length}
use Rattle.roots.specs.declared.RootAnswer.{RootAnswer}
use Rattle.step2_solver.specs.declared.Move.{Move}
use Rattle.step2_solver.specs.declared.Limits.{Limits}
use Rattle.step2_solver.specs.declared.PositionThirdOrderStep2.{PositionThirdOrderStep2}
use Rattle.step2_solver.specs.declared.Shape.{Shape}
use Rattle.step2_solver.specs.New.{solver_of, limits_of}
use Rattle.step2_quartics.specs.declared.Quartics.{Quartics}
use Rattle.step2_quartics.specs.Quartics.{the_quartics}
use Rattle.position_third_step2.specs.Shape.{shape_of, fresh}
use Rattle.line_frame.specs.Frame.{Frame}
use Rattle.line_frame.specs.Numbers.{move_of, first_answer_of, second_answer_of}
use Rattle.line_questions.specs.Questions.{ask, quartics_at, shape_questions, questions_of}
use Rattle.line_answers.specs.declared.shape_line.Wanted.{Wanted}
use Rattle.line_answers.specs.declared.shape_line.Wanted.TheVariants.{Record, Causes}
use Rattle.line_answers.specs.ShapeLine.{shape_line_of, shape_bytes, shape_places}
use Rattle.line_answers.specs.FrameAnswer.{reply_of, of_shape, replied_of, frame_answer_of}

-- a shape is asked the same, with count and cause or without
pub shape_is_asked : (wanted : Wanted) (shape : Shape) (at : Frame) (lent : List ℕ)
    → replied_of (shape_questions shape at ++ (ask 8 (leb (shape_places wanted) (length lent)) ∷ []))
    (shape_bytes wanted (shape_line_of shape at)) lent
    ≡ frame_answer_of (of_shape wanted shape) at lent
unfolding frame_answer_of questions_of reply_of
shape_is_asked Record shape at lent = refl
shape_is_asked Causes shape at lent = refl

-- ---- what is worked out of the frame's numbers
module _ (shape : Shape) (at : Frame) {x : Move} {s : PositionThirdOrderStep2} {l : Limits} {q : Quartics}
    (ex : x ≡ move_of at) (es : s ≡ solver_of x) (el : l ≡ limits_of x) (eq : q ≡ the_quartics shape s l) where
  pub quartics_are : q ≡ quartics_at shape at
  quartics_are = rw (eq, el, es, ex)

  pub shape_is : {first second : RootAnswer} → first ≡ first_answer_of at → second ≡ second_answer_of at
      → shape_of shape s l q first second (fresh x) ≡ shape_line_of shape at
  unfolding shape_line_of
  shape_is ef ed = rw (ef, ed, eq, el, es, ex)
