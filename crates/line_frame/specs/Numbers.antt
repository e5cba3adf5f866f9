-- The numbers of a frame by their names, and its root answers. Definitions only.
use Rattle.std.specs.Prelude.{Bool, cond, ℕ, ◌+◌, eqb, Option, Some, None}
use Rattle.roots.specs.declared.RootAnswer.{RootAnswer}
use Rattle.roots.specs.declared.RootAnswer.TheVariants.{CubeRoot, Resolved}
use Rattle.line_frame.specs.declared.CheckNumbers.{CheckNumbers}
use Rattle.step2_solver.specs.declared.Move.{Move}
use Rattle.line_frame.specs.Frame.{Frame, number_at, numbers_at, all_finite_of}

-- Kind 00, after kind, signs, label and set_limits: seven times; p0 v0 a0 pf vf af; jf v_max v_min a_max a_min.
unfoldable pub check_numbers_of : Frame → CheckNumbers
check_numbers_of at =
    record {
      t = numbers_at at 4 7;
      p0 = number_at at 60;
      v0 = number_at at 68;
      a0 = number_at at 76;
      pf = number_at at 84;
      vf = number_at at 92;
      af = number_at at 100;
      jf = number_at at 108;
      v_max = number_at at 116;
      v_min = number_at at 124;
      a_max = number_at at 132;
      a_min = number_at at 140;
    }

-- The other kinds, after the kind: twelve numbers, in the order of `new`.
unfoldable pub move_of : Frame → Move
move_of at =
    record {
      tf = number_at at 1;
      p0 = number_at at 9;
      v0 = number_at at 17;
      a0 = number_at at 25;
      pf = number_at at 33;
      vf = number_at at 41;
      af = number_at at 49;
      v_max = number_at at 57;
      v_min = number_at at 65;
      a_max = number_at at 73;
      a_min = number_at at 81;
      j_max = number_at at 89;
    }

-- Question 6: kind 00's eleven numbers after the times, or the twelve, are finite.
abbrev pub check_finite : Frame → Bool
check_finite at = all_finite_of (numbers_at at 60 11)

abbrev pub move_finite : Frame → Bool
move_finite at = all_finite_of (numbers_at at 1 12)

-- The numbers with the answer to question 6: none where one that is asked is not finite.
unfoldable pub finite_check_of : Frame → Option CheckNumbers
finite_check_of at = cond (check_finite at) (Some (check_numbers_of at)) None

unfoldable pub finite_move_of : Frame → Option Move
finite_move_of at = cond (move_finite at) (Some (move_of at)) None

-- The root answer from place i on: a count and three numbers. Count 0 means that the first number is the cube root.
unfoldable pub root_answer_of : Frame → ℕ → RootAnswer
root_answer_of at i =
    cond (eqb (at i) 0) (CubeRoot (number_at at (i + 1)))
    (Resolved (at i) (record { x0 = number_at at (i + 1); x1 = number_at at (i + 9); x2 = number_at at (i + 17) }))

-- UDDU's stands first, after the twelve numbers.
abbrev pub first_answer_of : Frame → RootAnswer
first_answer_of at = root_answer_of at 97

abbrev pub second_answer_of : Frame → RootAnswer
second_answer_of at = root_answer_of at 122
