-- What reading the numbers of a frame says: where there are some they are finite and those of the frame,
-- where there are none they are not finite.
-- Assumes nothing.
use mathlib.Core.Path.{◌≡◌, refl}
use mathlib.Core.Bool.{Bool, true, false, cond}
use Rattle.std.specs.Prelude.{Some, None}
use Rattle.step2_solver.specs.declared.Move.{Move}
use Rattle.line_frame.specs.declared.CheckNumbers.{CheckNumbers}
use Rattle.line_frame.specs.Frame.{Frame}
use Rattle.line_frame.specs.Numbers.{check_numbers_of, check_finite, finite_check_of}
use Rattle.line_frame.specs.Numbers.{move_of, move_finite, finite_move_of}

-- over any numbers and any verdict on them
module _ {X : Type 0} where
  read : {x y : X} (b : Bool) → Some x ≡ cond b (Some y) None → (b ≡ true) × (x ≡ y)
  read true e = (refl, cc)
  read false e = cc

  unread : (y : X) (b : Bool) → None ≡ cond b (Some y) None → b ≡ false
  unread y true e = cc
  unread y false e = refl

module _ (at : Frame) where
  pub check_read : {x : CheckNumbers} → Some x ≡ finite_check_of at
      → (check_finite at ≡ true) × (x ≡ check_numbers_of at)
  unfolding finite_check_of
  check_read = read (check_finite at)

  pub check_unread : None ≡ finite_check_of at → check_finite at ≡ false
  unfolding finite_check_of
  check_unread = unread (check_numbers_of at) (check_finite at)

  pub move_read : {x : Move} → Some x ≡ finite_move_of at → (move_finite at ≡ true) × (x ≡ move_of at)
  unfolding finite_move_of
  move_read = read (move_finite at)

  pub move_unread : None ≡ finite_move_of at → move_finite at ≡ false
  unfolding finite_move_of
  move_unread = unread (move_of at) (move_finite at)
