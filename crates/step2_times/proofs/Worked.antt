-- The premises can be met. Assumes nothing.
-- Document 01's move of kind 01, with tf 7, limits ±1 of acceleration and jerk 1, has seven times of 1 by the first
-- attempt's formulas.
use mathlib.Core.Path.{refl}
use lib.Dec.{lit≤}
use lib.Ieee.{Float, binary64, of_bits, neg, add, sub, mul, div, fits}
use Rattle.float.specs.Ops.{#0, #1, #4, #8}
use Rattle.rounding.specs.Value.{unit, mag, sign, val}
use Rattle.rounding.specs.Motion.{elapsed}
use Rattle.step2_solver.specs.New.{new_of}
use Rattle.time_acc0_acc1_vel.specs.TimeAcc0Acc1Vel.{acc0_acc1_vel_uddu_times}
use Rattle.step2_times.specs.Facts.{Accepted}

abbrev seven : Float
seven = of_bits binary64 0x401C_0000_0000_0000

pub worked : Accepted (λ i. #1) (acc0_acc1_vel_uddu_times (new_of seven #0 #0 #0 #8 #0 #0 #1) #1 (neg #1) #1 #4 #1)
unfolding acc0_acc1_vel_uddu_times new_of elapsed unit mag sign val of_bits neg add sub mul div fits
worked =
    record {
      is0 = refl;
      is1 = refl;
      is2 = refl;
      is3 = refl;
      is4 = refl;
      is5 = refl;
      is6 = refl;
      held = λ i l. tt;
      finite = λ i l. tt;
      above = λ i l. lit≤ tt;
      total = lit≤ tt;
    }
