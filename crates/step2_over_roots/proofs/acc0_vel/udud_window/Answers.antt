-- `udud_window` is `acc0_vel_udud_window`: the same operations on what its calls give. Assumes nothing.
use Rattle.time_acc0_vel.specs.TimeAcc0Vel.{acc0_vel_udud_window, acc0_vel_udud_t_min, acc0_vel_udud_t_max}
use Rattle.step2_over_roots.proofs.acc0_vel.udud_window.Goals as goal

pub returns : goal.returns
unfolding acc0_vel_udud_window acc0_vel_udud_t_min acc0_vel_udud_t_max
returns c =
    rw c.min-t_max.ensures
