-- `uddu_window` is `acc1_vel_uddu_window`: the same operations on what its calls give. Assumes nothing.
use Rattle.time_acc1_vel.specs.TimeAcc1Vel.{acc1_vel_uddu_window, acc1_vel_t_min, acc1_vel_uddu_t_max}
use Rattle.step2_over_roots.proofs.acc1_vel.uddu_window.Goals as goal

pub returns : goal.returns
unfolding acc1_vel_uddu_window acc1_vel_t_min acc1_vel_uddu_t_max
returns c =
    rw c.min-t_max.ensures
