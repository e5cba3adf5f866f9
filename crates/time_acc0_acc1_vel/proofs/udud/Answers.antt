-- `udud` is `acc0_acc1_vel_udud`. Assumes nothing.
use Rattle.time_acc0_acc1_vel.specs.TimeAcc0Acc1Vel.{acc0_acc1_vel_udud, acc0_acc1_vel_udud_applies}
use Rattle.time_acc0_acc1_vel.proofs.udud.Goals as goal

pub returns-then-s-l : goal.returns-then-s-l
unfolding acc0_acc1_vel_udud acc0_acc1_vel_udud_applies
returns-then-s-l c =
    rw (c.if-s-l.true, ← c.udud_t1-t1.ensures, ← c.udud_t3-t3.ensures)
    (rw (← c.udud_times-times.ensures) c.trial_of.ensures)

pub returns-else-s-l : goal.returns-else-s-l
unfolding acc0_acc1_vel_udud acc0_acc1_vel_udud_applies
returns-else-s-l c = rw c.if-s-l.false c.no_trial.ensures
