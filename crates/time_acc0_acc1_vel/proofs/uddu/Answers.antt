-- `uddu` is `acc0_acc1_vel_uddu`. Assumes nothing.
use Rattle.time_acc0_acc1_vel.specs.TimeAcc0Acc1Vel.{acc0_acc1_vel_uddu, acc0_acc1_vel_uddu_applies}
use Rattle.time_acc0_acc1_vel.proofs.uddu.Goals as goal

pub returns-then-l-s : goal.returns-then-l-s
unfolding acc0_acc1_vel_uddu acc0_acc1_vel_uddu_applies
returns-then-l-s c =
    rw (c.if-l-s.true, ← c.uddu_radicand.ensures, ← c.sqrt-root.ensures, ← c.to_f64.ensures)
    (rw (← c.uddu_h1-h1.ensures, ← c.uddu_t1-t1.ensures, ← c.uddu_times-times.ensures, ← c.is_mark.ensures)
    c.trial_of.ensures)

pub returns-else-l-s : goal.returns-else-l-s
unfolding acc0_acc1_vel_uddu acc0_acc1_vel_uddu_applies
returns-else-l-s c = rw c.if-l-s.false c.no_trial.ensures
