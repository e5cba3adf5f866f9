-- `time_acc0_acc1_vel` in place makes its two trials in turn. Assumes nothing.
use Rattle.step2_attempt.proofs.Turns.{yes!, no!, last}
use Rattle.position_third_step2.proofs.acc0_acc1_vel.time_acc0_acc1_vel.Goals as goal

pub returns-then-r : goal.returns-then-r
returns-then-r c =
    yes! _ _ _ c.uddu.ensures c.tried-r.ensures c.if-r.true

pub returns : goal.returns
returns c =
    no! _ _ _ c.uddu.ensures c.tried-r.ensures c.if-r.false
    (last _ _ c.udud.ensures c.tried.ensures)
