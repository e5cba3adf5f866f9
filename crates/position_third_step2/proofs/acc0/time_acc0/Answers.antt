-- `time_acc0` in place makes its three trials in turn. Assumes nothing.
use Rattle.step2_attempt.proofs.Turns.{yes!, no!, last}
use Rattle.position_third_step2.proofs.acc0.time_acc0.Goals as goal

pub returns-then-r : goal.returns-then-r
returns-then-r c =
    yes! _ _ _ c.first.ensures c.tried-r.ensures c.if-r.true

pub returns-then-r-2 : goal.returns-then-r-2
returns-then-r-2 c =
    no! _ _ _ c.first.ensures c.tried-r.ensures c.if-r.false
    (yes! _ _ _ c.second.ensures c.tried-r-2.ensures c.if-r-2.true)

pub returns : goal.returns
returns c =
    no! _ _ _ c.first.ensures c.tried-r.ensures c.if-r.false
    (no! _ _ _ c.second.ensures c.tried-r-2.ensures c.if-r-2.false
    (last _ _ c.third.ensures c.tried.ensures))
