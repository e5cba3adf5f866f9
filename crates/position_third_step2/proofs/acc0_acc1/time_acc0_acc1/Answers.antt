-- `time_acc0_acc1` in place makes one trial, the Rust's or kind 08's. Assumes nothing.
use Rattle.step2_attempt.proofs.Turns.{last}
use Rattle.position_third_step2.proofs.acc0_acc1.time_acc0_acc1.Goals as goal

pub returns : goal.returns
returns c =
    last _ _ c.attempt.ensures c.tried.ensures
