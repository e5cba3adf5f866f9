-- `time_acc0_vel` in place tries the roots of UDDU, then those of UDUD, where tf is not too short. Assumes nothing.
use borrow.Author.Rules.{rules}
use Rattle.step2_attempt.specs.Attempt.{tried_of}
use Rattle.time_acc0_vel.specs.TimeAcc0Vel.{acc0_vel_uddu_window, acc0_vel_uddu, acc0_vel_udud_window, acc0_vel_udud}
use Rattle.step2_over_roots.proofs.acc0_vel.time_acc0_vel.Goals as goal

pub returns-then-too_short : goal.returns-then-too_short
unfolding tried_of
returns-then-too_short c = rw (← c.too_short.ensures, c.if-too_short.true)

pub returns : goal.returns
returns c =
    let s = c.args.s in let l = c.args.l in
    rw (← c.too_short.ensures, c.if-too_short.false) (c.over_both.ensures
    (acc0_vel_uddu s l (acc0_vel_uddu_window s l)) (acc0_vel_udud s l (acc0_vel_udud_window s l))
    (λ root k e. rw (← c.uddu_window-w.ensures) (search rules))
    (λ root k e. rw (← c.udud_window-v.ensures) (search rules)))
