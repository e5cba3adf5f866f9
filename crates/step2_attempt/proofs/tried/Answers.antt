-- `tried` is `try_of`: the times are stored, and `check` is made, where the trial is. Assumes nothing.
use mathlib.Core.Path.{ap, ◌∙◌}
use Rattle.row.specs.Row.{Numbers}
use Rattle.profile.specs.Parts.{profile_of, profile_in}
use Rattle.profile.specs.Timing.{timing_of}
use Rattle.step2_attempt.specs.Attempt.{attempt_of, try_of}
use Rattle.step2_attempt.proofs.tried.Goals as goal

pub returns-then-k : goal.returns-then-k
unfolding try_of attempt_of profile_in
returns-then-k c =
    let k = c.args.k in let l = c.args.l in
    rw c.if-k.true
    (c.check_with_timing.ensures
    ∙ ap (λ (n : Numbers).
    timing_of k.signs k.label k.jf l.v_max l.v_min l.a_max l.a_min k.marked
    (profile_of n c.args.labels)) c.set_times.ensures)

pub returns-else-k : goal.returns-else-k
unfolding try_of
returns-else-k c = rw c.if-k.false
