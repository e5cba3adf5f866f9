-- `rest` is `rest_to_rest_trial` or `acc0_acc1_rest`, which differ in t[1] alone. Assumes nothing.
use mathlib.Core.Path.{◌≡◌, refl, ◌∙◌}
use mathlib.Core.Bool.{Bool, true, false, cond}
use lib.Ieee.{Float}
use Rattle.step2_solver.specs.declared.PositionThirdOrderStep2.{PositionThirdOrderStep2}
use Rattle.step2_solver.specs.declared.Limits.{Limits}
use Rattle.time_acc0_acc1.specs.TimeAcc0Acc1.{acc0_acc1_rest_jf, acc0_acc1_rest_t1, acc0_acc1_rest_trial}
use Rattle.time_acc0_acc1.specs.TimeAcc0Acc1.{acc0_acc1_rest}
use Rattle.time_acc0_acc1.specs.RestToRest.{rest_to_rest_t1, rest_to_rest_trial}
use Rattle.time_acc0_acc1.proofs.rest.Goals as goal

chosen : (b : Bool) (s : PositionThirdOrderStep2) (l : Limits) (h1 h2 : Float)
    → let jf = acc0_acc1_rest_jf h1 h2 in
    let new = rest_to_rest_t1 s l.a_max l.a_min jf in
    let old = acc0_acc1_rest_t1 s l.a_max l.a_min h1 h2 in
    acc0_acc1_rest_trial s l jf (cond b new old) ≡ cond b (acc0_acc1_rest_trial s l jf new)
    (acc0_acc1_rest_trial s l jf old)
chosen true s l h1 h2 = refl
chosen false s l h1 h2 = refl

pub returns : goal.returns
unfolding rest_to_rest_trial acc0_acc1_rest acc0_acc1_rest_jf
returns c =
    rw (← c.rest_h1-h1.ensures, ← c.rest_h2-h2.ensures)
    ((rw (c.rest_times-times.ensures, c.chosen_t1-t1.ensures) at c.trial_of.ensures)
    ∙ chosen c.args.rest_to_rest c.args.s c.args.l c.rest_h1-h1.result c.rest_h2-h2.result)
