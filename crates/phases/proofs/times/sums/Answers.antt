-- `sums` makes the sums in the row. The invariant: the rest of the run from here is the whole from the start.
-- Assumes nothing.
use Prim.Native.Nat.{◌+◌}
use mathlib.Core.Path.{refl, ◌∙◌}
use native.Mathlib.Omega.{arith}
use lib.ListN.{get_or, set}
use lib.Ieee.{nan}
use Rattle.float.specs.Ops.{◌⊕◌}
use Rattle.phases.specs.Run.{yes!, no! }
use Rattle.phases.proofs.Runs.{turn, halt, done}
use Rattle.phases.proofs.Sums.{row-sum, row_sums, summed}
use Rattle.phases.proofs.times.sums.Goals as goal

pub returns-then-first : goal.returns-then-first
unfolding row_sums
returns-then-first c = summed c.args.x.now (rw c.if-first.true)

pub loop-i-preserved : goal.loop-i-preserved
loop-i-preserved c =
    let i = c.loop-i.i in let x = c.loop-i.x in (
      omega arith,
      turn row-sum 6 i x (yes! (set x (8 + i) (get_or x (7 + i) nan ⊕ get_or x (i + 1) nan)))
          (rw c.if-next.false) (omega arith) refl ∙ c.loop-i.invariant.1,
    )

pub returns : goal.returns
unfolding row_sums
returns c =
    summed c.args.x.now
    (rw c.if-first.false (done row-sum 6 c.loop-i.i c.loop-i.x (omega arith) ∙ c.loop-i.invariant.1))

pub returns-then-next : goal.returns-then-next
unfolding row_sums
returns-then-next c =
    let x = c.loop-i.x in
    summed c.args.x.now
    (rw c.if-first.false
    (halt row-sum 6 c.loop-i.i x (no! x) (rw c.if-next.true) (omega arith) refl ∙ c.loop-i.invariant.1))
