-- `nodes` makes the seven phases in the row. The invariant: the rest of the phases from here is the whole from the
-- start, and the numbers are those of entry i. Assumes nothing.
use mathlib.Core.Path.{◌∙◌}
use native.Mathlib.Omega.{arith}
use borrow.Author.Tests.{not-true, not-false}
use Rattle.phases.proofs.Runs.{done}
use Rattle.phases.proofs.Moves.{moved, held, stops, goes}
use Rattle.phases.proofs.nodes.nodes.Goals as goal

pub returns-then-not-next : goal.returns-then-not-next
returns-then-not-next c =
    moved c.args.replacing c.args.band c.args.x.now
    (stops c.args.replacing c.args.band c.loop-i.x c.loop-i.i
    c.loop-i.invariant.2
    c.phase-next.ensures c.loop-i-test.true (not-true c.phase-next.result.ok c.if-not-next.true) ∙ c.loop-i.invariant.1)

pub loop-i-preserved : goal.loop-i-preserved
loop-i-preserved c = (
  omega (arith, c.loop-i-test.true),
  goes c.args.replacing c.args.band c.loop-i.x c.loop-i.i c.loop-i.invariant.2
      c.phase-next.ensures c.loop-i-test.true (not-false c.phase-next.result.ok c.if-not-next.false)
      ∙ c.loop-i.invariant.1,
  held c.loop-i.x c.loop-i.i c.phase-next.result c.loop-i.invariant.2.row c.loop-i-test.true,
)

pub returns : goal.returns
returns c =
    moved c.args.replacing c.args.band c.args.x.now
    (done _ 7 c.loop-i.i c.loop-i.x (omega arith) ∙ c.loop-i.invariant.1)
