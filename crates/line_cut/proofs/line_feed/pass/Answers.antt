-- `pass` passes characters before the first line feed. Assumes nothing.
use native.Mathlib.Omega.{arith}
use Rattle.line_cut.proofs.Feeds.{passed}
use Rattle.line_cut.proofs.line_feed.pass.Goals as goal

pub loop-part-preserved : goal.loop-part-preserved
loop-part-preserved g c =
    let p = c.in-Some.ensures.cases in
    let e =
    passed g.row.N c.loop-part.rest.now c.in-Some.part.now c.in-Some.after.now c.no_feed.result (p.0, p.1)
    c.no_feed.ensures c.if-not-no_feed.false in
    (omega arith, omega arith)
