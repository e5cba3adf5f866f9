-- The roots of a quartic tried in turn, by `proofs/Roots.antt`. Assumes nothing.
use Rattle.step2_over_roots.proofs.Roots.{four, roots_are, hit, miss, spent}
use Rattle.step2_over_roots.proofs.over_roots.over_roots.Goals as goal

pub shared_ref_as_front-root-items : goal.shared_ref_as_front-root-items
shared_ref_as_front-root-items g c = four c.args.polynom c.args.answer c.sorted_roots-set.ensures

pub returns-then-r : goal.returns-then-r
returns-then-r g c = λ trial gives.
    rw (← roots_are c.args.polynom c.args.answer c.sorted_roots-set.ensures)
    (hit (c.loop-root.invariant trial gives) c.loop-root-test.true (gives _ _ c.attempt-k.ensures) c.tried-r.ensures
    c.if-r.true)

pub loop-root-preserved : goal.loop-root-preserved
loop-root-preserved g c = λ trial gives.
    miss (c.loop-root.invariant trial gives) c.loop-root-test.true (gives _ _ c.attempt-k.ensures) c.tried-r.ensures
    c.if-r.false

pub returns : goal.returns
returns g c = λ trial gives.
    rw (← roots_are c.args.polynom c.args.answer c.sorted_roots-set.ensures)
    (spent (c.loop-root.invariant trial gives) c.loop-root-test.false)
