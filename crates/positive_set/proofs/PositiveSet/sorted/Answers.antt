-- The last numbers first, each in its place, by `proofs/Places.antt`. Assumes nothing.
use Rattle.positive_set.proofs.Places.{none_done, free_place, one_more}
use Rattle.positive_set.proofs.PositiveSet.sorted.Goals as goal

pub with-set-requires : goal.with-set-requires
with-set-requires c = free_place _ _ c.loop-x.invariant c.in-Some.ensures.steps

pub loop-x-init : goal.loop-x-init
loop-x-init c = rw (c.into_iter-x-iterator.ensures.into_iter_gives, c.rev-x-items.ensures.source, c.iter.ensures.rest)
    (none_done c.args.self.«data» c.args.self.len c.min.result c.well_formed.0.1.1.0.1.0.1 c.min.ensures
    c.new-set.ensures)

pub loop-x-preserved : goal.loop-x-preserved
loop-x-preserved c = one_more _ _ c.loop-x.invariant c.in-Some.ensures.steps c.with-set.ensures
