-- The set holds the last numbers, in order. Assumes nothing.
use Rattle.positive_set.proofs.Places.{Left}
use Rattle.positive_set.specs.Set.{held_of}
use Rattle.positive_set.proofs.PositiveSet.sorted.Given as goal

abbrev pub invariant-loop-x : goal.invariant-loop-x
invariant-loop-x l = Left (held_of l.fn.self) l.x-iterator.iter.rest.now l.set
