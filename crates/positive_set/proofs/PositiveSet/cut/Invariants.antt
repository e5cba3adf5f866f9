-- The places below i are as in the set that holds the same numbers, and those from i on as they came. Assumes nothing.
use Rattle.positive_set.proofs.Places.{Cut}
use Rattle.positive_set.proofs.PositiveSet.cut.Given as goal

abbrev pub invariant-loop-i : goal.invariant-loop-i
invariant-loop-i l = Cut l.fn.self.«data» l.len l.i l.place-items
