-- The free places are emptied one after the other, by `proofs/Places.antt`. Assumes nothing.
use Rattle.positive_set.proofs.Places.{cut_kept, cut_freed, cut_set}
use Rattle.positive_set.proofs.PositiveSet.cut.Goals as goal
use Rattle.positive_set.proofs.PositiveSet.cut.Goals.{then-i-len, else-i-len}

pub loop-i-preserved : goal.loop-i-preserved
loop-i-preserved c =
    let four = c.well_formed.0.1.1.0.1.0.1 in
    elim c.if-i-len.branch [
      | then-i-len w ↦
          rw w.place-items-is
          (cut_freed c.args.self.«data» c.args.self.len c.loop-i.i _ c.loop-i-test.true w.if-i-len.true
          c.loop-i.invariant)
      | else-i-len w ↦
          rw w.place-items-is
          (cut_kept c.args.self.«data» c.args.self.len c.loop-i.i _ four c.loop-i-test.true w.if-i-len.false
          c.loop-i.invariant)
    ]

pub returns : goal.returns
returns c =
    cut_set c.args.self.«data» c.args.self.len c.loop-i.i _ c.loop-i.place-items c.well_formed.0.1.1.0.1.0.1
    c.loop-i-test.false c.loop-i.invariant c.min.ensures
