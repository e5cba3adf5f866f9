-- `root27` is the whole part of the root. The loop's invariant: h is a guess, and no less than that. The measure is h.
-- Assumes nothing.
use Prim.Native.Nat.{suc, ◌*◌, ◌<◌}
use Rattle.sqrt.specs.Steps.{Guess}
use Rattle.sqrt.proofs.integer.root27.Given as goal

abbrev pub invariant-loop-h : goal.invariant-loop-h
invariant-loop-h l = Guess l.h × (l.a < suc l.h * suc l.h)

abbrev pub decreases-loop-h : goal.decreases-loop-h
decreases-loop-h l = l.h
