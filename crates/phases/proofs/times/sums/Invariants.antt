-- `sums` makes the sums in the row. The invariant: the rest of the run from here is the whole from the start.
-- Assumes nothing.
use Prim.Native.Nat.{◌≤◌, ◌-◌}
use mathlib.Core.Path.{◌≡◌}
use Rattle.phases.specs.Run.{run}
use Rattle.phases.proofs.Sums.{row-sum}
use Rattle.phases.proofs.times.sums.Given as goal

abbrev pub invariant-loop-i : goal.invariant-loop-i
invariant-loop-i l = (l.i ≤ 6) × (run row-sum (6 - l.i) l.i l.x ≡ run row-sum 6 0 l.initial.x)

abbrev pub decreases-loop-i : goal.decreases-loop-i
decreases-loop-i l = 6 - l.i
