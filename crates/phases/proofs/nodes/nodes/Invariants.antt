-- `nodes` makes the seven phases in the row. The invariant: the rest of the phases from here is the whole from the
-- start, and the numbers are those of entry i. Assumes nothing.
use Prim.Native.Nat.{◌≤◌, ◌-◌}
use mathlib.Core.Path.{◌≡◌}
use Rattle.phases.specs.Run.{run}
use Rattle.phases.proofs.Moves.{row-phase, Held}
use Rattle.phases.proofs.nodes.nodes.Given as goal

abbrev pub invariant-loop-i : goal.invariant-loop-i
invariant-loop-i l =
    (l.i ≤ 7)
    × (run (row-phase l.replacing l.band) (7 - l.i) l.i l.x
    ≡ run (row-phase l.replacing l.band) 7 0 l.initial.x)
    × Held l.x l.i l.p0 l.v0 l.a0

abbrev pub decreases-loop-i : goal.decreases-loop-i
decreases-loop-i l = 7 - l.i
