-- `put` stores one number after the other. Assumes nothing.
-- The invariant: what is still to be stored from here is the whole from the start.
use Prim.Native.Nat.{◌+◌}
use mathlib.Core.Path.{◌≡◌}
use lib.ListN.{drop}
use lib.Seq.{sets}
use Rattle.row.proofs.put.Given as goal

abbrev pub invariant-loop-i : goal.invariant-loop-i
invariant-loop-i l = sets l.x (l.at + l.i) (drop l.i l.some) ≡ sets l.initial.x l.at l.some
