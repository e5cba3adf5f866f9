-- What is left, joined by the number that moves, follows what is done. Assumes nothing.
use Rattle.std.proofs.Common.{◌≡◌, ◌++◌, take, drop}
use Rattle.positive_set.proofs.Places.{moved_in}
use Rattle.positive_set.proofs.join.Given as goal

abbrev pub invariant-loop-place : goal.invariant-loop-place
invariant-loop-place l =
    take l.place-index l.sorted ++ moved_in l.moved (drop l.place-index l.sorted) ≡ moved_in l.fn.x l.initial.sorted
