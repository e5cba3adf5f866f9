-- `nibbles` stores `nibbles_of`. Assumes nothing.
-- The invariant: what is still to be stored from here is the whole.
use Prim.Native.Nat.{◌*◌}
use mathlib.Core.Path.{◌≡◌}
use lib.ListN.{drop}
use lib.Seq.{sets}
use Rattle.hex_bytes.specs.Steps.{nibbles_of}
use Rattle.hex_bytes.proofs.nibbles.Given as goal

abbrev pub invariant-loop-i : goal.invariant-loop-i
invariant-loop-i l = sets l.values (2 * l.i) (nibbles_of (drop l.i l.bytes)) ≡ nibbles_of l.bytes
