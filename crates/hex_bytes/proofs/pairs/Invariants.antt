-- `pairs` stores `bytes_of`. Assumes nothing.
-- The invariant: what is still to be stored from here is the whole.
use Prim.Native.Nat.{◌*◌}
use mathlib.Core.Path.{◌≡◌}
use lib.ListN.{drop}
use lib.Seq.{sets}
use Rattle.hex_bytes.specs.Hex.{bytes_of}
use Rattle.hex_bytes.proofs.pairs.Given as goal

abbrev pub invariant-loop-i : goal.invariant-loop-i
invariant-loop-i l = sets l.bytes l.i (bytes_of (drop (2 * l.i) l.line)) ≡ bytes_of l.line
