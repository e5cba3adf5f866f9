-- `pass` passes characters before the first line feed.
-- The invariant: what is left to pass from here is the whole from the start. Assumes nothing.
use mathlib.Core.Path.{◌≡◌}
use Prim.Native.Nat.{◌+◌, ◌≤◌}
use lib.ListN.{length}
use Rattle.line_cut.specs.Cut.{line_length}
use Rattle.line_cut.proofs.line_feed.pass.Given as goal

abbrev pub invariant-loop-part : goal.invariant-loop-part
invariant-loop-part g l =
    (length l.rest ≤ length l.input) × (length l.input + line_length l.rest ≡ length l.rest + line_length l.input)

abbrev pub decreases-loop-part : goal.decreases-loop-part
decreases-loop-part g l = length l.rest
