-- `stream` is `call_of`. The invariant is `Going`; the measure is what is left of the input, and one more.
-- Assumes nothing.
use Prim.Native.Nat.{◌+◌, ◌-◌}
use lib.ListN.{length, take}
use Rattle.line_cut.proofs.Turns.{Going}
use Rattle.line_stream.specs.Output.{line_way}
use Rattle.line_stream.proofs.stream.Given as goal

abbrev pub invariant-loop-out : goal.invariant-loop-out
invariant-loop-out l =
    Going line_way tt l.input (take l.fn.count l.initial.kept) l.initial.out tt l.kept l.out l.count l.at l.filled

abbrev pub decreases-loop-out : goal.decreases-loop-out
decreases-loop-out l = length l.input + 1 - l.at
