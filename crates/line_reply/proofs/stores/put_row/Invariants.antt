-- `put_row` stores the bytes of its numbers. Assumes nothing.
-- The invariant: what is still to be stored from here is the whole from the start.
use Prim.Native.Nat.{◌+◌, ◌*◌}
use mathlib.Core.Path.{◌≡◌}
use lib.ListN.{drop}
use lib.Seq.{sets}
use Rattle.line_reply.specs.Reply.{numbers_bytes}
use Rattle.line_reply.proofs.stores.put_row.Given as goal

abbrev pub invariant-loop-i : goal.invariant-loop-i
invariant-loop-i l =
    sets l.bytes (l.at + 8 * l.i) (numbers_bytes (drop l.i l.row)) ≡ sets l.initial.bytes l.at (numbers_bytes l.row)
