-- `turn` is `turn_of`: `out` has room for all answers, so that one call of `stream` takes what was read as a whole.
-- Assumes nothing.
use mathlib.Core.Path.{◌≡◌, subst}
use mathlib.Core.List.{List}
use Prim.Native.Nat.{ℕ, ◌+◌, ◌*◌, ◌≤◌}
use native.Mathlib.Omega.{arith}
use lib.Dec.{lit≤}
use lib.ListN.{length, take, length-take}
use borrow.Author.Rules.{rules}
use mir.Syntax.{w64}
use mir.Val.{to_z, of_z}
use mir.ValLaws.{to_z-of_z}
use Rattle.line_program.specs.Counts.{clamp_len}
use Rattle.line_cut.specs.Stream.{Progress, Streams}
use Rattle.line_kinds.specs.Kinds.{spread}
use Rattle.line_stream.specs.Output.{answer_most, call_of, turn_of}
use Rattle.line_stream.proofs.Whole.{one_call}
use Rattle.line_program.proofs.turn.Goals as goal

turns : (block kept out : List ℕ) (count n m : ℕ) → n ≡ m
    → spread * length block + 2 * answer_most ≤ length out
    → call_of (length out) (take count kept) (take n block) ≡ turn_of (take count kept) (take m block)
turns block kept out count n m e room =
    let h : spread * length (take n block) + 2 * answer_most ≤ length out = rw (length-take n block) (omega arith) in
    rw (← e) (one_call (length out) (take count kept) (take n block) h)

pub returns : goal.returns
returns c =
    let b : length c.args.block.now ≡ 65536 = search rules in
    let o : length c.args.out.now ≡ 263610 = search rules in
    let e : c.given-n.result ≡ clamp_len (to_z w64 (of_z w64 c.args.got)) (length c.args.block.now) =
    c.given-n.ensures in
    subst
    (λ (p : Progress (Unit {0})). Streams p c.stream.result.used c.stream.result.count c.stream.result.filled
    c.stream.new.kept c.args.out.now c.stream.new.out)
    (turns c.args.block.now c.args.kept.now c.args.out.now c.args.count c.given-n.result _
    (rw (to_z-of_z w64 c.args.got c.ranges.got) at e) (rw (b, o) (lit≤ tt)))
    c.stream.ensures
