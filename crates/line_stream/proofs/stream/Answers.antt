-- `stream` is `call_of`. The invariant is `Going`; the measure is what is left of the input, and one more.
-- Assumes nothing.
use mathlib.Core.Path.{◌≡◌}
use lib.ListN.{length}
use borrow.Author.Rules.{rules}
use Rattle.line_cut.specs.Stream.{kept_most}
use Rattle.line_cut.proofs.Turns.{out_of_room, out_of_input, end_within, turns}
use Rattle.line_stream.specs.Output.{line_way}
use Rattle.line_stream.proofs.Whole.{holds}
use Rattle.line_stream.proofs.stream.Goals as goal

pub returns-then-end-input : goal.returns-then-end-input
returns-then-end-input c =
    let w : length c.keep-n.new.kept ≡ kept_most line_way = search rules in
    (out_of_input c.loop-out.invariant c.loop-out-test.true c.find-end.result c.find-end.ensures
    c.if-end-input.true
    c.keep-n.result
    c.keep-n.new.kept
    w
    c.keep-n.ensures
    ).0

pub slice_bounds-end_line-end : goal.slice_bounds-end_line-end
slice_bounds-end_line-end c =
    end_within c.loop-out.invariant c.loop-out-test.true c.find-end.result c.find-end.ensures

pub loop-out-preserved : goal.loop-out-preserved
loop-out-preserved c =
    let w : length c.end_line-filled.new.kept ≡ kept_most line_way = search rules in
    turns c.loop-out.invariant c.loop-out-test.true c.find-end.result c.find-end.ensures
    holds
    c.if-end-input.false
    _
    _
    c.end_line-filled.result
    w
    c.end_line-filled.ensures

pub returns : goal.returns
returns c = (out_of_room c.loop-out.invariant c.loop-out-test.false).0
