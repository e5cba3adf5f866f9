-- `find` finds the first line feed. Assumes nothing.
use mathlib.Core.Path.{◌≡◌, ap, ◌∙◌}
use Prim.Native.Nat.{◌-◌}
use native.Mathlib.Omega.{arith}
use lib.ListN.{length, take, drop, length-drop}
use lib.Seq.{take_all}
use Rattle.line_cut.specs.Cut.{line_length}
use Rattle.line_cut.proofs.Feeds.{at_feed, feed_le}
use Rattle.line_cut.proofs.line_feed.find.Goals as goal

pub overflow_add-result : goal.overflow_add-result
overflow_add-result c =
    let r = c.pass-rest.result.now in
    let e : c.unwrap_or.result ≡ line_length r = c.unwrap_or.ensures ∙ rw c.first_feed.ensures (at_feed r) in
    omega (arith, feed_le r)

pub returns : goal.returns
returns c =
    let r = c.pass-rest.result.now in
    let e : c.unwrap_or.result ≡ line_length r = c.unwrap_or.ensures ∙ rw c.first_feed.ensures (at_feed r) in
    let all : take (length c.args.input.now - c.args.from) (drop c.args.from c.args.input.now)
    ≡ drop c.args.from c.args.input.now =
    take_all _ (drop c.args.from c.args.input.now) (rw length-drop (omega arith)) in
    omega (arith, ap line_length all)
