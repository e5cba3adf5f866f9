-- `finish` stores `last_output`. Assumes nothing.
use mathlib.Core.Path.{◌≡◌}
use lib.ListN.{length}
use borrow.Author.Rules.{rules}
use Rattle.line_cut.specs.Stream.{kept_most}
use Rattle.line_stream.specs.Output.{answer_most, line_way}
use Rattle.line_stream.proofs.Ending.{none-held, one_held}
use Rattle.line_stream.proofs.finish.Goals as goal

pub returns-then-n-eq0 : goal.returns-then-n-eq0
returns-then-n-eq0 c =
    none-held c.args.kept.now c.args.count c.least-n.result c.least-n.ensures c.if-n-eq0.true c.args.out.now

pub returns : goal.returns
returns c =
    let w : length c.args.kept.now ≡ kept_most line_way = search rules in
    let l : length c.args.out.now ≡ answer_most = search rules in
    one_held c.args.kept.now c.args.count c.least-n.result c.least-n.ensures w c.if-n-eq0.false c.args.out.now
    c.write_line.result
    c.write_line.new.out
    l
    c.write_line.ensures
