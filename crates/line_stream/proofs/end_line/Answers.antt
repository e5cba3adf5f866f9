-- `end_line` stores the output of the line that `part` ends. Assumes nothing.
use Rattle.line_cut.proofs.Keeping.{kept-part, whole_part}
use Rattle.line_stream.proofs.Ending.{put_same}
use Rattle.line_stream.proofs.end_line.Goals as goal

pub returns-then-count-eq0 : goal.returns-then-count-eq0
returns-then-count-eq0 c =
    put_same c.args.out.now c.args.at _ _ _ _
    (whole_part _ c.args.kept.now c.args.part.now c.args.count c.least-n.result c.if-count-eq0.true
    c.least-n.ensures)
    c.write_line.ensures

pub returns : goal.returns
returns c =
    put_same c.args.out.now c.args.at _ _ _ _
    (kept-part _ c.args.kept.now c.args.part.now c.keep-n.new.kept c.args.count c.keep-n.result c.requires.kept_len
    c.keep-n.ensures)
    c.write_line-2.ensures
