-- `keep` lengthens the line, as far as there are places. Assumes nothing.
use Rattle.line_cut.proofs.Keeping.{keeps}
use Rattle.line_cut.proofs.keep.keep.Goals as goal

pub returns : goal.returns
returns c =
    keeps c.args.kept.now c.args.part.now c.args.count c.least-begun.result c.least-n.result c.least-begun.ensures
    c.least-n.ensures _ c.copy_from_slice.ensures.after
