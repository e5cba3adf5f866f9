-- `all_finite` is `all_finite_of` of the numbers. Assumes nothing.
use mathlib.Core.Path.{◌∙◌}
use native.Mathlib.Omega.{arith}
use Rattle.line_frame.proofs.Numbers.{done, cut_are}
use Rattle.line_frame.proofs.reading.all_finite.Goals as goal

pub returns : goal.returns
returns c =
    done c.loop-word.ok _ c.loop-word.word-index (omega arith)
    ∙ c.loop-word.invariant
    ∙ cut_are c.args.frame.now c.args.at c.args.n _ (omega arith) (omega arith) c.as_chunks.ensures.front
