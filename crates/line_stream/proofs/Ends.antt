-- The output for an empty input is empty, and for an empty line it is 01. Assumes nothing.
use mathlib.Core.Path.{◌≡◌, refl, ◌∙◌}
use mathlib.Core.List.{[], ◌∷◌, append-nil}
use lib.ListN.{replicate}
use Rattle.line_kinds.specs.Kinds.{reply_most}
use Rattle.line_stream.specs.Output.{line_output, output_of}
use Rattle.line_stream.proofs.FirstQuestion.{empty}
use Rattle.line_stream.proofs.Whole.{first_refusal}

pub empty_input : output_of [] ≡ []
unfolding output_of
empty_input = refl

pub empty_line : output_of (10 ∷ []) ≡ 48 ∷ 49 ∷ 10 ∷ []
unfolding output_of
empty_line = append-nil (line_output []) ∙ first_refusal [] (empty (replicate reply_most 0))
