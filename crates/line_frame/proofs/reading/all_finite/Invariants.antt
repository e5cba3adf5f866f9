-- `all_finite` is `all_finite_of` of the numbers. Assumes nothing.
-- The invariant: what is still to be tested from here is the whole from the start.
use mathlib.Core.Path.{◌≡◌}
use mathlib.Core.Bool.{◌&&◌}
use lib.ListN.{drop}
use Rattle.line_frame.proofs.Numbers.{all_words}
use Rattle.line_frame.proofs.reading.all_finite.Given as goal

abbrev pub invariant-loop-word : goal.invariant-loop-word
invariant-loop-word l = l.ok && all_words (drop l.word-index l.words) ≡ all_words l.words
