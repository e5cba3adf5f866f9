-- `all_digits` is `all_digits_of`. Assumes nothing.
-- The invariant: what is still to be tested from here is the whole from the start.
use mathlib.Core.Path.{◌≡◌}
use mathlib.Core.Bool.{◌&&◌}
use lib.Dec.{leb}
use lib.ListN.{drop}
use Rattle.hex_bytes.specs.Hex.{all_digits_of}
use Rattle.hex_bytes.proofs.all_digits.Given as goal

abbrev pub invariant-loop-c : goal.invariant-loop-c
invariant-loop-c l =
    (leb l.less_48 22 && leb l.less_65 248) && all_digits_of (drop l.c-index l.line) ≡ all_digits_of l.line
