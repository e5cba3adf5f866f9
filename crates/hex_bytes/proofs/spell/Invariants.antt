-- `spell` turns values into digits. Assumes nothing.
-- The invariant: digits below the index, and from it on what was there.
use mathlib.Core.Path.{◌≡◌}
use mathlib.Core.List.{◌++◌, map}
use lib.ListN.{take, drop}
use Rattle.hex_bytes.specs.Hex.{digit_of}
use Rattle.hex_bytes.proofs.spell.Given as goal

abbrev pub invariant-loop-place : goal.invariant-loop-place
invariant-loop-place l =
    l.places ≡ map digit_of (take l.place-index l.initial.places) ++ drop l.place-index l.initial.places
