-- `spell` turns values into digits. Assumes nothing.
use native.Mathlib.Omega.{arith}
use Rattle.hex_bytes.proofs.Turns.{spelt}
use Rattle.hex_bytes.proofs.spell.Goals as goal

pub loop-place-preserved : goal.loop-place-preserved
loop-place-preserved c =
    rw c.digit.ensures
    (spelt c.args.places.now c.loop-place.places c.loop-place.place-index (omega arith) c.loop-place.invariant)
