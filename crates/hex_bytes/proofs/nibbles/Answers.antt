-- `nibbles` stores `nibbles_of`. Assumes nothing.
use mathlib.Core.Path.{sym, ◌∙◌}
use Rattle.hex_bytes.specs.Steps.{nibbles_of}
use Rattle.hex_bytes.proofs.Turns.{length_nibbles, sets-all}
use Rattle.hex_bytes.proofs.nibbles.Goals as goal

pub loop-i-init : goal.loop-i-init
loop-i-init c =
    sets-all (nibbles_of c.args.bytes.now) c.args.values.now (c.requires ∙ sym (length_nibbles c.args.bytes.now))
