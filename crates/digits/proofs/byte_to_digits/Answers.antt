-- `byte_to_digits` is the two digits of a byte. Assumes nothing.
use mathlib.Core.Path.{refl}
use mathlib.Core.List.{[], ◌∷◌}
use lib.ListN.{replicate}
use Rattle.hex_bytes.specs.Hex.{encode_of}
use Rattle.digits.proofs.Both.{written}
use Rattle.digits.proofs.byte_to_digits.Goals as goal

pub returns : goal.returns
unfolding encode_of
returns c =
    written _ (c.args.b ∷ []) _ (replicate 2 0) c.encode.result refl c.encode.ensures
