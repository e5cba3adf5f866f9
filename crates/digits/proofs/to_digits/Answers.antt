-- `to_digits` is the digits of a number's bytes. Assumes nothing.
use lib.ListN.{replicate}
use Rattle.hex_bytes.specs.Hex.{encode_of}
use Rattle.number_bytes.specs.Bytes.{number_bytes_of}
use Rattle.digits.proofs.Both.{written}
use Rattle.digits.proofs.to_digits.Goals as goal

pub returns : goal.returns
unfolding encode_of
returns c =
    written _ (number_bytes_of c.args.x) _ (replicate 16 0) c.encode.result c.to_be_bytes.ensures
    c.encode.ensures
