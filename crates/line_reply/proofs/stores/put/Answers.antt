-- `put` stores the eight bytes of a number. Assumes nothing.
use mathlib.Core.Path.{◌∙◌}
use native.Mathlib.Omega.{arith}
use Rattle.number_bytes.specs.Bytes.{number_bytes_of}
use Rattle.hex_bytes.proofs.Lent.{mid-sets}
use Rattle.line_reply.proofs.stores.put.Goals as goal

pub returns : goal.returns
returns c =
    mid-sets c.args.bytes.now _ (number_bytes_of c.args.x) c.args.at _
    (c.copy_from_slice.ensures.after ∙ c.to_be_bytes.ensures) (omega arith) (omega arith)
