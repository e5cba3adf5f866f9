-- `finite_bits` is `finite` of the number with these bits. Assumes nothing.
use Rattle.number_bytes.proofs.Finite.{finite_is}
use Rattle.number_bytes.proofs.finite_bits.Goals as goal

pub returns : goal.returns
returns c = finite_is c.args.bits c.ranges.bits.fits
