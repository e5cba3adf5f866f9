-- `util::integrate` is `integrate_of`: the same operations in the same order, but for a product with one half where the
-- definition divides by 2, which is the same float (`halving`). Assumes nothing.
use Rattle.float.specs.Ops.{◌⊗◌}
use Rattle.float.proofs.Halving.{halving}
use Rattle.util.specs.Integrate.{integrate_of}
use Rattle.util.proofs.integrate.Goals as goal

pub returns : goal.returns
unfolding integrate_of
returns c = rw (halving c.args.a0, halving (c.args.t ⊗ c.args.j))
