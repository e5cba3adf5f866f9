-- The number that `join` gives back goes into the first free place, by `proofs/Places.antt`. Assumes nothing.
use mathlib.Core.Path.{◌≡◌}
use lib.ListN.{length, length-take}
use native.Mathlib.Omega.{arith}
use Rattle.positive_set.proofs.Places.{with_last}
use Rattle.positive_set.proofs.PositiveSet.with.Goals as goal

pub returns : goal.returns
returns c = λ l h e.
    let four : length c.args.self.«data» ≡ 4 = c.well_formed.0.1.1.0.1.0.1 in
    let n = simp length-take at c.join-last.auto.sorted in
    with_last c.args.self c.args.x c.join-last.result c.join-last.new.sorted l h e (omega (arith, n))
    c.join-last.ensures
