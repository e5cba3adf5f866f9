-- `roots::solve_without_cd` offers 0 and what x² + a x + b does. Assumes nothing.
use Prim.Native.Nat.{zero-le}
use mathlib.Core.List.{[]}
use Rattle.float.specs.Ops.{#0}
use Rattle.positive_set.specs.Set.{insert_of, insert_all_of}
use Rattle.roots.specs.Quartic.{without_cd_of}
use Rattle.positive_set.proofs.Sets.{inserted, insert_length}
use Rattle.roots.proofs.solve_without_cd.Goals as goal

pub returns : goal.returns
unfolding without_cd_of insert_all_of
returns c =
    c.insert_quadratic.ensures (insert_of [] #0) (insert_length [] #0 zero-le)
    (inserted [] #0 zero-le c.new.ensures c.insert.ensures)
