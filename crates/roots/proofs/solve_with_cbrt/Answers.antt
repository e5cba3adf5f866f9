-- `roots::solve_with_cbrt` offers 0 and the opposite of the cube root. Assumes nothing.
use Prim.Native.Nat.{zero-le}
use mathlib.Core.List.{[]}
use lib.Ieee.{neg}
use Rattle.float.specs.Ops.{#0}
use Rattle.positive_set.specs.Set.{insert_of, insert_all_of}
use Rattle.roots.specs.Quartic.{with_cbrt_of}
use Rattle.positive_set.proofs.Sets.{inserted, insert_length}
use Rattle.roots.proofs.solve_with_cbrt.Goals as goal

pub returns : goal.returns
unfolding with_cbrt_of insert_all_of
returns c =
    inserted (insert_of [] #0) (neg c.args.cbrt) (insert_length [] #0 zero-le)
    (inserted [] #0 zero-le c.new.ensures c.insert.ensures) c.insert-2.ensures
