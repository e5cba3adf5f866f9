-- `roots::sorted_roots` is `sorted_of` of the roots. Assumes nothing.
use mathlib.Core.Path.{ap, ◌∙◌}
use Rattle.positive_set.specs.Set.{held_of, set_of, sorted_of}
use Rattle.roots.specs.Quartic.{polynom_roots_of}
use Rattle.positive_set.proofs.Sets.{held-set}
use Rattle.roots.proofs.Laws.{roots-length}
use Rattle.roots.proofs.sorted_roots.Goals as goal

pub returns : goal.returns
returns c =
    c.sorted.ensures
    ∙ ap (λ k. set_of (sorted_of k))
    (ap held_of c.solve_quart_monic_arr.ensures
    ∙ held-set (polynom_roots_of c.args.polynom c.args.answer) (roots-length _ _ _ _ c.args.answer))
