-- The value joins, or the set stays, by `proofs/Places.antt`. Assumes nothing.
use Rattle.positive_set.specs.Set.{held_of}
use Rattle.positive_set.proofs.Places.{held_few, insert_joins, insert_stays}
use Rattle.positive_set.proofs.PositiveSet.insert.Goals as goal

pub returns-then-value-contains : goal.returns-then-value-contains
returns-then-value-contains c =
    insert_joins c.cut-set.result (held_of c.args.self) c.args.value (held_few c.args.self c.well_formed.0.1.1.0.1.0.1)
    c.cut-set.ensures c.contains-contains.ensures.value c.if-value-contains.true

pub returns-else-value-contains : goal.returns-else-value-contains
returns-else-value-contains c =
    insert_stays c.cut-set.result (held_of c.args.self) c.args.value (held_few c.args.self c.well_formed.0.1.1.0.1.0.1)
    c.cut-set.ensures c.contains-contains.ensures.value c.if-value-contains.false
