-- `roots::insert_quadratic` offers `quadratic_of`, branch by branch. Assumes nothing.
use lib.Ieee.{neg}
use Rattle.float.specs.Ops.{◌⊕◌, ◌⊖◌, ◌⊘◌, #2}
use Rattle.positive_set.specs.Set.{insert_of, insert_all_of}
use Rattle.roots.specs.Quartic.{quadratic_of}
use Rattle.positive_set.proofs.Sets.{inserted, insert_length}
use Rattle.roots.proofs.insert_quadratic.Goals as goal

pub returns-then-near : goal.returns-then-near
unfolding quadratic_of insert_all_of
returns-then-near c l h e =
    rw (← c.near.ensures, c.if-near.true)
    (inserted l (neg c.args.p ⊘ #2) h e c.insert.ensures)

pub returns-then-d_ : goal.returns-then-d_
unfolding quadratic_of insert_all_of
returns-then-d_ c l h e =
    let s = c.sqrt_unmarked-sqrt_d.result in
    let x = (neg c.args.p ⊖ s) ⊘ #2 in
    rw (
      ← c.near.ensures,
      c.if-near.false,
      c.if-d_.true,
      ← c.sqrt_unmarked-sqrt_d.ensures,
    )
    (inserted (insert_of l x) ((neg c.args.p ⊕ s) ⊘ #2) (insert_length l x h)
    (inserted l x h e c.insert-then-d_.ensures) c.insert-then-d_-2.ensures)

pub returns-else-d_ : goal.returns-else-d_
unfolding quadratic_of insert_all_of
returns-else-d_ c l h e = rw (← c.near.ensures, c.if-near.false, c.if-d_.false) e
