-- A number joins those that are in order, by `proofs/Places.antt`. Assumes nothing.
use mathlib.Core.Path.{◌∙◌}
use Prim.Native.Nat.{◌<◌}
use lib.ListN.{length}
use native.Mathlib.Omega.{arith}
use Rattle.positive_set.proofs.Places.{passes, takes, all_joined}
use Rattle.positive_set.proofs.join.Goals as goal
use Rattle.positive_set.proofs.join.Goals.{then-not-y-moved, else-not-y-moved}

pub loop-place-preserved : goal.loop-place-preserved
loop-place-preserved c =
    let h : c.loop-place.place-index < length c.loop-place.sorted = omega arith in
    elim c.if-not-y-moved.branch [
      | then-not-y-moved w ↦
          rw (w.sorted-is, w.moved-is) (takes _ _ _ h w.if-not-y-moved.true ∙ c.loop-place.invariant)
      | else-not-y-moved w ↦
          rw (w.sorted-is, w.moved-is) (passes _ _ _ h w.if-not-y-moved.false ∙ c.loop-place.invariant)
    ]

pub returns : goal.returns
returns c = λ l e. all_joined c.args.x c.loop-place.moved c.loop-place.sorted c.args.sorted.now l _ (omega arith)
    c.loop-place.invariant e
