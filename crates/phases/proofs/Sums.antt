-- The sums made in a row are those of its times. Assumes nothing.
use mathlib.Core.Path.{◌≡◌, refl, ap, sym, ◌∙◌}
use mathlib.Core.Bool.{Bool, true, false, cond}
use mathlib.Core.List.{List, [], ◌∷◌}
use Prim.Native.Nat.{ℕ, ◌+◌, ◌<◌}
use native.Mathlib.Nat.{zero-add}
use native.Mathlib.Omega.{arith}
use lib.ListN.{get_or, set}
use lib.Ieee.{Float, nan, lt}
use Rattle.float.specs.Ops.{◌⊕◌, #0}
use Rattle.row.specs.Row.{Numbers, part, numbers_in, with_sums}
use Rattle.row.proofs.Rows.{part_at, in_sums}
use Rattle.phases.specs.Run.{Step, yes!, no!, run}
use Rattle.phases.specs.Times.{step_of_sums, sums_of}
use Rattle.phases.specs.Moved.{summed_of}
use Rattle.phases.proofs.Runs.{seen, runs}

-- what `sums` does to a row
abbrev pub row-sum : ℕ → List Float → Step (List Float)
row-sum i x =
    cond (lt (get_or x (i + 1) nan) #0) (no! x) (yes! (set x (8 + i) (get_or x (7 + i) nan ⊕ get_or x (i + 1) nan)))

unfoldable pub row_sums : List Float → Step (List Float)
row_sums x = cond (lt (get_or x 0 nan) #0) (no! x) (run row-sum 6 0 (set x 7 (get_or x 0 nan)))

-- the same on numbers
on_numbers : ℕ → Numbers → Step Numbers
on_numbers i n = seen (λ (s : List Float). with_sums s n) (step_of_sums n.t i n.t_sum)

step_seen : (i : ℕ) (x : List Float) → i < 6 → seen numbers_in (row-sum i x) ≡ on_numbers i (numbers_in x)
unfolding on_numbers step_of_sums
step_seen i x h =
    rw (part_at 0 7 (i + 1) x (omega arith), zero-add (i + 1), part_at 7 7 i x (omega arith))
    (either (lt (get_or x (i + 1) nan) #0))
  where
    y : Float
    y = get_or x (7 + i) nan ⊕ get_or x (i + 1) nan

    either : (b : Bool)
        → seen numbers_in (cond b (no! x) (yes! (set x (8 + i) y)))
        ≡ seen (λ (s : List Float). with_sums s (numbers_in x))
        (cond b (no! (part 7 7 x)) (yes! (set (part 7 7 x) (i + 1) y)))
    either true = refl
    either false = rw (in_sums (y ∷ []) x (8 + i) (i + 1) (omega arith) (omega arith))

-- the sums alone, and with the other numbers beside them
pub summed : (x : List Float) {y : Step (List Float)} → y ≡ row_sums x → seen numbers_in y ≡ summed_of (numbers_in x)
unfolding row_sums summed_of sums_of
summed x e =
    rw (e, part_at 0 7 0 x (omega arith))
    (either (lt (get_or x 0 nan) #0))
  where
    first : Float
    first = get_or x 0 nan

    n : Numbers
    n = numbers_in x

    t : List Float
    t = set (part 7 7 x) 0 first

    from_first : seen numbers_in (run row-sum 6 0 (set x 7 first))
        ≡ seen (λ (s : List Float). with_sums s n) (run (step_of_sums n.t) 6 0 t)
    from_first =
        runs numbers_in row-sum on_numbers 6 step_seen 6 0 (set x 7 first) (omega arith)
        ∙ ap (run on_numbers 6 0) (in_sums (first ∷ []) x 7 0 refl (omega arith))
        ∙ sym (runs (λ (s : List Float). with_sums s n) (step_of_sums n.t) on_numbers 6 (λ i s h. beside i s) 6 0 t
        (omega arith))
      where
        beside : (i : ℕ) (s : List Float)
            → seen (λ (s : List Float). with_sums s n) (step_of_sums n.t i s) ≡ on_numbers i (with_sums s n)
        beside i s = unfold on_numbers in refl

    either : (b : Bool)
        → seen numbers_in (cond b (no! x) (run row-sum 6 0 (set x 7 first)))
        ≡ seen (λ (s : List Float). with_sums s n) (cond b (no! (part 7 7 x)) (run (step_of_sums n.t) 6 0 t))
    either true = refl
    either false = from_first
