-- The roots of a quartic tried in turn: a yes at one of them ends it, and after a no the rest goes on. Assumes nothing.
use Prim.Native.Nat.{ℕ, ◌+◌, ◌≤◌, ◌<◌}
use mathlib.Core.Bool.{true, false}
use mathlib.Core.List.{List, ◌∷◌, map}
use mathlib.Core.Path.{◌≡◌, ap, sym, ◌∙◌}
use native.Mathlib.Nat.{le_trans, le_of_eq}
use native.Mathlib.Numerals.{add-one}
use lib.ListN.{length, get_or, drop, drop_of_length-le}
use lib.Seq.{drop-cons}
use lib.Ieee.{Float, nan}
use Rattle.profile.specs.declared.Profile.{Profile}
use Rattle.profile.specs.declared.Checked.{Checked}
use Rattle.positive_set.specs.declared.PositiveSet.{PositiveSet}
use Rattle.roots.specs.declared.RootAnswer.{RootAnswer}
use Rattle.positive_set.specs.Set.{held_of, set_of, sorted_of}
use Rattle.roots.specs.Quartic.{polynom_roots_of}
use Rattle.positive_set.proofs.Sets.{held-set, sorted_length}
use Rattle.roots.proofs.Laws.{roots-length}
use Rattle.step2_solver.specs.declared.Limits.{Limits}
use Rattle.step2_solver.specs.declared.Trial.{Trial}
use Rattle.step2_attempt.specs.Attempt.{nothing, try_of, tried_of}

-- ---- the roots that are held: at most four, from the smallest on
module _ (p : List Float) (answer : RootAnswer) {set : PositiveSet}
    (e : set ≡ set_of (sorted_of (polynom_roots_of p answer))) where
  few : length (sorted_of (polynom_roots_of p answer)) ≤ 4
  few =
      le_trans (le_of_eq (sorted_length (polynom_roots_of p answer)))
      (roots-length (get_or p 0 nan) (get_or p 1 nan) (get_or p 2 nan) (get_or p 3 nan) answer)

  pub four : set.len ≤ 4
  four = le_trans (le_of_eq (ap (λ (s : PositiveSet). s.len) e)) few

  pub roots_are : held_of set ≡ sorted_of (polynom_roots_of p answer)
  roots_are = ap held_of e ∙ held-set (sorted_of (polynom_roots_of p answer)) few

-- ---- What comes of those from root i on, with the record q, is what comes of all with q₀
pub record Rest (l : Limits) (f : Float → Trial) (xs : List Float) (q₀ : Profile) (i : ℕ) (q : Profile) : Type 0 where
  pub same : tried_of l (map f (drop i xs)) q ≡ tried_of l (map f xs) q₀

module _ {l : Limits} {f : Float → Trial} {xs : List Float} {q₀ q : Profile} {i : ℕ} (r : Rest l f xs q₀ i q) where
  -- no root is left
  pub spent : length xs ≤ i → nothing q ≡ tried_of l (map f xs) q₀
  unfolding tried_of
  spent h =
      ap (λ (ys : List Float). tried_of l (map f ys) q) (sym (drop_of_length-le xs h)) ∙ r.same

  module _ {k : Trial} {c : Checked} (more : i < length xs) (is : k ≡ f (get_or xs i nan))
      (tries : c ≡ try_of l k q) where
    -- root i, and the rest
    here : drop i xs ≡ get_or xs i nan ∷ drop (i + 1) xs
    here = drop-cons xs i nan more ∙ rw add-one

    -- it gets a yes: that is the answer
    pub hit : c.ok ≡ true → c ≡ tried_of l (map f xs) q₀
    hit y = first ∙ r.same
      where
        first : c ≡ tried_of l (map f (drop i xs)) q
        first = unfold tried_of in rw (here, ← is, ← tries, y)

    -- it gets a no: the rest goes on with the record that the no left
    pub miss : c.ok ≡ false → Rest l f xs q₀ (i + 1) c.profile
    miss y = record { same = rest ∙ r.same }
      where
        rest : tried_of l (map f (drop (i + 1) xs)) c.profile ≡ tried_of l (map f (drop i xs)) q
        rest = unfold tried_of in rw (here, ← is, ← tries, y)
