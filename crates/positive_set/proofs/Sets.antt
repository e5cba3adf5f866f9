-- Assumes nothing. Laws of sets of at most four numbers:
-- what a set of a list's places holds, and what the code's tests compute.
use Prim.Native.Nat.{suc, ◌≤◌, ◌<◌}
use mathlib.Core.Path.{◌≡◌, refl, ap, ◌∙◌}
use mathlib.Core.Bool.{Bool, true, false, not, cond, ◌&&◌}
use mathlib.Core.List.{List, [], ◌∷◌, ◌++◌}
use native.Mathlib.Omega.{arith}
use lib.Dec.{T, ltb}
use lib.ListN.{length, length-append}
use lib.Seq.{take-take, take-append_seam}
use lib.Ieee.{Float, lt, le}
use borrow.Author.Tests.{ltb-true}
use Rattle.float.specs.Ops.{#0}
use Rattle.positive_set.specs.declared.PositiveSet.{PositiveSet}
use Rattle.positive_set.specs.Set.{held_of, set_of, holds, insert_of, insert_all_of, into_of, sorted_of}

-- ---- a set and the list that it holds
pub held-set : (l : List Float) → length l ≤ 4 → held_of (set_of l) ≡ l
held-set l h = rw (take-take, take-append_seam)

-- ---- insertion: v joins, and then it is not below 0 and a place was free; or the set stays
pub insert_cases : (P : List Float → Type 0) (l : List Float) (v : Float)
    → (T (le #0 v) → length l < 4 → P (l ++ (v ∷ []))) → P l → P (insert_of l v)
unfolding insert_of
insert_cases P l v joins stays = go (le #0 v) (holds l v) (ltb (length l) 4) (λ t. t) (ltb-true (length l) 4)
  where
    go : (p q r : Bool) → (T p → T (le #0 v)) → (r ≡ true → length l < 4)
        → P (cond (p && (not q && r)) (l ++ (v ∷ [])) l)
    go true true r t u = stays
    go true false true t u = joins (t tt) (u refl)
    go true false false t u = stays
    go false q r t u = stays

pub insert_length : (l : List Float) (v : Float) → length l ≤ 4 → length (insert_of l v) ≤ 4
insert_length l v h = insert_cases (λ k. length k ≤ 4) l v (λ t r. simp length-append (omega arith)) h

-- what `insert` promises, of a set whose list is known
pub inserted : {s r : PositiveSet} (l : List Float) (v : Float) → length l ≤ 4 → s ≡ set_of l
    → r ≡ set_of (insert_of (held_of s) v) → r ≡ set_of (insert_of l v)
inserted {s} {r} l v h e f = f ∙ ap (λ k. set_of (insert_of k v)) (ap held_of e ∙ held-set l h)

pub insert_all_length : (vs l : List Float) → length l ≤ 4 → length (insert_all_of l vs) ≤ 4
unfolding insert_all_of
insert_all_length [] l h = h
insert_all_length (v ∷ vs) l h = insert_all_length vs (insert_of l v) (insert_length l v h)

pub insert_all_append : (vs ws l : List Float) → insert_all_of l (vs ++ ws) ≡ insert_all_of (insert_all_of l vs) ws
unfolding insert_all_of
insert_all_append [] ws l = refl
insert_all_append (v ∷ vs) ws l = insert_all_append vs ws (insert_of l v)

-- ---- order
pub into_length : (x : Float) (l : List Float) → length (into_of x l) ≡ suc (length l)
unfolding into_of
into_length x [] = refl
into_length x (y ∷ l) = go (lt y x) (ap suc (into_length x l))
  where
    go : (b : Bool) → suc (length (into_of x l)) ≡ suc (suc (length l))
        → length (cond b (y ∷ into_of x l) (x ∷ y ∷ l)) ≡ suc (suc (length l))
    go true h = h
    go false h = refl

pub sorted_cons : (x : Float) (l : List Float) → sorted_of (x ∷ l) ≡ into_of x (sorted_of l)
unfolding sorted_of
sorted_cons x l = refl

pub sorted_length : (l : List Float) → length (sorted_of l) ≡ length l
unfolding sorted_of
sorted_length [] = refl
sorted_length (x ∷ l) = into_length x (sorted_of l) ∙ ap suc (sorted_length l)
