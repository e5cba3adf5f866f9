-- A set's four places: the free ones emptied, a number put into the first free one, and numbers moved up to let one
-- join those that are in order. Assumes nothing.
use Prim.Native.Nat.{ℕ, zero, suc, min, ◌+◌, ◌-◌, ◌≤◌, ◌<◌}
use mathlib.Core.Path.{◌≡◌, refl, sym, ap, subst, ◌∙◌}
use mathlib.Core.Bool.{Bool, true, false, not, cond, ◌&&◌, false≢true}
use mathlib.Core.List.{List, [], ◌∷◌, ◌++◌}
use native.Mathlib.Nat.{le_refl}
use native.Mathlib.Numerals.{add-one}
use native.Mathlib.Omega.{arith}
use borrow.Author.Count.{below_more}
use borrow.Author.Tests.{ltb-true}
use Rattle.std.proofs.Common.{◌≢◌, append_assoc}
use lib.Dec.{ltb}
use lib.ListN.{length, take, drop, set, get_or, length-take, length-append, length-set, drop_of_length-le}
use lib.Ieee.{Float, nan, lt, le, eq}
use Rattle.std.specs.List.{list_any}
use Rattle.std.proofs.lemmas.List.{ext_get_or, get_or-set_same, get_or-set_other, get_or_append_left, take_more}
use Rattle.std.proofs.lemmas.List.{take_more_set}
use Rattle.std.proofs.lemmas.List.{drop-set-lt, set-get_or, take_min, append-nil}
use lib.Seq.{drop-cons, get_or-take, get_or-append_right, take_all}
use Rattle.float.specs.Ops.{#0}
use Rattle.positive_set.specs.declared.PositiveSet.{PositiveSet}
use Rattle.positive_set.specs.Set.{held_of, set_of, holds, insert_of, into_of, sorted_of}
use Rattle.positive_set.proofs.Sets.{held-set, sorted_cons, sorted_length}
use Rattle.positive_set.proofs.Laws.{From, Ascends, sorted_ascends}

-- ---- the free places are emptied, from the first place on
-- The places below i are as in the set that holds the first n numbers of D, and those from i on as in D.
pub record Cut (D : List Float) (n i : ℕ) (xs : List Float) : Type 0 where
  pub four : length xs ≡ 4
  pub below : (k : ℕ) → k < i → get_or xs k nan ≡ get_or (set_of (take n D)).«data» k nan
  pub above : (k : ℕ) → i ≤ k → get_or xs k nan ≡ get_or D k nan

pub cut_start : (D : List Float) (n : ℕ) → length D ≡ 4 → Cut D n 0 D
cut_start D n h = record { four = h; below = λ k l. absurd (omega arith); above = λ k l. refl }

set_length : (D : List Float) (n : ℕ) → length (set_of (take n D)).«data» ≡ 4
set_length D n = simp (length-take, length-append) (omega arith)

cut_end : (D : List Float) (n i : ℕ) (xs : List Float) → 4 ≤ i → Cut D n i xs → xs ≡ (set_of (take n D)).«data»
cut_end D n i xs h c =
    ext_get_or nan xs (set_of (take n D)).«data» (c.four ∙ sym (set_length D n))
    (λ k l. let four = c.four in c.below k (omega arith))

pub cut_set : (D : List Float) (n i m : ℕ) (xs : List Float) → length D ≡ 4 → 4 ≤ i → Cut D n i xs → m ≡ min n 4
    → record { «data» = xs; len = m } ≡ set_of (take n D)
cut_set D n i m xs f h c e =
    let l : m ≡ length (take n D) = e ∙ sym (length-take n D ∙ rw f) in
    rw (cut_end D n i xs h c, l)

-- a number that is held, and a free place
kept : (D : List Float) (n k : ℕ) → length D ≡ 4 → k < n → k < 4
    → get_or (set_of (take n D)).«data» k nan ≡ get_or D k nan
kept D n k f h g =
    let m : k < length (take n D) = simp length-take (omega arith) in
    get_or-take 4 (take n D ++ (#0 ∷ #0 ∷ #0 ∷ #0 ∷ [])) k nan g
    ∙ get_or_append_left (take n D) (#0 ∷ #0 ∷ #0 ∷ #0 ∷ []) nan k m ∙ get_or-take n D k nan h

zero_at : (k : ℕ) → k < 4 → get_or (#0 ∷ #0 ∷ #0 ∷ #0 ∷ []) k nan ≡ #0
zero_at zero h = refl
zero_at (suc zero) h = refl
zero_at (suc (suc zero)) h = refl
zero_at (suc (suc (suc zero))) h = refl
zero_at (suc (suc (suc (suc k)))) h = absurd (omega arith)

free : (D : List Float) (n k : ℕ) → n ≤ k → k < 4 → get_or (set_of (take n D)).«data» k nan ≡ #0
free D n k h g =
    let m : length (take n D) ≤ k = simp length-take (omega arith) in
    get_or-take 4 (take n D ++ (#0 ∷ #0 ∷ #0 ∷ #0 ∷ [])) k nan g
    ∙ get_or-append_right (take n D) (#0 ∷ #0 ∷ #0 ∷ #0 ∷ []) k nan m ∙ zero_at (k - length (take n D)) (omega arith)

pub cut_kept : (D : List Float) (n i : ℕ) (xs : List Float) → length D ≡ 4 → i < 4 → i < n → Cut D n i xs
    → Cut D n (i + 1) (set xs i (get_or xs i nan))
cut_kept D n i xs f g h c = rw (set-get_or xs i nan) (record {
  four = c.four;
  below = below_more _ i c.below (c.above i (le_refl i) ∙ sym (kept D n i f h g));
  above = λ k l. c.above k (omega arith);
})

pub cut_freed : (D : List Float) (n i : ℕ) (xs : List Float) → i < 4 → n ≤ i → Cut D n i xs
    → Cut D n (i + 1) (set xs i #0)
cut_freed D n i xs g h c =
    let four = c.four in
    let here : i < length xs = omega arith in
    record {
      four = simp length-set four;
      below =
          below_more _ i
          (λ k l. let ne : k ≢ i = omega arith in get_or-set_other xs i k #0 nan ne ∙ c.below k l)
          (get_or-set_same xs i #0 nan here ∙ sym (free D n i h g));
      above = λ k l. let ne : k ≢ i = omega arith in get_or-set_other xs i k #0 nan ne ∙ c.above k (omega arith);
    }

-- ---- a number joins
pub held_few : (s : PositiveSet) → length s.«data» ≡ 4 → length (held_of s) ≤ 4
held_few s h = simp length-take (omega arith)

pub holds_is : (l : List Float) (v : Float) → list_any (λ x. eq x v) l ≡ holds l v
unfolding holds
holds_is [] v = refl
holds_is (x ∷ l) v = rw (holds_is l v)

-- the set's list with v at its end
pub put_last : (l : List Float) (v : Float) → length l < 4
    → set (set_of l).«data» (length l) v ≡ (set_of (l ++ (v ∷ []))).«data»
put_last [] v h = refl
put_last (a ∷ []) v h = refl
put_last (a ∷ b ∷ []) v h = refl
put_last (a ∷ b ∷ c ∷ []) v h = refl
put_last (a ∷ b ∷ c ∷ d ∷ l) v h = absurd (omega arith)

last_true : (p q : Bool) → p && q ≡ true → q ≡ true
last_true true q e = e
last_true false q e = absurd (false≢true e)

-- r is the set of l; v joins where the code's test says so, and else r stays
module _ (r : PositiveSet) (l : List Float) (v : Float) {b : Bool} (few : length l ≤ 4) (is : r ≡ set_of l)
    (contains : b ≡ list_any (λ x. eq x v) (take r.len r.«data»)) where
  held_is : list_any (λ x. eq x v) (take r.len r.«data») ≡ holds l v
  held_is = rw (is, held-set l few) (holds_is l v)

  -- the definition's test is the code's in another order
  other_order : (p q t : Bool) {u : Bool} → (p && not q) && t ≡ u → p && (not q && t) ≡ u
  other_order true q t e = e
  other_order false q t e = e

  count : r.len ≡ length l
  count = ap (λ s. s.len) is

  joins : {u : Bool} → (le #0 v && not b) && ltb r.len 4 ≡ u → le #0 v && (not (holds l v) && ltb (length l) 4) ≡ u
  joins e =
      other_order (le #0 v) (holds l v) (ltb (length l) 4)
      (rw (← held_is, ← count, ← contains) e)

  pub insert_joins : (le #0 v && not b) && ltb r.len 4 ≡ true
      → record { «data» = set r.«data» r.len v; len = r.len + 1 } ≡ set_of (insert_of l v)
  unfolding insert_of
  insert_joins e =
      let h : length l < 4 = ltb-true (length l) 4 (last_true _ _ (rw count at e)) in
      rw (joins e, is, put_last l v h, length-append l (v ∷ []))

  pub insert_stays : (le #0 v && not b) && ltb r.len 4 ≡ false → r ≡ set_of (insert_of l v)
  unfolding insert_of
  insert_stays e = rw (joins e) is

-- ---- x in its place among numbers in order, as the code moves them
abbrev pub moved_in : Float → List Float → List Float
moved_in x [] = x ∷ []
moved_in x (y ∷ l) = cond (lt y x) (y ∷ moved_in x l) (x ∷ moved_in y l)

moved_on : (x : Float) (l : List Float) → From x l → Ascends l → moved_in x l ≡ x ∷ l
moved_on x [] f a = refl
moved_on x (y ∷ l) f a = rw (f, moved_on y l a.0 a.1)

moved_in_is : (x : Float) (l : List Float) → Ascends l → moved_in x l ≡ into_of x l
unfolding into_of
moved_in_is x [] a = refl
moved_in_is x (y ∷ l) a = go (lt y x) (moved_in_is x l a.1)
  where
    go : (b : Bool) → moved_in x l ≡ into_of x l
        → cond b (y ∷ moved_in x l) (x ∷ moved_in y l) ≡ cond b (y ∷ into_of x l) (x ∷ y ∷ l)
    go true h = ap (λ m. y ∷ m) h
    go false h = ap (λ m. x ∷ m) (moved_on y l a.0 a.1)

joined : (x : Float) (l : List Float) → moved_in x (sorted_of l) ≡ sorted_of (x ∷ l)
joined x l = moved_in_is x (sorted_of l) (sorted_ascends l) ∙ sym (sorted_cons x l)

-- one number further on: it stays, or x takes its place and it moves
module _ (x : Float) (xs : List Float) (i : ℕ) (h : i < length xs) where
  split : drop i xs ≡ get_or xs i nan ∷ drop (i + 1) xs
  split = drop-cons xs i nan h ∙ rw add-one

  pub passes : lt (get_or xs i nan) x ≡ true
      → take (i + 1) (set xs i (get_or xs i nan)) ++ moved_in x (drop (i + 1) (set xs i (get_or xs i nan)))
      ≡ take i xs ++ moved_in x (drop i xs)
  passes t = rw (set-get_or xs i nan, split, t, take_more xs i nan h, append_assoc)

  pub takes : lt (get_or xs i nan) x ≡ false
      → take (i + 1) (set xs i x) ++ moved_in (get_or xs i nan) (drop (i + 1) (set xs i x))
      ≡ take i xs ++ moved_in x (drop i xs)
  takes t =
      let d : drop (i + 1) (set xs i x) ≡ drop (i + 1) xs = drop-set-lt (i + 1) xs i x (omega arith) in
      rw (d, split, t, take_more_set xs i x h, append_assoc)

-- no number is left
pub all_joined : (x y : Float) (xs ys l : List Float) (i : ℕ) → length xs ≤ i
    → take i xs ++ moved_in y (drop i xs) ≡ moved_in x ys → ys ≡ sorted_of l → xs ++ (y ∷ []) ≡ sorted_of (x ∷ l)
all_joined x y xs ys l i h e f =
    let t : take i xs ≡ xs = take_all i xs h in
    let d : drop i xs ≡ [] = drop_of_length-le xs h in
    (rw (t, d) at e) ∙ ap (moved_in x) f ∙ joined x l

-- the set of sorted numbers, with the one that was moved in the first free place
put_free : (xs l : List Float) (y : Float) → length xs ≡ length l → length l < 4
    → set (xs ++ drop (length l) (set_of l).«data») (length l) y ≡ (set_of (xs ++ (y ∷ []))).«data»
put_free [] [] y e h = refl
put_free (a ∷ []) (b ∷ []) y e h = refl
put_free (a ∷ c ∷ []) (b ∷ d ∷ []) y e h = refl
put_free (a ∷ c ∷ f ∷ []) (b ∷ d ∷ g ∷ []) y e h = refl
put_free [] (b ∷ l) y e h = absurd (omega arith)
put_free (a ∷ xs) [] y e h = absurd (omega arith)
put_free (a ∷ []) (b ∷ d ∷ l) y e h = absurd (omega arith)
put_free (a ∷ c ∷ xs) (b ∷ []) y e h = absurd (omega arith)
put_free (a ∷ c ∷ []) (b ∷ d ∷ g ∷ l) y e h = absurd (omega arith)
put_free (a ∷ c ∷ f ∷ xs) (b ∷ d ∷ []) y e h = absurd (omega arith)
put_free (a ∷ c ∷ f ∷ xs) (b ∷ d ∷ g ∷ k ∷ l) y e h = absurd (omega arith)
put_free (a ∷ c ∷ f ∷ k ∷ xs) (b ∷ d ∷ g ∷ []) y e h = absurd (omega arith)

pub with_last : (s : PositiveSet) (x y : Float) (xs l : List Float) → length l < 4 → s ≡ set_of (sorted_of l)
    → length xs ≡ s.len → ((m : List Float) → take s.len s.«data» ≡ sorted_of m → xs ++ (y ∷ []) ≡ sorted_of (x ∷ m))
    → record { «data» = set (xs ++ drop s.len s.«data») s.len y; len = s.len + 1 } ≡ set_of (sorted_of (x ∷ l))
with_last s x y xs l h e n f =
    let k : length (sorted_of l) ≡ length l = sorted_length l in
    let few : length (sorted_of l) < 4 = omega arith in
    let few4 : length (sorted_of l) ≤ 4 = omega arith in
    let j : xs ++ (y ∷ []) ≡ sorted_of (x ∷ l) = f l (ap held_of e ∙ held-set (sorted_of l) few4) in
    let m : length xs ≡ length (sorted_of l) = n ∙ ap (λ (t : PositiveSet). t.len) e in
    let p = put_free xs (sorted_of l) y m few in
    rw (← j, e, p, length-append xs (y ∷ []), m)

-- ---- the numbers of a set, the last ones first: those of rest are left, and the others are in order in the set r
pub record Left (held rest : List Float) (r : PositiveSet) : Type 0 where
  pub done : List Float
  pub few : length held ≤ 4
  pub whole : held ≡ rest ++ done
  pub same : r ≡ set_of (sorted_of done)

take_four : (D : List Float) (n : ℕ) → length D ≡ 4 → take n D ≡ take (min n 4) D
take_four D n f = sym (subst (λ (k : ℕ). take (min n k) D ≡ take n D) f (take_min n D))

pub none_done : (D : List Float) (n m : ℕ) {r : PositiveSet} → length D ≡ 4 → m ≡ min n 4 → r ≡ set_of []
    → Left (take n D) (take m D) r
unfolding sorted_of
none_done D n m f e h =
    record {
      done = [];
      few = simp length-take (omega arith);
      whole = take_four D n f ∙ rw (← e) (sym (append-nil (take m D)));
      same = h;
    }

room : {held rest : List Float} (rest2 : List Float) {r : PositiveSet} (x : Float) (left : Left held rest r)
    → rest ≡ rest2 ++ (x ∷ []) → length left.done < 4
room rest2 x left steps =
    let few = left.few in
    let w = simp length-append at (ap length left.whole) in
    let s = simp length-append at (ap length steps) in
    omega arith

pub free_place : {held rest : List Float} (rest2 : List Float) {r : PositiveSet} (x : Float) → Left held rest r
    → rest ≡ rest2 ++ (x ∷ []) → r.len < 4
free_place rest2 x left steps =
    let h = room rest2 x left steps in
    let e = ap (λ (t : PositiveSet). t.len) left.same in
    omega (arith, sorted_length left.done)

pub one_more : {held rest : List Float} (rest2 : List Float) {r r2 : PositiveSet} (x : Float) → Left held rest r
    → rest ≡ rest2 ++ (x ∷ [])
    → ((l : List Float) → length l < 4 → r ≡ set_of (sorted_of l) → r2 ≡ set_of (sorted_of (x ∷ l)))
    → Left held rest2 r2
one_more rest2 x left steps f =
    record {
      done = x ∷ left.done;
      few = left.few;
      whole = left.whole ∙ rw (steps, append_assoc);
      same = f left.done (room rest2 x left steps) left.same;
    }

pub all_done : {held rest : List Float} {r : PositiveSet} → Left held rest r → length rest ≡ 0
    → r ≡ set_of (sorted_of held)
all_done {held} {rest} {r} left h =
    left.same ∙ ap (λ (l : List Float). set_of (sorted_of l)) (sym (left.whole ∙ nothing_left rest left.done h))
  where
    nothing_left : (a b : List Float) → length a ≡ 0 → a ++ b ≡ b
    nothing_left [] b e = refl
    nothing_left (x ∷ a) b e = absurd (omega arith)
