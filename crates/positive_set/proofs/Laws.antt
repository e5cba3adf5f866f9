-- What holds of every number that a set holds and of the order of trial: none is below 0 or NaN; the order of trial
-- keeps what holds of every number, and ascends.
-- Assumes nothing.
use Prim.Native.Nat.{ℕ, ◌*◌}
use mathlib.Core.Path.{◌≡◌, refl, sym}
use mathlib.Core.Bool.{Bool, true, false, not, cond, true≢false}
use mathlib.Core.List.{List, [], ◌∷◌, ◌++◌}
use native.Mathlib.Omega.{arith}
use lib.Dec.{T, ltb}
use lib.Ieee.{Float, nan, inf, fin, of_bits, lt, le, is_nan, up, down, below}
use borrow.Author.Tests.{ltb-true, le-ltb}
use Rattle.float.specs.Ops.{#0}
use Rattle.positive_set.specs.Set.{insert_of, insert_all_of, into_of, sorted_of}
use Rattle.positive_set.proofs.Sets.{insert_cases}

-- ---- a fact of every entry of a list
abbrev pub Every : {A : Type 0} → (A → Type 0) → List A → Type 0
Every P [] = Unit {0}
Every P (x ∷ l) = P x × Every P l

module _ {A : Type 0} (P : A → Type 0) where
  pub every_of_all : ((x : A) → P x) → (l : List A) → Every P l
  every_of_all f [] = tt
  every_of_all f (x ∷ l) = (f x, every_of_all f l)

  pub every_append : (l m : List A) → Every P l → Every P m → Every P (l ++ m)
  every_append [] m e f = f
  every_append (x ∷ l) m e f = (e.0, every_append l m e.1 f)

-- ---- what joins a set is not below 0
abbrev pub NotBelow0 : Float → Type 0
NotBelow0 x = T (le #0 x)

module _ (P : Float → Type 0) where
  pub every_insert_all : (vs l : List Float) → Every (λ v. T (le #0 v) → P v) vs → Every P l
      → Every P (insert_all_of l vs)
  unfolding insert_all_of
  every_insert_all [] l e f = f
  every_insert_all (v ∷ vs) l e f =
      every_insert_all vs (insert_of l v) e.1
      (insert_cases (Every P) l v (λ t r. every_append P l (v ∷ []) f (e.0 t, tt)) f)

-- and so it is no NaN
pub not_below_no_nan : (x : Float) → NotBelow0 x → T (not (is_nan x))
unfolding le is_nan of_bits
not_below_no_nan nan h = absurd h
not_below_no_nan (inf s) h = tt
not_below_no_nan (fin s m e) h = tt

-- ---- the order of trial keeps what holds of every number, and their count (`sorted_length` of Sets.antt)
module _ (P : Float → Type 0) where
  every_into : (x : Float) (l : List Float) → P x → Every P l → Every P (into_of x l)
  unfolding into_of
  every_into x [] p e = (p, tt)
  every_into x (y ∷ l) p e = go (lt y x) (every_into x l p e.1)
    where
      go : (b : Bool) → Every P (into_of x l) → Every P (cond b (y ∷ into_of x l) (x ∷ y ∷ l))
      go true f = (e.0, f)
      go false f = (p, e)

  pub every_sorted : (l : List Float) → Every P l → Every P (sorted_of l)
  unfolding sorted_of
  every_sorted [] e = tt
  every_sorted (x ∷ l) e = every_into x (sorted_of l) e.0 (every_sorted l e.1)

-- no number is below the one before it
abbrev pub From : Float → List Float → Type 0
From x [] = Unit {0}
From x (y ∷ l) = lt y x ≡ false

abbrev pub Ascends : List Float → Type 0
Ascends [] = Unit {0}
Ascends (x ∷ l) = From x l × Ascends l

-- x below y, then y is not below x
ltb_asym : (a b : ℕ) → ltb a b ≡ true → ltb b a ≡ false
ltb_asym a b h = le-ltb b a (omega (arith, ltb-true a b h))

below_asym : (s t : Bool) (a b : ℕ) → below s a t b ≡ true → below t b s a ≡ false
below_asym false false a b h = ltb_asym a b h
below_asym false true a b h = absurd (true≢false (sym h))
below_asym true false a b h = refl
below_asym true true a b h = ltb_asym b a h

lt_asym : (x y : Float) → lt x y ≡ true → lt y x ≡ false
unfolding lt
lt_asym nan y h = absurd (true≢false (sym h))
lt_asym (inf s) nan h = refl
lt_asym (inf true) (inf true) h = refl
lt_asym (inf true) (inf false) h = refl
lt_asym (inf false) (inf t) h = absurd (true≢false (sym h))
lt_asym (inf true) (fin t n d) h = refl
lt_asym (inf false) (fin t n d) h = absurd (true≢false (sym h))
lt_asym (fin s m e) nan h = refl
lt_asym (fin s m e) (inf true) h = absurd (true≢false (sym h))
lt_asym (fin s m e) (inf false) h = refl
lt_asym (fin s m e) (fin t n d) h = below_asym s t (m * up e * down d) (n * up d * down e) h

from_into : (y x : Float) (l : List Float) → lt y x ≡ true → From y l → From y (into_of x l)
unfolding into_of
from_into y x [] h f = lt_asym y x h
from_into y x (z ∷ l) h f = go (lt z x)
  where
    go : (b : Bool) → From y (cond b (z ∷ into_of x l) (x ∷ z ∷ l))
    go true = f
    go false = lt_asym y x h

into_ascends : (x : Float) (l : List Float) → Ascends l → Ascends (into_of x l)
unfolding into_of
into_ascends x [] a = (tt, tt)
into_ascends x (y ∷ l) a = go (lt y x) refl (into_ascends x l a.1)
  where
    go : (b : Bool) → lt y x ≡ b → Ascends (into_of x l) → Ascends (cond b (y ∷ into_of x l) (x ∷ y ∷ l))
    go true h r = (from_into y x l h a.0, r)
    go false h r = (h, a)

pub sorted_ascends : (l : List Float) → Ascends (sorted_of l)
unfolding sorted_of
sorted_ascends [] = tt
sorted_ascends (x ∷ l) = into_ascends x (sorted_of l) (sorted_ascends l)
