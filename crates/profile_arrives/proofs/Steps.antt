-- A run of `check`'s loop that says yes, backwards. Assumes nothing.
-- It made every step, and each entry that it left is the step from the entry before.
use mathlib.Core.Path.{◌≡◌, refl, sym, ap, ◌∙◌, subst}
use mathlib.Core.Bool.{Bool, true, false, cond, true≢false}
use mathlib.Core.Logic.{inl, inr}
use Prim.Native.Nat.{ℕ, zero, suc, ◌+◌, ◌≤◌, ◌<◌}
use native.Mathlib.Nat.{le_refl, eq-or-lt_of_le}
use native.Mathlib.Omega.{arith}
use lib.ListN.{length, get_or, set, length-set}
use lib.Seq.{get_or-set_same, get_or-set_other}
use lib.Ieee.{Float, nan}
use Rattle.phases.specs.Run.{Step, run}
use Rattle.row.specs.Row.{Nodes}
use Rattle.rounding.specs.Step.{Node}

-- ---- the steps from i on: none is left, or another one
pub never : (i l : ℕ) → i ≤ l → l < i + 0 → ⊥
never i l a b = omega arith

pub later : (k i l : ℕ) → i < l → l < i + suc k → (i + 1 ≤ l) × (l < i + 1 + k)
later k i l a b = omega arith

-- what holds of each of the seven phases
pub by_seven : (P : ℕ → Type 0) → P 0 → P 1 → P 2 → P 3 → P 4 → P 5 → P 6 → (i : ℕ) → i < 7 → P i
by_seven P a b c d e f g zero l = a
by_seven P a b c d e f g (suc zero) l = b
by_seven P a b c d e f g (suc (suc zero)) l = c
by_seven P a b c d e f g (suc (suc (suc zero))) l = d
by_seven P a b c d e f g (suc (suc (suc (suc zero)))) l = e
by_seven P a b c d e f g (suc (suc (suc (suc (suc zero))))) l = f
by_seven P a b c d e f g (suc (suc (suc (suc (suc (suc zero)))))) l = g
by_seven P a b c d e f g (suc (suc (suc (suc (suc (suc (suc i))))))) l = absurd (past i l)
  where
    past : (i : ℕ) → suc (suc (suc (suc (suc (suc (suc i)))))) < 7 → ⊥
    past i h = omega arith

-- ---- any steps
went : {X : Type 0} (b : Bool) (s y : Step X) → s.ok ≡ b → (cond b y s).ok ≡ true → (b ≡ true) × (cond b y s ≡ y)
went true s y e h = (refl, refl)
went false s y e h = absurd (true≢false (sym h ∙ e))

either_way : {X : Type 0} (P : Step X → Type 0) (b : Bool) (s t : Step X) → P s → P t → P (cond b s t)
either_way P true s t h k = h
either_way P false s t h k = k

module _ {X : Type 0} (f : ℕ → X → Step X) where
  -- the first step said yes, and the run is the rest of it
  pub first : (k i : ℕ) (x : X) → (run f (suc k) i x).ok ≡ true
      → ((f i x).ok ≡ true) × (run f (suc k) i x ≡ run f k (i + 1) (f i x).left)
  unfolding run
  first k i x h = went (f i x).ok (f i x) (run f k (i + 1) (f i x).left) refl h

  pub rest : (k i : ℕ) (x : X) → (run f (suc k) i x).ok ≡ true → (run f k (i + 1) (f i x).left).ok ≡ true
  rest k i x h = subst (λ (s : Step X). s.ok ≡ true) (first k i x h).1 h

  -- every step said yes, to some x
  pub each_yes : (k i : ℕ) (x : X) → (run f k i x).ok ≡ true → (l : ℕ) → i ≤ l → l < i + k
      → (y : X) × ((f l y).ok ≡ true)
  each_yes zero i x h l a b = absurd (never i l a b)
  each_yes (suc k) i x h l a b =
      elim (eq-or-lt_of_le a) [
        | inl e ↦ (x, subst (λ (z : ℕ). (f z x).ok ≡ true) e (first k i x h).0)
        | inr c ↦ each_yes k (i + 1) (f i x).left (rest k i x h) l (later k i l c b).0 (later k i l c b).1
      ]

-- ---- entries
abbrev pub at : Nodes → ℕ → Node
at n i = record { a = get_or n.a i nan; v = get_or n.v i nan; p = get_or n.p i nan }

abbrev pub stored : Nodes → ℕ → Node → Nodes
stored n i s = record { a = set n.a i s.a; v = set n.v i s.v; p = set n.p i s.p }

pub record Eight (n : Nodes) : Type 0 where
  pub eight_a : length n.a ≡ 8
  pub eight_v : length n.v ≡ 8
  pub eight_p : length n.p ≡ 8

-- the arrays n' have the first entry of n, and eight entries
pub record Begins (n n' : Nodes) : Type 0 where
  pub start : at n' 0 ≡ at n 0
  pub eight : Eight n'

eight_stored : (n : Nodes) (i : ℕ) (s : Node) → Eight n → Eight (stored n i s)
eight_stored n i s h =
    record {
      eight_a = length-set n.a i s.a ∙ h.eight_a;
      eight_v = length-set n.v i s.v ∙ h.eight_v;
      eight_p = length-set n.p i s.p ∙ h.eight_p;
    }

pub made : {a a' v v' p p' : Float} → a ≡ a' → v ≡ v' → p ≡ p'
    → ◌≡◌ {A = Node} (record { a = a; v = v; p = p }) (record { a = a'; v = v'; p = p' })
made e f g = cc

at_same : (n : Nodes) (i : ℕ) (s : Node) → Eight n → i < 8 → at (stored n i s) i ≡ s
at_same n i s h l =
    made (get_or-set_same n.a i s.a nan (inside h.eight_a))
    (get_or-set_same n.v i s.v nan (inside h.eight_v)) (get_or-set_same n.p i s.p nan (inside h.eight_p))
  where
    inside : {k : ℕ} → k ≡ 8 → i < k
    inside e = subst (λ (z : ℕ). i < z) (sym e) l

at_other : (n : Nodes) (i l : ℕ) (s : Node) → (l ≡ i → ⊥) → at (stored n i s) l ≡ at n l
at_other n i l s h =
    made (get_or-set_other n.a i l s.a nan h) (get_or-set_other n.v i l s.v nan h)
    (get_or-set_other n.p i l s.p nan h)

-- ---- steps that store entry i + 1, made of entry i by g
module _ (f : ℕ → Nodes → Step Nodes) (g : ℕ → Node → Node)
    (is : (i : ℕ) (n : Nodes) → (f i n).left ≡ stored n (i + 1) (g i (at n i))) where
  eight_after : (i : ℕ) (n : Nodes) → Eight n → Eight (f i n).left
  eight_after i n h = subst (λ (z : Nodes). Eight z) (sym (is i n)) (eight_stored n (i + 1) (g i (at n i)) h)

  -- entries up to where the run begins stay, whatever it says
  pub stays : (k i : ℕ) (n : Nodes) (l : ℕ) → l ≤ i → at (run f k i n).left l ≡ at n l
  unfolding run
  stays zero i n l a = refl
  stays (suc k) i n l a =
      either_way (λ (s : Step Nodes). at s.left l ≡ at n l) (f i n).ok (run f k (i + 1) (f i n).left) (f i n)
      (stays k (i + 1) (f i n).left l (more l i a) ∙ one) one
    where
      more : (l i : ℕ) → l ≤ i → l ≤ i + 1
      more l i a = omega arith

      apart : (l i : ℕ) → l ≤ i → l ≡ i + 1 → ⊥
      apart l i a e = omega arith

      one : at (f i n).left l ≡ at n l
      one = ap (λ (z : Nodes). at z l) (is i n) ∙ at_other n (i + 1) l (g i (at n i)) (apart l i a)

  eight_stays : (k i : ℕ) (n : Nodes) → Eight n → Eight (run f k i n).left
  unfolding run
  eight_stays zero i n h = h
  eight_stays (suc k) i n h =
      either_way (λ (s : Step Nodes). Eight s.left) (f i n).ok (run f k (i + 1) (f i n).left) (f i n)
      (eight_stays k (i + 1) (f i n).left (eight_after i n h)) (eight_after i n h)

  -- so the first entry and the lengths are as they were
  pub begins : (k : ℕ) (n : Nodes) → Eight n → Begins n (run f k 0 n).left
  begins k n h = record { start = stays k 0 n 0 (le_refl 0); eight = eight_stays k 0 n h }

  -- every entry that the run left is the step from the one before
  pub follows : (k i : ℕ) (n : Nodes) → Eight n → i + k ≤ 7 → (run f k i n).ok ≡ true → (l : ℕ) → i ≤ l → l < i + k
      → at (run f k i n).left (l + 1) ≡ g l (at (run f k i n).left l)
  follows zero i n o m h l a b = absurd (never i l a b)
  follows (suc k) i n o m h l a b =
      subst (λ (s : Step Nodes). at s.left (l + 1) ≡ g l (at s.left l)) (sym (first f k i n h).1)
      (elim (eq-or-lt_of_le a) [
        | inl e ↦ subst (λ (z : ℕ). at (run f k (i + 1) n').left (z + 1) ≡ g z (at (run f k (i + 1) n').left z)) e
            here
        | inr c ↦ follows k (i + 1) n' (eight_after i n o) (next k i m).0 (rest f k i n h) l (later k i l c b).0
            (later k i l c b).1
      ])
    where
      n' : Nodes
      n' = (f i n).left

      next : (k i : ℕ) → i + suc k ≤ 7 → (i + 1 + k ≤ 7) × (i + 1 < 8) × (i ≤ i + 1) × (i + 1 ≤ i + 1)
      next k i m = omega arith

      apart : (i : ℕ) → i ≡ i + 1 → ⊥
      apart i e = omega arith

      here : at (run f k (i + 1) n').left (i + 1) ≡ g i (at (run f k (i + 1) n').left i)
      here =
          stays k (i + 1) n' (i + 1) (next k i m).3
          ∙ ap (λ (z : Nodes). at z (i + 1)) (is i n)
          ∙ at_same n (i + 1) (g i (at n i)) o (next k i m).1
          ∙ ap (λ (z : Node). g i z)
          (sym
          (stays k (i + 1) n' i (next k i m).2 ∙ ap (λ (z : Nodes). at z i) (is i n)
          ∙ at_other n (i + 1) i (g i (at n i)) (apart i)))
