-- The first question with a no, over any list of questions: where the first ones were answered yes, the rest decides;
-- where none was answered no, each was answered yes; and what a harder last question changes. Assumes nothing.
use mathlib.Core.Path.{◌≡◌, refl, sym}
use mathlib.Core.Bool.{Bool, true, false, cond, true≢false}
use mathlib.Core.List.{List, [], ◌∷◌, ◌++◌}
use Prim.Native.Nat.{ℕ}
use lib.Dec.{eqb}
use borrow.Author.Tests.{ne_eqb}
use Rattle.line_questions.specs.Questions.{Question, ask, first_no, AllYes}

-- every question of a list has a number, which is not 0
abbrev pub Numbered : List Question → Type 0
Numbered [] = Unit {0}
Numbered (q ∷ qs) = (q.number ≡ 0 → ⊥) × Numbered qs

-- the first k were answered yes: the rest decides
pub past : (first rest : List Question) → AllYes first → first_no (first ++ rest) ≡ first_no rest
past [] rest h = refl
past (q ∷ first) rest h = rw h.0 (past first rest h.1)

-- and the next gets a no: it has its number
pub stops : (first : List Question) (n : ℕ) (rest : List Question) {b : Bool} → AllYes first → b ≡ false
    → first_no (first ++ (ask n b ∷ rest)) ≡ n
stops [] n rest h e = rw e
stops (q ∷ first) n rest h e = rw h.0 (stops first n rest h.1 e)

-- all of them: 0
pub none : (qs : List Question) → AllYes qs → first_no qs ≡ 0
none [] h = refl
none (q ∷ qs) h = rw h.0 (none qs h.1)

-- 0 says that all were answered yes
pub all_yes : (qs : List Question) → Numbered qs → first_no qs ≡ 0 → AllYes qs
all_yes [] n e = tt
all_yes (q ∷ qs) n e = by q.yes refl e (all_yes qs n.1)
  where
    by : (b : Bool) → q.yes ≡ b → cond b (first_no qs) q.number ≡ 0 → (first_no qs ≡ 0 → AllYes qs) → AllYes (q ∷ qs)
    by true h e rest = (h, rest e)
    by false h e rest = absurd (n.0 e)

-- of two lists one after the other
pub all_first : (first rest : List Question) → AllYes (first ++ rest) → AllYes first
all_first [] rest h = tt
all_first (q ∷ first) rest h = (h.0, all_first first rest h.1)

pub all_rest : (first rest : List Question) → AllYes (first ++ rest) → AllYes rest
all_rest [] rest h = h
all_rest (q ∷ first) rest h = all_rest first rest h.1

-- where the last question is harder, the number is the same unless none was due: then this question decides
pub harder_last : (qs : List Question) (n : ℕ) (a b : Bool) → Numbered qs → (n ≡ 0 → ⊥) → (a ≡ true → b ≡ true)
    → let easier = first_no (qs ++ (ask n b ∷ [])) in
    first_no (qs ++ (ask n a ∷ [])) ≡ cond (eqb easier 0) (cond a 0 n) easier
harder_last [] n true true h k l = refl
harder_last [] n true false h k l = absurd (true≢false (sym (l refl)))
harder_last [] n false true h k l = refl
harder_last [] n false false h k l = rw (ne_eqb n 0 k)
harder_last (q ∷ qs) n a b h k l = by q.yes (first_no (qs ++ (ask n b ∷ []))) (harder_last qs n a b h.1 k l)
  where
    by : (c : Bool) (easier : ℕ) → first_no (qs ++ (ask n a ∷ [])) ≡ cond (eqb easier 0) (cond a 0 n) easier
        → cond c (first_no (qs ++ (ask n a ∷ []))) q.number
        ≡ cond (eqb (cond c easier q.number) 0) (cond a 0 n) (cond c easier q.number)
    by true easier e = e
    by false easier e = rw (ne_eqb q.number 0 h.0)
