-- Stores from one place on, a turn at a time. Assumes nothing.
use mathlib.Core.Path.{◌≡◌, ap, sym, ◌∙◌}
use mathlib.Core.List.{List, [], ◌∷◌, ◌++◌}
use Prim.Native.Nat.{ℕ, suc, ◌+◌, ◌≤◌}
use native.Mathlib.Nat.{add-zero, add-suc, suc-add}
use native.Mathlib.Omega.{arith}
use lib.ListN.{length, take, drop, set, length-append}
use lib.Seq.{sets, sets-eq, take_at, drop_at, length-take-le}
use Rattle.line_cut.specs.Cut.{Put}

-- ---- one store after the other
pub sets_append : (out : List ℕ) (at : ℕ) (xs ys : List ℕ)
    → sets out at (xs ++ ys) ≡ sets (sets out at xs) (at + length xs) ys
sets_append out at [] ys = rw (add-zero at)
sets_append out at (x ∷ xs) ys =
    sets_append (set out at x) (suc at) xs ys
    ∙ ap (λ (n : ℕ). sets (sets (set out at x) (suc at) xs) n ys)
    (suc-add at (length xs) ∙ sym (add-suc at (length xs)))

-- a text and one more character
pub put_last : (out text out' : List ℕ) (at c : ℕ) → out' ≡ sets out at text
    → Put out at (text ++ (c ∷ [])) (at + length text + 1) (set out' (at + length text) c)
put_last out text out' at c e =
    record {
      end_is = rw (length-append text (c ∷ [])) (omega arith);
      out_is = rw e (sym (sets_append out at text (c ∷ [])));
    }

-- ---- what stands before and after the stores
module _ (out text : List ℕ) (at : ℕ) (h : at + length text ≤ length out) where
  before : List ℕ
  before = take at out ++ text

  length_before : length before ≡ at + length text
  unfolding before
  length_before = length-append (take at out) text ∙ rw (length-take-le at out (omega arith))

  pub take-sets : take (at + length text) (sets out at text) ≡ take at out ++ text
  unfolding before
  take-sets = rw (sets-eq text out at h) (take_at before (drop (at + length text) out) (at + length text) length_before)

  pub drop-sets : drop (at + length text) (sets out at text) ≡ drop (at + length text) out
  unfolding before
  drop-sets = rw (sets-eq text out at h) (drop_at before (drop (at + length text) out) (at + length text) length_before)
