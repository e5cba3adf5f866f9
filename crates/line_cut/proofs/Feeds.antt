-- Characters before the first line feed, passed part by part. Assumes nothing.
use mathlib.Core.Path.{◌≡◌, refl, ap, sym, ◌∙◌}
use mathlib.Core.Bool.{Bool, true, false, cond, not, ◌&&◌, true≢false}
use mathlib.Core.List.{List, [], ◌∷◌, ◌++◌}
use Prim.Native.Nat.{ℕ, suc, ◌+◌, ◌≤◌}
use native.Mathlib.Nat.{add-zero, zero-add, suc-add}
use native.Mathlib.Omega.{arith}
use lib.Dec.{eqb}
use lib.ListN.{length, take, drop, take-append-drop, length-append}
use Rattle.std.specs.List.{fold, position_from}
use Rattle.std.specs.Prelude.{Some, unwrap_or}
use Rattle.std.proofs.lemmas.List.Folds.{fold_stays}
use Rattle.line_cut.specs.Cut.{line_length}

abbrev pub none_so_far : Bool → ℕ → Bool
none_so_far none c = none && not (eqb c 10)

-- parts without a line feed
pub past : (part after : List ℕ) → fold none_so_far true part ≡ true
    → line_length (part ++ after) ≡ length part + line_length after
past [] after h = sym (zero-add (line_length after))
past (c ∷ part) after h = by (eqb c 10) (past part after) h
  where
    by : (b : Bool)
        → (fold none_so_far true part ≡ true → line_length (part ++ after) ≡ length part + line_length after)
        → fold none_so_far (not b) part ≡ true
        → cond b 0 (suc (line_length (part ++ after))) ≡ suc (length part) + line_length after
    by true next e = absurd (true≢false (sym e ∙ fold_stays none_so_far false (λ x. refl) part))
    by false next e = ap suc (next e) ∙ sym (suc-add (length part) (line_length after))

pub passed : (n : ℕ) (rest part after : List ℕ) (none : Bool) → (part ≡ take n rest) × (after ≡ drop n rest)
    → none ≡ fold none_so_far true part → none ≡ true
    → length rest + line_length after ≡ length after + line_length rest
passed n rest part after none e h t =
    let whole : part ++ after ≡ rest = rw (e.0, e.1) (take-append-drop n rest) in
    let l = past part after (sym h ∙ t) in
    rw (← whole, length-append part after, l) (omega arith)

-- the first line feed, or the end
feed_from : (input : List ℕ) (k : ℕ)
    → unwrap_or (position_from (λ c. eqb c 10) k input) (k + length input) ≡ k + line_length input
feed_from [] k = refl
feed_from (c ∷ input) k = by (eqb c 10) (feed_from input (k + 1))
  where
    by : (b : Bool)
        → unwrap_or (position_from (λ c. eqb c 10) (k + 1) input) (k + 1 + length input) ≡ k + 1 + line_length input
        → unwrap_or (cond b (Some k) (position_from (λ c. eqb c 10) (k + 1) input)) (k + suc (length input))
        ≡ k + cond b 0 (suc (line_length input))
    by true next = sym (add-zero k)
    by false next =
        let e : k + suc (length input) ≡ k + 1 + length input = omega arith in
        rw e (next ∙ omega arith)

pub at_feed : (input : List ℕ) → unwrap_or (position_from (λ c. eqb c 10) 0 input) (length input) ≡ line_length input
at_feed input = rw (← zero-add (length input)) (feed_from input 0 ∙ zero-add (line_length input))

pub feed_le : (input : List ℕ) → line_length input ≤ length input
feed_le [] = omega arith
feed_le (c ∷ input) = by (eqb c 10) (feed_le input)
  where
    by : (b : Bool) → line_length input ≤ length input → cond b 0 (suc (line_length input)) ≤ suc (length input)
    by true h = omega arith
    by false h = omega arith
