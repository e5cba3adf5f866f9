-- Runs of stores: one after another, over a whole list; and the rows of numbers in a reply. Assumes nothing.
use mathlib.Core.Path.{◌≡◌, refl, ap, sym, ◌∙◌}
use mathlib.Core.List.{List, [], ◌∷◌, ◌++◌, append_assoc, append-nil}
use Prim.Native.Nat.{ℕ, suc, ◌+◌, ◌*◌, ◌≤◌, ◌<◌}
use native.Mathlib.Nat.{add-zero, add-suc, suc-add}
use native.Mathlib.Numerals.{add-one}
use native.Mathlib.Omega.{arith}
use lib.ListN.{length, get_or, take, drop, set, length-append, drop_of_length-le}
use lib.Seq.{drop-cons, sets, sets-eq, length-sets, take-append_seam}
use lib.Ieee.{Float}
use Rattle.number_bytes.specs.Bytes.{number_bytes_of}
use Rattle.row.specs.Row.{Numbers, part, numbers_in}
use Rattle.row.proofs.Rows.{part_long}
use Rattle.profile.specs.declared.in_place.Verdict.{Verdict}
use Rattle.roots.specs.declared.Need.{Need}
use Rattle.roots.specs.declared.Three.{Three}
use Rattle.roots.specs.Quartic.{need_of, need_number_of, resolvent_of}
use Rattle.profile.specs.Parts.{profile_in, checked_in}
use Rattle.line_reply.specs.Reply.{numbers_bytes, head_of, rows_of, reply_bytes_of, quartic_bytes_of}

pub sets_append : (xs ys l : List ℕ) (i : ℕ) → sets (sets l i xs) (i + length xs) ys ≡ sets l i (xs ++ ys)
sets_append [] ys l i = rw (add-zero i)
sets_append (x ∷ xs) ys l i =
    rw (add-suc i (length xs), ← suc-add i (length xs)) (sets_append xs ys (set l i x) (suc i))

pub length-numbers : (xs : List Float) → length (numbers_bytes xs) ≡ 8 * length xs
length-numbers [] = refl
length-numbers (x ∷ xs) = let h : length (numbers_bytes xs) ≡ 8 * length xs = length-numbers xs in omega arith

-- ---- a row of numbers: what is still to be stored from here is the whole from the start
pub turn : (reply : List ℕ) (at : ℕ) (row : List Float) (i : ℕ) (d : Float) → i < length row
    → sets (sets reply (at + 8 * i) (number_bytes_of (get_or row i d))) (at + 8 * (i + 1))
    (numbers_bytes (drop (i + 1) row))
    ≡ sets reply (at + 8 * i) (numbers_bytes (drop i row))
turn reply at row i d h =
    let e : at + 8 * (i + 1) ≡ (at + 8 * i) + 8 = omega arith in
    rw (e, add-one i, drop-cons row i d h)
    (sets_append (number_bytes_of (get_or row i d)) (numbers_bytes (drop (suc i) row)) reply (at + 8 * i))

pub done : (reply : List ℕ) (at : ℕ) (row : List Float) (i : ℕ) → length row ≤ i
    → reply ≡ sets reply (at + 8 * i) (numbers_bytes (drop i row))
done reply at row i h = rw (drop_of_length-le row h)

-- ---- the six rows
then : (xs : List ℕ) (row : List Float) (l : List ℕ) (n : ℕ) → 4 + length xs ≡ n
    → sets (sets l 4 xs) n (numbers_bytes row) ≡ sets l 4 (xs ++ numbers_bytes row)
then xs row l n e = rw (← e) (sets_append xs (numbers_bytes row) l 4)

longer : (xs : List ℕ) (row : List Float) (m n k : ℕ) → length row ≡ k → 4 + length xs ≡ m → m + 8 * k ≡ n
    → 4 + length (xs ++ numbers_bytes row) ≡ n
longer xs row m n k h e f = rw (length-append xs (numbers_bytes row)) (omega (arith, length-numbers row))

module _ (x : List Float) (row : length x ≡ 48) (l : List ℕ) (hl : length l ≡ 364) where
  pub six_rows :
      sets (sets (sets (sets (sets (sets l 4 (numbers_bytes (part 0 7 x))) 60 (numbers_bytes (part 7 7 x)))
      116 (numbers_bytes (part 14 7 x))) 172 (numbers_bytes (part 21 8 x))) 236 (numbers_bytes (part 29 8 x)))
      300 (numbers_bytes (part 37 8 x))
      ≡ take 4 l ++ rows_of (numbers_in x)
  unfolding rows_of
  six_rows =
      let x1 = numbers_bytes (part 0 7 x) in
      let x2 = x1 ++ numbers_bytes (part 7 7 x) in
      let x3 = x2 ++ numbers_bytes (part 14 7 x) in
      let x4 = x3 ++ numbers_bytes (part 21 8 x) in
      let x5 = x4 ++ numbers_bytes (part 29 8 x) in
      let x6 = x5 ++ numbers_bytes (part 37 8 x) in
      let e1 : 4 + length x1 ≡ 60 = omega (arith, length-numbers (part 0 7 x), part_long 0 7 x (omega arith)) in
      let e2 : 4 + length x2 ≡ 116 = longer x1 (part 7 7 x) 60 116 7 (part_long 7 7 x (omega arith)) e1 refl in
      let e3 : 4 + length x3 ≡ 172 = longer x2 (part 14 7 x) 116 172 7 (part_long 14 7 x (omega arith)) e2 refl in
      let e4 : 4 + length x4 ≡ 236 = longer x3 (part 21 8 x) 172 236 8 (part_long 21 8 x (omega arith)) e3 refl in
      let e5 : 4 + length x5 ≡ 300 = longer x4 (part 29 8 x) 236 300 8 (part_long 29 8 x (omega arith)) e4 refl in
      let e6 : 4 + length x6 ≡ 364 = longer x5 (part 37 8 x) 300 364 8 (part_long 37 8 x (omega arith)) e5 refl in
      let h : 4 + length x6 ≤ length l = omega arith in
      let k : length l ≤ 4 + length x6 = omega arith in
      rw (then x1 (part 7 7 x) l 60 e1, then x2 (part 14 7 x) l 116 e2, then x3 (part 21 8 x) l 172 e3)
      (rw (then x4 (part 29 8 x) l 236 e4, then x5 (part 37 8 x) l 300 e5)
      (sets-eq x6 l 4 h ∙ rw (drop_of_length-le l k) (simp (append_assoc, append-nil))))

-- the first four places after the head is stored
pub head_first : (r : Verdict) (b l : List ℕ) → l ≡ sets b 0 (head_of r) → length l ≡ 364 → take 4 l ≡ head_of r
unfolding head_of
head_first r b l e h =
    let n : length b ≡ 364 = sym (length-sets b 0 (head_of r)) ∙ ap length (sym e) ∙ h in
    let k : 0 + 4 ≤ length b = omega arith in
    rw (e, sets-eq (head_of r) b 0 k) (take-append_seam (head_of r) (drop (0 + 4) b))

-- ---- how many bytes a record is: four in the head, and eight for each number
six : (t s j a v p : List ℕ)
    → length (t ++ s ++ j ++ a ++ v ++ p) ≡ length t + length s + length j + length a + length v + length p
six t s j a v p = simp length-append

pub rows_length : (n : Numbers) → length n.t ≡ 7 → length n.t_sum ≡ 7 → length n.j ≡ 7
    → length n.nodes.a ≡ 8 → length n.nodes.v ≡ 8 → length n.nodes.p ≡ 8 → length (rows_of n) ≡ 360
unfolding rows_of
rows_length n t s j a v p =
    six (numbers_bytes n.t) (numbers_bytes n.t_sum) (numbers_bytes n.j) (numbers_bytes n.nodes.a)
    (numbers_bytes n.nodes.v)
    (numbers_bytes n.nodes.p)
    ∙ simp (length-numbers, t, s, j, a, v, p)

pub record_length : (x : List Float) (r : Verdict) → length x ≡ 48 → length (reply_bytes_of (checked_in x r)) ≡ 364
unfolding reply_bytes_of head_of profile_in
record_length x r h =
    rw (rows_length (numbers_in x) (part_long 0 7 x (omega arith)) (part_long 7 7 x (omega arith))
    (part_long 14 7 x (omega arith)) (part_long 21 8 x (omega arith)) (part_long 29 8 x (omega arith))
    (part_long 37 8 x (omega arith)))

-- two runs of stores, one right after the other, over a whole list
pub both : (xs ys l : List ℕ) (n : ℕ) → 0 + length xs ≡ n → length l ≡ n + length ys
    → sets (sets l 0 xs) n ys ≡ xs ++ ys
both xs ys l n e h =
    let all : 0 + length (xs ++ ys) ≤ length l = rw (length-append xs ys) (omega arith) in
    let none : length l ≤ 0 + length (xs ++ ys) = rw (length-append xs ys) (omega arith) in
    rw (← e)
    (sets_append xs ys l 0 ∙ sets-eq (xs ++ ys) l 0 all ∙ rw (drop_of_length-le l none) (append-nil (xs ++ ys)))

-- a quartic's need and then its seven numbers
pub one_quartic : (l : List ℕ) (at : ℕ) (a b c d : Float) (need : Need) (n : ℕ) (r : Three)
    → r ≡ resolvent_of a b c d
    → need ≡ need_of a b c d
    → n ≡ need_number_of need
    → sets (set l at n) (at + 1) (numbers_bytes (a ∷ b ∷ c ∷ d ∷ r.x0 ∷ r.x1 ∷ r.x2 ∷ []))
    ≡ sets l at (quartic_bytes_of a b c d)
unfolding quartic_bytes_of
one_quartic l at a b c d need n r er en e = rw (er, e, en, add-one at)
