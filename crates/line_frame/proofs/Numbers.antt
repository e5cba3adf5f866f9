-- Assumes nothing. The words of a frame: where one stands, what the loop over them has tested, and that they are those
-- of the numbers; that each number is finite where all are; and that a finite number's bits are no NaN's.
use mathlib.Core.Path.{◌≡◌, refl, sym, ap, ◌∙◌}
use mathlib.Core.Bool.{Bool, true, false, not, ◌&&◌, and-true, true≢false}
use mathlib.Core.List.{List, [], ◌∷◌}
use Prim.Native.Nat.{ℕ, zero, suc, ◌+◌, ◌*◌, ◌/◌, ◌%◌, ◌≤◌, ◌<◌}
use native.Mathlib.Omega.{arith}
use lib.Dec.{T}
use lib.ListN.{length, get_or, take, drop, drop_of_length-le}
use lib.Seq.{drop-cons}
use lib.Ieee.{binary64, of_bits, nan_bits}
use lib.Ieee.Scale.{finite}
use borrow.Author.Tests.{ltb-true}
use Rattle.std.specs.Simd.{first_chunks}
use Rattle.std.proofs.lemmas.List.{take-take, drop-take, drop-drop, length-take, length-drop}
use Rattle.float.proofs.Cases.{some_bits}
use Rattle.number_bytes.specs.Bytes.{word_of}
use Rattle.number_bytes.proofs.Finite.{finite_is}
use Rattle.line_frame.specs.Frame.{Frame, byte_at, word_at, number_at, numbers_at, all_finite_of}

-- the bytes of a word, one after the other
one : (xs : List ℕ) (i j : ℕ) → j ≡ suc i → i < length xs → drop i xs ≡ get_or xs i 0 ∷ drop j xs
one xs i j e h = rw e (drop-cons xs i 0 h)

pub word_here : (xs : List ℕ) (i : ℕ) → i + 8 ≤ length xs → word_of (take 8 (drop i xs)) ≡ word_at (byte_at xs) i
unfolding word_at
word_here xs i h =
    let e0 : drop i xs ≡ get_or xs i 0 ∷ drop (i + 1) xs = one xs i (i + 1) (omega arith) (omega arith) in
    let e1 = one xs (i + 1) (i + 2) (omega arith) (omega arith) in
    let e2 = one xs (i + 2) (i + 3) (omega arith) (omega arith) in
    let e3 = one xs (i + 3) (i + 4) (omega arith) (omega arith) in
    let e4 = one xs (i + 4) (i + 5) (omega arith) (omega arith) in
    let e5 = one xs (i + 5) (i + 6) (omega arith) (omega arith) in
    let e6 = one xs (i + 6) (i + 7) (omega arith) (omega arith) in
    let e7 = one xs (i + 7) (i + 8) (omega arith) (omega arith) in
    rw (e0, e1, e2, e3, e4, e5, e6, e7)

-- whether the numbers are finite whose bits these words are
abbrev pub all_words : List (List ℕ) → Bool
all_words [] = true
all_words (w ∷ ws) = finite (of_bits binary64 (word_of w)) && all_words ws

-- where none is left to test
pub done : (ok : Bool) (ws : List (List ℕ)) (i : ℕ) → length ws ≤ i → ok ≡ ok && all_words (drop i ws)
done ok ws i h = rw (drop_of_length-le ws h) (sym (and-true ok))

-- from a place on they are the frame's
words_are : (xs : List ℕ) (at n : ℕ) → at + 8 * n ≤ length xs
    → all_words (first_chunks 8 n (take (8 * n) (drop at xs))) ≡ all_finite_of (numbers_at (byte_at xs) at n)
words_are xs at zero h = refl
words_are xs at (suc n) h =
    let e : 8 * suc n ≡ 8 + 8 * n = omega arith in
    let t : take 8 (take (8 + 8 * n) (drop at xs)) ≡ take 8 (drop at xs) =
    take-take 8 (8 + 8 * n) (drop at xs) (omega arith) in
    let d : drop 8 (take (8 + 8 * n) (drop at xs)) ≡ take (8 * n) (drop (at + 8) xs) =
    drop-take 8 (8 * n) (drop at xs) ∙ ap (take (8 * n)) (drop-drop 8 at xs) in
    rw (e, t, d)
    (each (ap (λ (w : ℕ). finite (of_bits binary64 w)) (word_here xs at (omega arith)))
    (words_are xs (at + 8) n (omega arith)))
  where
    each : {a b c d : Bool} → a ≡ b → c ≡ d → a && c ≡ b && d
    each p q = rw (p, q)

pub cut_are : (xs : List ℕ) (at n m : ℕ) → at + 8 * n ≤ length xs → m ≡ 8 * n → {ws : List (List ℕ)}
    → ws ≡ first_chunks 8 (length (take m (drop at xs)) / 8) (take m (drop at xs))
    → all_words ws ≡ all_finite_of (numbers_at (byte_at xs) at n)
cut_are xs at n m h k e =
    let l : length (take (8 * n) (drop at xs)) / 8 ≡ n = rw (length-take, length-drop) (omega arith) in
    rw (e, k, l) (words_are xs at n h)

both : (a b : Bool) → a && b ≡ true → (a ≡ true) × (b ≡ true)
both true b h = (refl, h)
both false b h = absurd (true≢false (sym h))

-- where all are finite, each is
pub each_finite : (at : Frame) (from n : ℕ) → all_finite_of (numbers_at at from n) ≡ true → (k : ℕ) → k < n
    → finite (number_at at (from + 8 * k)) ≡ true
each_finite at from zero h k l = absurd (omega arith)
each_finite at from (suc n) h zero l =
    let e : from + 8 * 0 ≡ from = omega arith in rw e (both (finite (number_at at from)) _ h).0
each_finite at from (suc n) h (suc k) l =
    let e : from + 8 * suc k ≡ from + 8 + 8 * k = omega arith in
    rw e (each_finite at (from + 8) n (both (finite (number_at at from)) _ h).1 k (omega arith))

-- a finite number's bits are no NaN's
pub no_nan : (b : ℕ) → b < 0x1_0000_0000_0000_0000 → finite (of_bits binary64 b) ≡ true → T (not (nan_bits binary64 b))
no_nan b l h =
    let t : b % 0x8000_0000_0000_0000 < 0x7FF0_0000_0000_0000 =
    ltb-true (b % 0x8000_0000_0000_0000) 0x7FF0_0000_0000_0000 (finite_is b l ∙ h) in
    some_bits b (omega arith)
