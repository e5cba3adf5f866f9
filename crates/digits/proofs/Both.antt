-- The sixteen characters of a number, as they are read and as they are written. Assumes nothing.
use mathlib.Core.Path.{◌≡◌, refl, ap, sym, ◌∙◌}
use mathlib.Core.Bool.{Bool, true, false}
use mathlib.Core.List.{List, [], ◌∷◌, append-nil}
use Prim.Native.Nat.{ℕ, zero, suc, ◌+◌, ◌-◌, ◌*◌, ◌≤◌, ◌<◌}
use native.Mathlib.Omega.{arith}
use lib.ListN.{length, take, drop, replicate, length-take, length-drop}
use lib.Seq.{take_all}
use lib.Ieee.{binary64, of_bits}
use borrow.Author.Tests.{le-ltb, lt-ltb}
use Rattle.std.specs.Prelude.{Some, None}
use Rattle.hex_bytes.specs.Hex.{Filled, all_digits_of, value_of, bytes_of, fill, decode_of, encode_of}
use Rattle.hex_bytes.proofs.Turns.{length_bytes}
use Rattle.number_bytes.specs.Bytes.{appended, word_of}
use Rattle.digits.specs.Digits.{value_after, read_of}

-- the bytes of digits stand for the number of the digits
appended_digits : (cs : List ℕ) (w n : ℕ) → length cs ≡ 2 * n → appended w (bytes_of cs) ≡ value_after w cs
appended_digits [] w n h = refl
appended_digits (c ∷ []) w n h = absurd (omega arith)
appended_digits (c ∷ d ∷ cs) w zero h = absurd (omega arith)
appended_digits (c ∷ d ∷ cs) w (suc n) h =
    let e : 256 * w + (16 * value_of c + value_of d) ≡ 16 * (16 * w + value_of c) + value_of d = omega arith in
    let k : length cs ≡ 2 * n = omega arith in
    rw e (appended_digits cs (16 * (16 * w + value_of c) + value_of d) n k)

pub word_of_digits : (cs : List ℕ) → length cs ≡ 16 → word_of (bytes_of cs) ≡ value_after 0 cs
word_of_digits cs h = appended_digits cs 0 8 h

-- ---- a place of a line
module _ (line : List ℕ) (at : ℕ) where
  pub few : length line < at + 16 → None ≡ read_of line at
  unfolding read_of
  few h = rw (lt-ltb (length line) (at + 16) h)

  abbrev characters : List ℕ
  characters = take 16 (drop at line)

  pub placed : (rest cs : List ℕ) → rest ≡ take (length line - at) (drop at line) → cs ≡ take 16 rest
      → {f : Filled} → f ≡ decode_of cs (replicate 8 0) → f ≡ decode_of characters (replicate 8 0)
  placed rest cs er ec d =
      let all : take (length line - at) (drop at line) ≡ drop at line =
      take_all (length line - at) (drop at line) (rw length-drop (omega arith)) in
      d ∙ ap (λ (l : List ℕ). decode_of l (replicate 8 0)) (ec ∙ ap (λ (l : List ℕ). take 16 l) (er ∙ all))

  module _ (enough : at + 16 ≤ length line) where
    sixteen : length characters ≡ 16
    sixteen = simp (length-take, length-drop) (omega arith)

    module _ (ok : Bool) (left : List ℕ)
        (d : record { ok = ok; left = left } ≡ decode_of characters (replicate 8 0)) where
      both : (ok ≡ all_digits_of characters) × (left ≡ bytes_of characters)
      unfolding decode_of
      both =
          let e : record { ok = ok; left = left }
          ≡ record { ok = all_digits_of characters; left = fill (bytes_of characters) (replicate 8 0) } =
          d ∙ rw sixteen in
          let long : length (bytes_of characters) ≡ 8 = length_bytes characters ∙ rw sixteen in
          (ap (λ (f : Filled). f.ok) e, ap (λ (f : Filled). f.left) e ∙ rw long (append-nil (bytes_of characters)))

      pub refused : ok ≡ false → None ≡ read_of line at
      unfolding read_of
      refused h = rw (le-ltb (length line) (at + 16) enough, sym both.0 ∙ h)

      pub read : ok ≡ true → Some (of_bits binary64 (word_of left)) ≡ read_of line at
      unfolding read_of
      read h =
          rw (
            le-ltb (length line) (at + 16) enough,
            sym both.0 ∙ h,
            both.1,
            word_of_digits characters sixteen,
          )

pub written : (bytes is left lent : List ℕ) (ok : Bool) → bytes ≡ is
    → record { ok = ok; left = left } ≡ encode_of bytes lent → left ≡ (encode_of is lent).left
written bytes is left lent ok e f = ap (λ (d : Filled). d.left) (f ∙ ap (λ (b : List ℕ). encode_of b lent) e)
