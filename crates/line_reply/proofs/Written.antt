-- Where the bytes are half of n, `encode` fills n places or none. Assumes nothing.
use mathlib.Core.Path.{◌≡◌, refl, ap, sym, ◌∙◌}
use mathlib.Core.Bool.{Bool, true, false}
use mathlib.Core.List.{List, ◌++◌}
use Prim.Native.Nat.{ℕ, ◌+◌, ◌-◌, ◌*◌, ◌/◌, ◌≤◌, ◌<◌}
use native.Mathlib.Nat.{zero-add}
use native.Mathlib.Omega.{arith}
use lib.Dec.{leb}
use lib.ListN.{length, length-append}
use lib.Seq.{sets, sets-eq, length-sets}
use borrow.Author.Tests.{le-ltb, lt-ltb, le-leb, leb-true, leb-false}
use Rattle.hex_bytes.specs.Hex.{Filled, hex_of, fill, encode_of}
use Rattle.hex_bytes.proofs.Laws.{length_hex, hex_append}
use Rattle.hex_bytes.proofs.Lent.{from, back, from-length, back-reply}
use Rattle.line_reply.specs.Reply.{written_of}
use Rattle.line_reply.proofs.Rows.{sets_append}

enough : (k l n : ℕ) → 2 * k ≡ n → n ≤ l → k ≤ l / 2
enough k l n e h = omega arith

few : (k l n : ℕ) → 2 * k ≡ n → l < n → l / 2 < k
few k l n e h = omega arith

pub written : (n : ℕ) (bytes lent : List ℕ) → 2 * length bytes ≡ n → encode_of bytes lent ≡ written_of n bytes lent
unfolding encode_of written_of
written n bytes lent e = by (leb n (length lent)) refl
  where
    by : (b : Bool) → leb n (length lent) ≡ b → encode_of bytes lent ≡ written_of n bytes lent
    by true h =
        rw (
          h,
          le-ltb (length lent / 2) (length bytes)
              (enough (length bytes) (length lent) n e (leb-true n (length lent) h)),
        )
    by false h =
        rw (
          h,
          lt-ltb (length lent / 2) (length bytes)
              (few (length bytes) (length lent) n e (leb-false n (length lent) h)),
        )

-- with enough places, writing fills them
pub filled : (n : ℕ) (bytes lent left : List ℕ) (ok : Bool) → n ≤ length lent
    → record { ok = ok; left = left } ≡ written_of n bytes lent → left ≡ fill (hex_of bytes) lent
unfolding written_of
filled n bytes lent left ok enough e = ap (λ x. x.left) e ∙ rw (le-leb n (length lent) enough)

-- ---- a reply in two parts: the second is written into the places after the first
fill-sets : (xs lent : List ℕ) → length xs ≤ length lent → fill xs lent ≡ sets lent 0 xs
fill-sets xs lent h =
    let k : 0 + length xs ≤ length lent = omega arith in
    rw (sets-eq xs lent 0 k, zero-add (length xs))

module _ (first second lent : List ℕ) (k n : ℕ) (ek : 2 * length first ≡ k) (en : 2 * length second + k ≡ n)
    (enough : n ≤ length lent) where
  abbrev xs : List ℕ
  xs = hex_of first

  abbrev ys : List ℕ
  ys = hex_of second

  xs_long : 0 + length xs ≡ k
  xs_long = zero-add (length xs) ∙ length_hex first ∙ ek

  module _ (left : List ℕ) (e : left ≡ fill xs lent) where
    stored : left ≡ sets lent 0 xs
    stored = e ∙ fill-sets xs lent (omega (arith, xs_long))

    as_many : length left ≡ length lent
    as_many = ap length stored ∙ length-sets lent 0 xs

    both : back left k (fill ys (from left k)) ≡ fill (hex_of (first ++ second)) lent
    both =
        back-reply left ys k (omega (arith, as_many, length_hex second))
        ∙ ap (λ (l : List ℕ). sets l k ys) stored
        ∙ ap (λ (i : ℕ). sets (sets lent 0 xs) i ys) (sym xs_long)
        ∙ sets_append xs ys lent 0
        ∙ ap (λ (l : List ℕ). sets lent 0 l) (sym (hex_append first second))
        ∙ sym (fill-sets (hex_of (first ++ second)) lent
        (omega (arith, length_hex (first ++ second), length-append first second)))

    room : length second ≤ length (from left k) / 2
    room = let h : length (from left k) ≡ length left - k = from-length left k in omega (arith, as_many)

    pub two_parts : (places : List ℕ) (ok : Bool)
        → record { ok = ok; left = places } ≡ encode_of second (from left k)
        → record { ok = ok; left = back left k places } ≡ written_of n (first ++ second) lent
    unfolding encode_of written_of
    two_parts places ok h =
        ap (λ (r : Filled). record { ok = r.ok; left = back left k r.left }) h
        ∙ rw (le-ltb (length (from left k) / 2) (length second) room, le-leb n (length lent) enough, both)
