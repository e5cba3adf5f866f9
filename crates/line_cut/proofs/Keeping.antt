-- The first characters of a line, part by part. Assumes nothing.
use mathlib.Core.Path.{◌≡◌, ap, sym, ◌∙◌}
use mathlib.Core.List.{List, ◌++◌}
use Prim.Native.Nat.{ℕ, ◌+◌, ◌-◌, ◌≤◌, min}
use native.Mathlib.Omega.{arith, min_cases}
use lib.ListN.{length, take, drop, length-take, length-append}
use lib.Seq.{sets, sets-eq, length-take-le, take-append-add, take_all, take_at}
use borrow.Rule.Slice.PartMut.{put_mid}
use Rattle.hex_bytes.specs.Hex.{fill}
use Rattle.hex_bytes.proofs.Lent.{mid-sets}
use Rattle.line_cut.specs.Cut.{lengthened, Fills}

-- a list is taken whole where it is shorter
pub take_least : (n : ℕ) (l : List ℕ) → take (min n (length l)) l ≡ take n l
take_least n l =
    min_cases n (length l) (take (min n (length l)) l ≡ take n l) (λ h e. rw e)
    (λ h e. rw e (take_all (length l) l (omega arith) ∙ sym (take_all n l h)))

pub length_least : (n m : ℕ) (l : List ℕ) → m ≡ min n (length l) → m ≡ length (take m l)
length_least n m l e = sym (length-take-le m l (omega arith))

-- the characters that are held, however many the count says
pub held : (kept : List ℕ) (count n : ℕ) → n ≡ min count (length kept) → take n kept ≡ take count kept
held kept count n e = rw e (take_least count kept)

-- ---- `keep`
module _ (kept part : List ℕ) (count begun n : ℕ) (eb : begun ≡ min count (length kept))
    (e : n ≡ min (length kept - begun) (length part)) where
  head : length (take begun kept) ≡ begun
  head = length-take-le begun kept (omega arith)

  taken : length (take n part) ≡ n
  taken = length-take-le n part (omega arith)

  pub kept-fits : begun + length (take n part) ≤ length kept
  kept-fits = rw taken (omega arith)

  -- what stands there then
  text : List ℕ
  text = take begun kept ++ take n part

  text-length : length text ≡ begun + n
  unfolding text
  text-length = length-append (take begun kept) (take n part) ∙ rw (head, taken)

  text_is : text ≡ lengthened kept count part
  unfolding text
  text_is =
      let m : length (take begun kept) + (length kept - begun) ≡ length kept = rw head (omega arith) in
      ap (λ (l : List ℕ). take begun kept ++ l) (rw e (take_least (length kept - begun) part))
      ∙ sym (take-append-add (take begun kept) part (length kept - begun))
      ∙ ap (λ (k : ℕ). take k (take begun kept ++ part)) m
      ∙ ap (λ (l : List ℕ). take (length kept) (l ++ part)) (held kept count begun eb)

  stored : sets kept begun (take n part) ≡ fill text kept
  unfolding text
  stored = sets-eq (take n part) kept begun kept-fits ∙ rw (text-length, taken)

  pub keeps : (text' : List ℕ) → text' ≡ take n part
      → Fills kept (lengthened kept count part) (begun + n) (put_mid begun (begun + n - begun) kept text')
  keeps text' et =
      record {
        count_is = sym text-length ∙ ap length text_is;
        out_is =
            mid-sets kept text' (take n part) begun (begun + n - begun) et (rw taken (omega arith)) (omega arith)
            ∙ stored
            ∙ ap (λ (l : List ℕ). fill l kept) text_is;
      }

-- ---- what was kept
pub filled-first : {lent text : List ℕ} {count : ℕ} {out : List ℕ} → Fills lent text count out → take count out ≡ text
filled-first {lent} {text} {count} {out} f =
    rw f.out_is (take_at text (drop (length text) lent) count (sym f.count_is))

pub keeps_fits : (kept part kept' : List ℕ) (count n : ℕ) → Fills kept (lengthened kept count part) n kept'
    → n ≤ length kept
keeps_fits kept part kept' count n f =
    rw (f.count_is, length-take (length kept) (take count kept ++ part)) (omega arith)

-- a line whose beginning was kept
pub kept-part : (most : ℕ) (kept part kept' : List ℕ) (count n : ℕ) → length kept ≡ most
    → Fills kept (lengthened kept count part) n kept' → take n kept' ≡ take most (take count kept ++ part)
kept-part most kept part kept' count n w f = filled-first f ∙ ap (λ (m : ℕ). take m (take count kept ++ part)) w

-- a line that lies in the block as a whole
pub whole_part : (most : ℕ) (kept part : List ℕ) (count n : ℕ) → count ≡ 0 → n ≡ min most (length part)
    → take n part ≡ take most (take count kept ++ part)
whole_part most kept part count n z e = rw (z, e) (take_least most part)
