-- The table of kinds: what is computed to hold of every row of it holds of the row of any number. Assumes nothing.
use mathlib.Core.Path.{◌≡◌, refl, sym}
use mathlib.Core.Bool.{Bool, true, false, cond, ◌&&◌, true≢false}
use mathlib.Core.List.{List, [], ◌∷◌}
use Prim.Native.Nat.{ℕ, ◌*◌, ◌≤◌}
use lib.Dec.{eqb, leb, lit≤}
use Rattle.std.specs.Prelude.{Option, Some, None}
use borrow.Author.Tests.{eqb-true, leb-true}
use Rattle.line_kinds.specs.declared.Row.{Row}
use Rattle.line_kinds.specs.Kinds.{Kind, kinds, row_in, row_of, places_in, frame_most, reply_most, spread, places_of}

both : (a b : Bool) → a && b ≡ true → (a ≡ true) × (b ≡ true)
both true b h = (refl, h)
both false b h = absurd (true≢false (sym h))

-- ---- of every row of a table
module _ (f : Row → Bool) where
  abbrev every : List Kind → Bool
  every [] = true
  every (k ∷ ks) = f k.row && every ks

  each_in : (n : ℕ) {r : Row} (ks : List Kind) → every ks ≡ true → row_in ks n ≡ Some r → f r ≡ true
  each_in n [] h e = cc
  each_in n {r = r} (k ∷ ks) h e = by (eqb n k.number) (each_in n ks (both (f k.row) (every ks) h).1) e
    where
      by : (b : Bool) → (row_in ks n ≡ Some r → f r ≡ true) → cond b (Some k.row) (row_in ks n) ≡ Some r → f r ≡ true
      by true l e = let g : k.row ≡ r = cc in rw (← g) (both (f k.row) (every ks) h).0
      by false l e = l e

-- the places are those of what is asked, and no row is above the sizes, where a line has two characters a byte
abbrev pub Sound : Row → Type 0
Sound r =
    (r.places ≡ places_of r.asks)
    × (r.bytes ≤ frame_most)
    × (r.places ≤ reply_most)
    × (r.places ≤ spread * (2 * r.bytes))

abbrev is_sound : Row → Bool
is_sound r =
    eqb r.places (places_of r.asks)
    && (leb r.bytes frame_most && (leb r.places reply_most && leb r.places (spread * (2 * r.bytes))))

of_sound : (r : Row) → is_sound r ≡ true → Sound r
of_sound r h =
    let a = both (eqb r.places (places_of r.asks)) _ h in
    let b = both (leb r.bytes frame_most) _ a.1 in
    let c = both (leb r.places reply_most) _ b.1 in (
      eqb-true r.places (places_of r.asks) a.0,
      leb-true r.bytes frame_most b.0,
      leb-true r.places reply_most c.0,
      leb-true r.places (spread * (2 * r.bytes)) c.1,
    )

pub sound : (n : ℕ) {r : Row} → row_of n ≡ Some r → Sound r
unfolding row_of
sound n e = of_sound _ (each_in is_sound n kinds refl e)

pub places_most : (n : ℕ) → places_in (row_of n) ≤ reply_most
places_most n = by (row_of n) refl
  where
    by : (row : Option Row) → row_of n ≡ row → places_in row ≤ reply_most
    by None e = lit≤ tt
    by (Some row) e = (sound n e).2
