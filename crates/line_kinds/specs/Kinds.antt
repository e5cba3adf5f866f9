-- Definitions only. The kinds of line, one row each: the bytes of the frame, the places of the reply,
-- and what the line asks.
use Rattle.std.specs.Prelude.{Bool, true, false, cond, List, [], ◌∷◌, ℕ, ◌*◌, eqb, Option, Some, None}
use Rattle.step2_solver.specs.declared.Shape.{Shape}
use Rattle.step2_solver.specs.declared.Shape.TheVariants.{Acc0Acc1Vel, Acc1Vel, Acc0Vel, Acc0Acc1, Acc0, RestToRest}
use Rattle.line_kinds.specs.declared.Asks.{Asks}
use Rattle.line_kinds.specs.declared.Asks.TheVariants.{OfCheck, OfShape, OfQuartics, OfCauses}
use Rattle.line_kinds.specs.declared.Row.{Row}

-- ---- sizes
-- the bytes of the longest frame, and its characters, two a byte: the longest line
abbrev pub frame_most : ℕ
frame_most = 148

abbrev pub line_most : ℕ
line_most = 2 * frame_most

-- a record is 364 bytes, with count and cause 366, two quartics are 114: the places of each reply, two a byte, and of
-- the longest
abbrev pub record_places : ℕ
record_places = 2 * 364

abbrev pub causes_places : ℕ
causes_places = 2 * 366

abbrev pub quartics_places : ℕ
quartics_places = 2 * 114

abbrev pub reply_most : ℕ
reply_most = causes_places

-- the most characters of an answer for each character of its line, the line feeds counted
abbrev pub spread : ℕ
spread = 4

abbrev pub places_of : Asks → ℕ
places_of OfCheck = record_places
places_of (OfShape shape) = record_places
places_of (OfQuartics shape) = quartics_places
places_of (OfCauses shape) = causes_places

-- the second and the third shape try the roots of quartics; their lines have the answers
abbrev pub takes_roots_of : Shape → Bool
takes_roots_of Acc0Acc1Vel = false
takes_roots_of Acc1Vel = true
takes_roots_of Acc0Vel = true
takes_roots_of Acc0Acc1 = false
takes_roots_of Acc0 = false
takes_roots_of RestToRest = false

-- ---- the table
pub record Kind : Type 0 where
  pub number : ℕ
  pub row : Row

abbrev pub kind : ℕ → ℕ → Asks → Kind
kind n bytes asks = record { number = n; row = record { bytes = bytes; places = places_of asks; asks = asks } }

abbrev pub kinds : List Kind
kinds =
    kind 0x00 148 OfCheck
    ∷ kind 0x01 97 (OfShape Acc0Acc1Vel)
    ∷ kind 0x02 147 (OfShape Acc1Vel)
    ∷ kind 0x03 147 (OfShape Acc0Vel)
    ∷ kind 0x04 97 (OfShape Acc0Acc1)
    ∷ kind 0x05 97 (OfShape Acc0)
    ∷ kind 0x06 97 (OfQuartics Acc1Vel)
    ∷ kind 0x07 97 (OfQuartics Acc0Vel)
    ∷ kind 0x08 97 (OfShape RestToRest)
    ∷ kind 0x11 97 (OfCauses Acc0Acc1Vel)
    ∷ kind 0x12 147 (OfCauses Acc1Vel)
    ∷ kind 0x13 147 (OfCauses Acc0Vel)
    ∷ kind 0x14 97 (OfCauses Acc0Acc1)
    ∷ kind 0x15 97 (OfCauses Acc0)
    ∷ []

-- the row of the number n; none where there is no such kind
abbrev pub row_in : List Kind → ℕ → Option Row
row_in [] n = None
row_in (k ∷ ks) n = cond (eqb n k.number) (Some k.row) (row_in ks n)

unfoldable pub row_of : ℕ → Option Row
row_of n = row_in kinds n

-- what a line asks, and the places of its reply, by the row of its kind; nothing and none where there is no such kind
abbrev pub asks_of : Option Row → Option Asks
asks_of None = None
asks_of (Some row) = Some row.asks

abbrev pub places_in : Option Row → ℕ
places_in None = 0
places_in (Some row) = row.places
