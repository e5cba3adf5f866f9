-- A move that document 01 works through, by the exact motion. Assumes nothing.
-- Times 1 0 1 0 1 0 1 from rest at 0, jerks 1 0 -1 0 -1 0 1, end at rest at 2, after 4 seconds.
use mathlib.Core.Path.{refl}
use mathlib.Core.List.{[], ◌∷◌}
use Prim.Native.Nat.{ℕ, ◌*◌}
use mathlib.Core.Bool.{false}
use lib.ListN.{get_or}
use lib.Ieee.{Float, binary64, of_bits, neg}
use Rattle.rounding.specs.Exact.{signed, nought, Same}
use Rattle.rounding.specs.Value.{unit, mag, sign, val}
use Rattle.rounding.specs.Motion.{Moving, state, motion, lasts, per_p}

abbrev zero : Float
zero = of_bits binary64 0

abbrev one : Float
one = of_bits binary64 0x3FF0_0000_0000_0000

abbrev times : ℕ → Float
times i = get_or (one ∷ zero ∷ one ∷ zero ∷ one ∷ zero ∷ one ∷ []) i zero

abbrev jerks : ℕ → Float
jerks i = get_or (one ∷ zero ∷ neg one ∷ zero ∷ neg one ∷ zero ∷ one ∷ []) i zero

abbrev end : Moving
end = motion times jerks (state zero zero zero) 7

pub ends : Same end.p (signed false (2 * (per_p * unit))) × Same end.v nought × Same end.a nought
    × Same (lasts times 7) (signed false (4 * unit))
unfolding of_bits neg unit val sign mag motion lasts
ends = (refl, refl, refl, refl)
