-- Worked square roots, each computed from the definition: a table of numbers and their roots, by their bits.
-- Assumes nothing.
use Prim.Native.Nat.{ℕ}
use mathlib.Core.Path.{◌≡◌, refl}
use mathlib.Core.List.{List, [], ◌∷◌, map}
use lib.Ieee.{binary64, of_bits}
use Rattle.sqrt.specs.Sqrt.{sqrt_of}

abbrev pub worked : List (ℕ × ℕ)
worked =
    -- 2, 4 and a tenth
    (0x4000_0000_0000_0000, 0x3FF6_A09E_667F_3BCD) ∷ (0x4010_0000_0000_0000, 0x4000_0000_0000_0000)
    ∷ (0x3FB9_9999_9999_999A, 0x3FD4_3D13_6248_490F)
    -- the smallest f64 above zero, 2 ^ -1074, and twice that: its root is 2 ^ -537
    ∷ (0x0000_0000_0000_0001, 0x1E60_0000_0000_0000) ∷ (0x0000_0000_0000_0002, 0x1E66_A09E_667F_3BCD)
    -- the largest subnormal number, the smallest normal one and the largest finite one
    ∷ (0x000F_FFFF_FFFF_FFFF, 0x1FFF_FFFF_FFFF_FFFF) ∷ (0x0010_0000_0000_0000, 0x2000_0000_0000_0000)
    ∷ (0x7FEF_FFFF_FFFF_FFFF, 0x5FEF_FFFF_FFFF_FFFF)
    -- the last number before 1 and the first after it: their roots lie above that number and above 1, and round down
    ∷ (0x3FEF_FFFF_FFFF_FFFF, 0x3FEF_FFFF_FFFF_FFFF) ∷ (0x3FF0_0000_0000_0001, 0x3FF0_0000_0000_0000)
    -- 0, -0 and infinity are their own roots
    ∷ (0x0000_0000_0000_0000, 0x0000_0000_0000_0000) ∷ (0x8000_0000_0000_0000, 0x8000_0000_0000_0000)
    ∷ (0x7FF0_0000_0000_0000, 0x7FF0_0000_0000_0000)
    -- -1, the largest f64 below zero, -infinity and NaN have NaN
    ∷ (0xBFF0_0000_0000_0000, 0x7FF8_0000_0000_0000) ∷ (0x8000_0000_0000_0001, 0x7FF8_0000_0000_0000)
    ∷ (0xFFF0_0000_0000_0000, 0x7FF8_0000_0000_0000) ∷ (0x7FF8_0000_0000_0000, 0x7FF8_0000_0000_0000) ∷ []

pub worked_roots : map (λ row. sqrt_of (of_bits binary64 row.0)) worked ≡ map (λ row. of_bits binary64 row.1) worked
unfolding sqrt_of of_bits
worked_roots = refl
