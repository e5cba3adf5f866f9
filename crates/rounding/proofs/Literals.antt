-- The values of the literals of the port, in units; each is a finite f64. Assumes nothing.
-- Nothing here expands the unit. A whole literal is its number of units; a fraction m / 2 ^ k is told by
-- mag * 2 ^ k ≡ m * unit.
use mathlib.Core.Path.{◌≡◌, refl, ap, ◌∙◌}
use Prim.Native.Nat.{ℕ, ◌*◌, ◌^◌}
use native.Mathlib.Nat.{zero-mul, one-mul}
use mathlib.Core.Bool.{Bool, false}
use lib.IntN.{pos}
use lib.Dec.{lit≤}
use lib.Ieee.{fin, binary64, of_bits}
use lib.Ieee.Bits.{of_bits-fits}
use Rattle.float.specs.Ops.{#0, #2, #6, #ε, #1e-12, #1e-10, #1e-8}
use Rattle.rounding.specs.Exact.{nought, signed}
use Rattle.rounding.specs.Value.{unit, mag, sign, val, Finite, Number}
use Rattle.rounding.proofs.Unit.{mag-pos, mag-negsuc}

number : (b : ℕ) → Finite (of_bits binary64 b) → Number (of_bits binary64 b)
number b h = record { held = of_bits-fits binary64 b; finite = h }

-- ---- whole numbers
whole : (s : Bool) (m k : ℕ) → val (fin s m (pos k)) ≡ signed s (m * 2 ^ k * unit)
unfolding val sign
whole s m k = ap (λ (z : ℕ). signed s z) (mag-pos s m k)

pub val_0 : val #0 ≡ nought
unfolding of_bits
val_0 = whole false 0 0 ∙ ap (λ (z : ℕ). signed false z) (zero-mul unit)

pub number_0 : Number #0
number_0 = number 0 (unfold of_bits in tt)

pub val_2 : val #2 ≡ signed false (2 * unit)
unfolding of_bits
val_2 = whole false 1 1

pub number_2 : Number #2
number_2 = number 0x4000_0000_0000_0000 (unfold of_bits in tt)

pub val_6 : val #6 ≡ signed false (6 * unit)
unfolding of_bits
val_6 = whole false 3 1

pub number_6 : Number #6
number_6 = number 0x4018_0000_0000_0000 (unfold of_bits in tt)

-- ---- fractions
pub mag_1e-8 : mag #1e-8 * 2 ^ 78 ≡ 3022314549036573 * unit
unfolding of_bits
mag_1e-8 = mag-negsuc false 3022314549036573 77 (lit≤ tt)

pub number_1e-8 : Number #1e-8
number_1e-8 = number 0x3E45_798E_E230_8C3A (unfold of_bits in tt)

pub mag_1e-10 : mag #1e-10 * 2 ^ 86 ≡ 7737125245533627 * unit
unfolding of_bits
mag_1e-10 = mag-negsuc false 7737125245533627 85 (lit≤ tt)

pub number_1e-10 : Number #1e-10
number_1e-10 = number 0x3DDB_7CDF_D9D7_BDBB (unfold of_bits in tt)

pub val_1e-12 : val #1e-12 ≡ signed false (mag #1e-12)
unfolding of_bits val sign
val_1e-12 = refl

pub mag_1e-12 : mag #1e-12 * 2 ^ 92 ≡ 4951760157141521 * unit
unfolding of_bits
mag_1e-12 = mag-negsuc false 4951760157141521 91 (lit≤ tt)

pub number_1e-12 : Number #1e-12
number_1e-12 = number 0x3D71_9799_812D_EA11 (unfold of_bits in tt)

pub mag_eps : mag #ε * 2 ^ 52 ≡ unit
unfolding of_bits
mag_eps = mag-negsuc false 1 51 (lit≤ tt) ∙ one-mul unit

pub number_eps : Number #ε
number_eps = number 0x3CB0_0000_0000_0000 (unfold of_bits in tt)
