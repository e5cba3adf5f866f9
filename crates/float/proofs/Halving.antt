-- A product with one half is the division by 2, for every float. Assumes nothing.
-- Before rounding, m * 2 ^ e times one half and m * 2 ^ e over 2 are one fraction, and each operation rounds it once.
-- So the two agree where the result is subnormal and not exact too: half of an odd count of smallest values goes to the
-- same even neighbour. Zeros and infinities keep their signs, since 2 and one half are positive; NaN gives NaN.
use Prim.Native.Nat.{◌*◌}
use mathlib.Core.Bool.{false}
use mathlib.Core.Path.{◌≡◌, refl, ap}
use native.Mathlib.Nat.{mul_comm}
use lib.Ieee.{Float, nan, inf, fin, binary64, unlike, up, down, mul, div, round, of_bits}
use Rattle.float.specs.Ops.{◌⊗◌, ◌⊘◌, #½, #2}

pub halving : (x : Float) → x ⊘ #2 ≡ x ⊗ #½
unfolding mul div of_bits
halving nan = refl
halving (inf s) = refl
halving (fin s m e) = ap (round binary64 (unlike s false) (m * up e * 1)) (mul_comm 2 (down e))
