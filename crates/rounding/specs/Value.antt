-- A finite f64 as a whole number of units of 2 ^ -1074, the smallest positive f64. Definitions only.
-- Every finite f64 is one. `val x` is the number x times 2 ^ 1074, and `mag x` its size. A NaN and an infinity are
-- given 0, so a law that speaks of `val` asks that its floats are finite.
use Rattle.std.specs.Prelude.{ℕ, ◌*◌, ◌/◌, ◌^◌, Bool, false, T, Float}
use Rattle.std.specs.Float.{nan, inf, fin, binary64}
use Rattle.std.specs.Float.Ieee.{up, down, fits}
use Rattle.std.specs.Float.Ieee.Scale.{finite}
use Rattle.rounding.specs.Exact.{D, signed}

-- 2 ^ 1074. It is kept shut: proofs use only what proofs/Unit.antt says of it.
unfoldable pub unit : ℕ
unit = 2 ^ 1074

-- the number m * 2 ^ e is m * up e / down e; for a value that an f64 holds the division leaves no remainder
unfoldable pub mag : Float → ℕ
mag nan = 0
mag (inf s) = 0
mag (fin s m e) = m * up e * unit / down e

unfoldable pub sign : Float → Bool
sign nan = false
sign (inf s) = s
sign (fin s m e) = s

unfoldable pub val : Float → D
val x = signed (sign x) (mag x)

-- neither a NaN nor an infinity
abbrev pub Finite : Float → Type 0
Finite x = T (finite x)

-- a finite f64
pub record Number (x : Float) : Type 0 where
  pub held : T (fits binary64 x)
  pub finite : Finite x
