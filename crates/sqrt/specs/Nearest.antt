-- What it is to be the nearest f64 to a square root, over whole numbers. Definitions only.
--
-- In units of 2 ^ -1074 let R be the result, Y any other f64 that is not negative,
-- and w the number whose root is meant: √w is the exact root (`radicand`).
-- R is nearer to √w than a Y below it exactly where √w is above the middle of the two, (R + Y) / 2,
-- which is where (R + Y)² < 4 * w.
-- R is nearer than a Y above it exactly where √w is below that middle: 4 * w < (R + Y)².
-- Neither is ever an equation, so there is no tie to decide.
-- A negative f64 is farther from √w than its magnitude, and `units_in` is the magnitude,
-- so nothing is asked of y's sign.
use Rattle.std.specs.Prelude.{ℕ, ◌+◌, ◌*◌, ◌<◌, T, Float}
use Rattle.std.specs.Float.{binary64}
use Rattle.std.specs.Float.Ieee.{fits}
use Rattle.std.specs.Float.Ieee.Scale.{finite}
use Rattle.std.specs.Float.Ieee.Positive.{positive}
use Rattle.sqrt.specs.Sqrt.{units_in}

-- r is an f64 above zero, and nearer to √w units than every other finite f64 y
pub record NearestTo (w : ℕ) (r : Float) : Type 0 where
  pub held : T (fits binary64 r)
  pub above_zero : T (positive r)
  pub below : (y : Float) → T (fits binary64 y) → T (finite y) → units_in y < units_in r
      → (units_in r + units_in y) * (units_in r + units_in y) < 4 * w
  pub above : (y : Float) → T (fits binary64 y) → T (finite y) → units_in r < units_in y
      → 4 * w < (units_in r + units_in y) * (units_in r + units_in y)
