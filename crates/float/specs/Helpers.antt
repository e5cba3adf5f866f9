-- What Rust's `f64::abs`, `min` and `max` give, all NaNs being one. Definitions only.
-- `is_finite` is `finite` of lib.Ieee.Scale, and the two conversions are `of_bits` and `to_bits` of lib.Ieee.
use Rattle.std.specs.Prelude.{false, cond}
use lib.Ieee.{Float, nan, inf, fin, lt, is_nan}

-- The same magnitude without its sign: of -0 it is +0.
unfoldable pub abs_of : Float → Float
abs_of nan = nan
abs_of (inf s) = inf false
abs_of (fin s m e) = fin false m e

-- The other operand where one is NaN, else the smaller; the first where they are equal.
abbrev pub min_of : Float → Float → Float
min_of x y = cond (is_nan x) y (cond (is_nan y) x (cond (lt y x) y x))

-- The other operand where one is NaN, else the larger; the first where they are equal.
abbrev pub max_of : Float → Float → Float
max_of x y = cond (is_nan x) y (cond (is_nan y) x (cond (lt x y) y x))
