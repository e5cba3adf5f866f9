-- The square root of an f64 as IEEE 754 has it: the exact root, rounded once to the nearest f64,
-- and at a tie to the even one.
-- Everything is over whole numbers, by comparing squares.
-- A finite f64 is a whole number of units of 2 ^ -1074, the smallest f64 above zero.
-- If x is n units, its root is √w units with w = n * 2 ^ 1074, since √(n * 2 ^ -1074) = √(n * 2 ^ 1074) * 2 ^ -1074. So
-- there is no even or odd exponent, no subnormal case and no fraction. Definitions only;
-- `proofs/Nearest.antt` proves that no f64 is nearer to the exact root.
use Prim.Native.Nat.{ℕ, zero, suc, ◌+◌, ◌-◌, ◌*◌, ◌/◌, ◌^◌, ◌≤◌, ◌<◌, compare}
use Rattle.std.specs.Prelude.{Bool, true, false, cond, leb, eqb, Float, Option, Some, None}
use Rattle.std.specs.Float.{nan, inf, fin, binary64}
use Rattle.std.specs.Float.Ieee.{prec, up, down, size, nearest, units}

-- r is the whole part of √n.
pub record IsRoot (n r : ℕ) : Type 0 where
  pub under : r * r ≤ n
  pub over : n < suc r * suc r

-- The largest r with r * r ≤ n, for an n below 4 ^ d: the root of n / 4, doubled,
-- and one more where the square of that is still at most n.
unfoldable pub root_in : ℕ → ℕ → ℕ
root_in zero n = 0
root_in (suc d) n = let r = 2 * root_in d (n / 4) in cond (leb (suc r * suc r) n) (suc r) r

-- The largest r with r * r ≤ n: n has `size n` binary digits, so it is below 4 ^ size n.
-- `proofs/Root.antt` proves `IsRoot n (root n)`.
unfoldable pub root : ℕ → ℕ
unfolding root_in size
root n = root_in (size n) n

-- The f64 nearest to √w units. Of the whole part r of √w an f64 keeps the 53 leading digits, q, and drops k. So √w lies
-- between q * 2 ^ k and (q + 1) * 2 ^ k, whose sum is `middle`:
-- √w compares with the number halfway between them as 4 * w with the square of `middle`.
-- `nearest` and `units` are the rounding and the f64 that every operation of lib.Ieee ends with.
unfoldable pub nearest_root : ℕ → Float
unfolding root size units
nearest_root w =
    let r = root w in
    let k = size r - prec binary64 in
    let q = r / 2 ^ k in
    let middle = (2 * q + 1) * 2 ^ k in
    units binary64 false (nearest q (compare (4 * w) (middle * middle))) k

-- How many units a finite f64 is, whatever its sign: m * 2 ^ e * 2 ^ 1074, which is a whole number for every f64.
unfoldable pub units_in : Float → ℕ
units_in nan = 0
units_in (inf s) = 0
units_in (fin s m e) = m * up e * 2 ^ 1074 / down e

-- The square of the exact root of x, in units: √(radicand x) units is √x.
unfoldable pub radicand : Float → ℕ
unfolding units_in
radicand x = units_in x * 2 ^ 1074

-- The square root: each zero has itself, -0 too, and so has infinity; a number below zero and a NaN have none.
unfoldable pub square_root_of : Float → Option Float
unfolding nearest_root radicand
square_root_of nan = None
square_root_of (inf s) = cond s None (Some (inf s))
square_root_of (fin s m e) =
    cond (eqb m 0) (Some (fin s m e)) (cond s None (Some (nearest_root (radicand (fin s m e)))))

-- the f64 that goes on into the formulas
abbrev pub f64_of : Option Float → Float
f64_of (Some r) = r
f64_of None = nan

abbrev pub is_mark_of : Option Float → Bool
is_mark_of (Some r) = false
is_mark_of None = true

-- the square root as IEEE 754 and the Rust have it: NaN where there is a mark
unfoldable pub sqrt_of : Float → Float
unfolding square_root_of
sqrt_of x = f64_of (square_root_of x)
