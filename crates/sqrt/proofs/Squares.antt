-- The order of squares on whole numbers. Assumes nothing.
use mathlib.Core.Path.{◌≡◌}
use Prim.Native.Nat.{ℕ, suc, ◌*◌, ◌≤◌, ◌<◌}
use native.Mathlib.Nat.{mul-le-mul, mul-mul-mul_comm, lt_of_not-le, not-le_of_lt, le_trans, lt_of_lt_of_le}
use native.Mathlib.Omega.{arith}

pub square_le : {x y : ℕ} → x ≤ y → x * x ≤ y * y
square_le h = mul-le-mul h h

pub square_lt : {x y : ℕ} → x < y → x * x < y * y
square_lt {x} {y} h = lt_of_lt_of_le (next x) (square_le h)
  where
    next : (z : ℕ) → z * z < suc z * suc z
    next z = omega arith

-- x is below y where a number from x * x up is below y * y
pub between_squares : (x n y : ℕ) → x * x ≤ n → n < y * y → x < y
between_squares x n y h k = lt_of_not-le (λ (g : y ≤ x). not-le_of_lt k (le_trans (square_le g) h))

-- (x * y)² is x² * y²
pub square_product : (x y : ℕ) → x * y * (x * y) ≡ x * x * (y * y)
square_product x y = mul-mul-mul_comm x y x y
