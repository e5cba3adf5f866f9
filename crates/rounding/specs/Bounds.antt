-- What an analysis of rounding errors carries from one operation to the next. Definitions only.
use Rattle.std.specs.Prelude.{ℕ, ◌+◌, ◌*◌, ◌^◌, ◌≤◌, T, Float}
use Rattle.std.specs.Float.{binary64}
use Rattle.std.specs.Float.Ieee.{fits}
use Rattle.rounding.specs.Exact.{D, ◌⊙◌, ◌⊠◌, Near, Size}
use Rattle.rounding.specs.Value.{unit, mag, val, Finite}

-- r is v rounded once to 53 binary digits, both taken in a common unit: they differ by at most 2 ^ -53 of v, and of r,
-- and a term l where r may be subnormal. |v| is not written: whatever M bounds it, bounds the error.
pub record Rounds (r v : D) (l : ℕ) : Type 0 where
  pub err : ℕ
  pub near : Near r v err
  pub forward : (M : ℕ) → Size v M → err * 2 ^ 53 ≤ M + l
  pub backward : (M : ℕ) → Size r M → err * 2 ^ 53 ≤ M + l

-- The exact numbers a and b differ by at most β times 2 ^ -53 on the scale S: |a - b| * 2 ^ 53 ≤ β * S.
-- S is `unit` where errors are absolute, and the size of a divisor where the number will be divided by it.
pub record Off (S : ℕ) (a b : D) (β : ℕ) : Type 0 where
  pub err : ℕ
  pub near : Near a b err
  pub bound : err * 2 ^ 53 ≤ β * S

-- the float x is a finite f64, and R at most on the scale S
pub record Sized (S : ℕ) (x : Float) (R : ℕ) : Type 0 where
  pub held : T (fits binary64 x)
  pub finite : Finite x
  pub size : Size (val x) (R * S)

-- where the float x is finite, it is the number X / K, both in units, but for β times 2 ^ -53 on the scale S
pub record About (S : ℕ) (x : Float) (K : ℕ) (X : D) (β : ℕ) : Type 0 where
  pub held : T (fits binary64 x)
  pub off : Finite x → Off (K * S) (K ⊙ val x) X β

-- and R at most on that scale
pub record On (S : ℕ) (x : Float) (R K : ℕ) (X : D) (β : ℕ) : Type 0 where
  pub about : About S x K X β
  pub size : Finite x → Size (val x) (R * S)

-- the exact number q is X / j but for β times 2 ^ -53; multiplied through by j, so that its sign is not asked for
pub record Part (j : Float) (q X : D) (β : ℕ) : Type 0 where
  pub off : Off (unit * mag j) (q ⊠ val j) (unit ⊙ X) β
