-- No f64 is as near to the exact square root as the one that `sqrt_of` gives (`sqrt_nearest`). Assumes nothing.
use mathlib.Core.Path.{◌≡◌, sym, ap, ◌∙◌, subst}
use Prim.Native.Nat.{ℕ, zero, suc, ◌+◌, ◌-◌, ◌*◌, ◌/◌, ◌^◌, ◌≤◌, ◌<◌}
use native.Mathlib.Nat.{le_trans, le_of_eq, lt_of_lt_of_le, lt_of_le_of_lt, lt_of_not-le, not-le_of_lt, one-mul}
use native.Mathlib.Nat.{mul-pos, mul-le-mul_right, mul-lt-mul_of_pos_right, mul-div_cancel}
use native.Mathlib.Omega.{arith}
use mathlib.Core.Bool.{true, false}
use lib.Dec.{T}
use lib.Pow.{pow-add, pow_pos, pow_mono, pow-lt}
use lib.Ieee.{Float, nan, inf, fin, binary64, down, size, units, fits}
use lib.Ieee.Digits.{size-lt, size-le}
use lib.Ieee.Fits.{down_pos}
use lib.Ieee.Exact.{HasValue, units_val}
use lib.Ieee.Positive.{positive, positive_of_value}
use Rattle.sqrt.specs.Sqrt.{root, nearest_root, units_in, radicand, sqrt_of}
use Rattle.sqrt.specs.Nearest.{NearestTo}
use Rattle.sqrt.proofs.Squares.{between_squares}
use Rattle.sqrt.proofs.Root.{root-under, root_largest}
use Rattle.sqrt.proofs.Rounded.{rounded, nearest_root_is}
use Rattle.sqrt.proofs.Units.{InUnits, units_of, units-fits}
use Rattle.sqrt.proofs.Between.{bracket, Sides, sides, rounded_le, rounded_ge, no_tie, far_below, far_above}
use Rattle.sqrt.proofs.Cases.{units-pos, sqrt_positive}

-- ---- how large the root of n * 2 ^ 1074 is, for an f64 of n units
root_large : (n : ℕ) → 0 < n → 2 ^ 53 ≤ root (n * 2 ^ 1074)
root_large n h =
    root_largest (2 ^ 53) (n * 2 ^ 1074)
    (le_trans (pow_mono {i = 106} {j = 1074} (omega arith))
    (le_trans (le_of_eq (sym (one-mul (2 ^ 1074)))) (mul-le-mul_right (2 ^ 1074) h)))

root-small : (n : ℕ) → n < 2 ^ 2098 → root (n * 2 ^ 1074) < 2 ^ 1586
root-small n h = between_squares (root (n * 2 ^ 1074)) (n * 2 ^ 1074) (2 ^ 1586) (root-under (n * 2 ^ 1074))
    (mul-lt-mul_of_pos_right h (pow_pos 1074))

dropped_pos : (r : ℕ) → 2 ^ 53 ≤ r → 0 < size r - 53
dropped_pos r h =
    at (size r) (lt_of_not-le (λ (g : size r ≤ 53). not-le_of_lt (lt_of_lt_of_le (size-lt r) (pow_mono g)) h))
  where
    at : (z : ℕ) → 53 < z → 0 < z - 53
    at z l = omega arith

dropped_few : (r : ℕ) → r < 2 ^ 1586 → size r - 53 ≤ 1533
dropped_few r h = at (size r) (size-le r 1586 h)
  where
    at : (z : ℕ) → z ≤ 1586 → z - 53 ≤ 1533
    at z l = omega arith

-- ---- a value in units
value_units : (v : Float) (n : ℕ) → HasValue v false n (2 ^ 1074) → units_in v ≡ n
unfolding units_in
value_units nan n h = absurd h
value_units (inf s) n h = absurd h
value_units (fin s m e) n h = ap (λ (x : ℕ). x / down e) h.1 ∙ mul-div_cancel n (down_pos e)

root-nearest : (n : ℕ) → InUnits n → 0 < n → NearestTo (n * 2 ^ 1074) (nearest_root (n * 2 ^ 1074))
root-nearest n N h =
    let w = n * 2 ^ 1074 in
    let k = size (root w) - 53 in
    let q = root w / 2 ^ k in
    let B = bracket w in
    let q_low : 2 ^ 52 ≤ q = B.full (dropped_pos (root w) (root_large n h)) in
    let Q = rounded w q k in
    let Q-high : Q ≤ 2 ^ 53 = le_trans (rounded_le w q k) B.few in
    let Q-pos : 0 < Q = lt_of_lt_of_le (lt_of_lt_of_le (pow_pos 52) q_low) (rounded_ge w q k) in
    let small : Q * 2 ^ k < 2 ^ 2098 =
    lt_of_le_of_lt (mul-le-mul_right (2 ^ k) Q-high)
    (lt_of_le_of_lt (le_of_eq (sym (pow-add 2 53 k)))
    (pow-lt (room k (dropped_few (root w) (root-small n N.small))))) in
    let S : Sides w q k = sides w q k (no_tie n q k N q_low) in
    let value = units_val binary64 false Q k small in
    let R-is : units_in (units binary64 false Q k) ≡ Q * 2 ^ k =
    value_units (units binary64 false Q k) (Q * 2 ^ k) value in
    subst (NearestTo w) (sym (nearest_root_is w)) (record {
      held = units-fits Q k Q-high small;
      above_zero =
          positive_of_value (units binary64 false Q k) (Q * 2 ^ k) (2 ^ 1074) value (mul-pos Q-pos (pow_pos k));
      below =
          λ y f t. subst (λ (r : ℕ). units_in y < r → (r + units_in y) * (r + units_in y) < 4 * w) (sym R-is)
          (far_below w q k (units_in y) B (units_of y f) S);
      above =
          λ y f t. subst (λ (r : ℕ). r < units_in y → 4 * w < (r + units_in y) * (r + units_in y)) (sym R-is)
          (far_above w q k (units_in y) B (units_of y f) S);
    })
  where
    room : (k : ℕ) → k ≤ 1533 → 53 + k < 2098
    room k l = omega arith

pub sqrt_nearest : (x : Float) → T (fits binary64 x) → T (positive x) → NearestTo (radicand x) (sqrt_of x)
unfolding radicand
sqrt_nearest nan f p = absurd p
sqrt_nearest (inf s) f p = absurd p
sqrt_nearest (fin true m e) f p = absurd p
sqrt_nearest (fin false zero e) f p = absurd p
sqrt_nearest (fin false (suc m) e) f p =
    let x = fin false (suc m) e in
    subst (NearestTo (units_in x * 2 ^ 1074)) (sym (sqrt_positive m e))
    (root-nearest (units_in x) (units_of x f) (units-pos m e f))
