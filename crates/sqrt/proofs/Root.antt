-- `root n` is the whole part of √n: its square is at most n, and the next number's square is above n. Assumes nothing.
use mathlib.Core.Path.{subst}
use Prim.Native.Nat.{ℕ, zero, suc, ◌*◌, ◌/◌, ◌^◌, ◌≤◌, ◌<◌}
use native.Mathlib.Nat.{pow-suc, zero-lt-suc, div-lt_iff_lt-mul, lt_of_lt_of_le, le_of_suc-le-suc, le_refl}
use native.Mathlib.Omega.{arith}
use mathlib.Core.Bool.{Bool, true, false, not, cond}
use lib.Dec.{T, leb, leb→le, nleb→lt}
use lib.Ieee.{size}
use lib.Ieee.Digits.{size-lt}
use Rattle.sqrt.specs.Sqrt.{IsRoot, root_in, root}
use Rattle.sqrt.proofs.Squares.{between_squares}

-- one digit more: c is the root of n / 4
digit_under : (n c : ℕ) → c * c ≤ n / 4 → 2 * c * (2 * c) ≤ n
digit_under n c h = omega arith

digit_over : (n c : ℕ) → n / 4 < suc c * suc c → n < suc (suc (2 * c)) * suc (suc (2 * c))
digit_over n c h = omega arith

digit : (n c : ℕ) → IsRoot (n / 4) c → IsRoot n (cond (leb (suc (2 * c) * suc (2 * c)) n) (suc (2 * c)) (2 * c))
digit n c h = go (leb (suc (2 * c) * suc (2 * c)) n) (leb→le _ n) (nleb→lt _ n)
  where
    go : (b : Bool) → (T b → suc (2 * c) * suc (2 * c) ≤ n) → (T (not b) → n < suc (2 * c) * suc (2 * c))
        → IsRoot n (cond b (suc (2 * c)) (2 * c))
    go true l g = record { under = l tt; over = digit_over n c h.over }
    go false l g = record { under = digit_under n c h.under; over = g tt }

root_in_is : (d n : ℕ) → n < 4 ^ d → IsRoot n (root_in d n)
unfolding root_in
root_in_is zero n h = record { under = omega arith; over = h }
root_in_is (suc d) n h = digit n (root_in d (n / 4))
    (root_in_is d (n / 4) ((div-lt_iff_lt-mul (zero-lt-suc 3)).1 (subst (λ (x : ℕ). n < x) (pow-suc 4 d) h)))

-- 2 ^ d ≤ 4 ^ d
two_four : (d : ℕ) → 2 ^ d ≤ 4 ^ d
two_four zero = le_refl 1
two_four (suc d) = rw (pow-suc 2 d, pow-suc 4 d) (step (2 ^ d) (4 ^ d) (two_four d))
  where
    step : (x y : ℕ) → x ≤ y → x * 2 ≤ y * 4
    step x y h = omega arith

pub root_is : (n : ℕ) → IsRoot n (root n)
unfolding root
root_is n = root_in_is (size n) n (lt_of_lt_of_le (size-lt n) (two_four (size n)))

pub root-under : (n : ℕ) → root n * root n ≤ n
root-under n = (root_is n).under

pub root_over : (n : ℕ) → n < suc (root n) * suc (root n)
root_over n = (root_is n).over

-- every number whose square is at most n is at most the root
pub root_largest : (r n : ℕ) → r * r ≤ n → r ≤ root n
root_largest r n h = le_of_suc-le-suc (between_squares r n (suc (root n)) h (root_over n))
