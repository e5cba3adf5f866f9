-- What the code tests, worked out at each kind of float: NaN, an infinity, a number. Assumes nothing.
use Prim.Native.Nat.{ℕ, zero, suc, ◌+◌, ◌*◌, ◌%◌, ◌<◌, ◌≤◌, ◌^◌}
use mathlib.Core.Path.{◌≡◌, refl, sym, subst, ◌∙◌}
use mathlib.Core.Bool.{Bool, true, false, not, ◌&&◌, cond, true≢false}
use native.Mathlib.Nat.{mul-one, one-mul, mul-pos, zero-lt-suc, pow-succ'}
use native.Mathlib.Omega.{arith}
use lib.IntN.{ℤ, pos, negsuc}
use lib.Dec.{T, eqb, ltb, eqb→eq, ltb→lt}
use lib.Ieee.{Float, nan, inf, fin, binary64, up, down, lt, eq, neg, fits, is_nan, nan_bits, of_bits}
use lib.Ieee.Fits.{up_pos}
use lib.Ieee.Bits.{nan_bits_is, nan_bits_above}
use lib.Ieee.Scale.{finite}
use borrow.Author.Tests.{le-ltb, lt-ltb, ne_eqb}
use Rattle.std.specs.Float.{float_is_finite}
use Rattle.float.specs.Helpers.{abs_of}

-- ---- the absolute value

-- of a zero that fits, the exponent is 0
even_one : (p : ℕ) → 2 * p ≡ 1 → ⊥
even_one p h = omega arith

exponent_zero : (e : ℤ) → up e * down e ≡ 1 → e ≡ pos 0
exponent_zero (pos zero) h = refl
exponent_zero (pos (suc k)) h = absurd (even_one (2 ^ k) (sym (pow-succ' 2 k) ∙ sym (mul-one (2 ^ suc k)) ∙ h))
exponent_zero (negsuc k) h = absurd (even_one (2 ^ k) (sym (pow-succ' 2 k) ∙ sym (one-mul (2 ^ suc k)) ∙ h))

pub zero_exponent : (s : Bool) (e : ℤ) → T (fits binary64 (fin s zero e)) → e ≡ pos 0
unfolding fits
zero_exponent s e t = exponent_zero e (eqb→eq (up e * down e) 1 t)

-- the two tests of a number against +0, by its sign and whether it is 0
not_below : (a d : ℕ) → ltb a (0 * d) ≡ false
not_below a d = le-ltb a (0 * d) (omega arith)

below : (m d : ℕ) (e : ℤ) → ltb 0 (suc m * up e * 1 + 0 * d) ≡ true
below m d e = lt-ltb 0 (suc m * up e * 1 + 0 * d) (positive (suc m * up e) d (mul-pos (zero-lt-suc m) (up_pos e)))
  where
    positive : (a d : ℕ) → 0 < a → 0 < a * 1 + 0 * d
    positive a d h = omega arith

unequal : (m d : ℕ) (e : ℤ) → eqb (suc m * up e * 1) (0 * d) ≡ false
unequal m d e = ne_eqb (suc m * up e * 1) (0 * d) (other (suc m * up e) d (mul-pos (zero-lt-suc m) (up_pos e)))
  where
    other : (a d : ℕ) → 0 < a → a * 1 ≡ 0 * d → ⊥
    other a d h k = omega arith

pub abs_is : (x : Float) → T (fits binary64 x) → cond (lt x (of_bits binary64 0)) (neg x)
    (cond (eq x (of_bits binary64 0)) (of_bits binary64 0) x) ≡ abs_of x
unfolding lt eq neg abs_of of_bits
abs_is nan h = refl
abs_is (inf true) h = refl
abs_is (inf false) h = refl
abs_is (fin false zero e) h = rw (zero_exponent false e h)
abs_is (fin true zero e) h = rw (zero_exponent true e h)
abs_is (fin false (suc m) e) h = rw (not_below (suc m * up e * 1) (down e), unequal m (down e) e)
abs_is (fin true (suc m) e) h = rw (below m (down e) e)

-- ---- an absolute value below y: x is below y, and -y below x

implied : (o k : Bool) → (o ≡ true → k ≡ true) → (o ≡ o && k) × (o ≡ k && o)
implied false false h = (refl, refl)
implied false true h = (refl, refl)
implied true k h = (rw (h refl), rw (h refl))

and-false : (o : Bool) → false ≡ o && false
and-false false = refl
and-false true = refl

positive-above : (a b c : ℕ) → b ≤ c → ltb a b ≡ true → ltb 0 c ≡ true
positive-above a b c k h = lt-ltb 0 c (larger a b c (ltb→lt a b (subst T (sym h) tt)) k)
  where
    larger : (a b c : ℕ) → a < b → b ≤ c → 0 < c
    larger a b c h k = omega arith

pub near_is : (x y : Float) → lt (abs_of x) y ≡ lt x y && lt (neg y) x
unfolding lt neg abs_of
near_is nan y = refl
near_is (inf s) nan = refl
near_is (inf true) (inf true) = refl
near_is (inf true) (inf false) = refl
near_is (inf false) (inf t) = refl
near_is (inf true) (fin t n d) = refl
near_is (inf false) (fin t n d) = refl
near_is (fin s m e) nan = refl
near_is (fin s m e) (inf true) = refl
near_is (fin s m e) (inf false) = refl
near_is (fin false m e) (fin false n d) =
    let a = m * up e * down d in
    let b = n * up d * down e in
    (implied (ltb a b) (ltb 0 (b + a)) (positive-above a b (b + a) (omega arith))).0
near_is (fin true m e) (fin false n d) =
    let a = m * up e * down d in
    let b = n * up d * down e in
    (implied (ltb a b) (ltb 0 (a + b)) (positive-above a b (a + b) (omega arith))).1
near_is (fin false m e) (fin true n d) = refl
near_is (fin true m e) (fin true n d) = and-false (ltb (n * up d * down e) (m * up e * down d))

-- ---- finite: the library's definition is the logic's
pub std_finite : (x : Float) → float_is_finite x ≡ finite x
unfolding float_is_finite
std_finite nan = refl
std_finite (inf s) = refl
std_finite (fin s m e) = refl

-- ---- NaN and its patterns
pub is_nan_lem : (x : Float) → is_nan x ≡ true → x ≡ nan
unfolding is_nan
is_nan_lem nan h = refl
is_nan_lem (inf s) h = absurd (true≢false (sym h))
is_nan_lem (fin s m e) h = absurd (true≢false (sym h))

-- a pattern is NaN's exactly where it lies above infinity's, its sign left out
pub some_bits : (b : ℕ) → b % 0x8000_0000_0000_0000 ≤ 0x7FF0_0000_0000_0000 → T (not (nan_bits binary64 b))
some_bits b h = rw (nan_bits_above binary64 b, le-ltb 0x7FF0_0000_0000_0000 (b % 0x8000_0000_0000_0000) h) tt

pub nan_bits_lem : (b : ℕ) → 0x7FF0_0000_0000_0000 < b % 0x8000_0000_0000_0000 → of_bits binary64 b ≡ nan
nan_bits_lem b h =
    is_nan_lem (of_bits binary64 b)
    (sym (nan_bits_is binary64 b) ∙ nan_bits_above binary64 b ∙ lt-ltb 0x7FF0_0000_0000_0000 (b % 0x8000_0000_0000_0000)
    h)
