-- What a caller asks of a square root: what it is by what its argument is (`sqrt_of-kind`), that the format holds it
-- (`sqrt_of-fits`), and which arguments have a mark (`marked_are`), from which a NaN goes on. Assumes nothing.
use mathlib.Core.Path.{◌≡◌, refl, sym, ap, ◌∙◌, subst}
use Prim.Native.Nat.{ℕ, zero, suc, ◌+◌, ◌*◌, ◌^◌}
use native.Mathlib.Nat.{zero-lt-suc, mul-one, one-mul, pow-succ'}
use native.Mathlib.Omega.{arith}
use mathlib.Core.Bool.{Bool, true, false, ◌||◌, false≢true}
use lib.IntN.{ℤ, pos, negsuc}
use lib.Dec.{T, ltb, eqb, lt→ltb, eqb→eq}
use lib.Ieee.{Float, nan, inf, fin, binary64, up, down, below, lt, fits, is_nan, of_bits}
use lib.Ieee.Fits.{nan-fits, inf-fits}
use lib.Ieee.Bits.{cond_no}
use lib.Ieee.Positive.{positive}
use borrow.Author.Tests.{lt-ltb, le-ltb}
use Rattle.std.specs.Prelude.{Option, Some, None}
use Rattle.sqrt.specs.Sqrt.{square_root_of, f64_of, is_mark_of, sqrt_of}
use Rattle.sqrt.proofs.Cases.{not_zero-test, size-pos}
use Rattle.sqrt.proofs.Nearest.{sqrt_nearest}

pub data Kind (x : Float) : Type 0 where
  -- x is a NaN or below zero
  none : sqrt_of x ≡ nan → Kind x
  -- x is a zero, and the root is the same zero
  zeros : (s : Bool) → x ≡ fin s 0 (pos 0) → sqrt_of x ≡ x → Kind x
  above : T (positive x) → T (positive (sqrt_of x)) → Kind x
  infinite : x ≡ inf false → sqrt_of x ≡ inf false → Kind x

-- 2 ^ e is 1 / 1 only for e = 0
not_one : (x y : ℕ) → x ≡ 2 * y → x ≡ 1 → ⊥
not_one x y p q = omega arith

one_exponent : (e : ℤ) → up e * down e ≡ 1 → e ≡ pos 0
one_exponent (pos zero) h = refl
one_exponent (pos (suc k)) h = absurd (not_one (2 ^ suc k) (2 ^ k) (pow-succ' 2 k) (sym (mul-one (2 ^ suc k)) ∙ h))
one_exponent (negsuc k) h = absurd (not_one (2 ^ suc k) (2 ^ k) (pow-succ' 2 k) (sym (one-mul (2 ^ suc k)) ∙ h))

pub sqrt_of-kind : (x : Float) → T (fits binary64 x) → Kind x
unfolding sqrt_of fits
sqrt_of-kind nan f = none refl
sqrt_of-kind (inf true) f = none refl
sqrt_of-kind (inf false) f = infinite refl refl
sqrt_of-kind (fin s zero e) f = zeros s (ap (fin s 0) (one_exponent e (eqb→eq (up e * down e) 1 f))) refl
sqrt_of-kind (fin true (suc m) e) f = none (ap f64_of (cond_no (eqb (suc m) 0) _ _ (not_zero-test m)))
sqrt_of-kind (fin false (suc m) e) f =
    let p : T (ltb 0 (suc m)) = lt→ltb 0 (suc m) (zero-lt-suc m) in
    above p (sqrt_nearest (fin false (suc m) e) f p).above_zero

pub sqrt_of-fits : (x : Float) → T (fits binary64 x) → T (fits binary64 (sqrt_of x))
sqrt_of-fits x f = go (sqrt_of-kind x f)
  where
    go : Kind x → T (fits binary64 (sqrt_of x))
    go (none r) = subst (λ (v : Float). T (fits binary64 v)) (sym r) (nan-fits binary64)
    go (zeros s z r) = subst (λ (v : Float). T (fits binary64 v)) (sym r) f
    go (above p r) = (sqrt_nearest x f p).held
    go (infinite i r) = subst (λ (v : Float). T (fits binary64 v)) (sym r) (inf-fits binary64 false)

-- ---- the mark: of an argument below zero, -0 not among them, and of a NaN
pub marked_are : (x : Float) → is_mark_of (square_root_of x) ≡ lt x (of_bits binary64 0) || is_nan x
unfolding square_root_of lt of_bits is_nan
marked_are nan = refl
marked_are (inf true) = refl
marked_are (inf false) = refl
marked_are (fin s zero e) = sym (zero_not_below s (0 * up e * 1) (0 * down e) (omega arith) (omega arith))
  where
    zero_not_below : (s : Bool) (a b : ℕ) → a ≡ 0 → b ≡ 0 → below s a false b || false ≡ false
    zero_not_below true a b p q = rw (p, q)
    zero_not_below false a b p q = rw (p, q)
marked_are (fin true (suc m) e) =
    let p = size-pos m e in
    rw (cond_no (eqb (suc m) 0) _ _ (not_zero-test m), lt-ltb 0 (suc m * up e * 1 + 0 * down e) (omega arith))
marked_are (fin false (suc m) e) =
    rw (cond_no (eqb (suc m) 0) _ _ (not_zero-test m), le-ltb (suc m * up e * 1) (0 * down e) (omega arith))

pub mark_is_nan : (r : Option Float) → is_mark_of r ≡ true → f64_of r ≡ nan
mark_is_nan (Some r) h = absurd (false≢true h)
mark_is_nan None h = refl
