-- What the tests of `sqrt_unmarked` and of `sqrt` say of their argument: above zero, a zero, or neither. Assumes
-- nothing.
use mathlib.Core.Path.{◌≡◌, refl, sym, ap, ◌∙◌, subst}
use Prim.Native.Nat.{ℕ, zero, suc, ◌+◌, ◌*◌, ◌%◌, ◌^◌, ◌≤◌, ◌<◌}
use native.Mathlib.Nat.{le_trans, le_of_eq, zero-lt-suc, zero-mul, le_of_lt, mul-pos, mul-le-mul_right, one-mul}
use native.Mathlib.Nat.{lt_irrefl, not-le_of_lt, le-div_iff_mul-le, mod-eq_of_lt}
use native.Mathlib.Omega.{arith}
use mathlib.Core.Bool.{Bool, true, false, not, ◌&&◌, ◌||◌, beq, true≢false, false≢true}
use lib.IntN.{ℤ}
use lib.Dec.{T, ltb, leb, eqb, leb→le, eqb→eq, not_T}
use lib.Ieee.{Float, nan, inf, fin, binary64, up, down, below, level, lt, eq, le, fits, is_nan, nan_bits, of_bits}
use lib.Ieee.{to_bits}
use lib.Ieee.Fits.{up_pos, down_pos, and_l, and_r}
use lib.Ieee.Bits.{cond_no, nan_bits_above}
use borrow.Author.Tests.{ltb-true, ltb-false, lt-ltb, le-ltb}
use Rattle.std.specs.Prelude.{Option, Some, None, unwrap_or}
use Rattle.sqrt.specs.Sqrt.{nearest_root, units_in, radicand, square_root_of, f64_of, sqrt_of}
use Rattle.sqrt.specs.Steps.{RootBits}
use Rattle.sqrt.proofs.Units.{to_bits_parts}

pub no_nan : (x : Float) → lt (of_bits binary64 0) x ≡ true → T (not (is_nan x))
unfolding lt is_nan of_bits
no_nan nan t = false≢true t
no_nan (inf s) t = tt
no_nan (fin s m e) t = tt

-- ---- a number above zero
pub units-pos : (m : ℕ) (e : ℤ) → T (fits binary64 (fin false (suc m) e)) → 0 < units_in (fin false (suc m) e)
unfolding fits units_in
units-pos m e t =
    let a : Bool = eqb (suc m % 2) 1 && ltb (suc m) (2 ^ 53) in
    let b : Bool = leb (down e) (2 ^ 1074) in
    let c : Bool = ltb (suc m * up e) (2 ^ 1024 * down e) in
    let h : down e ≤ 2 ^ 1074 = leb→le (down e) (2 ^ 1074) (and_r a b (and_l (a && b) c t)) in
    (le-div_iff_mul-le (down_pos e)).1
    (le_trans (le_of_eq (one-mul (down e)))
    (le_trans h (le_trans (le_of_eq (sym (one-mul (2 ^ 1074))))
    (mul-le-mul_right (2 ^ 1074) (mul-pos (zero-lt-suc m) (up_pos e))))))

above_zero : (e : ℤ) → lt (of_bits binary64 0) (fin false zero e) ≡ true → ⊥
unfolding lt of_bits
above_zero e t = never (down e) (up e) (ltb-true (0 * down e) (0 * up e * 1) t)
  where
    never : (x y : ℕ) → 0 * x < 0 * y * 1 → ⊥
    never x y h = omega arith

infinity_bits : to_bits binary64 (inf false) ≡ 0x7ff0_0000_0000_0000
unfolding to_bits
infinity_bits = refl

below_infinity : (q k : ℕ) → q < 2 ^ 53 → k ≤ 2045 → k * 2 ^ 52 + q < 0x7ff0_0000_0000_0000
below_infinity q k h l = omega arith

finite_bits_lem : (m : ℕ) (e : ℤ) → T (fits binary64 (fin false m e))
    → to_bits binary64 (fin false m e) < 0x7ff0_0000_0000_0000
finite_bits_lem m e t =
    let p = to_bits_parts m e t in
    subst (λ (b : ℕ). b < 0x7ff0_0000_0000_0000) (sym p.3.sum)
    (below_infinity p.0 p.1 p.2.few p.2.low)

pub bits_pos : (x : Float) → T (fits binary64 x) → lt (of_bits binary64 0) x ≡ true → 0 < to_bits binary64 x
unfolding lt of_bits
bits_pos nan f t = absurd (false≢true t)
bits_pos (inf true) f t = absurd (false≢true t)
bits_pos (inf false) f t = subst (λ (b : ℕ). 0 < b) (sym infinity_bits) (omega arith)
bits_pos (fin true m e) f t = absurd (false≢true t)
bits_pos (fin false zero e) f t = absurd (above_zero e t)
bits_pos (fin false (suc m) e) f t =
    let p = to_bits_parts (suc m) e f in
    subst (λ (b : ℕ). 0 < b) (sym p.3.sum)
    (added p.0 p.1 (subst (λ (n : ℕ). 0 < n) (sym p.2.exact) (units-pos m e f)))
  where
    added : (q k : ℕ) → 0 < q * 2 ^ k → 0 < k * 2 ^ 52 + q
    added zero k h = absurd (lt_irrefl 0 (subst (λ (x : ℕ). 0 < x) (zero-mul (2 ^ k)) h))
    added (suc q) k h = omega arith

-- ---- the root, by what x is
infinite : inf false ≡ sqrt_of (inf false)
unfolding sqrt_of square_root_of
infinite = refl

pub not_zero-test : (m : ℕ) → T (not (eqb (suc m) 0))
not_zero-test m = not_T (eqb (suc m) 0) (λ t. let h : suc m ≡ 0 = eqb→eq (suc m) 0 t in omega arith)

pub sqrt_positive : (m : ℕ) (e : ℤ)
    → sqrt_of (fin false (suc m) e) ≡ nearest_root (units_in (fin false (suc m) e) * 2 ^ 1074)
unfolding sqrt_of square_root_of radicand
sqrt_positive m e = ap f64_of (cond_no (eqb (suc m) 0) _ _ (not_zero-test m))

-- from infinity's bits on it is infinity
pub sqrt_infinite : (x : Float) → T (fits binary64 x) → lt (of_bits binary64 0) x ≡ true
    → 0x7ff0_0000_0000_0000 ≤ to_bits binary64 x → x ≡ sqrt_of x
unfolding lt of_bits
sqrt_infinite nan f t h = absurd (false≢true t)
sqrt_infinite (inf true) f t h = absurd (false≢true t)
sqrt_infinite (inf false) f t h = infinite
sqrt_infinite (fin true m e) f t h = absurd (false≢true t)
sqrt_infinite (fin false m e) f t h = absurd (not-le_of_lt (finite_bits_lem m e f) h)

pub sqrt_finite : (x : Float) (r : ℕ) → T (fits binary64 x) → lt (of_bits binary64 0) x ≡ true
    → to_bits binary64 x < 0x7ff0_0000_0000_0000 → RootBits (to_bits binary64 x) r → of_bits binary64 r ≡ sqrt_of x
unfolding lt of_bits
sqrt_finite nan r f t h H = absurd (false≢true t)
sqrt_finite (inf true) r f t h H = absurd (false≢true t)
sqrt_finite (inf false) r f t h H =
    absurd (lt_irrefl 0x7ff0_0000_0000_0000 (subst (λ (b : ℕ). b < 0x7ff0_0000_0000_0000) infinity_bits h))
sqrt_finite (fin true m e) r f t h H = absurd (false≢true t)
sqrt_finite (fin false zero e) r f t h H = absurd (above_zero e t)
sqrt_finite (fin false (suc m) e) r f t h H =
    let p = to_bits_parts (suc m) e f in
    H.root p.0 p.1 p.3 ∙ ap (λ (n : ℕ). nearest_root (n * 2 ^ 1074)) p.2.exact ∙ sym (sqrt_positive m e)

pub no_nan_bits : (r : ℕ) → r < 0x7ff0_0000_0000_0000 → T (not (nan_bits binary64 r))
no_nan_bits r h =
    subst (λ (b : Bool). T (not b))
    (sym (nan_bits_above binary64 r
    ∙ le-ltb 0x7ff0_0000_0000_0000 (r % 2 ^ 63) (le_trans (le_of_eq (mod-eq_of_lt (wide r h))) (le_of_lt h))))
    tt
  where
    wide : (r : ℕ) → r < 0x7ff0_0000_0000_0000 → r < 2 ^ 63
    wide r g = omega arith

-- ---- a zero, and what has no root
pub size-pos : (m : ℕ) (e : ℤ) → 0 < suc m * up e * 1
size-pos m e = mul-pos (mul-pos (zero-lt-suc m) (up_pos e)) (zero-lt-suc 0)

not_zero : (m : ℕ) (e : ℤ) → suc m * up e * 1 ≤ 0 * down e → ⊥
not_zero m e h = never (suc m * up e * 1) (down e) (size-pos m e) h
  where
    never : (x y : ℕ) → 0 < x → x ≤ 0 * y → ⊥
    never x y g l = omega arith

zero-level : (s : Bool) (a b : ℕ) → a ≡ 0 → b ≡ 0 → level s a false b ≡ true
zero-level s a b p q = rw (p, q) (go s)
  where
    go : (s : Bool) → level s 0 false 0 ≡ true
    go true = refl
    go false = refl

pub sqrt_zero : (x : Float) → eq x (of_bits binary64 0) ≡ true → x ≡ sqrt_of x
unfolding eq of_bits sqrt_of square_root_of
sqrt_zero nan t = absurd (false≢true t)
sqrt_zero (inf s) t = absurd (false≢true t)
sqrt_zero (fin s zero e) t = refl
sqrt_zero (fin s (suc m) e) t =
    let a : Bool = eqb (suc m * up e * 1) (0 * down e) in
    absurd (not_zero m e
    (le_of_eq (eqb→eq (suc m * up e * 1) (0 * down e)
    (and_l a (beq s false || eqb (suc m * up e * 1) 0) (subst T (sym t) tt)))))

pub sqrt_none : (x : Float) → lt (of_bits binary64 0) x ≡ false → eq x (of_bits binary64 0) ≡ false
    → of_bits binary64 0x7ff8_0000_0000_0000 ≡ sqrt_of x
unfolding lt eq of_bits sqrt_of square_root_of
sqrt_none nan t u = refl
sqrt_none (inf true) t u = refl
sqrt_none (inf false) t u = absurd (true≢false t)
sqrt_none (fin s zero e) t u =
    absurd (true≢false (sym (zero-level s (0 * up e * 1) (0 * down e) (omega arith) (omega arith)) ∙ u))
sqrt_none (fin true (suc m) e) t u = sym (ap f64_of (cond_no (eqb (suc m) 0) _ _ (not_zero-test m)))
sqrt_none (fin false (suc m) e) t u = absurd (not_zero m e (ltb-false (0 * down e) (suc m * up e * 1) t))

-- all that `sqrt_unmarked` rests on
pub ruleset ways_out = (no_nan, bits_pos, no_nan_bits, sqrt_finite, sqrt_infinite, sqrt_zero, sqrt_none)

-- ---- 0 or above, or neither: 0 against ±b, as `le` has it
abbrev from_0 : Bool → ℕ → ℕ → Bool
from_0 s a b = below false a s b || level false a s b

zero-from_0 : (s : Bool) (a b : ℕ) → a ≡ 0 → b ≡ 0 → from_0 s a b ≡ true
zero-from_0 true a b p q = rw (p, q)
zero-from_0 false a b p q = rw (p, q)

plus-from_0 : (a b : ℕ) → a ≡ 0 → 0 < b → from_0 false a b ≡ true
plus-from_0 a b p h = rw (p, lt-ltb 0 b h)

minus-from_0 : (a b : ℕ) → a ≡ 0 → 0 < b → from_0 true a b ≡ false
minus-from_0 a b p h = rw p (by (eqb 0 b) (λ t. let e = eqb→eq 0 b t in omega arith))
  where
    by : (c : Bool) → (T c → ⊥) → c && (beq false true || eqb 0 0) ≡ false
    by true h = absurd (h tt)
    by false h = refl

pub has_root : (x : Float) → le (of_bits binary64 0) x ≡ true → Some (sqrt_of x) ≡ square_root_of x
unfolding le lt eq of_bits sqrt_of square_root_of
has_root nan t = absurd (false≢true t)
has_root (inf true) t = absurd (false≢true t)
has_root (inf false) t = refl
has_root (fin s zero e) t = refl
has_root (fin true (suc m) e) t =
    absurd (true≢false (sym t ∙ minus-from_0 (0 * down e) (suc m * up e * 1) (omega arith) (size-pos m e)))
has_root (fin false (suc m) e) t =
    let q = cond_no (eqb (suc m) 0) _ _ (not_zero-test m) in ap (λ (r : Option Float). Some (f64_of r)) q ∙ sym q

pub has_mark : (x : Float) → le (of_bits binary64 0) x ≡ false → None ≡ square_root_of x
unfolding le lt eq of_bits square_root_of
has_mark nan t = refl
has_mark (inf true) t = refl
has_mark (inf false) t = absurd (true≢false t)
has_mark (fin s zero e) t =
    absurd (true≢false (sym (zero-from_0 s (0 * down e) (0 * up e * 1) (omega arith) (omega arith)) ∙ t))
has_mark (fin true (suc m) e) t = sym (cond_no (eqb (suc m) 0) _ _ (not_zero-test m))
has_mark (fin false (suc m) e) t =
    absurd (true≢false (sym (plus-from_0 (0 * down e) (suc m * up e * 1) (omega arith) (size-pos m e)) ∙ t))

-- ---- from a root or a mark to an f64
pub or_nan : (r : Option Float) → unwrap_or r (of_bits binary64 0x7ff8_0000_0000_0000) ≡ f64_of r
unfolding of_bits
or_nan None = refl
or_nan (Some r) = refl
