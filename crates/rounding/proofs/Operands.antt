-- A finite result has finite operands. Assumes nothing.
-- But for a divisor: it may be an infinity where the quotient is 0.
use mathlib.Core.Path.{◌≡◌, refl, sym, ap, ◌∙◌, subst}
use mathlib.Core.Logic.{◌⊎◌, inl, inr}
use Prim.Native.Nat.{ℕ, zero, suc, ◌*◌, ◌/◌, ◌<◌}
use native.Mathlib.Nat.{zero-lt-suc, zero-mul, zero-div, mul-pos, lt_irrefl}
use mathlib.Core.Bool.{Bool, true, false, beq, cond}
use lib.IntN.{ℤ}
use lib.Dec.{T, eqb}
use lib.Ieee.{Float, nan, inf, fin, binary64, unlike, up, down, neg, add, sub, mul, div, fits}
use lib.Ieee.Fits.{up_pos}
use Rattle.rounding.specs.Value.{unit, mag, Finite}
use Rattle.rounding.proofs.Unit.{mag-exact, unit-pos}

-- neither of two results that are not finite is finite
neither : (b : Bool) (x y : Float) → (Finite x → ⊥) → (Finite y → ⊥) → Finite (cond b x y) → ⊥
neither true x y f g h = f h
neither false x y f g h = g h

pub add-finite : (x y : Float) → Finite (add binary64 x y) → Finite x × Finite y
unfolding add
add-finite nan y h = absurd h
add-finite (inf s) nan h = absurd h
add-finite (inf s) (inf t) h = absurd (neither (beq s t) (inf s) nan (λ z. z) (λ z. z) h)
add-finite (inf s) (fin t n d) h = absurd h
add-finite (fin s m e) nan h = absurd h
add-finite (fin s m e) (inf t) h = absurd h
add-finite (fin s m e) (fin t n d) h = (tt, tt)

pub neg-finite : (x : Float) → Finite (neg x) → Finite x
unfolding neg
neg-finite nan h = h
neg-finite (inf s) h = h
neg-finite (fin s m e) h = tt

pub finite-neg : (x : Float) → Finite x → Finite (neg x)
unfolding neg
finite-neg nan h = h
finite-neg (inf s) h = h
finite-neg (fin s m e) h = tt

pub sub-finite : (x y : Float) → Finite (sub binary64 x y) → Finite x × Finite y
unfolding sub
sub-finite x y h = let f = add-finite x (neg y) h in (f.0, neg-finite y f.1)

pub mul-finite : (x y : Float) → Finite (mul binary64 x y) → Finite x × Finite y
unfolding mul
mul-finite nan y h = absurd h
mul-finite (inf s) nan h = absurd h
mul-finite (inf s) (inf t) h = absurd h
mul-finite (inf s) (fin t n d) h = absurd (neither (eqb n 0) nan (inf (unlike s t)) (λ z. z) (λ z. z) h)
mul-finite (fin s m e) nan h = absurd h
mul-finite (fin s m e) (inf t) h = absurd (neither (eqb m 0) nan (inf (unlike s t)) (λ z. z) (λ z. z) h)
mul-finite (fin s m e) (fin t n d) h = (tt, tt)

pub div-finite : (x y : Float) → Finite (div binary64 x y) → Finite x
unfolding div
div-finite nan y h = absurd h
div-finite (inf s) nan h = absurd h
div-finite (inf s) (inf t) h = absurd h
div-finite (inf s) (fin t n d) h = absurd h
div-finite (fin s m e) y h = tt

-- ---- a finite quotient has a divisor that is finite and not 0, or infinite, and then the quotient is 0
mag-above : (s : Bool) (m : ℕ) (e : ℤ) → T (fits binary64 (fin s (suc m) e)) → 0 < mag (fin s (suc m) e)
mag-above s m e h = go (mag (fin s (suc m) e)) (mag-exact s (suc m) e h)
  where
    go : (k : ℕ) → k * down e ≡ suc m * up e * unit → 0 < k
    go zero p =
        absurd
        (lt_irrefl 0
        (subst (λ (z : ℕ). 0 < z) (sym p ∙ zero-mul (down e)) (mul-pos (mul-pos (zero-lt-suc m) (up_pos e)) unit-pos)))
    go (suc k) p = zero-lt-suc k

pub zero_out : (s t : Bool) (m : ℕ) (e d : ℤ) → Finite (div binary64 (fin s m e) (fin t 0 d)) → ⊥
unfolding div
zero_out s t m e d g = neither (eqb m 0) nan (inf (unlike s t)) (λ z. z) (λ z. z) g

pub div_divisor : (x y : Float) → T (fits binary64 y) → Finite (div binary64 x y)
    → (Finite y × (0 < mag y)) ⊎ (((t : Bool) × (y ≡ inf t)) × (mag (div binary64 x y) ≡ 0))
unfolding div
div_divisor nan y f h = absurd h
div_divisor (inf s) nan f h = absurd h
div_divisor (inf s) (inf t) f h = absurd h
div_divisor (inf s) (fin t n d) f h = absurd h
div_divisor (fin s m e) nan f h = absurd h
div_divisor (fin s m e) (inf t) f h =
    inr ((t, refl), unfold mag in (ap (λ (z : ℕ). z / 1) (zero-mul unit) ∙ zero-div 1))
div_divisor (fin s m e) (fin t zero d) f h = absurd (zero_out s t m e d h)
div_divisor (fin s m e) (fin t (suc n) d) f h = inl (tt, mag-above t n d f)

pub divisor_above : (x y : Float) → T (fits binary64 y) → Finite y → Finite (div binary64 x y) → 0 < mag y
divisor_above x y f k h = go (div_divisor x y f h)
  where
    go : (Finite y × (0 < mag y)) ⊎ (((t : Bool) × (y ≡ inf t)) × (mag (div binary64 x y) ≡ 0)) → 0 < mag y
    go (inl p) = p.1
    go (inr p) = absurd (subst (λ (z : Float). Finite z) p.0.1 k)
