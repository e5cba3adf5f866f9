-- What is known of the unit 2 ^ 1074, and of a float's size in units. Assumes nothing.
-- m * 2 ^ e is a whole number of them wherever an f64 holds it.
use mathlib.Core.Path.{◌≡◌, refl, sym, ap, ◌∙◌}
use Prim.Native.Nat.{ℕ, zero, suc, ◌+◌, ◌-◌, ◌*◌, ◌/◌, ◌%◌, ◌^◌, ◌≤◌, ◌<◌, zero-le}
use native.Mathlib.Nat.{le_trans, le_of_eq, le_of_lt, mul_right_comm, mul-le-mul_right, le_of_mul-le-mul_right}
use native.Mathlib.Nat.{mul_assoc, mul-one, zero-mul, zero-div, mul-div_cancel, div-one, lt_of_not-le, not-le_of_lt}
use native.Mathlib.Nat.{le_of_suc-le-suc}
use native.Mathlib.Omega.{arith}
use mathlib.Core.Bool.{Bool, ◌&&◌}
use lib.IntN.{ℤ, pos, negsuc}
use lib.Dec.{T, leb, ltb, eqb, leb→le, ltb→lt, lit≤}
use lib.Pow.{pow-add, pow_pos, pow_mono, pow-lt}
use lib.Ieee.{Float, nan, inf, fin, binary64, low, up, down, fits}
use lib.Ieee.Fits.{down_pos, and_l, and_r}
use Rattle.rounding.specs.Value.{unit, mag}

pub unit_is : unit ≡ 2 ^ low binary64
unfolding unit
unit_is = refl

pub unit-pos : 0 < unit
unfolding unit
unit-pos = pow_pos 1074

pub unit_large : 2 ^ 64 ≤ unit
unfolding unit
unit_large = pow_mono {i = 64} {j = 1074} (lit≤ tt)

-- a smaller power of two divides the unit
back : (k l : ℕ) → k ≤ l → l - k + k ≡ l
back k l h = omega arith

pub unit_splits : (k : ℕ) → k ≤ 1074 → 2 ^ (1074 - k) * 2 ^ k ≡ unit
unfolding unit
unit_splits k h = sym (pow-add 2 (1074 - k) k) ∙ ap (λ (z : ℕ). 2 ^ z) (back k 1074 h)

-- ---- the size of a value that fits
whole_of : (a U d q : ℕ) → 0 < d → q * d ≡ U → a * U / d * d ≡ a * U
whole_of a U d q D e =
    let f : a * U ≡ a * q * d = ap (λ (z : ℕ). a * z) (sym e) ∙ sym (mul_assoc a q d) in
    ap (λ (z : ℕ). z / d * d) f ∙ ap (λ (z : ℕ). z * d) (mul-div_cancel (a * q) D) ∙ sym f

exponent_le : (k l : ℕ) → 2 ^ k ≤ 2 ^ l → k ≤ l
exponent_le k l h = le_of_suc-le-suc (lt_of_not-le (λ (g : suc l ≤ k). not-le_of_lt (pow-lt g) h))

pub mag-negsuc : (s : Bool) (m k : ℕ) → suc k ≤ 1074 → mag (fin s m (negsuc k)) * 2 ^ suc k ≡ m * unit
unfolding mag
mag-negsuc s m k h =
    whole_of (m * 1) unit (2 ^ suc k) (2 ^ (1074 - suc k)) (pow_pos (suc k)) (unit_splits (suc k) h)
    ∙ ap (λ (z : ℕ). z * unit) (mul-one m)

pub mag-pos : (s : Bool) (m k : ℕ) → mag (fin s m (pos k)) ≡ m * 2 ^ k * unit
unfolding mag
mag-pos s m k = div-one (m * 2 ^ k * unit)

exact : (s : Bool) (m : ℕ) (e : ℤ) → down e ≤ 2 ^ 1074 → mag (fin s m e) * down e ≡ m * up e * unit
exact s m (pos k) h = mul-one (mag (fin s m (pos k))) ∙ mag-pos s m k
exact s m (negsuc k) h = mag-negsuc s m k (exponent_le (suc k) 1074 h) ∙ ap (λ (z : ℕ). z * unit) (sym (mul-one m))

none : (u d U : ℕ) → 0 * u * U / d * d ≡ 0 * u * U
none u d U =
    ap (λ (z : ℕ). z * U / d * d) (zero-mul u) ∙ ap (λ (z : ℕ). z / d * d) (zero-mul U)
    ∙ ap (λ (z : ℕ). z * d) (zero-div d) ∙ zero-mul d ∙ sym (ap (λ (z : ℕ). z * U) (zero-mul u) ∙ zero-mul U)

low-enough : (s : Bool) (m : ℕ) (e : ℤ) → T (fits binary64 (fin s (suc m) e)) → T (leb (down e) (2 ^ 1074))
unfolding fits
low-enough s m e h =
    and_r (eqb (suc m % 2) 1 && ltb (suc m) (2 ^ 53)) (leb (down e) (2 ^ 1074))
    (and_l (eqb (suc m % 2) 1 && ltb (suc m) (2 ^ 53) && leb (down e) (2 ^ 1074))
    (ltb (suc m * up e) (2 ^ 1024 * down e)) h)

pub mag-exact : (s : Bool) (m : ℕ) (e : ℤ) → T (fits binary64 (fin s m e)) → mag (fin s m e) * down e ≡ m * up e * unit
mag-exact s zero e h = unfold mag in none (up e) (down e) unit
mag-exact s (suc m) e h = exact s (suc m) e (leb→le (down e) (2 ^ 1074) (low-enough s m e h))

-- a value that an f64 holds is below 2 ^ 1024
top_cross : (s : Bool) (m : ℕ) (e : ℤ) → T (fits binary64 (fin s (suc m) e)) → suc m * up e < 2 ^ 1024 * down e
unfolding fits
top_cross s m e h =
    ltb→lt (suc m * up e) (2 ^ 1024 * down e)
    (and_r (eqb (suc m % 2) 1 && ltb (suc m) (2 ^ 53) && leb (down e) (2 ^ 1074))
    (ltb (suc m * up e) (2 ^ 1024 * down e)) h)

pub mag_top : (x : Float) → T (fits binary64 x) → mag x ≤ 2 ^ 1024 * unit
mag_top nan h = unfold mag in zero-le
mag_top (inf s) h = unfold mag in zero-le
mag_top (fin s zero e) h =
    le_of_mul-le-mul_right
    (le_trans (le_of_eq (mag-exact s zero e h ∙ ap (λ (z : ℕ). z * unit) (zero-mul (up e)) ∙ zero-mul unit)) zero-le)
    (down_pos e)
mag_top (fin s (suc m) e) h =
    le_of_mul-le-mul_right
    (le_trans (le_of_eq (mag-exact s (suc m) e h))
    (le_trans (mul-le-mul_right unit (le_of_lt (top_cross s m e h)))
    (le_of_eq (mul_right_comm (2 ^ 1024) (down e) unit)))) (down_pos e)

-- ---- two sizes over one denominator. m / e is X units where X * e ≡ m * unit; over e * d it is m * d
pub cross : (a X d e U : ℕ) → X * e ≡ a * U → a * d * U ≡ X * (e * d)
cross a X d e U p = omega (arith, ap (λ (z : ℕ). z * d) p)

pub cross' : (a X d e U : ℕ) → X * e ≡ a * U → a * d * U ≡ X * (d * e)
cross' a X d e U p = omega (arith, ap (λ (z : ℕ). z * d) p)

pub both_in : (a b c X Y U : ℕ) → a * U ≡ X * c → b * U ≡ Y * c → (a + b) * U ≡ (X + Y) * c
both_in a b c X Y U p q = omega arith

pub le_in : (a b c X Y U : ℕ) → 0 < c → a * U ≡ X * c → b * U ≡ Y * c → a ≤ b → X ≤ Y
le_in a b c X Y U C p q h =
    le_of_mul-le-mul_right (le_trans (le_of_eq (sym p)) (le_trans (mul-le-mul_right U h) (le_of_eq q))) C
