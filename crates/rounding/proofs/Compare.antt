-- What a comparison of finite f64s says of their values, and when it is finite. Assumes nothing.
use mathlib.Core.Path.{◌≡◌, refl, sym, ◌∙◌, subst}
use mathlib.Core.Logic.{◌⊎◌, inl, inr}
use Prim.Native.Nat.{ℕ, ◌+◌, ◌*◌, ◌≤◌, ◌<◌}
use native.Mathlib.Nat.{le_of_eq, le_antisymm, lt_of_le_of_lt, lt_of_lt_of_le, zero-mul, mul-pos}
use native.Mathlib.Nat.{mul-lt-mul_of_pos_right, lt_of_mul-lt-mul_right}
use native.Mathlib.Omega.{arith}
use mathlib.Core.Bool.{Bool, true, false, not, ◌||◌, beq, true≢false}
use lib.IntN.{ℤ}
use lib.Dec.{T, eqb, ltb→lt, nltb→le, eqb→eq}
use lib.Ieee.{Float, nan, inf, fin, binary64, up, down, below, level, lt, le, eq, fits}
use lib.Ieee.Fits.{down_pos, and_l, and_r}
use Rattle.rounding.specs.Exact.{D, signed, Size, Below, Less, Same}
use Rattle.rounding.specs.Value.{unit, mag, sign, val, Finite}
use Rattle.rounding.proofs.Unit.{mag-exact, unit-pos, cross, cross', both_in, le_in}

-- ---- a comparison goes by the sizes a and b over one denominator; in units they are X and Y: a * U ≡ X * c and b * U
-- ≡ Y * c
lt_in : (a b c X Y U : ℕ) → 0 < U → a * U ≡ X * c → b * U ≡ Y * c → a < b → X < Y
lt_in a b c X Y U P p q h =
    lt_of_mul-lt-mul_right c
    (lt_of_le_of_lt (le_of_eq (sym p)) (lt_of_lt_of_le (mul-lt-mul_of_pos_right h P) (le_of_eq q)))

no_size : (c U : ℕ) → 0 * U ≡ 0 * c
no_size c U = zero-mul U ∙ sym (zero-mul c)

or_cases : (a b : Bool) → T (a || b) → T a ⊎ T b
or_cases true b t = inl tt
or_cases false b t = inr t

module _ (a b c X Y U : ℕ) (C : 0 < c) (P : 0 < U) (p : a * U ≡ X * c) (q : b * U ≡ Y * c) where
  below_less : (s t : Bool) → T (below s a t b) → Less (signed s X) (signed t Y)
  below_less false false h = omega (arith, lt_in a b c X Y U P p q (ltb→lt a b h))
  below_less false true h = absurd h
  below_less true true h = omega (arith, lt_in b a c Y X U P q p (ltb→lt b a h))
  below_less true false h =
      omega (arith, lt_in 0 (a + b) c 0 (X + Y) U P (no_size c U) (both_in a b c X Y U p q) (ltb→lt 0 (a + b) h))

  below_not : (s t : Bool) → T (not (below s a t b)) → Below (signed t Y) (signed s X)
  below_not false false h = omega (arith, le_in b a c Y X U C q p (nltb→le a b h))
  below_not false true h = omega arith
  below_not true true h = omega (arith, le_in a b c X Y U C p q (nltb→le b a h))
  below_not true false h =
      omega (arith, le_in (a + b) 0 c (X + Y) 0 U C (both_in a b c X Y U p q) (no_size c U) (nltb→le 0 (a + b) h))

  equal : a ≡ b → X ≡ Y
  equal e = le_antisymm (le_in a b c X Y U C p q (le_of_eq e)) (le_in b a c Y X U C q p (le_of_eq (sym e)))

  none : a ≡ 0 → X ≤ 0
  none e = le_in a 0 c X 0 U C p (no_size c U) (le_of_eq e)

  level-same : (s t : Bool) → T (level s a t b) → Same (signed s X) (signed t Y)
  level-same s t h =
      go s t (equal (eqb→eq a b (and_l (eqb a b) (beq s t || eqb a 0) h)))
      (or_cases (beq s t) (eqb a 0) (and_r (eqb a b) (beq s t || eqb a 0) h))
    where
      go : (s t : Bool) → X ≡ Y → T (beq s t) ⊎ T (eqb a 0) → Same (signed s X) (signed t Y)
      go true true e k = omega arith
      go false false e k = omega arith
      go true false e (inl k) = absurd k
      go false true e (inl k) = absurd k
      go true false e (inr k) = omega (arith, none (eqb→eq a 0 k))
      go false true e (inr k) = omega (arith, none (eqb→eq a 0 k))

-- ---- finite floats
module _ (s : Bool) (m : ℕ) (e : ℤ) (t : Bool) (n : ℕ) (d : ℤ) (f : T (fits binary64 (fin s m e)))
    (g : T (fits binary64 (fin t n d))) where
  C : 0 < down e * down d
  C = mul-pos (down_pos e) (down_pos d)

  p : m * up e * down d * unit ≡ mag (fin s m e) * (down e * down d)
  p = cross (m * up e) (mag (fin s m e)) (down d) (down e) unit (mag-exact s m e f)

  q : n * up d * down e * unit ≡ mag (fin t n d) * (down e * down d)
  q = cross' (n * up d) (mag (fin t n d)) (down e) (down d) unit (mag-exact t n d g)

  fin_less : T (lt (fin s m e) (fin t n d)) → Less (val (fin s m e)) (val (fin t n d))
  unfolding lt val sign
  fin_less h =
      below_less (m * up e * down d) (n * up d * down e) (down e * down d) (mag (fin s m e)) (mag (fin t n d)) unit C
      unit-pos p q s t h

  fin_not : T (not (lt (fin s m e) (fin t n d))) → Below (val (fin t n d)) (val (fin s m e))
  unfolding lt val sign
  fin_not h =
      below_not (m * up e * down d) (n * up d * down e) (down e * down d) (mag (fin s m e)) (mag (fin t n d)) unit C
      unit-pos p q s t h

  fin-same : T (eq (fin s m e) (fin t n d)) → Same (val (fin s m e)) (val (fin t n d))
  unfolding eq val sign
  fin-same h =
      level-same (m * up e * down d) (n * up d * down e) (down e * down d) (mag (fin s m e)) (mag (fin t n d)) unit C
      unit-pos p q s t h

-- what holds of two finite floats that fit
by_finite : (P : Float → Float → Type 0)
    → ((s : Bool) (m : ℕ) (e : ℤ) (t : Bool) (n : ℕ) (d : ℤ)
    → T (fits binary64 (fin s m e)) → T (fits binary64 (fin t n d)) → P (fin s m e) (fin t n d))
    → (x y : Float) → T (fits binary64 x) → T (fits binary64 y) → Finite x → Finite y → P x y
by_finite P h nan y f g k l = absurd k
by_finite P h (inf s) y f g k l = absurd k
by_finite P h (fin s m e) nan f g k l = absurd l
by_finite P h (fin s m e) (inf t) f g k l = absurd l
by_finite P h (fin s m e) (fin t n d) f g k l = h s m e t n d f g

-- `lt`, `le` and `eq` of finite floats
lt_less : (x y : Float) → T (fits binary64 x) → T (fits binary64 y) → Finite x → Finite y → T (lt x y)
    → Less (val x) (val y)
lt_less = by_finite (λ (x y : Float). T (lt x y) → Less (val x) (val y)) fin_less

pub lt_not : (x y : Float) → T (fits binary64 x) → T (fits binary64 y) → Finite x → Finite y → T (not (lt x y))
    → Below (val y) (val x)
lt_not = by_finite (λ (x y : Float). T (not (lt x y)) → Below (val y) (val x)) fin_not

eq-same : (x y : Float) → T (fits binary64 x) → T (fits binary64 y) → Finite x → Finite y → T (eq x y)
    → Same (val x) (val y)
eq-same = by_finite (λ (x y : Float). T (eq x y) → Same (val x) (val y)) fin-same

pub le_below : (x y : Float) → T (fits binary64 x) → T (fits binary64 y) → Finite x → Finite y → T (le x y)
    → Below (val x) (val y)
unfolding le
le_below x y f g k l h = go (or_cases (lt x y) (eq x y) h)
  where
    less_is : (a b : D) → Less a b → Below a b
    less_is a b z = omega arith

    same_is : (a b : D) → Same a b → Below a b
    same_is a b z = omega arith

    go : T (lt x y) ⊎ T (eq x y) → Below (val x) (val y)
    go (inl z) = less_is (val x) (val y) (lt_less x y f g k l z)
    go (inr z) = same_is (val x) (val y) (eq-same x y f g k l z)

-- ---- a true comparison has no NaN

-- ---- an absolute value below a limit. a is d with its sign cleared: `val a ≡ signed false (mag d)`
pub val-size : (x : Float) → Size (val x) (mag x)
unfolding val
val-size x = go (sign x) (mag x)
  where
    go : (s : Bool) (k : ℕ) → Size (signed s k) k
    go true k = omega arith
    go false k = omega arith

pub size-mag : (x : Float) (M : ℕ) → Size (val x) M → mag x ≤ M
unfolding val
size-mag x M s = go (sign x) (mag x) s
  where
    go : (s : Bool) (k : ℕ) → Size (signed s k) M → k ≤ M
    go true k h = omega arith
    go false k h = omega arith

pub mag_sum : (x : Float) → (val x).p + (val x).n ≡ mag x
unfolding val
mag_sum x = go (sign x) (mag x)
  where
    go : (s : Bool) (k : ℕ) → (signed s k).p + (signed s k).n ≡ k
    go true k = omega arith
    go false k = omega arith

pub val_cleared : (s : Bool) (m : ℕ) (e : ℤ) → val (fin false m e) ≡ signed false (mag (fin s m e))
unfolding val sign mag
val_cleared s m e = refl

-- a value without the minus sign that is below something is finite
pub lt-finite : (a c : Float) → sign a ≡ false → T (lt a c) → Finite a
unfolding lt sign
lt-finite nan c z h = absurd h
lt-finite (inf true) c z h = absurd (true≢false z)
lt-finite (inf false) nan z h = absurd h
lt-finite (inf false) (inf t) z h = absurd h
lt-finite (inf false) (fin t n d) z h = absurd h
lt-finite (fin s m e) c z h = tt

pub lt_size : (a d c : Float) → T (fits binary64 a) → T (fits binary64 c) → Finite a → Finite c
    → val a ≡ signed false (mag d) → T (lt a c) → Size (val d) (mag c)
lt_size a d c f g k l e h =
    go (val d) (val c) (mag d) (mag c) (val-size d) (val-size c)
    (subst (λ (z : D). Less z (val c)) e (lt_less a c f g k l h))
  where
    go : (x y : D) (m n : ℕ) → Size x m → Size y n → Less (signed false m) y → Size x n
    go x y m n a b c = omega arith
