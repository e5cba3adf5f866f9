-- Each operation on f64s is its exact result rounded once: `Rounds`, in units of 2 ^ -1074. Assumes nothing.
use mathlib.Core.Path.{◌≡◌, refl, sym, ap, ◌∙◌, subst}
use Prim.Native.Nat.{ℕ, zero, suc, ◌+◌, ◌-◌, ◌*◌, ◌^◌, ◌≤◌, ◌<◌}
use native.Mathlib.Nat.{zero-lt-suc, le_trans, le_of_lt, mul_comm, mul_assoc, mul-sub, mul-pos, mul-le-mul_left}
use native.Mathlib.Omega.{arith}
use mathlib.Core.Bool.{Bool, true, false, not, ◌&&◌, cond, true≢false}
use lib.IntN.{ℤ}
use lib.Dec.{T, lit≤, ltb, eqb, eqb-suc-zero, ltb→lt, nltb→le}
use lib.Ieee.{Float, nan, inf, fin, binary64, unlike, up, down, neg, sum, round, add, sub, mul, div, fits}
use lib.Ieee.Fits.{down_pos, up_pos, neg-fits}
use Rattle.rounding.specs.Exact.{D, signed, opposite, Same, ◌⊞◌, ◌⊟◌, ◌⊙◌, ◌⊠◌}
use Rattle.rounding.specs.Value.{unit, mag, sign, val, Finite}
use Rattle.rounding.specs.Bounds.{Rounds}
use Rattle.rounding.proofs.Unit.{mag-exact, cross, cross', both_in, le_in}
use Rattle.rounding.proofs.Rounding.{result, round_val, round_error, round_infinite, Grid, Close, close_in}
use Rattle.rounding.proofs.Rounding.{close_whole, close_signed, rounds_same}
use Rattle.rounding.proofs.Operands.{add-finite, mul-finite, zero_out}

-- ---- the sign changes exactly
pub val-neg : (x : Float) → val (neg x) ≡ opposite (val x)
unfolding val sign mag neg
val-neg nan = refl
val-neg (inf true) = refl
val-neg (inf false) = refl
val-neg (fin true m e) = refl
val-neg (fin false m e) = refl

-- ---- sums: ±a / c and ±b / c are the whole numbers ±X and ±Y of units
-- r is the whole number v of units rounded: `round` is handed v as num / c
pub record Exactly (r : Float) (v : D) (c : ℕ) : Type 0 where
  pub sign_of : Bool
  pub num : ℕ
  pub size_of : ℕ
  pub is : r ≡ round binary64 sign_of num c
  pub value : num * unit ≡ size_of * c
  pub same : Same (signed sign_of size_of) v

rest : (a b c X Y U : ℕ) → a * U ≡ X * c → b * U ≡ Y * c → (b - a) * U ≡ (Y - X) * c
rest a b c X Y U p q =
    mul_comm (b - a) U ∙ mul-sub U b a
    ∙ ap (λ (z : ℕ). z - U * a) (mul_comm U b ∙ q ∙ mul_comm Y c)
    ∙ ap (λ (z : ℕ). c * Y - z) (mul_comm U a ∙ p ∙ mul_comm X c)
    ∙ sym (mul-sub c Y X) ∙ mul_comm c (Y - X)

module _ (a b c X Y : ℕ) (C : 0 < c) (p : a * unit ≡ X * c) (q : b * unit ≡ Y * c) where
  like : (s : Bool) → Exactly (round binary64 s (a + b) c) (signed s X ⊞ signed s Y) c
  like s =
      record {
        sign_of = s;
        num = a + b;
        size_of = X + Y;
        is = refl;
        value = both_in a b c X Y unit p q;
        same = sums s X Y;
      }
    where
      sums : (s : Bool) (X Y : ℕ) → Same (signed s (X + Y)) (signed s X ⊞ signed s Y)
      sums true X Y = omega arith
      sums false X Y = omega arith

  -- the larger one less the smaller one, with the sign of the larger
  more : (s t : Bool) → unlike s t ≡ true → a ≤ b → Exactly (round binary64 t (b - a) c) (signed s X ⊞ signed t Y) c
  more s t u l =
      record {
        sign_of = t;
        num = b - a;
        size_of = Y - X;
        is = refl;
        value = rest a b c X Y unit p q;
        same = sums s t X Y u (le_in a b c X Y unit C p q l);
      }
    where
      sums : (s t : Bool) (X Y : ℕ) → unlike s t ≡ true → X ≤ Y → Same (signed t (Y - X)) (signed s X ⊞ signed t Y)
      sums true false X Y u k = omega arith
      sums false true X Y u k = omega arith
      sums true true X Y u k = absurd (true≢false (sym u))
      sums false false X Y u k = absurd (true≢false (sym u))

  fewer : (s t g : Bool) → unlike s t ≡ true → b ≤ a → (T (not g) → a ≤ b)
      → Exactly (round binary64 (s && g) (a - b) c) (signed s X ⊞ signed t Y) c
  fewer s t g u l n =
      record {
        sign_of = s && g;
        num = a - b;
        size_of = X - Y;
        is = refl;
        value = rest b a c Y X unit q p;
        same = sums s t g X Y u (le_in b a c Y X unit C q p l) (λ (z : T (not g)). le_in a b c X Y unit C p q (n z));
      }
    where
      sums : (s t g : Bool) (X Y : ℕ) → unlike s t ≡ true → Y ≤ X → (T (not g) → X ≤ Y)
          → Same (signed (s && g) (X - Y)) (signed s X ⊞ signed t Y)
      sums true false true X Y u k z = omega arith
      sums true false false X Y u k z = let e : X ≤ Y = z tt in omega arith
      sums false true g X Y u k z = omega arith
      sums true true g X Y u k z = absurd (true≢false (sym u))
      sums false false g X Y u k z = absurd (true≢false (sym u))

  differ : (s t : Bool) → unlike s t ≡ true
      → Exactly (cond (ltb a b) (round binary64 t (b - a) c) (round binary64 (s && ltb b a) (a - b) c))
      (signed s X ⊞ signed t Y) c
  differ s t u = go (ltb a b) (ltb→lt a b) (nltb→le a b)
    where
      go : (g : Bool) → (T g → a < b) → (T (not g) → b ≤ a)
          → Exactly (cond g (round binary64 t (b - a) c) (round binary64 (s && ltb b a) (a - b) c))
          (signed s X ⊞ signed t Y) c
      go true k n = more s t u (le_of_lt (k tt))
      go false k n = fewer s t (ltb b a) u (n tt) (nltb→le b a)

  sum-exactly : (s t : Bool) → Exactly (sum binary64 s a t b c) (signed s X ⊞ signed t Y) c
  unfolding sum
  sum-exactly true true = like true
  sum-exactly false false = like false
  sum-exactly true false = differ true false refl
  sum-exactly false true = differ false true refl

exactly_close : (r : Float) (v : D) (c : ℕ) → 0 < c → (x : Exactly r v c)
    → Close (2 ^ 52) (result x.num c) x.size_of 0
exactly_close r v c C x =
    close_whole (2 ^ 52) (x.num * unit) c (result x.num c) x.size_of C x.value (round_error x.num c C)

exactly_rounds : (r : Float) (v : D) (c : ℕ) → 0 < c → Exactly r v c → Finite r → Rounds (val r) v 0
exactly_rounds r v c C x h =
    rounds_same (signed x.sign_of (result x.num c)) (signed x.sign_of x.size_of) (val r) v 0
    (is_same
    (ap (λ (z : Float). val z) x.is ∙ round_val x.sign_of x.num c (subst (λ (z : Float). Finite z) x.is h)))
    x.same
    (close_signed x.sign_of (result x.num c) x.size_of 0 (exactly_close r v c C x))
  where
    is_same : {x y : D} → y ≡ x → Same x y
    is_same {x} e = subst (λ (z : D). Same x z) (sym e) refl

-- an infinite sum is large, and has the infinity's sign
exactly_infinite : (r : Float) (v : D) (c : ℕ) (t : Bool) → 0 < c → Exactly r v c → r ≡ inf t
    → (N : ℕ) × Same (signed t N) v × (2 ^ 1024 * unit ≤ 2 * N)
exactly_infinite r v c t C x e =
    let h = round_infinite x.sign_of t x.num c (sym x.is ∙ e) in
    let k = exactly_close r v c C x in (
      x.size_of,
      subst (λ (z : Bool). Same (signed z x.size_of) v) h.0 x.same,
      le_trans h.1
          (twice (result x.num c) x.size_of k.err (2 ^ 53) (lit≤ tt) k.over k.forward),
    )
  where
    twice : (G N e P : ℕ) → 1 ≤ P → G ≤ N + e → e * P ≤ N + 0 → G ≤ 2 * N
    twice G N e P p a b = omega (arith, mul-le-mul_left e p)

-- ---- a product, and a quotient: g is the size of the result
product : (s t : Bool) (X Y U g c n : ℕ) → 0 < c → n * U ≡ X * Y * c → Grid (2 ^ 52) n c g
    → Rounds (U ⊙ signed (unlike s t) g) (signed s X ⊠ signed t Y) (U * 2 ^ 52)
product s t X Y U g c n C p w =
    rounds_same (signed (unlike s t) (U * g)) (signed (unlike s t) (X * Y)) (U ⊙ signed (unlike s t) g)
    (signed s X ⊠ signed t Y) (U * 2 ^ 52) (left (unlike s t) U g) (right s t X Y)
    (close_signed (unlike s t) (U * g) (X * Y) (U * 2 ^ 52)
    (close_in (2 ^ 52) n c g (U * g) (X * Y) U c U C (regroup g c U) p (mul_comm c U) w))
  where
    regroup : (g c U : ℕ) → g * c * U ≡ U * g * c
    regroup g c U = omega arith

    left : (s : Bool) (U g : ℕ) → Same (signed s (U * g)) (U ⊙ signed s g)
    left true U g = omega arith
    left false U g = omega arith

    right : (s t : Bool) (X Y : ℕ) → Same (signed (unlike s t) (X * Y)) (signed s X ⊠ signed t Y)
    right true true X Y = omega arith
    right true false X Y = omega arith
    right false true X Y = omega arith
    right false false X Y = omega arith

quotient : (s t : Bool) (X Y U g c d n : ℕ) → 0 < c → d * U ≡ Y * c → n * U ≡ X * U * c → Grid (2 ^ 52) n d g
    → Rounds (signed (unlike s t) g ⊠ signed t Y) (U ⊙ signed s X) (Y * 2 ^ 52)
quotient s t X Y U g c d n C q p w =
    rounds_same (signed s (g * Y)) (signed s (X * U)) (signed (unlike s t) g ⊠ signed t Y) (U ⊙ signed s X) (Y * 2 ^ 52)
    (left s t g Y) (right s U X)
    (close_signed s (g * Y) (X * U) (Y * 2 ^ 52)
    (close_in (2 ^ 52) n d g (g * Y) (X * U) Y c U C (regroup g d U Y c q) p q w))
  where
    regroup : (g d U Y c : ℕ) → d * U ≡ Y * c → g * d * U ≡ g * Y * c
    regroup g d U Y c h = mul_assoc g d U ∙ ap (λ (z : ℕ). g * z) h ∙ sym (mul_assoc g Y c)

    left : (s t : Bool) (g Y : ℕ) → Same (signed s (g * Y)) (signed (unlike s t) g ⊠ signed t Y)
    left true true g Y = omega arith
    left true false g Y = omega arith
    left false true g Y = omega arith
    left false false g Y = omega arith

    right : (s : Bool) (U X : ℕ) → Same (signed s (X * U)) (U ⊙ signed s X)
    right true U X = omega arith
    right false U X = omega arith

-- ---- the operations
pub add-exactly : (s : Bool) (m : ℕ) (e : ℤ) (t : Bool) (n : ℕ) (d : ℤ) → T (fits binary64 (fin s m e))
    → T (fits binary64 (fin t n d))
    → Exactly (add binary64 (fin s m e) (fin t n d)) (val (fin s m e) ⊞ val (fin t n d)) (down e * down d)
unfolding add val sign
add-exactly s m e t n d f g =
    sum-exactly (m * up e * down d) (n * up d * down e) (down e * down d) (mag (fin s m e)) (mag (fin t n d))
    (mul-pos (down_pos e) (down_pos d))
    (cross (m * up e) (mag (fin s m e)) (down d) (down e) unit (mag-exact s m e f))
    (cross' (n * up d) (mag (fin t n d)) (down e) (down d) unit (mag-exact t n d g)) s t

pub add_rounds : (x y : Float) → T (fits binary64 x) → T (fits binary64 y) → Finite (add binary64 x y)
    → Rounds (val (add binary64 x y)) (val x ⊞ val y) 0
add_rounds nan y f g h = absurd (add-finite nan y h).0
add_rounds (inf s) y f g h = absurd (add-finite (inf s) y h).0
add_rounds (fin s m e) nan f g h = absurd (add-finite (fin s m e) nan h).1
add_rounds (fin s m e) (inf t) f g h = absurd (add-finite (fin s m e) (inf t) h).1
add_rounds (fin s m e) (fin t n d) f g h =
    exactly_rounds (add binary64 (fin s m e) (fin t n d)) (val (fin s m e) ⊞ val (fin t n d)) (down e * down d)
    (mul-pos (down_pos e) (down_pos d)) (add-exactly s m e t n d f g) h

-- a sum of finite floats that is an infinity: half of 2 ^ 1024 at least, on the infinity's side
pub add_infinite : (x y : Float) (t : Bool) → T (fits binary64 x) → T (fits binary64 y) → Finite x → Finite y
    → add binary64 x y ≡ inf t → (N : ℕ) × Same (signed t N) (val x ⊞ val y) × (2 ^ 1024 * unit ≤ 2 * N)
add_infinite nan y t f g h k e = absurd h
add_infinite (inf s) y t f g h k e = absurd h
add_infinite (fin s m b) nan t f g h k e = absurd k
add_infinite (fin s m b) (inf u) t f g h k e = absurd k
add_infinite (fin s m b) (fin u n d) t f g h k e =
    exactly_infinite (add binary64 (fin s m b) (fin u n d)) (val (fin s m b) ⊞ val (fin u n d)) (down b * down d) t
    (mul-pos (down_pos b) (down_pos d)) (add-exactly s m b u n d f g) e

pub sub_rounds : (x y : Float) → T (fits binary64 x) → T (fits binary64 y) → Finite (sub binary64 x y)
    → Rounds (val (sub binary64 x y)) (val x ⊟ val y) 0
unfolding sub
sub_rounds x y f g h =
    subst (λ (z : D). Rounds (val (add binary64 x (neg y))) (val x ⊞ z) 0) (val-neg y)
    (add_rounds x (neg y) f (neg-fits binary64 y g) h)

squares : (a b X Y d e U : ℕ) → X * e ≡ a * U → Y * d ≡ b * U → a * b * U * U ≡ X * Y * (e * d)
squares a b X Y d e U p q = omega (arith, ap (λ (z : ℕ). z * (Y * d)) p, ap (λ (z : ℕ). z * (a * U)) q)

pub mul_rounds : (x y : Float) → T (fits binary64 x) → T (fits binary64 y) → Finite (mul binary64 x y)
    → Rounds (unit ⊙ val (mul binary64 x y)) (val x ⊠ val y) (unit * 2 ^ 52)
unfolding mul val sign
mul_rounds nan y f g h = absurd h
mul_rounds (inf s) y f g h = absurd (mul-finite (inf s) y h).0
mul_rounds (fin s m e) nan f g h = absurd h
mul_rounds (fin s m e) (inf t) f g h = absurd (mul-finite (fin s m e) (inf t) h).1
mul_rounds (fin s m e) (fin t n d) f g h =
    let a = m * up e in
    let b = n * up d in
    let c = down e * down d in
    subst (λ (z : D). Rounds (unit ⊙ z) (signed s (mag (fin s m e)) ⊠ signed t (mag (fin t n d))) (unit * 2 ^ 52))
    (sym (round_val (unlike s t) (a * b) c h))
    (product s t (mag (fin s m e)) (mag (fin t n d)) unit (result (a * b) c) c (a * b * unit)
    (mul-pos (down_pos e) (down_pos d))
    (squares a b (mag (fin s m e)) (mag (fin t n d)) (down d) (down e) unit (mag-exact s m e f) (mag-exact t n d g))
    (round_error (a * b) c (mul-pos (down_pos e) (down_pos d))))

div_is : (s t : Bool) (m n : ℕ) (e d : ℤ)
    → div binary64 (fin s m e) (fin t (suc n) d)
    ≡ round binary64 (unlike s t) (m * up e * down d) (suc n * up d * down e)
unfolding div
div_is s t m n e d =
    ap
    (λ (b : Bool). cond b (cond (eqb m 0) nan (inf (unlike s t)))
    (round binary64 (unlike s t) (m * up e * down d) (suc n * up d * down e))) (eqb-suc-zero n)

div-fin : (s t : Bool) (m n : ℕ) (e d : ℤ) → T (fits binary64 (fin s m e)) → T (fits binary64 (fin t (suc n) d))
    → Finite (div binary64 (fin s m e) (fin t (suc n) d))
    → Rounds (val (div binary64 (fin s m e) (fin t (suc n) d)) ⊠ val (fin t (suc n) d)) (unit ⊙ val (fin s m e))
    (mag (fin t (suc n) d) * 2 ^ 52)
div-fin s t m n e d f g h =
    subst (λ (z : Float). Rounds (val z ⊠ val (fin t (suc n) d)) (unit ⊙ val (fin s m e)) (Y * 2 ^ 52))
    (sym (div_is s t m n e d)) (of_round (subst (λ (z : Float). Finite z) (div_is s t m n e d) h))
  where
    X : ℕ
    X = mag (fin s m e)

    Y : ℕ
    Y = mag (fin t (suc n) d)

    a : ℕ
    a = m * up e * down d

    b : ℕ
    b = suc n * up d * down e

    twice : (a U X c : ℕ) → a * U ≡ X * c → a * U * U ≡ X * U * c
    twice a U X c p = omega (arith, ap (λ (z : ℕ). z * U) p)

    B : 0 < b
    B = mul-pos (mul-pos (zero-lt-suc n) (up_pos d)) (down_pos e)

    of_round : Finite (round binary64 (unlike s t) a b)
        → Rounds (val (round binary64 (unlike s t) a b) ⊠ val (fin t (suc n) d)) (unit ⊙ val (fin s m e)) (Y * 2 ^ 52)
    of_round k =
        unfold val sign in
        subst (λ (z : D). Rounds (z ⊠ signed t Y) (unit ⊙ signed s X) (Y * 2 ^ 52)) (sym (round_val (unlike s t) a b k))
        (quotient s t X Y unit (result a b) (down e * down d) b (a * unit) (mul-pos (down_pos e) (down_pos d))
        (cross' (suc n * up d) Y (down e) (down d) unit (mag-exact t (suc n) d g))
        (twice a unit X (down e * down d) (cross (m * up e) X (down d) (down e) unit (mag-exact s m e f)))
        (round_error a b B))

-- the divisor is finite and not 0; `div_divisor` has the other case
pub div_rounds : (x y : Float) → T (fits binary64 x) → T (fits binary64 y) → Finite y → Finite (div binary64 x y)
    → Rounds (val (div binary64 x y) ⊠ val y) (unit ⊙ val x) (mag y * 2 ^ 52)
unfolding div
div_rounds nan y f g k h = absurd h
div_rounds (inf s) nan f g k h = absurd h
div_rounds (inf s) (inf t) f g k h = absurd h
div_rounds (inf s) (fin t n d) f g k h = absurd h
div_rounds (fin s m e) nan f g k h = absurd k
div_rounds (fin s m e) (inf t) f g k h = absurd k
div_rounds (fin s m e) (fin t zero d) f g k h = absurd (zero_out s t m e d h)
div_rounds (fin s m e) (fin t (suc n) d) f g k h = div-fin s t m n e d f g h

-- ---- the error from any bound M of the exact result, or of the float one
