-- One rounding: how far the result of `round` is from the fraction that it was handed. Assumes nothing.
-- Relative to the fraction and relative to the result.
use mathlib.Core.Path.{◌≡◌, refl, sym, ap, ◌∙◌, subst}
use mathlib.Core.Logic.{◌⊎◌, inl, inr}
use Prim.Native.Nat.{ℕ, zero, suc, ◌+◌, ◌-◌, ◌*◌, ◌/◌, ◌%◌, ◌^◌, ◌≤◌, ◌<◌, compare, Ordering}
use native.Mathlib.Nat.{le_trans, le_of_eq, zero-lt-suc, mul_comm, mul_assoc, mul_left_comm, mul-one, mul-pos}
use native.Mathlib.Nat.{mul-le-mul_right, le-div_iff_mul-le, div-add-mod', mod-lt, mul-div_cancel}
use native.Mathlib.Nat.{le_of_mul-le-mul_right}
use native.Mathlib.Omega.{arith}
use mathlib.Core.Bool.{Bool, true, false, not, cond}
use lib.Dec.{T, is_le, compare_is_eq, ltb, ltb→lt, nltb→le, leb→le, nleb→lt, eqb→eq}
use lib.Pow.{pow-add, pow_pos}
use lib.Ieee.{Float, nan, inf, fin, Format, binary64, prec, low, up, down, size, nearest, odd, units, round}
use lib.Ieee.Digits.{Equals, odd_val, size_reaches}
use lib.Ieee.Nearest.{closest, nearest-ge}
use lib.Ieee.Order.{drop, kept}
use lib.Ieee.Exact.{HasValue, units_val}
use lib.Ieee.Fits.{down_pos, round_is}
use lib.Ieee.Scale.{finite, grid, overflow}
use Rattle.rounding.specs.Exact.{D, signed, Near, Size, Same}
use Rattle.rounding.specs.Value.{unit, mag, sign, val, Finite}
use Rattle.rounding.specs.Bounds.{Rounds}
use Rattle.rounding.proofs.Linear.{apart}
use Rattle.rounding.proofs.Unit.{unit_is}

-- ---- the nearest whole number is within a half
lower : (q r n u : ℕ) → q * u + r ≡ n → r * 2 ≤ u → (q * u * 2 ≤ n * 2 + u) × (n * 2 ≤ q * u * 2 + u)
lower q r n u s h = omega arith

upper : (q r n u : ℕ) → q * u + r ≡ n → u ≤ r * 2 → r < u → (suc q * u * 2 ≤ n * 2 + u) × (n * 2 ≤ suc q * u * 2 + u)
upper q r n u s h l = omega arith

even : (q r n u b : ℕ) → q * u + r ≡ n → r * 2 ≡ u → r < u → b < 2
    → ((q + b) * u * 2 ≤ n * 2 + u) × (n * 2 ≤ (q + b) * u * 2 + u)
even q r n u zero s h l k = omega arith
even q r n u (suc zero) s h l k = omega arith
even q r n u (suc (suc b)) s h l k = absurd (two_less b k)
  where
    two_less : (x : ℕ) → suc (suc x) < 2 → ⊥
    two_less x y = omega arith

parity : (q : ℕ) → q % 2 < 2
parity q = omega arith

abbrev half_off : ℕ → ℕ → ℕ → Type 0
half_off c n u = (c * u * 2 ≤ n * 2 + u) × (n * 2 ≤ c * u * 2 + u)

closest_half : (n u : ℕ) → 0 < u → half_off (closest n u) n u
closest_half n u h = go (compare (n % u * 2) u) (leb→le (n % u * 2) u) (nleb→lt (n % u * 2) u) (eqb→eq (n % u * 2) u)
  where
    weaker : (a b : ℕ) → a < b → a ≤ b
    weaker a b l = omega arith

    go : (o : Ordering) → (T (is_le o) → n % u * 2 ≤ u) → (T (not (is_le o)) → u < n % u * 2)
        → (T (compare_is_eq o) → n % u * 2 ≡ u) → half_off (nearest (n / u) o) n u
    go Ordering.lt a b c = lower (n / u) (n % u) n u (div-add-mod' n u) (a tt)
    go Ordering.eq a b c = even (n / u) (n % u) n u (n / u % 2) (div-add-mod' n u) (c tt) (mod-lt n h) (parity (n / u))
    go Ordering.gt a b c = upper (n / u) (n % u) n u (div-add-mod' n u) (weaker u (n % u * 2) (b tt)) (mod-lt n h)

-- ---- g is the fraction n / d rounded to p = suc h digits, as far as sizes go: the error e of g * d is at most d / 2,
-- or at most 2 ^ -p of n and of g * d
pub record Grid (H n d g : ℕ) : Type 0 where
  pub e : ℕ
  pub off : (g * d ≡ n + e) ⊎ (n ≡ g * d + e)
  pub small : (e * 2 ≤ d) ⊎ ((e * (2 * H) ≤ n) × (e * (2 * H) ≤ g * d))

half_of : (c n u e : ℕ) → half_off c n u → (c * u ≡ n + e) ⊎ (n ≡ c * u + e) → e * 2 ≤ u
half_of c n u e h (inl k) = over (c * u) n u e h.0 k
  where
    over : (x n u e : ℕ) → x * 2 ≤ n * 2 + u → x ≡ n + e → e * 2 ≤ u
    over x n u e a b = omega arith
half_of c n u e h (inr k) = under (c * u) n u e h.1 k
  where
    under : (x n u e : ℕ) → n * 2 ≤ x * 2 + u → n ≡ x + e → e * 2 ≤ u
    under x n u e a b = omega arith

digits : (z h : ℕ) → 0 < z - suc h → h + (z - suc h) < z
digits z h l = omega arith

-- where digits are dropped, both the fraction and the kept number have all p digits
full : (h n d : ℕ) → 0 < d → 0 < drop (suc h) n d → 2 ^ h * (d * 2 ^ drop (suc h) n d) ≤ n
full h n d D K =
    let k = drop (suc h) n d in
    let a : 2 ^ (h + k) ≤ n / d = size_reaches (n / d) (h + k) (digits (size (n / d)) h K) in
    le_trans (le_of_eq (simp (mul_comm, mul_left_comm, pow-add))) ((le-div_iff_mul-le D).0 a)

full-kept : (h n d : ℕ) → 0 < d → 0 < drop (suc h) n d → 2 ^ h ≤ kept (suc h) n d
full-kept h n d D K =
    let k = drop (suc h) n d in
    let u = d * 2 ^ k in
    le_trans ((le-div_iff_mul-le (mul-pos D (pow_pos k))).1 (full h n d D K))
    (nearest-ge (n / u) (compare (n % u * 2) u))

scaled_half : (e H u n : ℕ) → e * 2 ≤ u → H * u ≤ n → e * (2 * H) ≤ n
scaled_half e H u n a b = omega (arith, mul-le-mul_right H a)

pub grid_error : (h n d : ℕ) → 0 < d → Grid (2 ^ h) n d (kept (suc h) n d * 2 ^ drop (suc h) n d)
grid_error h n d D = go k refl (apart (c * u) n)
  where
    k : ℕ
    k = drop (suc h) n d

    c : ℕ
    c = kept (suc h) n d

    u : ℕ
    u = d * 2 ^ k

    U : 0 < u
    U = mul-pos D (pow_pos k)

    same : c * 2 ^ k * d ≡ c * u
    same = simp (mul_comm, mul_assoc)

    off : (e : ℕ) → (c * u ≡ n + e) ⊎ (n ≡ c * u + e) → (c * 2 ^ k * d ≡ n + e) ⊎ (n ≡ c * 2 ^ k * d + e)
    off e = subst (λ (z : ℕ). (z ≡ n + e) ⊎ (n ≡ z + e)) (sym same)

    whole-unit : k ≡ 0 → u ≡ d
    whole-unit z = ap (λ (x : ℕ). d * 2 ^ x) z ∙ mul-one d

    go : (j : ℕ) → k ≡ j → (r : (e : ℕ) × ((c * u ≡ n + e) ⊎ (n ≡ c * u + e))) → Grid (2 ^ h) n d (c * 2 ^ k)
    go zero z r =
        record {
          e = r.0;
          off = off r.0 r.1;
          small =
              inl (subst (λ (x : ℕ). r.0 * 2 ≤ x) (whole-unit z) (half_of c n u r.0 (closest_half n u U) r.1));
        }
    go (suc j) z r =
        let K : 0 < k = subst (λ (x : ℕ). 0 < x) (sym z) (zero-lt-suc j) in
        let w : r.0 * 2 ≤ u = half_of c n u r.0 (closest_half n u U) r.1 in
        record {
          e = r.0;
          off = off r.0 r.1;
          small =
              inr (
                scaled_half r.0 (2 ^ h) u n w (full h n d D K),
                scaled_half r.0 (2 ^ h) u (c * 2 ^ k * d) w
                    (le_trans (mul-le-mul_right u (full-kept h n d D K)) (le_of_eq (sym same))),
              );
        }

-- ---- the same in another unit: G and N are g * d and n times U / c
pub record Close (H G N l : ℕ) : Type 0 where
  pub err : ℕ
  pub over : G ≤ N + err
  pub under : N ≤ G + err
  pub forward : err * (2 * H) ≤ N + l
  pub backward : err * (2 * H) ≤ G + l

-- the two differences are in the ratio of the units
ratio : (g n e G N f c U : ℕ) → g * U ≡ G * c → n * U ≡ N * c → (g ≡ n + e) ⊎ (n ≡ g + e) → (G ≡ N + f) ⊎ (N ≡ G + f)
    → f * c ≡ e * U
ratio g n e G N f c U p q (inl a) (inl b) = omega (arith, ap (λ (z : ℕ). z * U) a, ap (λ (z : ℕ). z * c) b)
ratio g n e G N f c U p q (inl a) (inr b) = omega (arith, ap (λ (z : ℕ). z * U) a, ap (λ (z : ℕ). z * c) b)
ratio g n e G N f c U p q (inr a) (inl b) = omega (arith, ap (λ (z : ℕ). z * U) a, ap (λ (z : ℕ). z * c) b)
ratio g n e G N f c U p q (inr a) (inr b) = omega (arith, ap (λ (z : ℕ). z * U) a, ap (λ (z : ℕ). z * c) b)

over_of : (G N f : ℕ) → (G ≡ N + f) ⊎ (N ≡ G + f) → G ≤ N + f
over_of G N f (inl h) = omega arith
over_of G N f (inr h) = omega arith

under_of : (G N f : ℕ) → (G ≡ N + f) ⊎ (N ≡ G + f) → N ≤ G + f
under_of G N f (inl h) = omega arith
under_of G N f (inr h) = omega arith

-- f is the difference in the new unit: it is small against x times U / c if e is small against x, and against L if e is
-- at most a half of d
against : (H e d x f X L c U : ℕ) → 0 < c → f * c ≡ e * U → x * U ≡ X * c → d * U ≡ L * c
    → (e * 2 ≤ d) ⊎ (e * (2 * H) ≤ x) → f * (2 * H) ≤ X + L * H
against H e d x f X L c U C r p q (inl h) = le_of_mul-le-mul_right below C
  where
    below : f * (2 * H) * c ≤ (X + L * H) * c
    below = omega (arith, ap (λ (z : ℕ). z * H) r, ap (λ (z : ℕ). z * H) q, mul-le-mul_right (U * H) h)
against H e d x f X L c U C r p q (inr h) = le_of_mul-le-mul_right below C
  where
    below : f * (2 * H) * c ≤ (X + L * H) * c
    below = omega (arith, ap (λ (z : ℕ). z * H) r, p, mul-le-mul_right U h)

first : {A B C : Type 0} → A ⊎ (B × C) → A ⊎ B
first (inl a) = inl a
first (inr p) = inr p.0

second : {A B C : Type 0} → A ⊎ (B × C) → A ⊎ C
second (inl a) = inl a
second (inr p) = inr p.1

pub close_in : (H n d g G N L c U : ℕ) → 0 < c → g * d * U ≡ G * c → n * U ≡ N * c → d * U ≡ L * c → Grid H n d g
    → Close H G N (L * H)
close_in H n d g G N L c U C p q l w =
    let a = apart G N in
    let f = a.0 in
    let r : f * c ≡ w.e * U = ratio (g * d) n w.e G N f c U p q w.off a.1 in
    record {
      err = f;
      over = over_of G N f a.1;
      under = under_of G N f a.1;
      forward = against H w.e d n f N L c U C r q l (first w.small);
      backward = against H w.e d (g * d) f G L c U C r p l (second w.small);
    }

-- ---- a fraction that is a whole number N of units is rounded with no subnormal term: as long as no digit is dropped,
-- it is not changed
no_half : (f d : ℕ) → 0 < d → f * d * 2 ≤ d → f ≡ 0
no_half zero d D h = refl
no_half (suc f) d D h = absurd (too_much f d D h)
  where
    too_much : (f d : ℕ) → 0 < d → suc f * d * 2 ≤ d → ⊥
    too_much f d D h = omega arith

against_whole : (H e d x f X : ℕ) → 0 < d → f * d ≡ e → x ≡ X * d → (e * 2 ≤ d) ⊎ (e * (2 * H) ≤ x)
    → f * (2 * H) ≤ X + 0
against_whole H e d x f X D r p (inl h) = none f H X (no_half f d D (subst (λ (z : ℕ). z * 2 ≤ d) (sym r) h))
  where
    none : (f H X : ℕ) → f ≡ 0 → f * (2 * H) ≤ X + 0
    none f H X z = omega (arith, ap (λ (k : ℕ). k * H) z)
against_whole H e d x f X D r p (inr h) = le_of_mul-le-mul_right below D
  where
    below : f * (2 * H) * d ≤ (X + 0) * d
    below = omega (arith, ap (λ (z : ℕ). z * H) r)

pub close_whole : (H n d g N : ℕ) → 0 < d → n ≡ N * d → Grid H n d g → Close H g N 0
close_whole H n d g N D q w =
    let a = apart g N in
    let f = a.0 in
    let r : f * d ≡ w.e = ratio (g * d) n w.e g N f d 1 (mul-one (g * d)) (mul-one n ∙ q) w.off a.1
    ∙ mul-one w.e in
    record {
      err = f;
      over = over_of g N f a.1;
      under = under_of g N f a.1;
      forward = against_whole H w.e d n f N D r q (first w.small);
      backward = against_whole H w.e d (g * d) f g D r refl (second w.small);
    }

-- ---- with a sign
pub close_signed : (s : Bool) (G N l : ℕ) → Close (2 ^ 52) G N l → Rounds (signed s G) (signed s N) l
close_signed s G N l c =
    record {
      err = c.err;
      near = near s G N c.err c.over c.under;
      forward = λ M h. tail (c.err * 2 ^ 53) N M l c.forward (unsigned s N M h);
      backward = λ M h. tail (c.err * 2 ^ 53) G M l c.backward (unsigned s G M h);
    }
  where
    near : (s : Bool) (G N e : ℕ) → G ≤ N + e → N ≤ G + e → Near (signed s G) (signed s N) e
    near false G N e a b = omega arith
    near true G N e a b = omega arith

    unsigned : (s : Bool) (N M : ℕ) → Size (signed s N) M → N ≤ M
    unsigned false N M h = omega arith
    unsigned true N M h = omega arith

    tail : (e N M l : ℕ) → e ≤ N + l → N ≤ M → e ≤ M + l
    tail e N M l a b = omega arith

pub rounds_same : (r v r' v' : D) (l : ℕ) → Same r r' → Same v v' → Rounds r v l → Rounds r' v' l
rounds_same r v r' v' l p q w =
    record {
      err = w.err;
      near = near_same r v r' v' w.err p q w.near;
      forward = λ M h. w.forward M (size_same v v' M q h);
      backward = λ M h. w.backward M (size_same r r' M p h);
    }
  where
    near_same : (r v r' v' : D) (e : ℕ) → Same r r' → Same v v' → Near r v e → Near r' v' e
    near_same r v r' v' e p q h = omega arith

    size_same : (r r' : D) (M : ℕ) → Same r r' → Size r' M → Size r M
    size_same r r' M p h = omega arith

-- ---- the value of `round`, with any sign
of_value : (x : Float) (s : Bool) (g : ℕ) → HasValue x s g (2 ^ low binary64) → val x ≡ signed s g
unfolding val sign mag
of_value nan s g h = absurd h
of_value (inf t) s g h = absurd h
of_value (fin t m e) s g h =
    ap (λ (z : Bool). signed z (m * up e * unit / down e)) h.0
    ∙ ap (λ (z : ℕ). signed s z)
    (whole (m * up e) unit (down e) g (down_pos e) (ap (λ (z : ℕ). m * up e * z) unit_is ∙ h.1))
  where
    whole : (a U d g : ℕ) → 0 < d → a * U ≡ g * d → a * U / d ≡ g
    whole a U d g D p = ap (λ (z : ℕ). z / d) p ∙ mul-div_cancel g D

under_top : (f : Format) (s : Bool) (q k : ℕ) → T (finite (units f s q k)) → q * 2 ^ k < overflow f
unfolding units
under_top f s q k = go (ltb (q * 2 ^ k) (overflow f)) (ltb→lt (q * 2 ^ k) (overflow f))
  where
    go : (b : Bool) → (T b → q * 2 ^ k < overflow f) → T (finite (cond b (odd (suc (prec f)) s q k (low f)) (inf s)))
        → q * 2 ^ k < overflow f
    go true h t = h tt
    go false h t = absurd t

-- an infinite result has the sign that it was handed, and is beyond the largest value
infinite_top : (f : Format) (s t : Bool) (q k : ℕ) → units f s q k ≡ inf t → (s ≡ t) × (overflow f ≤ q * 2 ^ k)
unfolding units
infinite_top f s t q k = go (ltb (q * 2 ^ k) (overflow f)) (nltb→le (q * 2 ^ k) (overflow f))
  where
    not_odd : (x : Float) → Finite x → x ≡ inf t → ⊥
    not_odd nan h e = h
    not_odd (inf u) h e = h
    not_odd (fin u m b) h e = absurd (subst (λ (z : Float). T (finite z)) e tt)

    odd-finite : (d q k l : ℕ) → Finite (odd d s q k l)
    odd-finite d q k l = finite-of (odd d s q k l) (q * 2 ^ k) (2 ^ l) (odd_val d s q k l)
      where
        finite-of : (x : Float) (a c : ℕ) → Equals x a c → Finite x
        finite-of nan a c h = h
        finite-of (inf u) a c h = h
        finite-of (fin u m b) a c h = tt

    sign_is : {u v : Bool} → inf u ≡ inf v → u ≡ v
    sign_is e = cc

    go : (b : Bool) → (T (not b) → overflow f ≤ q * 2 ^ k) → cond b (odd (suc (prec f)) s q k (low f)) (inf s) ≡ inf t
        → (s ≡ t) × (overflow f ≤ q * 2 ^ k)
    go true h e = absurd (not_odd (odd (suc (prec f)) s q k (low f)) (odd-finite (suc (prec f)) q k (low f)) e)
    go false h e = (sign_is e, h tt)

has_value : (f : Format) (s : Bool) (a c : ℕ) → T (finite (round f s a c))
    → HasValue (round f s a c) s (grid f a c) (2 ^ low f)
has_value f s a c t =
    let q = kept (prec f) (a * 2 ^ low f) c in
    let k = drop (prec f) (a * 2 ^ low f) c in
    subst (λ (z : Float). HasValue z s (q * 2 ^ k) (2 ^ low f)) (sym (round_is f s a c))
    (units_val f s q k (under_top f s q k (subst (λ (z : Float). T (finite z)) (round_is f s a c) t)))

-- the size of the result, in units
pub result : ℕ → ℕ → ℕ
result a c = grid binary64 a c

pub round_val : (s : Bool) (a c : ℕ) → Finite (round binary64 s a c)
    → val (round binary64 s a c) ≡ signed s (result a c)
unfolding result
round_val s a c t = of_value (round binary64 s a c) s (grid binary64 a c) (has_value binary64 s a c t)

pub round_error : (a c : ℕ) → 0 < c → Grid (2 ^ 52) (a * unit) c (result a c)
unfolding result
round_error a c C =
    subst (λ (z : ℕ). Grid (2 ^ 52) (a * unit) c (kept 53 (a * z) c * 2 ^ drop 53 (a * z) c)) unit_is
    (grid_error 52 (a * unit) c C)

pub round_infinite : (s t : Bool) (a c : ℕ) → round binary64 s a c ≡ inf t → (s ≡ t) × (2 ^ 1024 * unit ≤ result a c)
unfolding result
round_infinite s t a c e =
    let h = infinite_top binary64 s t (kept 53 (a * 2 ^ low binary64) c) (drop 53 (a * 2 ^ low binary64) c)
    (sym (round_is binary64 s a c) ∙ e) in
    (h.0, le_trans (le_of_eq top_is) h.1)
  where
    top_is : 2 ^ 1024 * unit ≡ overflow binary64
    top_is = ap (λ (z : ℕ). 2 ^ 1024 * z) unit_is ∙ mul_comm (2 ^ 1024) (2 ^ 1074) ∙ sym (pow-add 2 1074 1024)
