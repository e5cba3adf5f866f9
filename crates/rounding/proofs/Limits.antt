-- From the tests of `check` to exact numbers. Assumes nothing.
-- A difference that is small in f64s, a number within a limit that was widened in f64s, a quotient that is 0.
use mathlib.Core.Path.{◌≡◌, refl, sym, ap, ◌∙◌, subst}
use Prim.Native.Nat.{ℕ, ◌+◌, ◌-◌, ◌*◌, ◌^◌, ◌≤◌, ◌<◌}
use native.Mathlib.Nat.{le_trans, le_of_eq, mul_comm, mul_assoc, mul-le-mul_left, mul-le-mul_right}
use native.Mathlib.Nat.{le_of_mul-le-mul_right}
use native.Mathlib.Omega.{arith}
use mathlib.Core.Bool.{Bool, true, false, not}
use lib.Dec.{T, leb, leb→le, nleb→lt, lit≤}
use lib.Pow.{pow_pos, pow_mono}
use lib.Ieee.{Float, nan, inf, fin, binary64, neg, add, sub, div, le, fits}
use lib.Ieee.Fits.{add-fits, neg-fits}
use Rattle.rounding.specs.Exact.{D, signed, nought, opposite, Near, Size, Below, Same, ◌⊞◌, ◌⊟◌, ◌⊠◌, ◌⊙◌}
use Rattle.rounding.specs.Value.{unit, mag, val, sign, Finite}
use Rattle.rounding.specs.Bounds.{Rounds}
use Rattle.rounding.proofs.Linear.{size_weaken, size-times, size_divide}
use Rattle.rounding.proofs.Unit.{unit-pos, unit_splits, mag_top}
use Rattle.rounding.proofs.Operands.{finite-neg}
use Rattle.rounding.proofs.Ops.{val-neg, add_rounds, sub_rounds, div_rounds, add_infinite}
use Rattle.rounding.proofs.Compare.{le_below, mag_sum}

-- a time that is not negative is its size
pub val-above : (x : Float) → Below nought (val x) → val x ≡ signed false (mag x)
unfolding val
val-above x h = go (sign x) (mag x) h
  where
    no_size : (k : ℕ) → 0 + k ≤ 0 + 0 → 0 ≡ k
    no_size k h = omega arith

    go : (s : Bool) (k : ℕ) → Below nought (signed s k) → signed s k ≡ signed false k
    go false k h = refl
    go true k h = subst (λ (z : ℕ). signed true z ≡ signed false z) (no_size k h) refl

-- ---- x - y rounded is M at most in size: x and y differ by M at most, and a rounding of M
pub difference_near : (x y : Float) (M : ℕ) → T (fits binary64 x) → T (fits binary64 y) → Finite (sub binary64 x y)
    → Size (val (sub binary64 x y)) M → (e : ℕ) × Near (val x) (val y) (M + e) × (e * 2 ^ 53 ≤ M)
difference_near x y M f g h s =
    let r = sub_rounds x y f g h in (
      r.err,
      apart (val (sub binary64 x y)) (val x) (val y) M r.err r.near s,
      le_trans (r.backward M s)
          (le_of_eq (nothing M)),
    )
  where
    nothing : (M : ℕ) → M + 0 ≡ M
    nothing M = omega arith

    apart : (d x y : D) (M e : ℕ) → Near d (x ⊟ y) e → Size d M → Near x y (M + e)
    apart d x y M e n s = omega arith

-- ---- limits. x is R at most in size; the limit l, of any size, was moved by C, one at most, and rounded to r; x is
-- not beyond r. Then x is beyond l by C and a small e at most
widened : (x l r v : D) (R C U : ℕ) → Rounds r v 0 → Same v (l ⊞ signed false C) → C ≤ U → Size x (R * U) → Below x r
    → (e : ℕ) × Below x (l ⊞ signed false (C + e)) × (e * 2 ^ 53 ≤ (R + 1) * U)
widened x l r v R C U w c k s h =
    outside (leb (x.p + l.n) (l.p + x.n)) (leb→le (x.p + l.n) (l.p + x.n)) (nleb→lt (x.p + l.n) (l.p + x.n))
  where
    nothing : (M : ℕ) → M + 0 ≡ M
    nothing M = omega arith

    -- v is negative, so r is not above 0
    flat : (r v : D) (N e P : ℕ) → 1 ≤ P → Near r v e → v.n ≡ v.p + N → e * P ≤ N + 0 → r.p ≤ r.n
    flat r v N e P p n q b = omega (arith, mul-le-mul_left e p)

    inner : l.p + x.n < x.p + l.n → w.err * 2 ^ 53 ≤ (R + 1) * U
    inner g = either (leb v.n v.p) (leb→le v.n v.p) (nleb→lt v.n v.p)
      where
        high : (x l v : D) (R C U : ℕ) → Same v (l ⊞ signed false C) → C ≤ U → Size x (R * U)
            → l.p + x.n < x.p + l.n → v.n ≤ v.p → Size v ((R + 1) * U)
        high x l v R C U c k s g a = omega arith

        low : (x r : D) (R U : ℕ) → Size x (R * U) → Below x r → r.p ≤ r.n → Size r ((R + 1) * U)
        low x r R U s h a = omega arith

        less : (v : D) → v.p < v.n → (N : ℕ) × (v.n ≡ v.p + N) × Size v N
        less v a = let d = v.n - v.p in (d, up_to v.p v.n a, sized v a)
          where
            up_to : (a b : ℕ) → a < b → b ≡ a + (b - a)
            up_to a b h = omega arith

            sized : (v : D) → v.p < v.n → Size v (v.n - v.p)
            sized v h = omega arith

        either : (b : Bool) → (T b → v.n ≤ v.p) → (T (not b) → v.p < v.n) → w.err * 2 ^ 53 ≤ (R + 1) * U
        either true a n =
            le_trans (w.forward ((R + 1) * U) (high x l v R C U c k s g (a tt))) (le_of_eq (nothing ((R + 1) * U)))
        either false a n =
            let d = less v (n tt) in
            le_trans
            (w.backward ((R + 1) * U)
            (low x r R U s h (flat r v d.0 w.err (2 ^ 53) (lit≤ tt) w.near d.1 (w.forward d.0 d.2))))
            (le_of_eq (nothing ((R + 1) * U)))

    reached : (x l r v : D) (C e : ℕ) → Near r v e → Same v (l ⊞ signed false C) → Below x r
        → Below x (l ⊞ signed false (C + e))
    reached x l r v C e n c h = omega arith

    already : (x l : D) (C : ℕ) → x.p + l.n ≤ l.p + x.n → Below x (l ⊞ signed false (C + 0))
    already x l C h = omega arith

    none : (z : ℕ) → 0 * 2 ^ 53 ≤ z
    none z = omega arith

    outside : (b : Bool) → (T b → x.p + l.n ≤ l.p + x.n) → (T (not b) → l.p + x.n < x.p + l.n)
        → (e : ℕ) × Below x (l ⊞ signed false (C + e)) × (e * 2 ^ 53 ≤ (R + 1) * U)
    outside true a n = (0, already x l C (a tt), none ((R + 1) * U))
    outside false a n = (w.err, reached x l r v C w.err w.near c h, inner (n tt))

no_nan : (x : Float) → T (le x nan) → ⊥
unfolding le
no_nan nan h = h
no_nan (inf s) h = h
no_nan (fin s m e) h = h

not_under : (x : Float) → Finite x → T (le x (inf true)) → ⊥
unfolding le
not_under nan f h = f
not_under (inf s) f h = f
not_under (fin s m e) f h = h

nan_no : (x : Float) → T (le nan x) → ⊥
unfolding le
nan_no x h = h

not_over : (x : Float) → Finite x → T (le (inf false) x) → ⊥
unfolding le
not_over nan f h = f
not_over (inf s) f h = f
not_over (fin s m e) f h = h

beyond : (R U B N : ℕ) → 2 * R ≤ B → B * U ≤ 2 * N → R * U ≤ N
beyond R U B N h k = half (R * U) N (le_trans (le_of_eq (sym (mul_assoc 2 R U))) (le_trans (mul-le-mul_right U h) k))
  where
    half : (x y : ℕ) → 2 * x ≤ 2 * y → x ≤ y
    half x y h = omega arith

far : (R : ℕ) → T (leb (2 * R) (2 ^ 53)) → 2 * R ≤ 2 ^ 1024
far R h = le_trans (leb→le (2 * R) (2 ^ 53) h) (pow_mono {i = 53} {j = 1024} (lit≤ tt))

none : (z : ℕ) → 0 * 2 ^ 53 ≤ z
none z = omega arith

module _ (x l c : Float) (R C : ℕ) (fx : T (fits binary64 x)) (fl : T (fits binary64 l)) (fc : T (fits binary64 c))
    (X : Finite x) (L : Finite l) (K : Finite c)
    (is : val c ≡ signed false C) (small : C ≤ unit) (s : Size (val x) (R * unit)) (few : T (leb (2 * R) (2 ^ 53)))
  where
    -- x ≤ l + c, rounded
    pub limit_above : T (le x (add binary64 l c))
        → (e : ℕ) × Below (val x) (val l ⊞ signed false (C + e)) × (e * 2 ^ 53 ≤ (R + 1) * unit)
    limit_above h = go (add binary64 l c) refl h
      where
        past : (x l : D) (M N C : ℕ) → Size x M → M ≤ N → Same (signed false N) (l ⊞ signed false C)
            → Below x (l ⊞ signed false (C + 0))
        past x l M N C s h k = omega arith

        go : (z : Float) → add binary64 l c ≡ z → T (le x z)
            → (e : ℕ) × Below (val x) (val l ⊞ signed false (C + e)) × (e * 2 ^ 53 ≤ (R + 1) * unit)
        go nan e k = absurd (no_nan x k)
        go (inf true) e k = absurd (not_under x X k)
        go (inf false) e k =
            let w = add_infinite l c false fl fc L K e in (
              0,
              past (val x) (val l) (R * unit) w.0 C s (beyond R unit (2 ^ 1024) w.0 (far R few) w.2)
                  (subst (λ (z : D). Same (signed false w.0) (val l ⊞ z)) is w.1),
              none ((R + 1) * unit),
            )
        go (fin b m d) e k =
            let f : Finite (add binary64 l c) = subst (λ (z : Float). Finite z) (sym e) tt in
            widened (val x) (val l) (val (add binary64 l c)) (val l ⊞ signed false C) R C unit
            (subst (λ (z : D). Rounds (val (add binary64 l c)) (val l ⊞ z) 0) is (add_rounds l c fl fc f)) refl small s
            (le_below x (add binary64 l c) fx (add-fits binary64 l c) X f (subst (λ (z : Float). T (le x z)) (sym e) k))

    -- l - c, rounded, ≤ x
    pub limit_below : T (le (sub binary64 l c) x)
        → (e : ℕ) × Below (val l) (val x ⊞ signed false (C + e)) × (e * 2 ^ 53 ≤ (R + 1) * unit)
    unfolding sub
    limit_below h = go (add binary64 l (neg c)) refl h
      where
        opposed : val (neg c) ≡ opposite (signed false C)
        opposed = val-neg c ∙ ap (λ (z : D). opposite z) is

        past : (x l : D) (M N C : ℕ) → Size x M → M ≤ N → Same (signed true N) (l ⊞ opposite (signed false C))
            → Below l (x ⊞ signed false (C + 0))
        past x l M N C s h k = omega arith

        turn_size : (x : D) (M : ℕ) → Size x M → Size (opposite x) M
        turn_size x M s = omega arith

        turn_near : (x y : D) (M : ℕ) → Near x y M → Near (opposite x) (opposite y) M
        turn_near x y M s = omega arith

        turn_below : (x y : D) → Below x y → Below (opposite y) (opposite x)
        turn_below x y h = omega arith

        turn_back : (x l : D) (M : ℕ) → Below (opposite x) (opposite l ⊞ signed false M) → Below l (x ⊞ signed false M)
        turn_back x l M h = omega arith

        turn : (r v : D) → Rounds r v 0 → Rounds (opposite r) (opposite v) 0
        turn r v w =
            record {
              err = w.err;
              near = turn_near r v w.err w.near;
              forward = λ M s. w.forward M (turn_size (opposite v) M s);
              backward = λ M s. w.backward M (turn_size (opposite r) M s);
            }

        go : (z : Float) → add binary64 l (neg c) ≡ z → T (le z x)
            → (e : ℕ) × Below (val l) (val x ⊞ signed false (C + e)) × (e * 2 ^ 53 ≤ (R + 1) * unit)
        go nan e k = absurd (nan_no x k)
        go (inf false) e k = absurd (not_over x X k)
        go (inf true) e k =
            let w = add_infinite l (neg c) true fl (neg-fits binary64 c fc) L (finite-neg c K) e in (
              0,
              past (val x) (val l) (R * unit) w.0 C s (beyond R unit (2 ^ 1024) w.0 (far R few) w.2)
                  (subst (λ (z : D). Same (signed true w.0) (val l ⊞ z)) opposed w.1),
              none ((R + 1) * unit),
            )
        go (fin b m d) e k =
            let f : Finite (add binary64 l (neg c)) = subst (λ (z : Float). Finite z) (sym e) tt in
            let r = val (add binary64 l (neg c)) in
            let w = widened (opposite (val x)) (opposite (val l)) (opposite r)
            (opposite (val l ⊞ opposite (signed false C))) R C unit
            (turn r (val l ⊞ opposite (signed false C))
            (subst (λ (z : D). Rounds r (val l ⊞ z) 0) opposed (add_rounds l (neg c) fl (neg-fits binary64 c fc) f)))
            refl
            small (turn_size (val x) (R * unit) s)
            (turn_below r (val x)
            (le_below (add binary64 l (neg c)) x (add-fits binary64 l (neg c)) fx f X
            (subst (λ (z : Float). T (le z x)) (sym e) k))) in
            (w.0, turn_back (val x) (val l) (C + w.0) w.1, w.2)

-- ---- a quotient by a finite divisor that is 0: its dividend is 2 ^ -51 at most
pub dividend_none : (x j : Float) → T (fits binary64 x) → T (fits binary64 j) → Finite j → Finite (div binary64 x j)
    → mag (div binary64 x j) ≡ 0 → Size ((2 ^ 51) ⊙ val x) unit
dividend_none x j f g k h z =
    let r = div_rounds x j f g k h in
    let q = val (div binary64 x j) ⊠ val j in
    let n = nothing (val (div binary64 x j)) (val j) (mag_sum (div binary64 x j) ∙ z) in
    small (val x) unit (2 ^ 1023) (2 ^ 51) unit-pos (unit_splits 1023 (lit≤ tt))
    (dividend q (val x) unit r.err r.near n)
    (half r.err (2 ^ 52) (mag j) (2 ^ 1023) unit (pow_pos 52) (r.backward 0 n)
    (le_trans (mag_top j g) (le_of_eq (ap (λ (y : ℕ). y * unit) (refl_top)))))
  where
    refl_top : 2 ^ 1024 ≡ 2 * 2 ^ 1023
    refl_top = refl

    nothing : (q j : D) → q.p + q.n ≡ 0 → Size (q ⊠ j) 0
    nothing q j e = omega (arith, ap (λ (y : ℕ). y * j.p) e, ap (λ (y : ℕ). y * j.n) e)

    dividend : (q x : D) (U e : ℕ) → Near q (U ⊙ x) e → Size q 0 → Size (U ⊙ x) e
    dividend q x U e n s = omega arith

    half : (e H J B U : ℕ) → 0 < H → e * (2 * H) ≤ 0 + J * H → J ≤ 2 * B * U → e ≤ B * U
    half e H J B U Z a b =
        halves e B U
        (le_trans
        (le_of_mul-le-mul_right (le_trans (le_of_eq (swap e H)) (le_trans a (le_of_eq (zero-first (J * H))))) Z) b)
      where
        swap : (e H : ℕ) → 2 * e * H ≡ e * (2 * H)
        swap e H = omega arith

        zero-first : (y : ℕ) → 0 + y ≡ y
        zero-first y = omega arith

        halves : (e B U : ℕ) → 2 * e ≤ 2 * B * U → e ≤ B * U
        halves e B U h = omega arith

    small : (x : D) (U B Q : ℕ) → 0 < U → Q * B ≡ U → {e : ℕ} → Size (U ⊙ x) e → e ≤ B * U → Size (Q ⊙ x) U
    small x U B Q Z p {e} s b =
        subst (λ (y : ℕ). Size (Q ⊙ x) y) p
        (size-times Q x B
        (size_divide U x B Z (size_weaken (U ⊙ x) e (U * B) s (le_trans b (le_of_eq (mul_comm B U))))))
