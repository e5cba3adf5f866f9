-- The exact acceleration after phase 2, from the recorded jerks or from jf itself. Assumes nothing.
-- And when it is near 0.
use mathlib.Core.Path.{◌≡◌, refl, sym, ap, ◌∙◌, subst}
use mathlib.Core.Logic.{◌⊎◌, inl, inr}
use Prim.Native.Nat.{ℕ, ◌+◌, ◌*◌, ◌≤◌, ◌<◌}
use native.Mathlib.Nat.{le_trans, le_of_eq, mul-le-mul_left}
use native.Mathlib.Omega.{arith}
use mathlib.Core.Bool.{Bool, true, false, not, cond}
use lib.Dec.{T, leb, lit≤}
use lib.Ieee.{Float, binary64, neg, fits, lt}
use Rattle.float.specs.Ops.{#0}
use Rattle.rounding.specs.Exact.{D, signed, nought, opposite, Near, Size, Same, Below, ◌⊞◌, ◌⊟◌, ◌⊠◌, ◌⊙◌}
use Rattle.rounding.specs.Value.{unit, mag, val, Finite}
use Rattle.rounding.specs.Bounds.{Off, Part}
use Rattle.rounding.specs.Motion.{motion, state}
use Rattle.rounding.specs.Step.{Replaced}
use Rattle.rounding.proofs.Operands.{neg-finite}
use Rattle.rounding.proofs.Compare.{lt_not, mag_sum, size-mag}
use Rattle.rounding.proofs.Limits.{val-above}
use Rattle.rounding.proofs.Literals.{val_0, number_0}
use Rattle.rounding.proofs.Errors.{off_as, off_scale, off_within, off-times}
use Rattle.rounding.proofs.Negations.{neg_same, neg-size}
use Rattle.step2_solver.specs.declared.Times.{Times}
use Rattle.step2_times.specs.Facts.{Accepted, Jerks, recorded_jerk, residual}
use Rattle.step2_times.proofs.Within.{zero-none}

-- ---- a recorded jerk
product_same : (t x y : D) → x ≡ y → Same (t ⊠ x) (t ⊠ y)
product_same t x y e = subst (λ (z : D). Same (t ⊠ x) (t ⊠ z)) e refl

-- a time that is not above 0 and not below it is 0
no_time : (t : Float) → T (fits binary64 t) → Finite t → Below nought (val t) → T (not (lt #0 t)) → mag t ≡ 0
no_time t f k a h =
    go (mag t)
    (subst (λ (z : D). Below z nought) (val-above t a)
    (subst (λ (z : D). Below (val t) z) val_0 (lt_not #0 t number_0.held f number_0.finite k h)))
  where
    go : (m : ℕ) → Below (signed false m) nought → m ≡ 0
    go m h = omega arith

none_of : (t x : D) → t.p + t.n ≡ 0 → Same (t ⊠ x) nought
none_of t x e = omega (arith, ap (λ (y : ℕ). y * x.p) e, ap (λ (y : ℕ). y * x.n) e)

-- t times the jerk recorded for x is t times x
jerk-same : (t x j : Float) → T (fits binary64 t) → Finite t → Below nought (val t) → j ≡ recorded_jerk t x
    → Same (val t ⊠ val j) (val t ⊠ val x)
jerk-same t x j f k a e = go (lt #0 t) e (no_time t f k a)
  where
    both : (a b : D) → Same a nought → Same b nought → Same a b
    both a b h k = omega arith

    go : (b : Bool) → j ≡ cond b x #0 → (T (not b) → mag t ≡ 0) → Same (val t ⊠ val j) (val t ⊠ val x)
    go true e h = product_same (val t) (val j) (val x) (ap (λ (z : Float). val z) e)
    go false e h =
        let z = mag_sum t ∙ h tt in
        both (val t ⊠ val j) (val t ⊠ val x) (none_of (val t) (val j) z) (none_of (val t) (val x) z)

-- ---- the acceleration after phase 2
module _ {t : ℕ → Float} {x : Times} (a : Accepted t x) {jf : Float} {j : ℕ → Float} (h : Jerks jf t j)
    (p0 v0 a0 : Float) where
  pub reached : Same (motion t j (state p0 v0 a0) 3).a (unit ⊙ val a0 ⊞ (val (t 0) ⊟ val (t 2)) ⊠ val jf)
  unfolding motion
  reached =
      joined (unit ⊙ val a0) (val (t 0)) (val (t 1)) (val (t 2)) (val (j 0)) (val (j 1)) (val (j 2)) (val jf)
      (val (neg jf)) (val #0) (here 0 (lit≤ tt) jf h.plus) (here 1 (lit≤ tt) #0 h.none)
      (here 2 (lit≤ tt) (neg jf) h.minus) (neg_same jf) zero-none
    where
      here : (i : ℕ) → i < 7 → (y : Float) → j i ≡ recorded_jerk (t i) y
          → Same (val (t i) ⊠ val (j i)) (val (t i) ⊠ val y)
      here i l y e = jerk-same (t i) y (j i) (a.held i l) (a.finite i l) (a.above i l) e

      times : (t x y : D) → Same x y → Same (t ⊠ x) (t ⊠ y)
      times t x y h = omega (arith, ap (λ (z : ℕ). t.p * z) h, ap (λ (z : ℕ). t.n * z) h)

      joined : (s t0 t1 t2 j0 j1 j2 y n z : D) → Same (t0 ⊠ j0) (t0 ⊠ y) → Same (t1 ⊠ j1) (t1 ⊠ z)
          → Same (t2 ⊠ j2) (t2 ⊠ n) → Same n (opposite y) → Same z nought
          → Same (s ⊞ t0 ⊠ j0 ⊞ t1 ⊠ j1 ⊞ t2 ⊠ j2) (s ⊞ (t0 ⊟ t2) ⊠ y)
      joined s t0 t1 t2 j0 j1 j2 y n z a b c d e =
          sums s (t0 ⊠ j0) (t1 ⊠ j1) (t2 ⊠ j2) (t0 ⊠ y) (t1 ⊠ z) (t2 ⊠ n) (t1 ⊠ nought) (t2 ⊠ opposite y)
          ((t0 ⊟ t2) ⊠ y) a b c (times t1 z nought e) (times t2 n (opposite y) d) (nothing t1) (apart t0 t2 y)
        where
          nothing : (t : D) → Same (t ⊠ nought) nought
          nothing t = omega arith

          apart : (t0 t2 y : D) → Same (t0 ⊠ y ⊞ t2 ⊠ opposite y) ((t0 ⊟ t2) ⊠ y)
          apart t0 t2 y = omega arith

          sums : (s a b c a' b' c' b'' c'' r : D) → Same a a' → Same b b' → Same c c' → Same b' b'' → Same c' c''
              → Same b'' nought → Same (a' ⊞ c'') r → Same (s ⊞ a ⊞ b ⊞ c) (s ⊞ r)
          sums s a b c a' b' c' b'' c'' r h1 h2 h3 h4 h5 h6 h7 = omega arith

  -- the exact acceleration, from jf itself
  abbrev ends : D
  ends = unit ⊙ val a0 ⊞ (val (t 0) ⊟ val (t 2)) ⊠ val jf

  pub replaced_of_lem : {β : ℕ} → Off (unit * unit) ends nought β → T (leb β residual)
      → Replaced residual #0 (motion t j (state p0 v0 a0) 3).a
  replaced_of_lem {β} o k =
      let m = (motion t j (state p0 v0 a0) 3).a in
      let w = off_within residual o k in
      record {
        held = number_0.held;
        err = w.err;
        near =
            subst (λ (z : D). Near (unit ⊙ z) m w.err) (sym val_0)
            (from-none m ends unit w.err reached w.near);
        bound = w.bound;
      }
    where
      from-none : (m y : D) (U e : ℕ) → Same m y → Near y nought e → Near (U ⊙ nought) m e
      from-none m y U e h k = omega arith

  -- the recorded jerk says that jf is finite and 64 at most, where phase 0 or phase 2 has a time above 0
  moved : (Finite jf × (mag jf ≤ 64 * unit)) ⊎ ((mag (t 0) ≡ 0) × (mag (t 2) ≡ 0))
  moved = go (lt #0 (t 0)) (lt #0 (t 2)) h.plus h.minus (none 0 (lit≤ tt)) (none 2 (lit≤ tt))
    where
      none : (i : ℕ) (l : i < 7) → T (not (lt #0 (t i))) → mag (t i) ≡ 0
      none i l = no_time (t i) (a.held i l) (a.finite i l) (a.above i l)

      -- the jerk of phase i, where it is y
      small : (i : ℕ) (l : i < 7) (y : Float) → j i ≡ y → Finite y × Size (val y) (64 * unit)
      small i l y e = subst (λ (z : Float). Finite z × Size (val z) (64 * unit)) e (h.finite i l, h.size i l)

      go : (b c : Bool) → j 0 ≡ cond b jf #0 → j 2 ≡ cond c (neg jf) #0 → (T (not b) → mag (t 0) ≡ 0)
          → (T (not c) → mag (t 2) ≡ 0)
          → (Finite jf × (mag jf ≤ 64 * unit)) ⊎ ((mag (t 0) ≡ 0) × (mag (t 2) ≡ 0))
      go true c e f m n = let w = small 0 (lit≤ tt) jf e in inl (w.0, size-mag jf (64 * unit) w.1)
      go false true e f m n =
          let w = small 2 (lit≤ tt) (neg jf) f in
          inl (neg-finite jf w.0, size-mag jf (64 * unit) (neg-size jf (64 * unit) w.1))
      go false false e f m n = inr (m tt, n tt)

  -- in units of jf, t[0] - t[2] is -a0; and where both are 0, so is a0, nearly
  pub residual_of : {β γ : ℕ} → (Finite jf → Part jf (val (t 0) ⊟ val (t 2)) (opposite (val a0)) β)
      → (mag (t 0) ≡ 0 → mag (t 2) ≡ 0 → Off unit (val a0) nought γ) → T (leb (64 * β) residual) → T (leb γ residual)
      → Replaced residual #0 (motion t j (state p0 v0 a0) 3).a
  residual_of {β} {γ} p z k l = go moved
    where
      scaled : (β U J : ℕ) → J ≤ 64 * U → β * (U * J) ≤ 64 * β * (U * U)
      scaled β U J h = le_trans (mul-le-mul_left β (mul-le-mul_left U h)) (le_of_eq (gather β U))
        where
          gather : (β U : ℕ) → β * (U * (64 * U)) ≡ 64 * β * (U * U)
          gather β U = omega arith

      turned : (q a : D) (U : ℕ) → Same (q ⊟ U ⊙ opposite a) (U ⊙ a ⊞ q ⊟ nought)
      turned q a U = omega arith

      gone : (U : ℕ) (a t0 t2 y : D) → t0.p + t0.n ≡ 0 → t2.p + t2.n ≡ 0
          → Same (U ⊙ a ⊟ U ⊙ nought) (U ⊙ a ⊞ (t0 ⊟ t2) ⊠ y ⊟ nought)
      gone U a t0 t2 y e f = rest U a ((t0 ⊟ t2) ⊠ y) (none_of (t0 ⊟ t2) y (less t0.p t0.n t2.p t2.n e f))
        where
          less : (a b c d : ℕ) → a + b ≡ 0 → c + d ≡ 0 → a + d + (b + c) ≡ 0
          less a b c d e f = omega arith

          rest : (U : ℕ) (a y : D) → Same y nought → Same (U ⊙ a ⊟ U ⊙ nought) (U ⊙ a ⊞ y ⊟ nought)
          rest U a y h = omega arith

      go : (Finite jf × (mag jf ≤ 64 * unit)) ⊎ ((mag (t 0) ≡ 0) × (mag (t 2) ≡ 0))
          → Replaced residual #0 (motion t j (state p0 v0 a0) 3).a
      go (inl w) =
          replaced_of_lem
          (off_scale (unit * unit) (64 * β)
          (off_as ends nought (p w.0).off (turned ((val (t 0) ⊟ val (t 2)) ⊠ val jf) (val a0) unit))
          (scaled β unit (mag jf) w.1)) k
      go (inr w) =
          replaced_of_lem
          (off_as ends nought (off-times unit (z w.0 w.1))
          (gone unit (val a0) (val (t 0)) (val (t 2)) (val jf) (mag_sum (t 0) ∙ w.0) (mag_sum (t 2) ∙ w.1))) l
