-- One phase: the f64 step against the exact one, and exact steps from states that are near. Assumes nothing.
use mathlib.Core.Path.{◌≡◌, refl, ap, ◌∙◌, subst}
use Prim.Native.Nat.{ℕ, ◌+◌, ◌*◌, ◌^◌, ◌≤◌}
use native.Mathlib.Nat.{le_trans, le_of_eq, mul_assoc, one-mul}
use native.Mathlib.Omega.{arith}
use lib.Dec.{T, leb}
use lib.Ieee.{Float}
use Rattle.float.specs.Ops.{◌⊕◌, ◌⊗◌, ◌⊘◌, #2, #6}
use Rattle.util.specs.Integrate.{integrate_of}
use Rattle.rounding.specs.Exact.{D, Near, Size, Same, ◌⊞◌, ◌⊠◌, ◌⊙◌}
use Rattle.rounding.specs.Value.{unit, mag, val, Finite}
use Rattle.rounding.specs.Bounds.{Sized, On}
use Rattle.rounding.specs.Motion.{Moving, phase, per_a, per_v, per_p}
use Rattle.rounding.specs.Step.{Node, from, step_of}
use Rattle.rounding.proofs.Linear.{size-sum_in, times-times, near_times, near-sum, product_near}
use Rattle.rounding.proofs.Operands.{add-finite, mul-finite, div-finite}
use Rattle.rounding.proofs.Literals.{val_2, val_6, number_2, number_6}
use Rattle.rounding.proofs.Compare.{val-size}
use Rattle.rounding.proofs.Errors.{off_scale, off-sum, off-times, off_product}
use Rattle.rounding.proofs.Sizes.{unit_52, on, on_whole, on_times, on_is}
use Rattle.rounding.proofs.Sums.{sum_forth, on_add}
use Rattle.rounding.proofs.Products.{product_off, on_mul}
use Rattle.rounding.proofs.Quotients.{on_div}

-- ---- the sums of document 01, multiplied out
pub phase_spelled : (t j : D) (s : Moving)
    → Same (phase t j s).p (s.p ⊞ 3 ⊙ (t ⊠ s.v) ⊞ 3 ⊙ (t ⊠ t ⊠ s.a) ⊞ t ⊠ t ⊠ t ⊠ j)
    × Same (phase t j s).v (s.v ⊞ 2 ⊙ (t ⊠ s.a) ⊞ t ⊠ t ⊠ j) × Same (phase t j s).a (s.a ⊞ t ⊠ j)
phase_spelled t j s = (place t j s.p s.v s.a, speed t j s.v s.a, refl)
  where
    product_same : (t x y : D) → Same x y → Same (t ⊠ x) (t ⊠ y)
    product_same t x y h = omega (arith, ap (λ (z : ℕ). t.p * z) h, ap (λ (z : ℕ). t.n * z) h)

    inner : (t j a : D) → Same (t ⊠ (3 ⊙ a ⊞ t ⊠ j)) (3 ⊙ (t ⊠ a) ⊞ t ⊠ t ⊠ j)
    inner t j a = omega arith

    assoc : (a b c : D) → Same (a ⊠ (b ⊠ c)) (a ⊠ b ⊠ c)
    assoc a b c = omega arith

    cube : (t j : D) → Same (t ⊠ (t ⊠ t ⊠ j)) (t ⊠ t ⊠ t ⊠ j)
    cube t j = omega arith

    spread : (t p v x y z : D) → Same x (3 ⊙ y ⊞ z) → Same (t ⊠ (3 ⊙ v ⊞ x)) (t ⊠ (3 ⊙ v ⊞ (3 ⊙ y ⊞ z)))
    spread t p v x y z h = product_same t (3 ⊙ v ⊞ x) (3 ⊙ v ⊞ (3 ⊙ y ⊞ z)) (under v x (3 ⊙ y ⊞ z) h)
      where
        under : (v x w : D) → Same x w → Same (3 ⊙ v ⊞ x) (3 ⊙ v ⊞ w)
        under v x w h = omega arith

    outer : (t v y z : D) → Same (t ⊠ (3 ⊙ v ⊞ (3 ⊙ y ⊞ z))) (3 ⊙ (t ⊠ v) ⊞ 3 ⊙ (t ⊠ y) ⊞ t ⊠ z)
    outer t v y z = omega arith

    gather : (p q m w b c b' c' : D) → Same q m → Same m (3 ⊙ w ⊞ 3 ⊙ b ⊞ c) → Same b b' → Same c c'
        → Same (p ⊞ q) (p ⊞ 3 ⊙ w ⊞ 3 ⊙ b' ⊞ c')
    gather p q m w b c b' c' h k f g = omega arith

    place : (t j p v a : D)
        → Same (p ⊞ t ⊠ (3 ⊙ v ⊞ t ⊠ (3 ⊙ a ⊞ t ⊠ j))) (p ⊞ 3 ⊙ (t ⊠ v) ⊞ 3 ⊙ (t ⊠ t ⊠ a) ⊞ t ⊠ t ⊠ t ⊠ j)
    place t j p v a =
        gather p (t ⊠ (3 ⊙ v ⊞ t ⊠ (3 ⊙ a ⊞ t ⊠ j))) (t ⊠ (3 ⊙ v ⊞ (3 ⊙ (t ⊠ a) ⊞ t ⊠ t ⊠ j))) (t ⊠ v) (t ⊠ (t ⊠ a))
        (t ⊠ (t ⊠ t ⊠ j)) (t ⊠ t ⊠ a) (t ⊠ t ⊠ t ⊠ j)
        (spread t p v (t ⊠ (3 ⊙ a ⊞ t ⊠ j)) (t ⊠ a) (t ⊠ t ⊠ j) (inner t j a)) (outer t v (t ⊠ a) (t ⊠ t ⊠ j))
        (assoc t t a) (cube t j)

    speed : (t j v a : D) → Same (v ⊞ t ⊠ (2 ⊙ a ⊞ t ⊠ j)) (v ⊞ 2 ⊙ (t ⊠ a) ⊞ t ⊠ t ⊠ j)
    speed t j v a = omega arith

-- ---- finite results have finite operands, all the way down
pub record AllFinite (t j : Float) (n : Node) : Type 0 where
  pub t_finite : Finite t
  pub j_finite : Finite j
  pub p_finite : Finite n.p
  pub v_finite : Finite n.v
  pub a_finite : Finite n.a

pub step-finite : (t j : Float) (n : Node) → Finite (step_of t j n).p → AllFinite t j n
unfolding integrate_of
step-finite t j n h =
    let curve = n.a ⊘ #2 ⊕ t ⊗ j ⊘ #6 in
    let h1 = add-finite n.p (t ⊗ (n.v ⊕ t ⊗ curve)) h in
    let h2 = mul-finite t (n.v ⊕ t ⊗ curve) h1.1 in
    let h3 = add-finite n.v (t ⊗ curve) h2.1 in
    let h4 = add-finite (n.a ⊘ #2) (t ⊗ j ⊘ #6) (mul-finite t curve h3.1).1 in
    let h5 = mul-finite t j (div-finite (t ⊗ j) #6 h4.1) in
    record {
      t_finite = h2.0;
      j_finite = h5.1;
      p_finite = h1.0;
      v_finite = h3.0;
      a_finite = div-finite n.a #2 h4.0;
    }

-- ---- b + t y, in f64s, where y is near Y / L: two roundings, and what y was off
pub step-near : {y : Float} {S L : ℕ} {Y : D} {γ : ℕ} (b t : Float) (R : ℕ) → On unit y S L Y γ → Sized unit b R
    → Sized unit t 8
    → Finite (b ⊕ t ⊗ y) → T (leb (8 * S + 1) (2 ^ 53)) → T (leb γ (2 ^ 53))
    → (e : ℕ) × Near ((L * unit) ⊙ val (b ⊕ t ⊗ y)) ((L * unit) ⊙ val b ⊞ val t ⊠ Y) e
    × (e * 2 ^ 53 ≤ γ * (L * unit * mag t) + (R + 16 * S + 2) * (L * unit * unit))
step-near {y} {S} {L} {Y} {γ} b t R q sb st h c d =
    let k = (add-finite b (t ⊗ y) h).1 in
    let f = (mul-finite t y k).1 in
    let m = on_mul (on st) q unit_52 d c in
    let x = product_off t y 8 S st.held q.about.held unit_52 st.size (q.size f) k in
    let z = sum_forth b (t ⊗ y) sb.held m.about.held h
    (size-sum_in (val b) (val (t ⊗ y)) R (8 * S + 1) unit sb.size (m.size k)) in
    let o = off-sum (off-times (L * unit) z)
    (off_scale (L * unit * unit) (8 * S + 1) (off-times L x) (le_of_eq (regroup (8 * S + 1) L unit))) in
    let w = off_product (val t) (mag t) (val-size t) (q.about.off f) in (
      o.err + w.err,
      joined L unit (val (b ⊕ t ⊗ y)) (val b) (val (t ⊗ y)) (val t) (val y) Y o.err w.err o.near w.near,
      bounded (2 ^ 53) γ R S L unit (mag t) o.err w.err o.bound w.bound,
    )
  where
    regroup : (s L U : ℕ) → s * (L * (U * U)) ≡ s * (L * U * U)
    regroup s L U = omega arith

    joined : (L U : ℕ) (r b m t y Y : D) (e f : ℕ)
        → Near ((L * U) ⊙ r ⊞ L ⊙ (U ⊙ m)) ((L * U) ⊙ (b ⊞ m) ⊞ L ⊙ (t ⊠ y)) e
        → Near (t ⊠ (L ⊙ y)) (t ⊠ Y) f → Near ((L * U) ⊙ r) ((L * U) ⊙ b ⊞ t ⊠ Y) (e + f)
    joined L U r b m t y Y e f h k =
        go ((L * U) ⊙ r) (L ⊙ (U ⊙ m)) ((L * U) ⊙ (b ⊞ m)) ((L * U) ⊙ b) (L ⊙ (t ⊠ y)) (t ⊠ (L ⊙ y)) (t ⊠ Y) e f
        (spread L U b m) (inward L t y) h k
      where
        spread : (L U : ℕ) (b m : D) → Same ((L * U) ⊙ (b ⊞ m)) ((L * U) ⊙ b ⊞ L ⊙ (U ⊙ m))
        spread L U b m = omega arith

        inward : (L : ℕ) (t y : D) → Same (L ⊙ (t ⊠ y)) (t ⊠ (L ⊙ y))
        inward L t y = omega arith

        go : (r m s b u w y : D) (e f : ℕ) → Same s (b ⊞ m) → Same u w → Near (r ⊞ m) (s ⊞ u) e → Near w y f
            → Near r (b ⊞ y) (e + f)
        go r m s b u w y e f p q h k = omega arith

    bounded : (P γ R S L U T e f : ℕ) → e * P ≤ (R + (8 * S + 1) + (8 * S + 1)) * (L * U * U)
        → f * P ≤ γ * (T * (L * U))
        → (e + f) * P ≤ γ * (L * U * T) + (R + 16 * S + 2) * (L * U * U)
    bounded P γ R S L U T e f a b = go P γ R S (L * U) (L * U * U) T e f a b
      where
        go : (P γ R S l N T e f : ℕ) → e * P ≤ (R + (8 * S + 1) + (8 * S + 1)) * N → f * P ≤ γ * (T * l)
            → (e + f) * P ≤ γ * (l * T) + (R + 16 * S + 2) * N
        go P γ R S l N T e f a b = omega arith

-- the same factors, written as `phase` has them
near_at : (K L : ℕ) (r b t x y z : D) (e : ℕ) → K ≡ L → x ≡ y → Near (K ⊙ r) (K ⊙ b ⊞ t ⊠ (x ⊞ z)) e
    → Near (L ⊙ r) (L ⊙ b ⊞ t ⊠ (y ⊞ z)) e
near_at K L r b t x y z e k q h =
    subst (λ (c : ℕ). Near (c ⊙ r) (c ⊙ b ⊞ t ⊠ (y ⊞ z)) e) k
    (subst (λ (c : D). Near (K ⊙ r) (K ⊙ b ⊞ t ⊠ (c ⊞ z)) e) q h)

-- ---- the three results of `integrate`. e times 2 ^ 53 is bounded, in the units of `Moving`
-- the sizes of what is recorded, and those from which a step begins
pub record Sizes (n : Node) : Type 0 where
  pub of_a : Sized unit n.a 521
  pub of_v : Sized unit n.v 4169
  pub of_p : Sized unit n.p 33353

pub record Steady (t j : Float) (n : Node) : Type 0 where
  pub of_t : Sized unit t 8
  pub of_j : Sized unit j 64
  pub of_n : Sizes n

module _ (t j : Float) (n : Node) (z : Steady t j n) where
  pub step_a : Finite (step_of t j n).a
      → (e : ℕ) × Near (per_a ⊙ val (step_of t j n).a) (phase (val t) (val j) (from n)).a e
      × (e * 2 ^ 53 ≤ 1547 * (unit * unit))
  unfolding integrate_of
  step_a h =
      let w = step-near n.a t 521 (on z.of_j) z.of_n.of_a z.of_t h tt tt in (
        w.0,
        subst (λ (c : ℕ). Near (c ⊙ val (n.a ⊕ t ⊗ j)) (c ⊙ val n.a ⊞ val t ⊠ val j) w.0) (one-mul unit) w.1,
        le_trans w.2 (tidy unit (mag t)),
      )
    where
      tidy : (U T : ℕ) → 0 * (1 * U * T) + 1547 * (1 * U * U) ≤ 1547 * (U * U)
      tidy U T = omega arith

  -- t j, in units of 1 / U
  product : On unit (t ⊗ j) 513 unit (val t ⊠ val j) 513
  product = on_is unit (val t ⊠ val j) (on_mul (on z.of_t) (on z.of_j) unit_52 tt tt) (one-mul unit) refl

  pub step_v : Finite (step_of t j n).v
      → (e : ℕ) × Near (per_v ⊙ val (step_of t j n).v) (phase (val t) (val j) (from n)).v e
      × (e * 2 ^ 53 ≤ 2 * (1292 * (unit * unit * mag t) + 16635 * (unit * unit * unit)))
  unfolding integrate_of
  step_v h =
      let half = on_div #2 2 257 514 product val_2 number_2 tt tt tt tt in
      let slope = on_add (on_whole (2 * unit) z.of_n.of_a) half tt in
      let w = step-near n.v t 4169 slope z.of_n.of_v z.of_t h tt tt in (
        w.0,
        near_at (2 * unit * unit) per_v (val (step_of t j n).v) (val n.v) (val t) ((2 * unit) ⊙ val n.a)
            (2 ⊙ (per_a ⊙ val n.a)) (val t ⊠ val j) w.0 (mul_assoc 2 unit unit) (times-times 2 unit (val n.a))
            w.1,
        le_trans w.2 (tidy unit (mag t)),
      )
    where
      tidy : (U T : ℕ)
          → 1292 * (2 * U * U * T) + 16635 * (2 * U * U * U) ≤ 2 * (1292 * (U * U * T) + 16635 * (U * U * U))
      tidy U T = omega arith

  pub step_p : Finite (step_of t j n).p
      → (e : ℕ) × Near (per_p ⊙ val (step_of t j n).p) (phase (val t) (val j) (from n)).p e
      × (e * 2 ^ 53 ≤ 6 * (15987 * (unit * unit * unit * mag t) + 144635 * (unit * unit * unit * unit)))
  unfolding integrate_of
  step_p h =
      let sixth = on_div #6 6 86 172 product val_6 number_6 tt tt tt tt in
      let half = on_div #2 2 261 262 (on z.of_n.of_a) val_2 number_2 tt tt tt tt in
      let thrice = on_is (6 * unit) (3 ⊙ (per_a ⊙ val n.a)) (on_times (3 * unit) half) (sixfold unit)
      (refl_of (times-times 3 unit (val n.a))) in
      let lift = on_mul (on z.of_t) (on_add thrice sixth tt) unit_52 tt tt in
      let slope = on_add (on_whole (1 * (6 * unit) * unit) z.of_n.of_v) lift tt in
      let w = step-near n.p t 33353 slope z.of_n.of_p z.of_t h tt tt in (
        w.0,
        near_at (1 * (6 * unit) * unit * unit) per_p (val (step_of t j n).p) (val n.p) (val t)
            ((1 * (6 * unit) * unit) ⊙ val n.v) (3 ⊙ (per_v ⊙ val n.v))
            (val t ⊠ (3 ⊙ (per_a ⊙ val n.a) ⊞ val t ⊠ val j)) w.0 (cubed unit)
            (ap (λ (c : ℕ). c ⊙ val n.v) (squared unit) ∙ times-times 3 per_v (val n.v)) w.1,
        le_trans w.2 (tidy unit (mag t)),
      )
    where
      cubed : (U : ℕ) → 1 * (6 * U) * U * U ≡ 6 * (U * U * U)
      cubed U = omega arith

      squared : (U : ℕ) → 1 * (6 * U) * U ≡ 3 * (2 * (U * U))
      squared U = omega arith

      sixfold : (U : ℕ) → 3 * U * 2 ≡ 6 * U
      sixfold U = omega arith

      refl_of : {x y : D} → x ≡ y → Same x y
      refl_of {x} e = subst (λ (c : D). Same x c) e refl

      tidy : (U T : ℕ)
          → 15987 * (1 * (6 * U) * U * U * T) + 144635 * (1 * (6 * U) * U * U * U)
          ≤ 6 * (15987 * (U * U * U * T) + 144635 * (U * U * U * U))
      tidy U T = omega arith

-- ---- the exact phase from two states that are near: what is carried over
pub record Beside (s s' : Moving) (a v p : ℕ) : Type 0 where
  pub a_near : Near s.a s'.a a
  pub v_near : Near s.v s'.v v
  pub p_near : Near s.p s'.p p

pub phase-near : (t j : D) (s s' : Moving) (T a v p : ℕ) → Size t T → Beside s s' a v p
    → Beside (phase t j s) (phase t j s') a (v + T * (2 * a)) (p + T * (3 * v + T * (3 * a)))
phase-near t j s s' T a v p h o =
    record {
      a_near = plus s.a s'.a (t ⊠ j) a o.a_near;
      v_near =
          moved s.v s'.v (2 ⊙ s.a ⊞ t ⊠ j) (2 ⊙ s'.a ⊞ t ⊠ j) v (2 * a) o.v_near
          (plus (2 ⊙ s.a) (2 ⊙ s'.a) (t ⊠ j) (2 * a) (near_times 2 s.a s'.a a o.a_near));
      p_near =
          moved s.p s'.p (3 ⊙ s.v ⊞ t ⊠ (3 ⊙ s.a ⊞ t ⊠ j)) (3 ⊙ s'.v ⊞ t ⊠ (3 ⊙ s'.a ⊞ t ⊠ j)) p
          (3 * v + T * (3 * a)) o.p_near
          (moved (3 ⊙ s.v) (3 ⊙ s'.v) (3 ⊙ s.a ⊞ t ⊠ j) (3 ⊙ s'.a ⊞ t ⊠ j) (3 * v) (3 * a)
          (near_times 3 s.v s'.v v o.v_near)
          (plus (3 ⊙ s.a) (3 ⊙ s'.a) (t ⊠ j) (3 * a) (near_times 3 s.a s'.a a o.a_near)));
    }
  where
    plus : (x y z : D) (e : ℕ) → Near x y e → Near (x ⊞ z) (y ⊞ z) e
    plus x y z e h = omega arith

    -- x + t u and y + t w
    moved : (x y u w : D) (e f : ℕ) → Near x y e → Near u w f → Near (x ⊞ t ⊠ u) (y ⊞ t ⊠ w) (e + T * f)
    moved x y u w e f k m = near-sum x y (t ⊠ u) (t ⊠ w) e (T * f) k (product_near t u w T f h m)
