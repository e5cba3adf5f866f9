-- Seven phases: every recorded acceleration, velocity and position is near the exact motion's. Assumes nothing.
use mathlib.Core.Path.{◌≡◌, refl, sym, ap, subst}
use mathlib.Core.Logic.{◌⊎◌, inl, inr}
use Prim.Native.Nat.{ℕ, zero, suc, ◌+◌, ◌*◌, ◌^◌, ◌≤◌, ◌<◌}
use native.Mathlib.Nat.{le-add_right, le_trans, le_of_eq, le_refl, le_of_lt, le_of_suc-le-suc, eq-or-lt_of_le}
use native.Mathlib.Nat.{not-suc-le-zero}
use native.Mathlib.Nat.{zero-lt-suc, mul_comm, mul_assoc, mul_left_comm, mul-add, mul-pos, mul-le-mul_right}
use native.Mathlib.Nat.{mul-le-mul_left, mul-le-mul}
use native.Mathlib.Omega.{arith}
use mathlib.Core.Bool.{false}
use lib.Dec.{T, le→leb}
use lib.Arith.{le-zero}
use lib.Ieee.{Float, binary64, fits}
use lib.Ieee.Fits.{add-fits}
use Rattle.float.specs.Ops.{◌⊕◌, ◌⊗◌, ◌⊘◌, #2, #6}
use Rattle.util.specs.Integrate.{integrate_of}
use Rattle.rounding.specs.Exact.{D, signed, nought, Near, Size, Same, Below, ◌⊞◌, ◌⊠◌, ◌⊙◌}
use Rattle.rounding.specs.Value.{unit, mag, val, Finite}
use Rattle.rounding.specs.Bounds.{Off, Sized}
use Rattle.rounding.specs.Motion.{Moving, phase, motion, lasts, elapsed, per_a, per_v, per_p}
use Rattle.rounding.specs.Step.{Node, from, step_of, Next, Replaced}
use Rattle.rounding.specs.Run.{off_a, off_v, off_p, Recorded, Run}
use Rattle.rounding.proofs.Linear.{near_self, near_trans, size-sum, size-times, size_product, size_weaken}
use Rattle.rounding.proofs.Linear.{size_divide}
use Rattle.rounding.proofs.Unit.{unit-pos}
use Rattle.rounding.proofs.Compare.{val-size}
use Rattle.rounding.proofs.Limits.{val-above}
use Rattle.rounding.proofs.Errors.{off-size}
use Rattle.rounding.proofs.Phase.{AllFinite, step-finite, Sizes, Steady, step_a, step_v, step_p, Beside}
use Rattle.rounding.proofs.Phase.{phase-near}

-- ---- what is carried from node to node
-- the float x is recorded for the exact X, of size s at most, K times as large; 2 ^ 53 times its error is b at most
record Kept (K : ℕ) (x : Float) (X : D) (b s : ℕ) : Type 0 where
  held : lib.Dec.T (fits binary64 x)
  err : ℕ
  near : Near (K ⊙ val x) X err
  bound : err * 2 ^ 53 ≤ b
  size : Size X s

-- the errors i phases and T units of time after the start, and the exact sizes
abbrev err_a : ℕ → ℕ → ℕ
err_a r i = (1547 * i + r) * (unit * unit)

abbrev err_v : ℕ → ℕ → ℕ → ℕ
err_v r i T = 2 * ((off_a r + 1292) * (unit * unit * T) + 16635 * (i * (unit * unit * unit)))

abbrev err_p : ℕ → ℕ → ℕ → ℕ
err_p r i T =
    6 * ((off_v r + 4 * off_a r + 15987) * (unit * unit * unit * T) + 144635 * (i * (unit * unit * unit * unit)))

abbrev size_a : ℕ → ℕ → ℕ
size_a U T = 8 * (U * U) + 64 * (U * T)

abbrev size_v : ℕ → ℕ → ℕ
size_v U T = 2 * (8 * (U * U * U) + 520 * (U * U * T))

abbrev size_p : ℕ → ℕ → ℕ
size_p U T = 6 * (8 * (U * U * U * U) + 4168 * (U * U * U * T))

record Track (r i T : ℕ) (n : Node) (m : Moving) : Type 0 where
  a : Kept per_a n.a m.a (err_a r i) (size_a unit T)
  v : Kept per_v n.v m.v (err_v r i T) (size_v unit T)
  p : Kept per_p n.p m.p (err_p r i T) (size_p unit T)

-- ---- the sizes of the exact states: x + t y, where y is c at most
grows : (x t y : D) (τ s c : ℕ) → Size x s → Size t τ → Size y c → Size (x ⊞ t ⊠ y) (s + τ * c)
grows x t y τ s c a h k = size-sum x (t ⊠ y) s (τ * c) a (size_product t y τ c h k)

module _ (t j : D) (U T τ : ℕ) (e : T + τ ≤ 8 * U) (h : Size t τ) (k : Size j (64 * U)) (m : Moving)
    (a : Size m.a (size_a U T)) (v : Size m.v (size_v U T)) (p : Size m.p (size_p U T)) where
  bigger_a : Size (phase t j m).a (size_a U (T + τ))
  bigger_a =
      size_weaken (phase t j m).a (size_a U T + τ * (64 * U)) (size_a U (T + τ))
      (grows m.a t j τ (size_a U T) (64 * U) a h k) (tidy U T τ)
    where
      tidy : (U T τ : ℕ) → size_a U T + τ * (64 * U) ≤ size_a U (T + τ)
      tidy U T τ = omega arith

  bigger_v : Size (phase t j m).v (size_v U (T + τ))
  bigger_v =
      size_weaken (phase t j m).v (size_v U T + τ * (1040 * (U * U))) (size_v U (T + τ))
      (grows m.v t (2 ⊙ m.a ⊞ t ⊠ j) τ (size_v U T) (1040 * (U * U)) v h
      (size_weaken (2 ⊙ m.a ⊞ t ⊠ j) (2 * size_a U T + τ * (64 * U)) (1040 * (U * U))
      (grows (2 ⊙ m.a) t j τ (2 * size_a U T) (64 * U) (size-times 2 m.a (size_a U T) a) h k) (within U T τ e)))
      (tidy U T τ)
    where
      within : (U T τ : ℕ) → T + τ ≤ 8 * U → 2 * size_a U T + τ * (64 * U) ≤ 1040 * (U * U)
      within U T τ e = omega (arith, mul-le-mul_left U e)

      tidy : (U T τ : ℕ) → size_v U T + τ * (1040 * (U * U)) ≤ size_v U (T + τ)
      tidy U T τ = omega arith

  bigger_p : Size (phase t j m).p (size_p U (T + τ))
  bigger_p =
      let inner = 3 ⊙ m.a ⊞ t ⊠ j in
      let outer = 3 ⊙ m.v ⊞ t ⊠ inner in
      size_weaken (phase t j m).p (size_p U T + τ * (25008 * (U * U * U))) (size_p U (T + τ))
      (grows m.p t outer τ (size_p U T) (25008 * (U * U * U)) p h
      (size_weaken outer (3 * size_v U T + τ * (1560 * (U * U))) (25008 * (U * U * U))
      (grows (3 ⊙ m.v) t inner τ (3 * size_v U T) (1560 * (U * U)) (size-times 3 m.v (size_v U T) v) h
      (size_weaken inner (3 * size_a U T + τ * (64 * U)) (1560 * (U * U))
      (grows (3 ⊙ m.a) t j τ (3 * size_a U T) (64 * U) (size-times 3 m.a (size_a U T) a) h k) (within U T τ e)))
      (amid U T τ e)))
      (tidy U T τ)
    where
      within : (U T τ : ℕ) → T + τ ≤ 8 * U → 3 * size_a U T + τ * (64 * U) ≤ 1560 * (U * U)
      within U T τ e = omega (arith, mul-le-mul_left U e)

      amid : (U T τ : ℕ) → T + τ ≤ 8 * U → 3 * size_v U T + τ * (1560 * (U * U)) ≤ 25008 * (U * U * U)
      amid U T τ e = omega (arith, mul-le-mul_left (U * U) e)

      tidy : (U T τ : ℕ) → size_p U T + τ * (25008 * (U * U * U)) ≤ size_p U (T + τ)
      tidy U T τ = omega arith

-- ---- the errors: of one phase from the same state (n), and what is carried over
more_a : (U P i r e n : ℕ) → e * P ≤ (1547 * i + r) * (U * U) → n * P ≤ 1547 * (U * U)
    → (n + e) * P ≤ (1547 * suc i + r) * (U * U)
more_a U P i r e n a b = go (U * U) P i r e n a b
  where
    go : (x P i r e n : ℕ) → e * P ≤ (1547 * i + r) * x → n * P ≤ 1547 * x → (n + e) * P ≤ (1547 * suc i + r) * x
    go x P i r e n a b = omega arith

more_v : (U P T τ i α a v n : ℕ) → a * P ≤ α * (U * U)
    → v * P ≤ 2 * ((α + 1292) * (U * U * T) + 16635 * (i * (U * U * U)))
    → n * P ≤ 2 * (1292 * (U * U * τ) + 16635 * (U * U * U))
    → (n + (v + τ * (2 * a))) * P ≤ 2 * ((α + 1292) * (U * U * (T + τ)) + 16635 * (suc i * (U * U * U)))
more_v U P T τ i α a v n ba bv bn =
    subst (λ (z : ℕ). (n + (v + τ * (2 * a))) * P ≤ 2 * ((α + 1292) * z + 16635 * (suc i * (U * U * U))))
    (sym (mul-add (U * U) T τ))
    (go (U * U * T) (U * U * τ) (U * U * U) P τ i α a v n
    (le_trans (mul-le-mul_left τ ba) (le_of_eq (simp (mul_assoc, mul_comm, mul_left_comm)))) bv bn)
  where
    go : (w x y P τ i α a v n : ℕ) → τ * (a * P) ≤ α * x → v * P ≤ 2 * ((α + 1292) * w + 16635 * (i * y))
        → n * P ≤ 2 * (1292 * x + 16635 * y)
        → (n + (v + τ * (2 * a))) * P ≤ 2 * ((α + 1292) * (w + x) + 16635 * (suc i * y))
    go w x y P τ i α a v n ba bv bn = omega arith

-- v's error at any time up to 8 seconds
most_v : (U P T i α v : ℕ) → T ≤ 8 * U → i ≤ 7 → v * P ≤ 2 * ((α + 1292) * (U * U * T) + 16635 * (i * (U * U * U)))
    → v * P ≤ (8 * (α + 1292) + 116445) * (2 * (U * U * U))
most_v U P T i α v t l b =
    go (U * U * T) (U * U * U) P i α v
    (le_trans (mul-le-mul_left (α + 1292) (mul-le-mul_left (U * U) t))
    (le_of_eq (simp (mul_assoc, mul_comm, mul_left_comm)))) (mul-le-mul_right (U * U * U) l) b
  where
    go : (w y P i α v : ℕ) → (α + 1292) * w ≤ 8 * ((α + 1292) * y) → i * y ≤ 7 * y
        → v * P ≤ 2 * ((α + 1292) * w + 16635 * (i * y)) → v * P ≤ (8 * (α + 1292) + 116445) * (2 * y)
    go w y P i α v a b c = omega arith

most_p : (U P T i ω p : ℕ) → T ≤ 8 * U → i ≤ 7 → p * P ≤ 6 * (ω * (U * U * U * T) + 144635 * (i * (U * U * U * U)))
    → p * P ≤ (8 * ω + 1012445) * (6 * (U * U * U * U))
most_p U P T i ω p t l b =
    go (U * U * U * T) (U * U * U * U) P i ω p
    (le_trans (mul-le-mul_left ω (mul-le-mul_left (U * U * U) t))
    (le_of_eq (simp (mul_assoc, mul_comm, mul_left_comm)))) (mul-le-mul_right (U * U * U * U) l) b
  where
    go : (w y P i ω p : ℕ) → ω * w ≤ 8 * (ω * y) → i * y ≤ 7 * y → p * P ≤ 6 * (ω * w + 144635 * (i * y))
        → p * P ≤ (8 * ω + 1012445) * (6 * y)
    go w y P i ω p a b c = omega arith

most_a : (U P i r a : ℕ) → i ≤ 7 → a * P ≤ (1547 * i + r) * (U * U) → a * P ≤ (10829 + r) * (U * U)
most_a U P i r a l b = le_trans b (mul-le-mul_right (U * U) (go i r l))
  where
    go : (i r : ℕ) → i ≤ 7 → 1547 * i + r ≤ 10829 + r
    go i r l = omega arith

more_p : (U P T τ i α ν a v p n : ℕ) → τ ≤ 8 * U → a * P ≤ α * (U * U) → v * P ≤ ν * (2 * (U * U * U))
    → p * P ≤ 6 * ((ν + 4 * α + 15987) * (U * U * U * T) + 144635 * (i * (U * U * U * U)))
    → n * P ≤ 6 * (15987 * (U * U * U * τ) + 144635 * (U * U * U * U))
    → (n + (p + τ * (3 * v + τ * (3 * a)))) * P
    ≤ 6 * ((ν + 4 * α + 15987) * (U * U * U * (T + τ)) + 144635 * (suc i * (U * U * U * U)))
more_p U P T τ i α ν a v p n l ba bv bp bn =
    subst
    (λ (z : ℕ). (n + (p + τ * (3 * v + τ * (3 * a)))) * P
    ≤ 6 * ((ν + 4 * α + 15987) * z + 144635 * (suc i * (U * U * U * U)))) (sym (mul-add (U * U * U) T τ))
    (le_trans (le_of_eq (spread n p τ v a P))
    (go (U * U * U * T) (U * U * U * τ) (U * U * U * U) (n * P) (p * P) (τ * (v * P)) (τ * τ * (a * P)) i α ν
    (le_trans (mul-le-mul_left τ bv) (le_of_eq (simp (mul_assoc, mul_comm, mul_left_comm))))
    (le_trans (mul-le-mul (mul-le-mul_left τ l) ba) (le_of_eq (simp (mul_assoc, mul_comm, mul_left_comm)))) bp bn))
  where
    spread : (n p τ v a P : ℕ)
        → (n + (p + τ * (3 * v + τ * (3 * a)))) * P ≡ n * P + (p * P + (3 * (τ * (v * P)) + 3 * (τ * τ * (a * P))))
    spread n p τ v a P = omega arith

    go : (w x y n p v a i α ν : ℕ) → v ≤ 2 * (ν * x) → a ≤ 8 * (α * x)
        → p ≤ 6 * ((ν + 4 * α + 15987) * w + 144635 * (i * y)) → n ≤ 6 * (15987 * x + 144635 * y)
        → n + (p + (3 * v + 3 * a)) ≤ 6 * ((ν + 4 * α + 15987) * (w + x) + 144635 * (suc i * y))
    go w x y n p v a i α ν hv ha hp hn = omega arith

-- ---- at a node: the errors at their largest, and the sizes of the recorded numbers
-- K is not 0, the exact number is S at most, and its error one at most
kept-size : {K : ℕ} {x : Float} {X : D} {b s : ℕ} (S c : ℕ) → Kept K x X b s → Finite x → 0 < K
    → Off (K * unit) (K ⊙ val x) X c → c ≤ 2 ^ 53 → s ≤ S * (K * unit) → Sized unit x (S + 1)
kept-size {K} {x} {X} {b} {s} S c k f Z o l h =
    record {
      held = k.held;
      finite = f;
      size =
          size_divide K (val x) ((S + 1) * unit) Z
          (subst (λ (z : ℕ). Size (K ⊙ val x) z) (mul_left_comm (S + 1) K unit)
          (off-size S o (le→leb c (2 ^ 53) l) (size_weaken X s (S * (K * unit)) k.size h)));
    }

module _ (r i T : ℕ) (s : Node) (m : Moving) (R : r ≤ 2 ^ 40) (I : i ≤ 7) (E : T ≤ 8 * unit) (k : Track r i T s m) where
  few : (r : ℕ) → r ≤ 2 ^ 40 → (off_a r ≤ 2 ^ 53) × (off_v r ≤ 2 ^ 53) × (off_p r ≤ 2 ^ 53)
  few r h = omega arith

  worst_a : k.a.err * 2 ^ 53 ≤ off_a r * (unit * unit)
  worst_a = most_a unit (2 ^ 53) i r k.a.err I k.a.bound

  worst_v : k.v.err * 2 ^ 53 ≤ off_v r * (2 * (unit * unit * unit))
  worst_v = most_v unit (2 ^ 53) T i (off_a r) k.v.err E I k.v.bound

  worst_p : k.p.err * 2 ^ 53 ≤ off_p r * (6 * (unit * unit * unit * unit))
  worst_p = most_p unit (2 ^ 53) T i (off_v r + 4 * off_a r + 15987) k.p.err E I k.p.bound

  worst : Recorded r s m
  worst =
      record {
        a = record { err = k.a.err; near = k.a.near; bound = worst_a };
        v = record {
          err = k.v.err;
          near = k.v.near;
          bound = le_trans worst_v (le_of_eq (ap (λ (z : ℕ). off_v r * z) (sym (mul_assoc 2 (unit * unit) unit))));
        };
        p = record {
          err = k.p.err;
          near = k.p.near;
          bound =
              le_trans worst_p (le_of_eq (ap (λ (z : ℕ). off_p r * z) (sym (mul_assoc 6 (unit * unit * unit) unit))));
        };
      }

  -- K times the sizes, at any time up to 8 seconds
  within_a : (U T : ℕ) → T ≤ 8 * U → size_a U T ≤ 520 * (U * U)
  within_a U T h = omega (arith, mul-le-mul_left U h)

  within_v : (U T : ℕ) → T ≤ 8 * U → size_v U T ≤ 4168 * (2 * (U * U) * U)
  within_v U T h = omega (arith, mul-le-mul_left (U * U) h)

  within_p : (U T : ℕ) → T ≤ 8 * U → size_p U T ≤ 33352 * (6 * (U * U * U) * U)
  within_p U T h = omega (arith, mul-le-mul_left (U * U * U) h)

  sizes : Finite s.a → Finite s.v → Finite s.p → Sizes s
  sizes fa fv fp =
      let U² = mul-pos unit-pos unit-pos in
      let U³ = mul-pos U² unit-pos in
      record {
        of_a = kept-size 520 (off_a r) k.a fa unit-pos worst.a (few r R).0 (within_a unit T E);
        of_v =
            kept-size 4168 (off_v r) k.v fv (mul-pos (zero-lt-suc 1) U²) worst.v (few r R).1 (within_v unit T E);
        of_p =
            kept-size 33352 (off_p r) k.p fp (mul-pos (zero-lt-suc 5) U³) worst.p (few r R).2 (within_p unit T E);
      }

-- ---- one phase
step_fits : (t j : Float) (n : Node)
    → lib.Dec.T (fits binary64 (step_of t j n).a) × lib.Dec.T (fits binary64 (step_of t j n).v)
    × lib.Dec.T (fits binary64 (step_of t j n).p)
unfolding integrate_of
step_fits t j n = (
  add-fits binary64 n.a (t ⊗ j),
  add-fits binary64 n.v (t ⊗ (n.a ⊕ t ⊗ j ⊘ #2)),
  add-fits binary64 n.p (t ⊗ (n.v ⊕ t ⊗ (n.a ⊘ #2 ⊕ t ⊗ j ⊘ #6))),
)

module _ (r i T : ℕ) (t j : Float) (s e : Node) (m : Moving) (R : r ≤ 2 ^ 40) (I : i < 7) (E : T + mag t ≤ 8 * unit)
    (ft : lib.Dec.T (fits binary64 t)) (fj : lib.Dec.T (fits binary64 j)) (sj : Size (val j) (64 * unit))
    (k : Track r i T s m) (all : AllFinite t j s) where
  bounds : (x y z : ℕ) → x + y ≤ z → (x ≤ z) × (y ≤ z)
  bounds x y z h = omega arith

  before : T ≤ 8 * unit
  before = (bounds T (mag t) (8 * unit) E).0

  short : mag t ≤ 8 * unit
  short = (bounds T (mag t) (8 * unit) E).1

  steady : Steady t j s
  steady =
      record {
        of_t = record {
          held = ft;
          finite = all.t_finite;
          size = size_weaken (val t) (mag t) (8 * unit) (val-size t) short;
        };
        of_j = record { held = fj; finite = all.j_finite; size = sj };
        of_n = sizes r i T s m R (le_of_lt I) before k all.a_finite all.v_finite all.p_finite;
      }

  abbrev moved : Moving
  moved = phase (val t) (val j) m

  carried : Beside (phase (val t) (val j) (from s)) moved k.a.err (k.v.err + mag t * (2 * k.a.err))
      (k.p.err + mag t * (3 * k.v.err + mag t * (3 * k.a.err)))
  carried =
      phase-near (val t) (val j) (from s) m (mag t) k.a.err k.v.err k.p.err (val-size t)
      (record { a_near = k.a.near; v_near = k.v.near; p_near = k.p.near })

  -- what one step is off, and what is carried over
  stepped : (K : ℕ) (x y : Float) (X Z : D) (b c s f : ℕ) → y ≡ x → lib.Dec.T (fits binary64 x)
      → (w : (g : ℕ) × Near (K ⊙ val x) Z g × (g * 2 ^ 53 ≤ b)) → Near Z X f
      → (w.0 + f) * 2 ^ 53 ≤ c → Size X s → Kept K y X c s
  stepped K x y X Z b c s f q h w n l z =
      subst (λ (u : Float). Kept K u X c s) (sym q)
      (record { held = h; err = w.0 + f; near = near_trans (K ⊙ val x) Z X w.0 f w.1 n; bound = l; size = z })

  -- the new acceleration, stepped or replaced
  new_a : (e.a ≡ (step_of t j s).a) ⊎ Replaced r e.a moved.a → Finite e.a
      → Kept per_a e.a moved.a (err_a r (suc i)) (size_a unit (T + mag t))
  new_a (inl q) f =
      let w = step_a t j s steady (subst (λ (z : Float). Finite z) q f) in
      stepped per_a (step_of t j s).a e.a moved.a (phase (val t) (val j) (from s)).a (1547 * (unit * unit))
      (err_a r (suc i)) (size_a unit (T + mag t)) k.a.err q (step_fits t j s).0 w carried.a_near
      (more_a unit (2 ^ 53) i r k.a.err w.0 k.a.bound w.2) bigger
    where
      bigger : Size moved.a (size_a unit (T + mag t))
      bigger = bigger_a (val t) (val j) unit T (mag t) E (val-size t) sj m k.a.size k.v.size k.p.size
  new_a (inr q) f =
      record {
        held = q.held;
        err = q.err;
        near = q.near;
        bound = le_trans q.bound (mul-le-mul_right (unit * unit) (above i r));
        size = bigger_a (val t) (val j) unit T (mag t) E (val-size t) sj m k.a.size k.v.size k.p.size;
      }
    where
      above : (i r : ℕ) → r ≤ 1547 * suc i + r
      above i r = omega arith

  step : Next r t j s e moved → Finite e.a → Finite e.v → Finite e.p → Track r (suc i) (T + mag t) e moved
  step n fa fv fp =
      let wv = step_v t j s steady (subst (λ (z : Float). Finite z) n.velocity fv) in
      let wp = step_p t j s steady (subst (λ (z : Float). Finite z) n.position fp) in
      let ba = worst_a r i T s m R (le_of_lt I) before k in
      let bv = worst_v r i T s m R (le_of_lt I) before k in
      record {
        a = new_a n.acceleration fa;
        v =
            stepped per_v (step_of t j s).v e.v moved.v (phase (val t) (val j) (from s)).v
            (2 * (1292 * (unit * unit * mag t) + 16635 * (unit * unit * unit))) (err_v r (suc i) (T + mag t))
            (size_v unit (T + mag t)) (k.v.err + mag t * (2 * k.a.err)) n.velocity (step_fits t j s).1 wv
            carried.v_near
            (more_v unit (2 ^ 53) T (mag t) i (off_a r) k.a.err k.v.err wv.0 ba k.v.bound wv.2)
            (bigger_v (val t) (val j) unit T (mag t) E (val-size t) sj m k.a.size k.v.size k.p.size);
        p =
            stepped per_p (step_of t j s).p e.p moved.p (phase (val t) (val j) (from s)).p
            (6 * (15987 * (unit * unit * unit * mag t) + 144635 * (unit * unit * unit * unit)))
            (err_p r (suc i) (T + mag t)) (size_p unit (T + mag t))
            (k.p.err + mag t * (3 * k.v.err + mag t * (3 * k.a.err))) n.position (step_fits t j s).2 wp
            carried.p_near
            (more_p unit (2 ^ 53) T (mag t) i (off_a r) (off_v r) k.a.err k.v.err k.p.err wp.0 short ba bv
            k.p.bound wp.2)
            (bigger_p (val t) (val j) unit T (mag t) E (val-size t) sj m k.a.size k.v.size k.p.size);
      }

-- ---- the start
begun : (K : ℕ) (x : Float) (b s : ℕ) → lib.Dec.T (fits binary64 x) → Size (val x) (8 * unit) → K * (8 * unit) ≤ s
    → Kept K x (K ⊙ val x) b s
begun K x b s f z h =
    record {
      held = f;
      err = 0;
      near = near_self (K ⊙ val x);
      bound = none (2 ^ 53) b;
      size = size_weaken (K ⊙ val x) (K * (8 * unit)) s (size-times K (val x) (8 * unit) z) h;
    }
  where
    none : (P z : ℕ) → 0 * P ≤ z
    none P z = omega arith

start : {r : ℕ} {t j : ℕ → Float} {n : ℕ → Node} → Run r t j n → Track r 0 0 (n 0) (from (n 0))
start {r} {n = n} z =
    record {
      a = begun per_a (n 0).a (err_a r 0) (size_a unit 0) z.held_a z.size_a_lem (within_a unit);
      v = begun per_v (n 0).v (err_v r 0 0) (size_v unit 0) z.held_v z.size_v_lem (within_v unit);
      p = begun per_p (n 0).p (err_p r 0 0) (size_p unit 0) z.held_p z.size_p_lem (within_p unit);
    }
  where
    within_a : (U : ℕ) → U * (8 * U) ≤ size_a U 0
    within_a U = omega arith

    within_v : (U : ℕ) → 2 * (U * U) * (8 * U) ≤ size_v U 0
    within_v U = omega arith

    within_p : (U : ℕ) → 6 * (U * U * U) * (8 * U) ≤ size_p U 0
    within_p U = omega arith

-- ---- finite all the way down: a step's position is finite only if all that it came from is
module _ (t j : ℕ → Float) (n : ℕ → Node) where
  pub all_finite_lem : (k : ℕ) → ((i : ℕ) → i < k → (n (suc i)).p ≡ (step_of (t i) (j i) (n i)).p) → Finite (n k).p
      → (i : ℕ) → i < k → AllFinite (t i) (j i) (n i)
  all_finite_lem zero h f i l = absurd (not-suc-le-zero l)
  all_finite_lem (suc k) h f i l =
      elim (eq-or-lt_of_le (le_of_suc-le-suc l)) [
        | inl e ↦ subst (λ (z : ℕ). AllFinite (t z) (j z) (n z)) (sym e) here
        | inr c ↦ all_finite_lem k (λ (x : ℕ) (y : x < k). h x (le_trans y (below k))) here.p_finite i c
      ]
    where
      below : (z : ℕ) → z ≤ suc z
      below z = omega arith

      here : AllFinite (t k) (j k) (n k)
      here = step-finite (t k) (j k) (n k) (subst (λ (z : Float). Finite z) (h k (le_refl (suc k))) f)

-- ---- the run
elapsed_mono : (t : ℕ → Float) (i k : ℕ) → i ≤ k → elapsed t i ≤ elapsed t k
unfolding elapsed
elapsed_mono t i zero h = le_of_eq (ap (λ (z : ℕ). elapsed t z) (le-zero h))
elapsed_mono t i (suc k) h = pick (eq-or-lt_of_le h) (elapsed_mono t i k)
  where
    pick : (i ≡ suc k) ⊎ (i < suc k) → (i ≤ k → elapsed t i ≤ elapsed t k) → elapsed t i ≤ elapsed t k + mag (t k)
    pick (inl e) g = le_of_eq (ap (λ (z : ℕ). elapsed t z) e)
    pick (inr q) g = le_trans (g (le_of_suc-le-suc q)) (le-add_right (elapsed t k) (mag (t k)))

-- the exact sum of times that are not negative
pub lasts-elapsed : (t : ℕ → Float) (k : ℕ) → ((i : ℕ) → i < k → Below nought (val (t i)))
    → Same (lasts t k) (signed false (elapsed t k))
unfolding lasts elapsed
lasts-elapsed t zero h = refl
lasts-elapsed t (suc k) h =
    joined (lasts t k) (val (t k)) (elapsed t k) (mag (t k))
    (lasts-elapsed t k (λ (i : ℕ) (l : i < k). h i (longer i k l))) (val-above (t k) (h k (le_refl (suc k))))
  where
    longer : (i k : ℕ) → i < k → i < suc k
    longer i k l = omega arith

    sums : (x : D) (e f : ℕ) → Same x (signed false e) → Same (x ⊞ signed false f) (signed false (e + f))
    sums x e f h = omega arith

    joined : (x y : D) (e f : ℕ) → Same x (signed false e) → y ≡ signed false f → Same (x ⊞ y) (signed false (e + f))
    joined x y e f h q = subst (λ (w : D). Same (x ⊞ w) (signed false (e + f))) (sym q) (sums x e f h)

module _ {r : ℕ} {t j : ℕ → Float} {n : ℕ → Node} (z : Run r t j n) where
  -- every time, jerk and recorded number before the end is finite
  run-finite : (i : ℕ) → i < 7 → AllFinite (t i) (j i) (n i)
  run-finite = all_finite_lem t j n 7 (λ (i : ℕ) (l : i < 7). (z.steps i l).position) z.last_p

  node-finite : (i : ℕ) → i ≤ 7 → Finite (n i).a × Finite (n i).v × Finite (n i).p
  node-finite i l =
      elim (eq-or-lt_of_le l) [
        | inl e ↦ subst (λ (k : ℕ). Finite (n k).a × Finite (n k).v × Finite (n k).p) (sym e)
            (z.last_a, z.last_v, z.last_p)
        | inr q ↦ ((run-finite i q).a_finite, (run-finite i q).v_finite, (run-finite i q).p_finite)
      ]

  in_time : (i : ℕ) → i ≤ 7 → elapsed t i ≤ 8 * unit
  in_time i l = le_trans (elapsed_mono t i 7 l) z.total

  track : (i : ℕ) → i ≤ 7 → Track r i (elapsed t i) (n i) (motion t j (from (n 0)) i)
  unfolding motion elapsed
  track zero l = start z
  track (suc i) l =
      let f = node-finite (suc i) l in
      step r i (elapsed t i) (t i) (j i) (n i) (n (suc i)) (motion t j (from (n 0)) i) z.small l (in_time (suc i) l)
      (z.held_t i l) (z.held_j i l) (z.jerks i l)
      (track i (le_of_lt l)) (run-finite i l) (z.steps i l) f.0 f.1 f.2

  pub recorded_sizes : (i : ℕ) → i ≤ 7 → Sizes (n i)
  recorded_sizes i l =
      let f = node-finite i l in
      sizes r i (elapsed t i) (n i) (motion t j (from (n 0)) i) z.small l (in_time i l) (track i l) f.0 f.1
      f.2

  -- every recorded number is near the exact motion's
  pub recorded : (i : ℕ) → i ≤ 7 → Recorded r (n i) (motion t j (from (n 0)) i)
  recorded i l = worst r i (elapsed t i) (n i) (motion t j (from (n 0)) i) z.small l (in_time i l) (track i l)
