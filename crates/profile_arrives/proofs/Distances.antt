-- A test of `check` on a recorded number as a distance of the exact one. Assumes nothing.
-- With the rounding error of that number; and the wider distance from the narrower.
use mathlib.Core.Path.{◌≡◌, sym, ap, ◌∙◌}
use mathlib.Core.Bool.{false}
use Prim.Native.Nat.{ℕ, ◌+◌, ◌*◌, ◌^◌, ◌≤◌, ◌<◌}
use native.Mathlib.Nat.{le_trans, le_of_eq, mul_comm, mul_assoc, mul-add, mul-pos, mul-le-mul_left, mul-le-mul_right}
use native.Mathlib.Nat.{le_of_mul-le-mul_right, le_of_mul-le-mul_left}
use native.Mathlib.Omega.{arith}
use lib.Dec.{T, leb, leb→le, lit≤}
use lib.Pow.{pow_pos}
use lib.Ieee.{Float, binary64, fits}
use Rattle.float.specs.Ops.{◌⊖◌, #1e-8, #1e-10, #1e-12}
use Rattle.rounding.specs.Exact.{D, signed, Near, Size, Below, ◌⊞◌, ◌⊙◌}
use Rattle.rounding.specs.Value.{unit, mag, val, Finite}
use Rattle.rounding.specs.Bounds.{Off}
use Rattle.rounding.proofs.Linear.{near-sym, near_times, near_trans}
use Rattle.rounding.proofs.Limits.{difference_near}
use Rattle.rounding.proofs.Literals.{mag_1e-8, mag_1e-10, mag_1e-12}
use Rattle.profile.specs.declared.Profile.{Profile}
use Rattle.rounding.specs.Motion.{per_a, per_v, per_p}
use Rattle.rounding.specs.Run.{off_a, off_v, off_p}
use Rattle.profile_arrives.specs.Arrives.{Fraction, tolerance, At, Between, Distances, Arrives, demanded, proved}
use Rattle.profile_arrives.specs.Reply.{after, upper, lower}

-- ---- the tolerances of `check` are 1e-8, 1e-10 and 1e-12 within 2 ^ -53 of themselves
fine : (M m P q W U : ℕ) → 0 < P → M * P ≡ m * U → q * W * m ≤ (W + 1) * P → M * (q * W) ≤ (W + 1) * U
fine M m P q W U Z e h =
    le_of_mul-le-mul_right
    (le_trans (le_of_eq (swap M (q * W) P))
    (le_trans (le_of_eq (ap (λ (z : ℕ). q * W * z) e))
    (le_trans (le_of_eq (sym (mul_assoc (q * W) m U)))
    (le_trans (mul-le-mul_right U h) (le_of_eq (turn (W + 1) P U)))))) Z
  where
    swap : (M k P : ℕ) → M * k * P ≡ k * (M * P)
    swap M k P = omega arith

    turn : (w P U : ℕ) → w * P * U ≡ w * U * P
    turn w P U = omega arith

pub fine_1e-8 : mag #1e-8 * (100_000_000 * 2 ^ 53) ≤ (2 ^ 53 + 1) * unit
fine_1e-8 = fine (mag #1e-8) 3022314549036573 (2 ^ 78) 100_000_000 (2 ^ 53) unit (pow_pos 78) mag_1e-8 (lit≤ tt)

pub fine_1e-10 : mag #1e-10 * (10_000_000_000 * 2 ^ 53) ≤ (2 ^ 53 + 1) * unit
fine_1e-10 = fine (mag #1e-10) 7737125245533627 (2 ^ 86) 10_000_000_000 (2 ^ 53) unit (pow_pos 86) mag_1e-10 (lit≤ tt)

pub fine_1e-12 : mag #1e-12 * (1_000_000_000_000 * 2 ^ 53) ≤ (2 ^ 53 + 1) * unit
fine_1e-12 =
    fine (mag #1e-12) 4951760157141521 (2 ^ 92) 1_000_000_000_000 (2 ^ 53) unit (pow_pos 92) mag_1e-12 (lit≤ tt)

-- a tolerance is one at most
pub at_most_one : (M q W U : ℕ) → 2 ≤ q → 1 ≤ W → M * (q * W) ≤ (W + 1) * U → M ≤ U
at_most_one M q W U a b h =
    le_of_mul-le-mul_right
    (le_trans (mul-le-mul_left M (mul-le-mul_right W a))
    (le_trans h (le_trans (mul-le-mul_right U (twice W b)) (le_of_eq (mul_comm (2 * W) U))))) (mul-pos (lit≤ tt) b)
  where
    twice : (W : ℕ) → 1 ≤ W → W + 1 ≤ 2 * W
    twice W h = omega arith

-- ---- three errors together: f of c, e of d times 2 ^ -53, and a tolerance M of 1 / q
together : (K U W M q c d C e f : ℕ) → 1 ≤ q → M * (q * W) ≤ (W + 1) * U → e * W ≤ d * U → f * W ≤ c * (K * U)
    → c + d + 1 ≤ C → (f + K * (M + e)) * (q * W) ≤ (W + q * C) * (K * U)
together K U W M q c d C e f Z m a b l =
    le_trans (le_of_eq (ap (λ (z : ℕ). (f + z) * (q * W)) (mul-add K M e) ∙ spread (K * M) (K * e) f q W))
    (le_trans
    (sums (K * U) (q * (f * W)) (K * M * (q * W)) (q * (K * e * W)) q c d W (mul-le-mul_left q b)
    (first K M (q * W) (W + 1) U m) (mul-le-mul_left q (first K e W d U a)))
    (mul-le-mul_right (K * U) (last W q c d C Z (mul-le-mul_left q l))))
  where
    spread : (x y f q W : ℕ) → (f + (x + y)) * (q * W) ≡ q * (f * W) + x * (q * W) + q * (y * W)
    spread x y f q W = omega arith

    first : (K M k w U : ℕ) → M * k ≤ w * U → K * M * k ≤ w * (K * U)
    first K M k w U h = le_trans (le_of_eq (mul_assoc K M k)) (le_trans (mul-le-mul_left K h) (le_of_eq (turn K w U)))
      where
        turn : (K w U : ℕ) → K * (w * U) ≡ w * (K * U)
        turn K w U = omega arith

    sums : (N x y z q c d W : ℕ) → x ≤ q * (c * N) → y ≤ (W + 1) * N → z ≤ q * (d * N)
        → x + y + z ≤ (W + 1 + q * (c + d)) * N
    sums N x y z q c d W a b e = omega arith

    last : (W q c d C : ℕ) → 1 ≤ q → q * (c + d + 1) ≤ q * C → W + 1 + q * (c + d) ≤ W + q * C
    last W q c d C z h = omega arith

-- ---- a difference, times a natural number
nearly : (d : ℕ) (a b : D) (e m : ℕ) → Near a b e → e * d ≤ m → Near (d ⊙ a) (d ⊙ b) m
nearly d a b e m h l = weaken (d ⊙ a) (d ⊙ b) d e m (near_times d a b e h) l
  where
    weaken : (a b : D) (d e m : ℕ) → Near a b (d * e) → e * d ≤ m → Near a b m
    weaken a b d e m h l = omega arith

hardly : (d : ℕ) (a b : D) (e m : ℕ) → Below a (b ⊞ signed false e) → e * d ≤ m → Below (d ⊙ a) (d ⊙ b ⊞ signed false m)
hardly d a b e m h l = omega (arith, mul-le-mul_left d h)

-- ---- x is recorded for X, and X is within c times 2 ^ -53 of it
module _ (K : ℕ) (x : Float) (X : D) (c : ℕ) (o : Off (K * unit) (K ⊙ val x) X c) where
  -- x - f, rounded, is a tolerance M at most
  pub lands : (f : Float) (M q C : ℕ) → T (fits binary64 x) → T (fits binary64 f) → Finite (x ⊖ f)
      → Size (val (x ⊖ f)) M
      → M * (q * 2 ^ 53) ≤ (2 ^ 53 + 1) * unit → T (leb 2 q) → c + 1 + 1 ≤ C → At (tolerance q C) K X f
  lands f M q C fx ff h s m z l =
      let d = difference_near x f M fx ff h s in
      let e = le_trans d.2 (once M unit (at_most_one M q (2 ^ 53) unit (leb→le 2 q z) (lit≤ tt) m)) in
      nearly (q * 2 ^ 53) X (K ⊙ val f) (o.err + K * (M + d.0)) ((2 ^ 53 + q * C) * (K * unit))
      (near_trans X (K ⊙ val x) (K ⊙ val f) o.err (K * (M + d.0)) (near-sym (K ⊙ val x) X o.err o.near)
      (near_times K (val x) (val f) (M + d.0) d.1))
      (together K unit (2 ^ 53) M q c 1 C d.0 o.err (one_of q (leb→le 2 q z)) m e o.bound l)
    where
      one_of : (q : ℕ) → 2 ≤ q → 1 ≤ q
      one_of q h = omega arith

      once : (M U : ℕ) → M ≤ U → M ≤ 1 * U
      once M U h = omega arith

  module _ (l : Float) (M q C R : ℕ) (m : M * (q * 2 ^ 53) ≤ (2 ^ 53 + 1) * unit) (z : T (leb 1 q))
      (k : c + (R + 1) + 1 ≤ C) where
    -- a is above b by the error, M and a small e at most
    hardly_above : (a b : D) (e : ℕ) → Below a (b ⊞ signed false (o.err + K * (M + e))) → e * 2 ^ 53 ≤ (R + 1) * unit
        → Below ((q * 2 ^ 53) ⊙ a) ((q * 2 ^ 53) ⊙ b ⊞ signed false ((2 ^ 53 + q * C) * (K * unit)))
    hardly_above a b e f h =
        hardly (q * 2 ^ 53) a b (o.err + K * (M + e)) ((2 ^ 53 + q * C) * (K * unit)) f
        (together K unit (2 ^ 53) M q c (R + 1) C e o.err (leb→le 1 q z) m h o.bound k)

    scaled : (K : ℕ) (x y : D) (M : ℕ) → Below x (y ⊞ signed false M) → Below (K ⊙ x) (K ⊙ y ⊞ signed false (K * M))
    scaled K x y M h = omega (arith, mul-le-mul_left K h)

    -- x is above the limit l by M and a small e at most
    pub not_over : (e : ℕ) × Below (val x) (val l ⊞ signed false (M + e)) × (e * 2 ^ 53 ≤ (R + 1) * unit)
        → Below ((q * 2 ^ 53) ⊙ X) ((q * 2 ^ 53) ⊙ (K ⊙ val l) ⊞ signed false ((2 ^ 53 + q * C) * (K * unit)))
    not_over w =
        hardly_above X (K ⊙ val l) w.0
        (moved (K ⊙ val x) X (K ⊙ val l) (K * (M + w.0)) o.err o.near
        (scaled K (val x) (val l) (M + w.0) w.1)) w.2
      where
        moved : (x X l : D) (M e : ℕ) → Near x X e → Below x (l ⊞ signed false M) → Below X (l ⊞ signed false (e + M))
        moved x X l M e n h = omega arith

    -- or below it
    pub not_under : (e : ℕ) × Below (val l) (val x ⊞ signed false (M + e)) × (e * 2 ^ 53 ≤ (R + 1) * unit)
        → Below ((q * 2 ^ 53) ⊙ (K ⊙ val l)) ((q * 2 ^ 53) ⊙ X ⊞ signed false ((2 ^ 53 + q * C) * (K * unit)))
    not_under w =
        hardly_above (K ⊙ val l) X w.0
        (moved (K ⊙ val x) X (K ⊙ val l) (K * (M + w.0)) o.err o.near
        (scaled K (val l) (val x) (M + w.0) w.1)) w.2
      where
        moved : (x X l : D) (M e : ℕ) → Near x X e → Below l (x ⊞ signed false M) → Below l (X ⊞ signed false (e + M))
        moved x X l M e n h = omega arith

-- ---- a narrower distance gives a wider one
abbrev pub Narrower : Fraction → Fraction → Type 0
Narrower f g = (0 < f.d) × (f.m * g.d ≤ g.m * f.d)

module _ (f g : Fraction) (w : Narrower f g) where
  widen : (a b one : ℕ) → f.d * a ≤ f.d * b + f.m * one → g.d * a ≤ g.d * b + g.m * one
  widen a b one h = go f.d f.m g.d g.m a b one w.0 w.1 h
    where
      go : (d m d' m' a b one : ℕ) → 0 < d → m * d' ≤ m' * d → d * a ≤ d * b + m * one → d' * a ≤ d' * b + m' * one
      go d m d' m' a b one z k h =
          le_of_mul-le-mul_left (joined d m d' m' a b one (mul-le-mul_left d' h) (mul-le-mul_right one k)) z
        where
          joined : (d m d' m' a b one : ℕ) → d' * (d * a) ≤ d' * (d * b + m * one) → m * d' * one ≤ m' * d * one
              → d * (d' * a) ≤ d * (d' * b + m' * one)
          joined d m d' m' a b one h k = omega arith

  widen_below : (x y : D) (one : ℕ) → Below (f.d ⊙ x) (f.d ⊙ y ⊞ signed false (f.m * one))
      → Below (g.d ⊙ x) (g.d ⊙ y ⊞ signed false (g.m * one))
  widen_below x y one h =
      out g.d (g.m * one) x y (widen (x.p + y.n) (y.p + x.n) one (into f.d (f.m * one) x y h))
    where
      into : (d m : ℕ) (x y : D) → Below (d ⊙ x) (d ⊙ y ⊞ signed false m) → d * (x.p + y.n) ≤ d * (y.p + x.n) + m
      into d m x y h = omega arith

      out : (d m : ℕ) (x y : D) → d * (x.p + y.n) ≤ d * (y.p + x.n) + m → Below (d ⊙ x) (d ⊙ y ⊞ signed false m)
      out d m x y h = omega arith

  pub wider_between : (K : ℕ) (low : Float) (X : D) (upp : Float) → Between f K low X upp → Between g K low X upp
  wider_between K low X upp h =
      record {
        above = widen_below (K ⊙ val low) X (K * unit) h.above;
        below = widen_below X (K ⊙ val upp) (K * unit) h.below;
      }

  pub wider_at : (K : ℕ) (X : D) (x : Float) → At f K X x → At g K X x
  wider_at K X x h =
      two (g.d ⊙ X) (g.d ⊙ (K ⊙ val x)) (g.m * (K * unit))
      (widen_below X (K ⊙ val x) (K * unit) (over_of (f.d ⊙ X) (f.d ⊙ (K ⊙ val x)) (f.m * (K * unit)) h))
      (widen_below (K ⊙ val x) X (K * unit) (under_of (f.d ⊙ X) (f.d ⊙ (K ⊙ val x)) (f.m * (K * unit)) h))
    where
      over_of : (a b : D) (m : ℕ) → Near a b m → Below a (b ⊞ signed false m)
      over_of a b m h = omega arith

      under_of : (a b : D) (m : ℕ) → Near a b m → Below b (a ⊞ signed false m)
      under_of a b m h = omega arith

      two : (a b : D) (m : ℕ) → Below a (b ⊞ signed false m) → Below b (a ⊞ signed false m) → Near a b m
      two a b m h k = omega arith

-- ---- the distances that are proved are within those that are demanded
narrow : (k c C : ℕ) (f : Fraction) → c ≤ C → T (leb 1 k) → T (leb ((2 ^ 53 + k * C) * f.d) (f.m * (k * 2 ^ 53)))
    → Narrower (tolerance k c) f
narrow k c C f h z l = (
  mul-pos (leb→le 1 k z) (pow_pos 53),
  le_trans
      (mul-le-mul_right f.d (wide (2 ^ 53) (k * c) (k * C) (mul-le-mul_left k h)))
      (leb→le ((2 ^ 53 + k * C) * f.d) (f.m * (k * 2 ^ 53)) l),
)
  where
    wide : (a x y : ℕ) → x ≤ y → a + x ≤ a + y
    wide a x y h = omega arith

largest : (r : ℕ) → r ≤ 500_000
    → (off_a r + 523 ≤ off_a 500_000 + 523) × (off_v r + 4171 ≤ off_v 500_000 + 4171)
    × (off_p r + 2 ≤ off_p 500_000 + 2) × (off_v r + 2 ≤ off_v 500_000 + 2) × (off_a r + 2 ≤ off_a 500_000 + 2)
largest r h = omega arith

pub record Narrowed (w w' : Distances) : Type 0 where
  pub position : Narrower w.position w'.position
  pub velocity : Narrower w.velocity w'.velocity
  pub acceleration : Narrower w.acceleration w'.acceleration
  pub velocity_limit : Narrower w.velocity_limit w'.velocity_limit
  pub acceleration_limit : Narrower w.acceleration_limit w'.acceleration_limit

pub narrower : (r : ℕ) → r ≤ 500_000 → Narrowed (proved r) demanded
narrower r h =
    let l = largest r h in
    record {
      position = narrow 100_000_000 (off_p r + 2) (off_p 500_000 + 2) demanded.position l.2 tt tt;
      velocity = narrow 100_000_000 (off_v r + 2) (off_v 500_000 + 2) demanded.velocity l.3 tt tt;
      acceleration = narrow 10_000_000_000 (off_a r + 2) (off_a 500_000 + 2) demanded.acceleration l.4 tt tt;
      velocity_limit =
          narrow 1_000_000_000_000 (off_v r + 4171) (off_v 500_000 + 4171) demanded.velocity_limit l.1 tt tt;
      acceleration_limit =
          narrow 1_000_000_000_000 (off_a r + 523) (off_a 500_000 + 523) demanded.acceleration_limit l.0 tt tt;
    }

module _ (w w' : Distances) (v_max v_min a_max a_min : Float) (q : Profile) where
  pub wider : Narrowed w w' → Arrives w v_max v_min a_max a_min q → Arrives w' v_max v_min a_max a_min q
  wider n h =
      record {
        position = wider_at w.position w'.position n.position per_p (after q 6).p q.pf h.position;
        velocity = wider_at w.velocity w'.velocity n.velocity per_v (after q 6).v q.vf h.velocity;
        acceleration =
            wider_at w.acceleration w'.acceleration n.acceleration per_a (after q 6).a q.af
            h.acceleration;
        velocity_2 = v h.velocity_2;
        velocity_3 = v h.velocity_3;
        velocity_4 = v h.velocity_4;
        velocity_5 = v h.velocity_5;
        acceleration_0 = a h.acceleration_0;
        acceleration_2 = a h.acceleration_2;
        acceleration_4 = a h.acceleration_4;
      }
    where
      v : {X : D} → Between w.velocity_limit per_v (lower v_max v_max v_min) X (upper v_max v_max v_min)
          → Between w'.velocity_limit per_v (lower v_max v_max v_min) X (upper v_max v_max v_min)
      v {X} =
          wider_between w.velocity_limit w'.velocity_limit n.velocity_limit per_v (lower v_max v_max v_min) X
          (upper v_max v_max v_min)

      a : {X : D} → Between w.acceleration_limit per_a (lower v_max a_max a_min) X (upper v_max a_max a_min)
          → Between w'.acceleration_limit per_a (lower v_max a_max a_min) X (upper v_max a_max a_min)
      a {X} =
          wider_between w.acceleration_limit w'.acceleration_limit n.acceleration_limit per_a
          (lower v_max a_max a_min) X (upper v_max a_max a_min)
