-- Seven accepted times: each is 8 at most, and an error of their sum is one of the duration. Assumes nothing.
use mathlib.Core.Path.{◌≡◌, refl, sym, subst}
use Prim.Native.Nat.{ℕ, ◌+◌, ◌*◌, ◌≤◌, ◌<◌}
use native.Mathlib.Omega.{arith}
use lib.Dec.{T, leb, lit≤}
use lib.Ieee.{Float, binary64, neg, sub, fits}
use lib.Ieee.Fits.{add-fits}
use Rattle.float.specs.Ops.{◌⊕◌, ◌⊖◌, ◌⊗◌, #0, #2}
use Rattle.rounding.specs.Exact.{D, nought, Same, ◌⊞◌, ◌⊟◌, ◌⊙◌}
use Rattle.rounding.specs.Value.{unit, mag, val, Finite}
use Rattle.rounding.specs.Bounds.{Off, Sized, On}
use Rattle.rounding.specs.Motion.{lasts, elapsed}
use Rattle.rounding.proofs.Linear.{size_weaken}
use Rattle.rounding.proofs.Compare.{val-size}
use Rattle.rounding.proofs.Operands.{add-finite, neg-finite}
use Rattle.rounding.proofs.Literals.{val_0}
use Rattle.rounding.proofs.Errors.{off_as, off_within}
use Rattle.rounding.proofs.Sizes.{about, about-off, sized}
use Rattle.rounding.proofs.Negations.{about-neg, sized_neg}
use Rattle.rounding.proofs.Sums.{sum_back, on_sum, left_sized, right_sized}
use Rattle.rounding.proofs.Products.{on_twice}
use Rattle.step2_solver.specs.declared.Times.{Times}
use Rattle.step2_times.specs.Facts.{Accepted, Lasts, roundings}

-- the exact sum of seven numbers
abbrev pub sum : (a b c d e f g : D) → D
sum a b c d e f g = a ⊞ b ⊞ c ⊞ d ⊞ e ⊞ f ⊞ g

abbrev sum_of : Times → D
sum_of x = sum (val x.t0) (val x.t1) (val x.t2) (val x.t3) (val x.t4) (val x.t5) (val x.t6)

-- each time is 8 at most
pub record Within (x : Times) : Type 0 where
  pub t0 : Sized unit x.t0 8
  pub t1 : Sized unit x.t1 8
  pub t2 : Sized unit x.t2 8
  pub t3 : Sized unit x.t3 8
  pub t4 : Sized unit x.t4 8
  pub t5 : Sized unit x.t5 8
  pub t6 : Sized unit x.t6 8

module _ {t : ℕ → Float} {x : Times} (a : Accepted t x) where
  sums : (a b c d e f g U : ℕ) → 0 + a + b + c + d + e + f + g ≤ 8 * U
      → (a ≤ 8 * U) × (b ≤ 8 * U) × (c ≤ 8 * U) × (d ≤ 8 * U) × (e ≤ 8 * U) × (f ≤ 8 * U) × (g ≤ 8 * U)
  sums a b c d e f g U h = omega arith

  each : (mag (t 0) ≤ 8 * unit) × (mag (t 1) ≤ 8 * unit) × (mag (t 2) ≤ 8 * unit) × (mag (t 3) ≤ 8 * unit)
      × (mag (t 4) ≤ 8 * unit) × (mag (t 5) ≤ 8 * unit) × (mag (t 6) ≤ 8 * unit)
  unfolding elapsed
  each = sums (mag (t 0)) (mag (t 1)) (mag (t 2)) (mag (t 3)) (mag (t 4)) (mag (t 5)) (mag (t 6)) unit a.total

  one : (i : ℕ) (y : Float) → t i ≡ y → i < 7 → mag (t i) ≤ 8 * unit → Sized unit y 8
  one i y e l h =
      subst (λ (z : Float). Sized unit z 8) e
      (record {
        held = a.held i l;
        finite = a.finite i l;
        size = size_weaken (val (t i)) (mag (t i)) (8 * unit)
            (val-size (t i)) h;
      })

  pub within : Within x
  within =
      record {
        t0 = one 0 x.t0 a.is0 (lit≤ tt) each.0;
        t1 = one 1 x.t1 a.is1 (lit≤ tt) each.1;
        t2 = one 2 x.t2 a.is2 (lit≤ tt) each.2;
        t3 = one 3 x.t3 a.is3 (lit≤ tt) each.3;
        t4 = one 4 x.t4 a.is4 (lit≤ tt) each.4;
        t5 = one 5 x.t5 a.is5 (lit≤ tt) each.5;
        t6 = one 6 x.t6 a.is6 (lit≤ tt) each.6;
      }

  lasts-sum : Same (lasts t 7) (sum_of x)
  unfolding lasts
  lasts-sum =
      rw (← a.is0, ← a.is1, ← a.is2, ← a.is3, ← a.is4, ← a.is5, ← a.is6)
      (from-none (val (t 0)) (val (t 1)) (val (t 2)) (val (t 3)) (val (t 4)) (val (t 5)) (val (t 6)))
    where
      from-none : (a b c d e f g : D) → Same (nought ⊞ a ⊞ b ⊞ c ⊞ d ⊞ e ⊞ f ⊞ g) (sum a b c d e f g)
      from-none a b c d e f g = omega arith

  -- what the attempt's roundings come to is the sum less tf
  pub lasts_of : {tf : Float} {y z : D} {β : ℕ} → Off unit y z β → Same (y ⊟ z) (sum_of x ⊟ val tf)
      → T (leb β roundings) → Lasts t tf
  lasts_of {tf} {y} {z} o e h =
      let w = off_within roundings
      (off_as (lasts t 7) (val tf) o (ends (lasts t 7) (sum_of x) y z (val tf) lasts-sum e)) h in
      record { err = w.err; near = w.near; bound = w.bound }
    where
      ends : (l s y z f : D) → Same l s → Same (y ⊟ z) (s ⊟ f) → Same (y ⊟ z) (l ⊟ f)
      ends l s y z f h k = omega arith

pub zero-none : Same (val #0) nought
zero-none = subst (λ (z : D). Same z nought) (sym val_0) refl

-- ---- a time that is tf less the sum w of the others
pub less : {w : Float} {R : ℕ} {X : D} {β : ℕ} (tf : Float) → T (fits binary64 tf) → On unit w R 1 X β
    → Sized unit (tf ⊖ w) 8
    → Off unit (val (tf ⊖ w)) (val tf ⊟ X) (8 + (0 + β))
unfolding sub
less tf f o z = about-off (on_sum (about unit tf f) (about-neg o.about) z).about z.finite

-- a time that is a sum of another time and y, in either order: how large y is, and the sum's error
pub more : (t y : Float) → T (fits binary64 y) → Sized unit t 8 → Sized unit (t ⊕ y) 8
    → Sized unit y 17 × Off unit (val (t ⊕ y)) (val t ⊞ val y) 8
more t y f z w = (right_sized t y f w z tt, sum_back t y z.held f w)

pub more' : (y t : Float) → T (fits binary64 y) → Sized unit t 8 → Sized unit (y ⊕ t) 8
    → Sized unit y 17 × Off unit (val (y ⊕ t)) (val t ⊞ val y) 8
more' y t f z w = (
  left_sized y t f w z tt,
  off_as (val (y ⊕ t)) (val t ⊞ val y) (sum_back y t f z.held w)
      (swapped (val (y ⊕ t)) (val y) (val t)),
)
  where
    swapped : (s y t : D) → Same (s ⊟ (y ⊞ t)) (s ⊟ (t ⊞ y))
    swapped s y t = omega arith

-- a time that is tf + y less twice another time
pub twice_less : (tf y t : Float) → T (fits binary64 tf) → T (fits binary64 y) → Sized unit t 8
    → Sized unit (tf ⊕ y ⊖ #2 ⊗ t) 8
    → Finite y × Off unit (val (tf ⊕ y ⊖ #2 ⊗ t)) (val tf ⊞ val y ⊟ 2 ⊙ val t) 51
unfolding sub
twice_less tf y t f g z w =
    let two = on_twice z tt in
    let k = add-finite (tf ⊕ y) (neg (#2 ⊗ t)) w.finite in
    let d = left_sized (tf ⊕ y) (neg (#2 ⊗ t)) (add-fits binary64 tf y) w
    (sized_neg (sized two (neg-finite (#2 ⊗ t) k.1))) tt in (
      (add-finite tf y d.finite).1,
      about-off (on_sum (on_sum (about unit tf f) (about unit y g) d).about (about-neg two.about) w).about
          w.finite,
    )
