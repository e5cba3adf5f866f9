-- The nodes of a run: the exact number at a limit or at the goal, from the test of its record. Assumes nothing.
use mathlib.Core.Path.{◌≡◌, refl}
use Prim.Native.Nat.{ℕ, ◌+◌, ◌*◌, ◌^◌, ◌≤◌}
use native.Mathlib.Nat.{le_refl}
use native.Mathlib.Omega.{arith}
use lib.Dec.{T, leb, lit≤}
use lib.Ieee.{Float, binary64, fits}
use Rattle.float.specs.Ops.{#1e-8, #1e-10, #1e-12}
use Rattle.rounding.specs.Exact.{D, ◌⊙◌}
use Rattle.rounding.specs.Value.{unit, mag, val, Number}
use Rattle.rounding.specs.Bounds.{Off, Sized}
use Rattle.rounding.specs.Motion.{Moving, motion, per_a, per_v, per_p}
use Rattle.rounding.specs.Step.{Node, from}
use Rattle.rounding.specs.Run.{off_a, off_v, Recorded, Run}
use Rattle.rounding.proofs.Literals.{val_1e-12, number_1e-12}
use Rattle.rounding.proofs.Limits.{limit_above, limit_below}
use Rattle.rounding.proofs.Phase.{Sizes}
use Rattle.rounding.proofs.Run.{recorded, recorded_sizes}
use Rattle.profile_arrives.specs.Arrives.{tolerance, At, Between, proved}
use Rattle.profile_arrives.proofs.Facts.{Close, Inside}
use Rattle.profile_arrives.proofs.Distances.{fine_1e-8, fine_1e-10, fine_1e-12, at_most_one, lands, not_over}
use Rattle.profile_arrives.proofs.Distances.{not_under}

-- ---- one recorded number between two limits
module _ (K : ℕ) {x : Float} {X : D} {c R : ℕ} (C : ℕ) (o : Off (K * unit) (K ⊙ val x) X c) (z : Sized unit x R)
    (few : T (leb (2 * R) (2 ^ 53)))
    (k : c + (R + 1) + 1 ≤ C) where
  between : (low upp : Float) → Number low → Number upp → Inside low x upp
      → Between (tolerance 1_000_000_000_000 C) K low X upp
  between low upp u w h =
      let M = mag #1e-12 in
      let small = at_most_one M 1_000_000_000_000 (2 ^ 53) unit (lit≤ tt) (lit≤ tt) fine_1e-12 in
      let t = number_1e-12 in
      record {
        above =
            not_under K x X c o low M 1_000_000_000_000 C R fine_1e-12 tt k
            (limit_below x low #1e-12 R M z.held u.held t.held z.finite u.finite t.finite val_1e-12
            small z.size few h.0);
        below =
            not_over K x X c o upp M 1_000_000_000_000 C R fine_1e-12 tt k
            (limit_above x upp #1e-12 R M z.held w.held t.held z.finite w.finite t.finite val_1e-12
            small z.size few h.1);
      }

fits_in : (c d e C : ℕ) → d + e ≡ C → c + d + e ≤ c + C
fits_in c d e C h = omega arith

-- ---- one recorded number at the goal, within the tolerance e of 1 / q
landed : (K : ℕ) {x : Float} {X : D} {c R : ℕ} (e : Float) (q : ℕ) → Off (K * unit) (K ⊙ val x) X c → Sized unit x R
    → mag e * (q * 2 ^ 53) ≤ (2 ^ 53 + 1) * unit → T (leb 2 q) → (f : Float) → T (fits binary64 f) → Close x f e
    → At (tolerance q (c + 2)) K X f
landed K {x} {X} {c} e q o z m l f g h =
    lands K x X c o f (mag e) q (c + 2) z.held g h.0 h.1 m l (fits_in c 1 1 2 refl)

-- ---- the nodes of a run

module _ {r : ℕ} {t j : ℕ → Float} {n : ℕ → Node} (z : Run r t j n) where
  abbrev state_at : ℕ → Moving
  state_at i = motion t j (from (n 0)) i

  pub v_between : (i : ℕ) → i ≤ 7 → (low upp : Float) → Number low → Number upp → Inside low (n i).v upp
      → Between (proved r).velocity_limit per_v low (state_at i).v upp
  v_between i l =
      between per_v (off_v r + 4171) (recorded z i l).v (recorded_sizes z i l).of_v tt
      (fits_in (off_v r) 4170 1 4171 refl)

  pub a_between : (i : ℕ) → i ≤ 7 → (low upp : Float) → Number low → Number upp → Inside low (n i).a upp
      → Between (proved r).acceleration_limit per_a low (state_at i).a upp
  a_between i l =
      between per_a (off_a r + 523) (recorded z i l).a (recorded_sizes z i l).of_a tt
      (fits_in (off_a r) 522 1 523 refl)

  -- at the end
  last : Recorded r (n 7) (state_at 7)
  last = recorded z 7 (le_refl 7)

  size : Sizes (n 7)
  size = recorded_sizes z 7 (le_refl 7)

  pub at_p : (f : Float) → T (fits binary64 f) → Close (n 7).p f #1e-8 → At (proved r).position per_p (state_at 7).p f
  at_p = landed per_p #1e-8 100_000_000 last.p size.of_p fine_1e-8 tt

  pub at_v : (f : Float) → T (fits binary64 f) → Close (n 7).v f #1e-8 → At (proved r).velocity per_v (state_at 7).v f
  at_v = landed per_v #1e-8 100_000_000 last.v size.of_v fine_1e-8 tt

  pub at_a : (f : Float) → T (fits binary64 f) → Close (n 7).a f #1e-10
      → At (proved r).acceleration per_a (state_at 7).a f
  at_a = landed per_a #1e-10 10_000_000_000 last.a size.of_a fine_1e-10 tt
