-- Errors on a scale: `Off`, one lemma a step. Assumes nothing.
use Prim.Native.Nat.{ℕ, ◌+◌, ◌*◌, ◌^◌, ◌≤◌, ◌<◌}
use native.Mathlib.Nat.{le_trans, le_of_eq, mul_comm, mul-le-mul_left, mul-le-mul_right, le_of_mul-le-mul_right}
use native.Mathlib.Omega.{arith}
use lib.Dec.{T, leb, leb→le}
use lib.Pow.{pow_pos}
use Rattle.rounding.specs.Exact.{D, opposite, Near, Size, Same, ◌⊞◌, ◌⊟◌, ◌⊠◌, ◌⊙◌}
use Rattle.rounding.specs.Bounds.{Rounds, Off}
use Rattle.rounding.proofs.Linear.{near_self, near_as, near-sum, near_times, near_cancel, product_near}

pub off-none : (S : ℕ) (a : D) → Off S a a 0
off-none S a = record { err = 0; near = near_self a; bound = none S (2 ^ 53) }
  where
    none : (S P : ℕ) → 0 * P ≤ 0 * S
    none S P = omega arith

-- it is only the difference of the two numbers that counts
pub off_as : {S : ℕ} {a b : D} {β : ℕ} (c d : D) → Off S a b β → Same (a ⊟ b) (c ⊟ d) → Off S c d β
off_as {S} {a} {b} c d o h = record { err = o.err; near = near_as a b c d o.err h o.near; bound = o.bound }

-- on another scale
pub off_scale : {S : ℕ} {a b : D} {β : ℕ} (T γ : ℕ) → Off S a b β → β * S ≤ γ * T → Off T a b γ
off_scale T γ o h = record { err = o.err; near = o.near; bound = le_trans o.bound h }

pub off_within : {S : ℕ} {a b : D} {β : ℕ} (γ : ℕ) → Off S a b β → T (leb β γ) → Off S a b γ
off_within {S} {β = β} γ o h = off_scale S γ o (mul-le-mul_right S (leb→le β γ h))

pub off-sum : {S : ℕ} {a b c d : D} {β γ : ℕ} → Off S a b β → Off S c d γ → Off S (a ⊞ c) (b ⊞ d) (β + γ)
off-sum {S} {a} {b} {c} {d} {β} {γ} o w =
    record {
      err = o.err + w.err;
      near = near-sum a b c d o.err w.err o.near w.near;
      bound = bounded o.err w.err (2 ^ 53) β γ S o.bound w.bound;
    }
  where
    bounded : (e f P β γ S : ℕ) → e * P ≤ β * S → f * P ≤ γ * S → (e + f) * P ≤ (β + γ) * S
    bounded e f P β γ S h k = omega arith

pub off-neg : {S : ℕ} {a b : D} {β : ℕ} → Off S a b β → Off S (opposite a) (opposite b) β
off-neg {S} {a} {b} o = record { err = o.err; near = turned a b o.err o.near; bound = o.bound }
  where
    turned : (a b : D) (e : ℕ) → Near a b e → Near (opposite a) (opposite b) e
    turned a b e h = omega arith

scaled : (k e P β S : ℕ) → e * P ≤ β * S → k * e * P ≤ β * (k * S)
scaled k e P β S h = omega (arith, mul-le-mul_left k h)

-- k times as much, on k times the scale
pub off-times : {S : ℕ} {a b : D} {β : ℕ} (k : ℕ) → Off S a b β → Off (k * S) (k ⊙ a) (k ⊙ b) β
off-times {S} {a} {b} {β} k o =
    record {
      err = k * o.err;
      near = near_times k a b o.err o.near;
      bound = scaled k o.err (2 ^ 53) β S o.bound;
    }

pub off_cancel : {S : ℕ} {a b : D} {β : ℕ} (k : ℕ) → 0 < k → Off (k * S) (k ⊙ a) (k ⊙ b) β → Off S a b β
off_cancel {S} {a} {b} {β} k Z o =
    let c = near_cancel k a b o.err o.near in
    record { err = c.0; near = c.1; bound = divided k c.0 o.err (2 ^ 53) β S Z c.2 o.bound }
  where
    divided : (k f e P β S : ℕ) → 0 < k → f * k ≤ e → e * P ≤ β * (k * S) → f * P ≤ β * S
    divided k f e P β S Z a b = le_of_mul-le-mul_right (bare k f e P β S (mul-le-mul_right P a) b) Z
      where
        bare : (k f e P β S : ℕ) → f * k * P ≤ e * P → e * P ≤ β * (k * S) → f * P * k ≤ β * S * k
        bare k f e P β S a b = omega arith

-- each times a number of size M
pub off_product : {S : ℕ} {a b : D} {β : ℕ} (c : D) (M : ℕ) → Size c M → Off S a b β → Off (M * S) (c ⊠ a) (c ⊠ b) β
off_product {S} {a} {b} {β} c M s o =
    record {
      err = M * o.err;
      near = product_near c a b M o.err s o.near;
      bound = scaled M o.err (2 ^ 53) β S o.bound;
    }

-- a number taken once
pub off_once : {S : ℕ} {a b : D} {β : ℕ} → Off (1 * S) (1 ⊙ a) b β → Off S a b β
off_once {S} {a} {b} {β} o = off_scale S β (off_as a b o (once a b)) (alone β S)
  where
    once : (a b : D) → Same (1 ⊙ a ⊟ b) (a ⊟ b)
    once a b = omega arith

    alone : (β S : ℕ) → β * (1 * S) ≤ β * S
    alone β S = omega arith

-- an error of 2 ^ 53 at most is one on its scale at most
pub off_one : {S : ℕ} {a b : D} {β : ℕ} → Off S a b β → T (leb β (2 ^ 53)) → Near a b S
off_one {S} {a} {b} {β} o h = wide a b o.err S o.near (le_of_mul-le-mul_right small (pow_pos 53))
  where
    small : o.err * 2 ^ 53 ≤ S * 2 ^ 53
    small = le_trans o.bound (le_trans (mul-le-mul_right S (leb→le β (2 ^ 53) h)) (le_of_eq (mul_comm (2 ^ 53) S)))

    wide : (a b : D) (e f : ℕ) → Near a b e → e ≤ f → Near a b f
    wide a b e f h k = omega arith

-- so a number is one more at most than the other
pub off-size : {S : ℕ} {a b : D} {β : ℕ} (R : ℕ) → Off S a b β → T (leb β (2 ^ 53)) → Size b (R * S)
    → Size a ((R + 1) * S)
off-size {S} {a} {b} R o h s = grown a b R S (off_one o h) s
  where
    grown : (a b : D) (R S : ℕ) → Near a b S → Size b (R * S) → Size a ((R + 1) * S)
    grown a b R S n s = omega arith

pub off-sym : {S : ℕ} {a b : D} {β : ℕ} → Off S a b β → Off S b a β
off-sym {S} {a} {b} o = record { err = o.err; near = turned a b o.err o.near; bound = o.bound }
  where
    turned : (a b : D) (e : ℕ) → Near a b e → Near b a e
    turned a b e h = omega arith

-- ---- one rounding, with a bound of the rounded number or of the exact one
pub rounds_off : {r v : D} {l : ℕ} (S β : ℕ) (w : Rounds r v l) → w.err * 2 ^ 53 ≤ β * S → Off S r v β
rounds_off S β w h = record { err = w.err; near = w.near; bound = h }
