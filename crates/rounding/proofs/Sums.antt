-- A sum on a scale: its error with a size of the result, of the exact sum, or of both operands. Assumes nothing.
-- A difference is a sum with the opposite.
use Prim.Native.Nat.{ℕ, ◌+◌, ◌*◌, ◌^◌}
use native.Mathlib.Nat.{le_trans, le_of_eq, add-zero}
use native.Mathlib.Omega.{arith}
use lib.Dec.{T, leb}
use lib.Ieee.{Float, binary64, fits}
use lib.Ieee.Fits.{add-fits}
use Rattle.float.specs.Ops.{◌⊕◌}
use Rattle.rounding.specs.Exact.{D, Near, Size, Same, ◌⊞◌, ◌⊟◌, ◌⊙◌}
use Rattle.rounding.specs.Value.{val, Finite}
use Rattle.rounding.specs.Bounds.{Off, Sized, About, On}
use Rattle.rounding.proofs.Linear.{size-sum_in}
use Rattle.rounding.proofs.Operands.{add-finite}
use Rattle.rounding.proofs.Ops.{add_rounds}
use Rattle.rounding.proofs.Errors.{rounds_off, off_as, off-sum, off-times, off_one, off-size}

-- ---- the rounding alone
module _ {S : ℕ} (x y : Float) {R : ℕ} (f : T (fits binary64 x)) (g : T (fits binary64 y)) where
  pub sum_back : Sized S (x ⊕ y) R → Off S (val (x ⊕ y)) (val x ⊞ val y) R
  sum_back z =
      let w = add_rounds x y f g z.finite in
      rounds_off S R w (le_trans (w.backward (R * S) z.size) (le_of_eq (add-zero (R * S))))

  pub sum_forth : Finite (x ⊕ y) → Size (val x ⊞ val y) (R * S) → Off S (val (x ⊕ y)) (val x ⊞ val y) R
  sum_forth k s =
      let w = add_rounds x y f g k in
      rounds_off S R w (le_trans (w.forward (R * S) s) (le_of_eq (add-zero (R * S))))

-- ---- with what the operands were off
module _ {S : ℕ} {x : Float} {K : ℕ} {X : D} {β : ℕ} {y : Float} {Y : D} {γ : ℕ} where
  sum-off : {R : ℕ} → About S x K X β → About S y K Y γ → Finite (x ⊕ y) → Off S (val (x ⊕ y)) (val x ⊞ val y) R
      → Off (K * S) (K ⊙ val (x ⊕ y)) (X ⊞ Y) (R + (β + γ))
  sum-off a b f o =
      let k = add-finite x y f in
      off_as (K ⊙ val (x ⊕ y)) (X ⊞ Y) (off-sum (off-times K o) (off-sum (a.off k.0) (b.off k.1)))
      (joined K (val (x ⊕ y)) (val x) (val y) X Y)
    where
      joined : (K : ℕ) (r x y X Y : D) → Same (K ⊙ r ⊞ (K ⊙ x ⊞ K ⊙ y) ⊟ (K ⊙ (x ⊞ y) ⊞ (X ⊞ Y))) (K ⊙ r ⊟ (X ⊞ Y))
      joined K r x y X Y = omega arith

  -- with a size of the result
  pub on_sum : {R : ℕ} → About S x K X β → About S y K Y γ → Sized S (x ⊕ y) R → On S (x ⊕ y) R K (X ⊞ Y) (R + (β + γ))
  on_sum a b z =
      record {
        about = record { held = add-fits binary64 x y; off = λ k. sum-off a b k (sum_back x y a.held b.held z) };
        size = λ k. z.size;
      }

  -- with a size of the exact sum
  pub on_sum_forth : (R : ℕ) → About S x K X β → About S y K Y γ → (Finite (x ⊕ y) → Size (val x ⊞ val y) (R * S))
      → T (leb R (2 ^ 53))
      → On S (x ⊕ y) (R + 1) K (X ⊞ Y) (R + (β + γ))
  on_sum_forth R a b s h =
      record {
        about = record { held = add-fits binary64 x y; off = λ k. sum-off a b k (rounded k) };
        size = λ k. off-size R (rounded k) h (s k);
      }
    where
      rounded : Finite (x ⊕ y) → Off S (val (x ⊕ y)) (val x ⊞ val y) R
      rounded k = sum_forth x y a.held b.held k (s k)

  -- with the sizes of both
  pub on_add : {R Q : ℕ} → On S x R K X β → On S y Q K Y γ → T (leb (R + Q) (2 ^ 53))
      → On S (x ⊕ y) (R + Q + 1) K (X ⊞ Y) (R + Q + (β + γ))
  on_add {R} {Q} a b h =
      on_sum_forth (R + Q) a.about b.about
      (λ k. let f = add-finite x y k in size-sum_in (val x) (val y) R Q S (a.size f.0) (b.size f.1)) h

-- ---- the size of an operand, from those of the sum and of the other operand
module _ {S : ℕ} (x y : Float) {R Q : ℕ} where
  pub left_sized : T (fits binary64 x) → Sized S (x ⊕ y) R → Sized S y Q → T (leb R (2 ^ 53)) → Sized S x (R + Q + 1)
  left_sized f z q h =
      record {
        held = f;
        finite = (add-finite x y z.finite).0;
        size = less (val (x ⊕ y)) (val x) (val y) R Q S (off_one (sum_back x y f q.held z) h) z.size q.size;
      }
    where
      less : (r x y : D) (R Q S : ℕ) → Near r (x ⊞ y) S → Size r (R * S) → Size y (Q * S) → Size x ((R + Q + 1) * S)
      less r x y R Q S a b c = omega arith

  pub right_sized : T (fits binary64 y) → Sized S (x ⊕ y) R → Sized S x Q → T (leb R (2 ^ 53)) → Sized S y (R + Q + 1)
  right_sized g z q h =
      record {
        held = g;
        finite = (add-finite x y z.finite).1;
        size = less (val (x ⊕ y)) (val x) (val y) R Q S (off_one (sum_back x y q.held g z) h) z.size q.size;
      }
    where
      less : (r x y : D) (R Q S : ℕ) → Near r (x ⊞ y) S → Size r (R * S) → Size x (Q * S) → Size y ((R + Q + 1) * S)
      less r x y R Q S a b c = omega arith
