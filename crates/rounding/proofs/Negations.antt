-- The sign changes exactly: `Sized`, `About` and `On` of a float and of its opposite. Assumes nothing.
use mathlib.Core.Path.{refl, sym, subst}
use Prim.Native.Nat.{ℕ, ◌*◌}
use lib.Dec.{T}
use lib.Ieee.{Float, binary64, neg, fits}
use lib.Ieee.Fits.{neg-fits}
use Rattle.rounding.specs.Exact.{D, opposite, Size, Same, ◌⊙◌}
use Rattle.rounding.specs.Value.{val}
use Rattle.rounding.specs.Bounds.{Off, Sized, About, On}
use Rattle.rounding.proofs.Linear.{size-opposite}
use Rattle.rounding.proofs.Operands.{neg-finite, finite-neg}
use Rattle.rounding.proofs.Ops.{val-neg}
use Rattle.rounding.proofs.Errors.{off-neg}

pub neg_same : (x : Float) → Same (val (neg x)) (opposite (val x))
neg_same x = subst (λ (z : D). Same (val (neg x)) z) (val-neg x) refl

pub size-neg : (x : Float) (M : ℕ) → Size (val x) M → Size (val (neg x)) M
size-neg x M s = subst (λ (z : D). Size z M) (sym (val-neg x)) (size-opposite (val x) M s)

pub neg-size : (x : Float) (M : ℕ) → Size (val (neg x)) M → Size (val x) M
neg-size x M s = size-opposite (opposite (val x)) M (subst (λ (z : D). Size z M) (val-neg x) s)

pub sized_neg : {S : ℕ} {x : Float} {R : ℕ} → Sized S x R → Sized S (neg x) R
sized_neg {S} {x} {R} z =
    record {
      held = neg-fits binary64 x z.held;
      finite = finite-neg x z.finite;
      size = size-neg x (R * S) z.size;
    }

pub neg_sized : {S : ℕ} (x : Float) {R : ℕ} → T (fits binary64 x) → Sized S (neg x) R → Sized S x R
neg_sized {S} x {R} f z = record { held = f; finite = neg-finite x z.finite; size = neg-size x (R * S) z.size }

pub about-neg : {S : ℕ} {x : Float} {K : ℕ} {X : D} {β : ℕ} → About S x K X β → About S (neg x) K (opposite X) β
about-neg {S} {x} {K} {X} {β} a =
    record {
      held = neg-fits binary64 x a.held;
      off =
          λ k. subst (λ (z : D). Off (K * S) (K ⊙ z) (opposite X) β) (sym (val-neg x))
          (off-neg (a.off (neg-finite x k)));
    }

pub on_neg : {S : ℕ} {x : Float} {R K : ℕ} {X : D} {β : ℕ} → On S x R K X β → On S (neg x) R K (opposite X) β
on_neg {S} {x} {R} a =
    record { about = about-neg a.about; size = λ k. size-neg x (R * S) (a.size (neg-finite x k)) }
