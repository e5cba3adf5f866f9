-- A quotient as a time formula has it: the float q itself, or its opposite. Assumes nothing.
use mathlib.Core.Path.{sym, subst}
use Prim.Native.Nat.{ℕ}
use lib.Dec.{T}
use lib.Ieee.{Float, binary64, neg, fits}
use lib.Ieee.Fits.{neg-fits}
use Rattle.rounding.specs.Exact.{D, opposite}
use Rattle.rounding.specs.Value.{val, Finite}
use Rattle.rounding.specs.Bounds.{Sized, Part}
use Rattle.rounding.proofs.Operands.{neg-finite}
use Rattle.rounding.proofs.Ops.{val-neg}
use Rattle.rounding.proofs.Negations.{neg_sized}
use Rattle.rounding.proofs.Parts.{part-neg}

-- y is the float q, or its opposite; turn is the same of exact numbers
pub record Turned (q y : Float) (turn : D → D) : Type 0 where
  pub held : T (fits binary64 y)
  pub sized : (S R : ℕ) → Sized S y R → Sized S q R
  pub finite : Finite y → Finite q
  pub part : (j : Float) (X : D) (β : ℕ) → Part j (val q) X β → Part j (val y) (turn X) β

pub unturned : (q : Float) → T (fits binary64 q) → Turned q q (λ X. X)
unturned q f = record { held = f; sized = λ S R z. z; finite = λ k. k; part = λ j X β p. p }

pub turned : (q : Float) → T (fits binary64 q) → Turned q (neg q) (λ X. opposite X)
turned q f =
    record {
      held = neg-fits binary64 q f;
      sized = λ S R z. neg_sized q f z;
      finite = λ k. neg-finite q k;
      part = λ j X β p. subst (λ (z : D). Part j z (opposite X) β) (sym (val-neg q)) (part-neg p);
    }
