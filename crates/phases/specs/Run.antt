-- A loop of counted steps that ends early where a step says no: what it leaves. Definitions only.
use Rattle.std.specs.Prelude.{ℕ, zero, suc, ◌+◌, Bool, true, false, cond}

pub record Step (X : Type 0) : Type 0 where
  pub ok : Bool
  pub left : X

abbrev pub yes! : {X : Type 0} → X → Step X
yes! x = record { ok = true; left = x }

abbrev pub no! : {X : Type 0} → X → Step X
no! x = record { ok = false; left = x }

-- k steps, the first of them number i
unfoldable pub run : {X : Type 0} → (ℕ → X → Step X) → ℕ → ℕ → X → Step X
run f zero i x = yes! x
run f (suc k) i x = cond (f i x).ok (run f k (i + 1) (f i x).left) (f i x)
