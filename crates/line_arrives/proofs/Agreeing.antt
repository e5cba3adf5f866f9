-- The exact motion and its duration after n phases depend only on the first n times and jerks. Assumes nothing.
use mathlib.Core.Path.{◌≡◌, refl}
use Prim.Native.Nat.{ℕ, zero, suc, ◌<◌}
use native.Mathlib.Nat.{le_refl}
use native.Mathlib.Omega.{arith}
use lib.Ieee.{Float}
use Rattle.rounding.specs.Motion.{Moving, motion, lasts}

below : {i k : ℕ} → i < k → i < suc k
below h = omega arith

abbrev pub Agree : ℕ → (ℕ → Float) → (ℕ → Float) → Type 0
Agree n t u = (i : ℕ) → i < n → t i ≡ u i

pub motion_agrees : {t u j k : ℕ → Float} (s : Moving) (n : ℕ) → Agree n t u → Agree n j k
    → motion t j s n ≡ motion u k s n
unfolding motion
motion_agrees s zero h g = refl
motion_agrees s (suc n) h g =
    rw (h n (le_refl (suc n)), g n (le_refl (suc n)), motion_agrees s n (λ i l. h i (below l)) (λ i l. g i (below l)))

pub lasts_agrees : {t u : ℕ → Float} (n : ℕ) → Agree n t u → lasts t n ≡ lasts u n
unfolding lasts
lasts_agrees zero h = refl
lasts_agrees (suc n) h = rw (h n (le_refl (suc n)), lasts_agrees n (λ i l. h i (below l)))
