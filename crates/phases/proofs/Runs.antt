-- A loop of counted steps, from the inside: at step i of n, what the rest of the run from here is. Assumes nothing.
use mathlib.Core.Path.{◌≡◌, refl}
use mathlib.Core.Bool.{Bool, true, false, cond}
use Prim.Native.Nat.{ℕ, zero, suc, ◌+◌, ◌-◌, ◌≤◌, ◌<◌}
use native.Mathlib.Omega.{arith}
use Rattle.phases.specs.Run.{Step, run, yes! }

more : (n i : ℕ) → i < n → n - i ≡ suc (n - (i + 1))
more n i h = omega arith

none : (n i : ℕ) → n ≤ i → n - i ≡ 0
none n i h = omega arith

module _ {X : Type 0} (f : ℕ → X → Step X) (n i : ℕ) (x : X) where
  -- the step y says yes: the rest goes on from what it leaves
  pub turn : (y : Step X) → y ≡ f i x → i < n → y.ok ≡ true → run f (n - (i + 1)) (i + 1) y.left ≡ run f (n - i) i x
  unfolding run
  turn y e h k = rw (more n i h, ← e, k)

  -- the step y says no: the run is that step
  pub halt : (y : Step X) → y ≡ f i x → i < n → y.ok ≡ false → y ≡ run f (n - i) i x
  unfolding run
  halt y e h k = rw (more n i h, ← e, k)

  -- no step is left: the run says yes
  pub done : n ≤ i → yes! x ≡ run f (n - i) i x
  unfolding run
  done h = rw (none n i h)

-- ---- a run seen through a view of its state: where each step looks the same, the runs do
abbrev pub seen : {X Y : Type 0} → (X → Y) → Step X → Step Y
seen view s = record { ok = s.ok; left = view s.left }

module _ {X Y : Type 0} (view : X → Y) (f : ℕ → X → Step X) (g : ℕ → Y → Step Y) (n : ℕ)
    (same : (i : ℕ) (x : X) → i < n → seen view (f i x) ≡ g i (view x)) where
  pub runs : (k i : ℕ) (x : X) → i + k ≤ n → seen view (run f k i x) ≡ run g k i (view x)
  unfolding run
  runs zero i x h = refl
  runs (suc k) i x h =
      rw (← same i x (omega arith)) (either (f i x).ok (runs k (i + 1) (f i x).left (omega arith)))
    where
      y : X
      y = (f i x).left

      either : (b : Bool) → seen view (run f k (i + 1) y) ≡ run g k (i + 1) (view y)
          → seen view (cond b (run f k (i + 1) y) (record { ok = b; left = y }))
          ≡ cond b (run g k (i + 1) (view y)) (record { ok = b; left = view y })
      either true e = e
      either false e = refl
