-- One phase in f64s, and what it is to record it. Definitions only.
use Rattle.std.specs.Prelude.{◌≡◌, ◌⊎◌, ℕ, ◌*◌, ◌^◌, ◌≤◌, T, Float}
use Rattle.std.specs.Float.{binary64}
use Rattle.std.specs.Float.Ieee.{fits}
use Rattle.util.specs.declared.State.{State}
use Rattle.util.specs.Integrate.{integrate_of}
use Rattle.rounding.specs.Exact.{D, Near, ◌⊙◌}
use Rattle.rounding.specs.Value.{unit, val}
use Rattle.rounding.specs.Motion.{Moving, state, per_a}

-- what is recorded at the end of a phase
pub record Node : Type 0 where
  pub a : Float
  pub v : Float
  pub p : Float

-- the exact state with the numbers of a node
abbrev pub from : Node → Moving
from n = state n.p n.v n.a

-- what `integrate` makes of a node in the time t at the jerk j
abbrev pub step_of : Float → Float → Node → State
step_of t j n = integrate_of t n.p n.v n.a j

-- x stands for an acceleration whose exact value is A, and is within r times 2 ^ -53 of it
pub record Replaced (r : ℕ) (x : Float) (A : D) : Type 0 where
  pub held : T (fits binary64 x)
  pub err : ℕ
  pub near : Near (per_a ⊙ val x) A err
  pub bound : err * 2 ^ 53 ≤ r * (unit * unit)

-- The node `e` is the step from the node `s` by t and j; its acceleration may be another number instead,
-- within r times 2 ^ -53 of the exact one in m.
pub record Next (r : ℕ) (t j : Float) (s e : Node) (m : Moving) : Type 0 where
  pub position : e.p ≡ (step_of t j s).p
  pub velocity : e.v ≡ (step_of t j s).v
  pub acceleration : (e.a ≡ (step_of t j s).a) ⊎ Replaced r e.a m.a
