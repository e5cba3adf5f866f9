-- A profile as numbers with an index, and the exact motion that it stands for. Definitions only.
-- And what is asked of a profile.
use Rattle.std.specs.Prelude.{◌≡◌, cond, false, ℕ, suc, ◌*◌, ◌<◌, T, length, get_or, Float}
use Rattle.std.specs.Float.{nan, binary64}
use Rattle.std.specs.Float.Ieee.{fits, lt}
use Rattle.float.specs.Ops.{#0}
use Rattle.labels.specs.declared.ReachedLimits.{ReachedLimits}
use Rattle.profile.specs.declared.Profile.{Profile}
use Rattle.labels.specs.Tests.{tests_of}
use Rattle.rounding.specs.Exact.{Size, Below, signed}
use Rattle.rounding.specs.Value.{unit, val}
use Rattle.rounding.specs.Motion.{Moving, motion, lasts}
use Rattle.rounding.specs.Step.{Node, from, Replaced}

-- the time and the jerk of phase i
abbrev pub time : Profile → ℕ → Float
time q i = get_or q.t i nan

abbrev pub jerk : Profile → ℕ → Float
jerk q i = get_or q.j i nan

-- the recorded acceleration, velocity and position at which phase i begins, and phase i - 1 ends
abbrev pub node : Profile → ℕ → Node
node q i = record { a = get_or q.a i nan; v = get_or q.v i nan; p = get_or q.p i nan }

-- The exact motion: its state after the first i phases, from the recorded start, by the recorded times and jerks, and
-- by nothing else of the record. No acceleration is replaced.
abbrev pub exact : Profile → ℕ → Moving
exact q i = motion (time q) (jerk q) (from (node q 0)) i

-- the state after phase i; after phase 6 it is the end
abbrev pub after : Profile → ℕ → Moving
after q i = exact q (suc i)

-- the upper limit is max where v_max is above 0, else min; the lower limit is the other
abbrev pub upper : Float → Float → Float → Float
upper v_max max min = cond (lt #0 v_max) max min

abbrev pub lower : Float → Float → Float → Float
lower v_max max min = cond (lt #0 v_max) min max

-- Arrays of eight, and f64s wherever `check` reads: so it is with every profile of the Rust.
pub record Held (q : Profile) : Type 0 where
  pub eight_a : length q.a ≡ 8
  pub eight_v : length q.v ≡ 8
  pub eight_p : length q.p ≡ 8
  pub held_t : (i : ℕ) → i < 7 → T (fits binary64 (time q i))
  pub held_a : T (fits binary64 (node q 0).a)
  pub held_v : T (fits binary64 (node q 0).v)
  pub held_p : T (fits binary64 (node q 0).p)
  pub held_pf : T (fits binary64 q.pf)
  pub held_vf : T (fits binary64 q.vf)
  pub held_af : T (fits binary64 q.af)

-- Starting position, velocity and acceleration of at most 8 in size, exact total time at most 8, recorded jerks at most
-- 64 in size.
-- `val` takes a NaN and an infinity for 0. There is none here after a yes: `yes_finite` in proofs/Facts.antt.
pub record Within (q : Profile) : Type 0 where
  pub start_p : Size (val (node q 0).p) (8 * unit)
  pub start_v : Size (val (node q 0).v) (8 * unit)
  pub start_a : Size (val (node q 0).a) (8 * unit)
  pub total : Below (lasts (time q) 7) (signed false (8 * unit))
  pub jerks : (i : ℕ) → i < 7 → Size (val (jerk q i)) (64 * unit)

-- Where the label sets a[3] to 0, the exact acceleration after phase 2 is within r times 2 ^ -53 of 0.
abbrev pub Residual : ℕ → ReachedLimits → Profile → Type 0
Residual r limits q = T (tests_of limits).a3 → Replaced r #0 (after q 2).a
