-- A move by its twelve numbers, a profile that starts it, and what it is to arrive: at the goal, within the limits and
-- in the duration. Definitions only.
use Rattle.std.specs.Prelude.{◌≡◌, ◌*◌, ◌^◌, Float}
use Rattle.profile.specs.declared.Profile.{Profile}
use Rattle.profile.specs.declared.Checked.{Checked}
use Rattle.rounding.specs.Exact.{D, Near, ◌⊙◌}
use Rattle.rounding.specs.Value.{unit, val, Number}
use Rattle.rounding.specs.Motion.{lasts}
use Rattle.rounding.specs.Step.{Node}
use Rattle.profile_arrives.specs.Reply.{time, node, Held}
use Rattle.profile_arrives.specs.Arrives.{Fraction, ◌over◌, Distances, Arrives, demanded, proved}
use Rattle.roots.specs.declared.RootAnswer.{RootAnswer}
use Rattle.step2_solver.specs.declared.Move.{Move}
use Rattle.step2_solver.specs.declared.Shape.{Shape}
use Rattle.step2_solver.specs.New.{solver_of, limits_of}
use Rattle.step2_times.specs.Facts.{roundings, residual}
use Rattle.position_third_step2.specs.Shape.{asked_of}

-- each is a finite f64: document 01's sixth question
pub record MoveNumbers (m : Move) : Type 0 where
  pub of_tf : Number m.tf
  pub of_p0 : Number m.p0
  pub of_v0 : Number m.v0
  pub of_a0 : Number m.a0
  pub of_pf : Number m.pf
  pub of_vf : Number m.vf
  pub of_af : Number m.af
  pub of_v_max : Number m.v_max
  pub of_v_min : Number m.v_min
  pub of_a_max : Number m.a_max
  pub of_a_min : Number m.a_min
  pub of_j_max : Number m.j_max

-- a shape asked for the move m, on the profile q: it is passed the same limits as `new`
abbrev pub asked : Shape → RootAnswer → RootAnswer → Move → Profile → Checked
asked shape first second m q = asked_of shape (solver_of m) (limits_of m) first second q

-- the node n is the start of the move m
abbrev pub StartOf : Move → Node → Type 0
StartOf m n = n ≡ record { a = m.a0; v = m.v0; p = m.p0 }

-- The profile q has the start and the goal that the solver was given.
pub record Starts (m : Move) (q : Profile) : Type 0 where
  pub held : Held q
  pub start : StartOf m (node q 0)
  pub pf_is : q.pf ≡ m.pf
  pub vf_is : q.vf ≡ m.vf
  pub af_is : q.af ≡ m.af

-- The exact number X is within f of the float x, both in units: |d X - d x| ≤ m.
abbrev pub Close : Fraction → D → Float → Type 0
Close f X x = Near (f.d ⊙ X) (f.d ⊙ val x) (f.m * unit)

-- The exact motion by the times and the jerks of q, from the start of m, arrives at the goal of m and keeps the limits
-- of m within w; it lasts the duration of m within s.
pub record Arrival (w : Distances) (s : Fraction) (m : Move) (q : Profile) : Type 0 where
  pub starts : Starts m q
  pub arrives : Arrives w m.v_max m.v_min m.a_max m.a_min q
  pub duration : Close s (lasts (time q) 7) m.tf

-- demand 3: the demanded distances, and 1e-10 seconds
abbrev pub in_place : Distances
in_place = demanded

abbrev pub in_time : Fraction
in_time = 1 over 10_000_000_000

abbrev pub ArrivesDemanded : Move → Profile → Type 0
ArrivesDemanded m q = Arrival in_place in_time m q

-- What is proved: `check`'s own tolerances and the rounding errors. That is 1.04e-8 of the position, 1.003e-8 of the
-- velocity, 1.02e-10 of the acceleration, 2.9e-11 of the velocity limits and 2.8e-12 of the acceleration limits; and
-- 1.2e-13 seconds.
abbrev pub ArrivesClosely : Move → Profile → Type 0
ArrivesClosely m q = Arrival (proved residual) (roundings over 2 ^ 53) m q
