-- The record that a line's row holds at first, and what `check` or a shape in place makes of it. Assumes nothing.
use mathlib.Core.Path.{◌≡◌}
use lib.Dec.{eqb}
use Rattle.labels.specs.declared.ReachedLimits.{ReachedLimits}
use Rattle.labels.specs.declared.ControlSigns.{ControlSigns}
use Rattle.labels.specs.declared.Labels.{Labels}
use Rattle.labels.specs.Labels.{signs_of, label_of, start_labels_of}
use Rattle.row.specs.Row.{Numbers, with_times, start_of}
use Rattle.profile.specs.declared.Profile.{Profile}
use Rattle.profile.specs.declared.Checked.{Checked}
use Rattle.profile.specs.Parts.{profile_of}
use Rattle.profile.specs.Check.{check_of}
use Rattle.profile.specs.Boundary.{boundary_of}
use Rattle.step2_solver.specs.declared.Move.{Move}
use Rattle.position_third_step2.specs.Shape.{fresh}
use Rattle.line_frame.specs.declared.CheckNumbers.{CheckNumbers}
use Rattle.line_frame.specs.Frame.{Frame}
use Rattle.line_answers.specs.CheckLine.{checked_of}

module _ {n : Numbers} {l : Labels} (el : l ≡ start_labels_of) {c : Checked} where
  pub shaped : (f : Profile → Checked) (x : Move) → n ≡ start_of x.p0 x.v0 x.a0 x.pf x.vf x.af
      → c ≡ f (profile_of n l) → c ≡ f (fresh x)
  unfolding boundary_of
  shaped f x en e = rw (en, el) at e

  pub checked : (at : Frame) (x : CheckNumbers) {m : Numbers}
      → m ≡ start_of x.p0 x.v0 x.a0 x.pf x.vf x.af → n ≡ with_times x.t m
      → {signs : ControlSigns} → signs ≡ signs_of (at 1) → {limits : ReachedLimits} → limits ≡ label_of (at 2)
      → c ≡ check_of signs limits (eqb (at 3) 1) x.jf x.v_max x.v_min x.a_max x.a_min
      (profile_of n l)
      → c ≡ checked_of x at
  unfolding checked_of boundary_of
  checked at x em en es ek e = rw (en, em, el, es, ek) at e
