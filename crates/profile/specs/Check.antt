-- `check` of profile.rs: the verdict and the record that it leaves, after a no as after a yes. Definitions only.
use Rattle.std.specs.Prelude.{Bool, cond, List, ◌∷◌, ◌++◌, Float}
use Rattle.labels.specs.declared.ReachedLimits.{ReachedLimits}
use Rattle.labels.specs.declared.ControlSigns.{ControlSigns}
use Rattle.labels.specs.declared.causes.Cause.TheVariants.{NegativeTime, VelocityAtZero}
use Rattle.labels.specs.declared.tests.Tests.{Tests}
use Rattle.labels.specs.Labels.{labels}
use Rattle.labels.specs.Causes.{Test, test, none_fails, cause_of, counted_of}
use Rattle.labels.specs.Tests.{tests_of}
use Rattle.jerks.specs.Jerks.{jerks_of}
use Rattle.limits.specs.declared.Band.{Band}
use Rattle.limits.specs.Limits.{direction_of, band_of, end_tests}
use Rattle.row.specs.Row.{Nodes, Goal, with_sums, with_jerks, with_nodes}
use Rattle.phases.specs.Run.{Step, run}
use Rattle.phases.specs.Times.{sums_of, label_tests}
use Rattle.phases.specs.Phase.{phase_of}
use Rattle.profile.specs.declared.Profile.{Profile}
use Rattle.profile.specs.declared.Checked.{Checked}
use Rattle.profile.specs.Parts.{profile_of, numbers_of}

-- The tests in the Rust's order, each with its cause: of the times t and their sums, of what the phases made, and at
-- the end. One that comes after a no is not made by the Rust, and decides nothing here.
abbrev pub time_tests : Tests → List Float → Step (List Float) → List Test
time_tests m t sums = test NegativeTime sums.ok ∷ label_tests m t sums.left

abbrev pub check_tests : Tests → List Float → Step (List Float) → Step Nodes → Goal → Band → Band → List Test
check_tests m t sums nodes goal a_band v_band =
    time_tests m t sums ++ (test VelocityAtZero nodes.ok ∷ end_tests nodes.left goal a_band v_band)

-- The verdict is yes where none fails. The ways out, in the Rust's order: a time below 0, or a test of the label or of
-- the total, leaves the sums so far; a velocity at zero acceleration outside its limits leaves the jerks, the direction
-- and the phases so far; and the end leaves all, with the labels. Each leaves one call more, and the cause.
unfoldable pub check_of :
    ControlSigns → ReachedLimits → Bool → Float → Float → Float → Float → Float → Profile → Checked
check_of signs limits set_limits jf v_max v_min a_max a_min q =
    let n = numbers_of q in
    let sums = sums_of n.t n.t_sum in
    let made = tests_of limits in
    let j = jerks_of signs n.t jf in
    let way = direction_of v_max in
    let v_band = band_of v_max v_max v_min in
    let a_band = band_of v_max a_max a_min in
    let nodes = run (phase_of made set_limits a_max a_min v_band n.t j) 7 0 n.nodes in
    let summed = with_sums sums.left n in
    let moved = with_nodes nodes.left (with_jerks j summed) in
    let tests = check_tests made n.t sums nodes n.goal a_band v_band in
    let calls = counted_of q.calls in
    let cause = cause_of tests in
    record {
      ok = none_fails tests;
      profile =
          cond (none_fails (time_tests made n.t sums))
          (cond nodes.ok (profile_of moved (labels limits way signs calls cause))
          (profile_of moved (labels q.limits way q.control_signs calls cause)))
          (profile_of summed (labels q.limits q.direction q.control_signs calls cause));
    }
