-- What `check` works out, and the three profiles that its ways out leave, by name: what holds of each of these holds of
-- what is left; and a yes passes every test and leaves the last. Assumes nothing.
use mathlib.Core.Path.{◌≡◌}
use mathlib.Core.Bool.{Bool, true, false, cond}
use mathlib.Core.List.{List, ◌∷◌, ◌++◌}
use lib.Ieee.{Float}
use Rattle.labels.specs.declared.ReachedLimits.{ReachedLimits}
use Rattle.labels.specs.declared.ControlSigns.{ControlSigns}
use Rattle.labels.specs.declared.Direction.{Direction}
use Rattle.labels.specs.declared.Labels.{Labels}
use Rattle.labels.specs.declared.causes.Cause.TheVariants.{NegativeTime, VelocityAtZero}
use Rattle.labels.specs.Labels.{labels}
use Rattle.labels.specs.Tests.{tests_of}
use Rattle.labels.specs.Causes.{Test, test, none_fails, cause_of, counted_of}
use Rattle.labels.proofs.Failing.{each_passes, both_rows}
use Rattle.jerks.specs.Jerks.{jerks_of}
use Rattle.row.specs.Row.{Nodes, Numbers, with_sums, with_jerks, with_nodes}
use Rattle.limits.specs.declared.Band.{Band}
use Rattle.limits.specs.Limits.{direction_of, band_of, end_tests}
use Rattle.phases.specs.Run.{Step, run}
use Rattle.phases.specs.Times.{sums_of, label_tests}
use Rattle.phases.specs.Phase.{phase_of}
use Rattle.profile.specs.declared.Profile.{Profile}
use Rattle.profile.specs.declared.Checked.{Checked}
use Rattle.profile.specs.Parts.{profile_of, nodes_of, goal_of, numbers_of}
use Rattle.profile.specs.Check.{time_tests, check_of}

any_way : (P : Profile → Type 0) (b c : Bool) (x y z : Profile) → P x → P y → P z → P (cond b (cond c y z) x)
any_way P true true x y z h k l = k
any_way P true false x y z h k l = l
any_way P false c x y z h k l = h

last_way : (b c : Bool) (x y z : Profile) → b ≡ true → c ≡ true → cond b (cond c y z) x ≡ y
last_way b c x y z h k = rw (h, k)

module _ (signs : ControlSigns) (limits : ReachedLimits) (set_limits : Bool) (jf v_max v_min a_max a_min : Float)
    (q : Profile) where
  abbrev pub check : Checked
  check = check_of signs limits set_limits jf v_max v_min a_max a_min q

  abbrev pub sums : Step (List Float)
  sums = sums_of q.t q.t_sum

  abbrev pub jerks : List Float
  jerks = jerks_of signs q.t jf

  abbrev pub v_band : Band
  v_band = band_of v_max v_max v_min

  abbrev pub a_band : Band
  a_band = band_of v_max a_max a_min

  abbrev pub nodes : Step Nodes
  nodes = run (phase_of (tests_of limits) set_limits a_max a_min v_band q.t jerks) 7 0 (nodes_of q)

  -- ---- the tests of the times, and the others
  abbrev pub of_label : List Test
  of_label = label_tests (tests_of limits) q.t sums.left

  abbrev pub times : List Test
  times = time_tests (tests_of limits) q.t sums

  abbrev pub at_end : List Test
  at_end = end_tests nodes.left (goal_of q) a_band v_band

  abbrev pub others : List Test
  others = test VelocityAtZero nodes.ok ∷ at_end

  -- ---- what is left after a test of the times, after the phases, and at the end
  abbrev pub noting : ReachedLimits → Direction → ControlSigns → Labels
  noting l d s = labels l d s (counted_of q.calls) (cause_of (times ++ others))

  abbrev pub summed : Profile
  summed = profile_of (with_sums sums.left (numbers_of q)) (noting q.limits q.direction q.control_signs)

  abbrev pub moved : Numbers
  moved = with_nodes nodes.left (with_jerks jerks (with_sums sums.left (numbers_of q)))

  abbrev pub stopped : Profile
  stopped = profile_of moved (noting q.limits (direction_of v_max) q.control_signs)

  abbrev pub ended : Profile
  ended = profile_of moved (noting limits (direction_of v_max) signs)

  pub leaves : (P : Profile → Type 0) → P summed → P stopped → P ended → P check.profile
  unfolding check_of
  leaves P h k l = any_way P (none_fails times) nodes.ok summed ended stopped h l k

  -- ---- a yes
  module _ (said : check.ok ≡ true) where
    rows_pass : (none_fails times ≡ true) × (none_fails others ≡ true)
    unfolding check_of
    rows_pass = both_rows times others said

    pub times_pass : (sums.ok ≡ true) × (none_fails of_label ≡ true)
    times_pass = each_passes (test NegativeTime sums.ok) of_label rows_pass.0

    pub others_pass : (nodes.ok ≡ true) × (none_fails at_end ≡ true)
    others_pass = each_passes (test VelocityAtZero nodes.ok) at_end rows_pass.1

    pub yes_leaves : check.profile ≡ ended
    unfolding check_of
    yes_leaves = last_way (none_fails times) nodes.ok summed ended stopped rows_pass.0 others_pass.0
