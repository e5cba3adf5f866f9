-- `check_with_timing` and `check_with_timing_full` of profile.rs, with the mark of a square root that does not exist.
-- Definitions only.
use Rattle.std.specs.Prelude.{Bool, false, cond, Float}
use Rattle.std.specs.Float.Ieee.{lt}
use Rattle.float.specs.Ops.{◌⊕◌, #1e-12}
use Rattle.float.specs.Helpers.{abs_of}
use Rattle.labels.specs.declared.ReachedLimits.{ReachedLimits}
use Rattle.labels.specs.declared.ControlSigns.{ControlSigns}
use Rattle.labels.specs.Labels.{marked_labels_of}
use Rattle.profile.specs.declared.Profile.{Profile}
use Rattle.profile.specs.declared.Checked.{Checked}
use Rattle.profile.specs.Parts.{profile_of, numbers_of, labels_of}
use Rattle.profile.specs.Check.{check_of}

-- A verdict with the mark of its attempt: a no of a marked one has the cause 13. Verdict, numbers, label, direction,
-- signs and count are as they were.
abbrev pub marked_by : Bool → Checked → Checked
marked_by marked c =
    record {
      ok = c.ok;
      profile = profile_of (numbers_of c.profile) (marked_labels_of marked c.ok (labels_of c.profile));
    }

-- `check` without set_limits
unfoldable pub timing_of :
    ControlSigns → ReachedLimits → Float → Float → Float → Float → Float → Bool → Profile → Checked
timing_of signs limits jf v_max v_min a_max a_min marked q =
    marked_by marked (check_of signs limits false jf v_max v_min a_max a_min q)

-- The same where |jf| < |j_max| + J_EPS. Else no, and the record as it came, its count too: only a mark gives a cause.
unfoldable pub timing_full_of :
    ControlSigns → ReachedLimits → Float → Float → Float → Float → Float → Float → Bool → Profile → Checked
timing_full_of signs limits jf v_max v_min a_max a_min j_max marked q =
    marked_by marked
    (cond (lt (abs_of jf) (abs_of j_max ⊕ #1e-12)) (check_of signs limits false jf v_max v_min a_max a_min q)
    (record { ok = false; profile = q }))
