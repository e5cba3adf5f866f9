-- Kind 00: what `check` answers to a frame. Definitions only.
use Rattle.std.specs.Prelude.{eqb}
use Rattle.labels.specs.Labels.{label_of, signs_of}
use Rattle.profile.specs.declared.Checked.{Checked}
use Rattle.row.specs.Row.{with_times}
use Rattle.profile.specs.Parts.{changed}
use Rattle.profile.specs.Check.{check_of}
use Rattle.profile.specs.Boundary.{default_of, boundary_of}
use Rattle.line_frame.specs.declared.CheckNumbers.{CheckNumbers}
use Rattle.line_frame.specs.Frame.{Frame}
use Rattle.line_frame.specs.Numbers.{check_numbers_of}

-- Bytes 1 to 3 of the frame are signs, label and set_limits.
-- The record starts as a default one after `set_boundary`, and with the times.
unfoldable pub checked_of : CheckNumbers → Frame → Checked
checked_of x at =
    check_of (signs_of (at 1)) (label_of (at 2)) (eqb (at 3) 1) x.jf x.v_max x.v_min x.a_max x.a_min
    (changed (with_times x.t) (boundary_of x.p0 x.v0 x.a0 x.pf x.vf x.af default_of))

abbrev pub check_line_of : Frame → Checked
check_line_of at = checked_of (check_numbers_of at) at
