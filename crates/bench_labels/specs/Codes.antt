-- Verdict and labels as one number. Definitions only.
use Rattle.std.specs.Prelude.{cond, ℕ, ◌+◌, ◌*◌}
use Rattle.labels.specs.Labels.{label_number_of, direction_number_of, signs_number_of}
use Rattle.profile.specs.declared.in_place.Verdict.{Verdict}

-- verdict (1 yes), direction, signs and label, as the digits of a number of the bases 2, 2, 2 and 8
abbrev pub answer_number_of : Verdict → ℕ
answer_number_of r =
    cond r.ok 1 0
    + 2 * direction_number_of r.labels.direction
    + 4 * signs_number_of r.labels.control_signs
    + 8 * label_number_of r.labels.limits
