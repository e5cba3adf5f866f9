-- `check` on a lent row, with its verdict and labels as one number. Definitions only.
use Rattle.std.specs.Prelude.{Bool, ℕ, Float}
use Rattle.labels.specs.Labels.{label_of, signs_of, start_labels_of}
use Rattle.row.specs.Row.{Numbers}
use Rattle.profile.specs.Parts.{profile_of, numbers_of, labels_of}
use Rattle.profile.specs.Check.{check_of}
use Rattle.profile.specs.declared.Checked.{Checked}
use Rattle.bench_labels.specs.Codes.{answer_number_of}

-- what a call leaves: its answer, and the numbers of the lent row
pub record Left : Type 0 where
  pub number : ℕ
  pub numbers : Numbers

abbrev pub left_of : Checked → Left
left_of c =
    record {
      number = answer_number_of (record { ok = c.ok; labels = labels_of c.profile });
      numbers = numbers_of c.profile;
    }

-- `check` of a record with these numbers and the labels of `Profile::default()`
unfoldable pub check_lent_of : Numbers → ℕ → ℕ → Bool → Float → Float → Float → Float → Float → Left
check_lent_of n signs label set_limits jf v_max v_min a_max a_min =
    left_of
    (check_of (signs_of signs) (label_of label) set_limits jf v_max v_min a_max a_min (profile_of n start_labels_of))
