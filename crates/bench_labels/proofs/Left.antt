-- What a `check` leaves in a lent row is `check_lent_of`, by the codes of its labels. Assumes nothing.
use mathlib.Core.Path.{◌≡◌, ap}
use mathlib.Core.Bool.{Bool}
use Prim.Native.Nat.{ℕ}
use lib.Ieee.{Float}
use Rattle.labels.specs.declared.ReachedLimits.{ReachedLimits}
use Rattle.labels.specs.declared.ControlSigns.{ControlSigns}
use Rattle.labels.specs.declared.Labels.{Labels}
use Rattle.labels.specs.Labels.{label_of, signs_of, start_labels_of}
use Rattle.row.specs.Row.{Numbers}
use Rattle.profile.specs.declared.Checked.{Checked}
use Rattle.profile.specs.Parts.{profile_of, numbers_of, labels_of}
use Rattle.profile.specs.Check.{check_of}
use Rattle.bench_labels.specs.Codes.{answer_number_of}
use Rattle.bench_labels.specs.Lent.{left_of, check_lent_of}

module _ (n : Numbers) (signs label : ℕ) (set_limits : Bool) (jf v_max v_min a_max a_min : Float) where
  pub left : {l : Labels} → l ≡ start_labels_of → {c : ControlSigns} → c ≡ signs_of signs
      → {m : ReachedLimits} → m ≡ label_of label
      → {r : Checked} → r ≡ check_of c m set_limits jf v_max v_min a_max a_min (profile_of n l)
      → {x : ℕ} → x ≡ answer_number_of (record { ok = r.ok; labels = labels_of r.profile })
      → record { number = x; numbers = numbers_of r.profile }
      ≡ check_lent_of n signs label set_limits jf v_max v_min a_max a_min
  unfolding check_lent_of
  left el ec em er ex = rw ex (ap left_of (rw (el, ec, em) at er))
