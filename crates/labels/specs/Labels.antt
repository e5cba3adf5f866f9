-- The labels of a profile and document 01's numbers for them, both ways. Definitions only.
use Rattle.std.specs.Prelude.{Bool, cond, not, ◌&&◌, [], ◌∷◌, ℕ, eqb, get_or}
use Rattle.labels.specs.declared.ReachedLimits.{ReachedLimits}
use Rattle.labels.specs.declared.ReachedLimits.TheVariants.{Acc0Acc1Vel, Vel, Acc0, Acc1, Acc0Acc1}
use Rattle.labels.specs.declared.ReachedLimits.TheVariants.{Acc0Vel, Acc1Vel, None}
use Rattle.labels.specs.declared.Direction.{Direction}
use Rattle.labels.specs.declared.Direction.TheVariants.{UP, DOWN}
use Rattle.labels.specs.declared.ControlSigns.{ControlSigns}
use Rattle.labels.specs.declared.ControlSigns.TheVariants.{UDDU, UDUD}
use Rattle.labels.specs.declared.causes.Cause.{Cause}
use Rattle.labels.specs.declared.causes.Cause.TheVariants.{NoCall, NoRoot}
use Rattle.labels.specs.declared.Labels.{Labels}

abbrev pub label_number_of : ReachedLimits → ℕ
label_number_of Acc0Acc1Vel = 0
label_number_of Vel = 1
label_number_of Acc0 = 2
label_number_of Acc1 = 3
label_number_of Acc0Acc1 = 4
label_number_of Acc0Vel = 5
label_number_of Acc1Vel = 6
label_number_of None = 7

abbrev pub direction_number_of : Direction → ℕ
direction_number_of UP = 0
direction_number_of DOWN = 1

abbrev pub signs_number_of : ControlSigns → ℕ
signs_number_of UDDU = 0
signs_number_of UDUD = 1

-- the label of a number from 0 to 7, in enum order; from 8 on, None
abbrev pub label_of : ℕ → ReachedLimits
label_of n = get_or (Acc0Acc1Vel ∷ Vel ∷ Acc0 ∷ Acc1 ∷ Acc0Acc1 ∷ Acc0Vel ∷ Acc1Vel ∷ None ∷ []) n None

-- the signs of a number from 0 to 1; from 2 on, UDUD
abbrev pub signs_of : ℕ → ControlSigns
signs_of n = cond (eqb n 0) UDDU UDUD

-- with the count of the calls of `check` and the cause of the last
abbrev pub labels : ReachedLimits → Direction → ControlSigns → ℕ → Cause → Labels
labels l d s n c = record { limits = l; direction = d; control_signs = s; calls = n; cause = c }

-- those of a default profile: no call yet
abbrev pub start_labels_of : Labels
start_labels_of = labels None UP UDDU 0 NoCall

-- What a verdict's labels become by a mark: a no is put down to the root that does not exist, ahead of 1 to 11; a yes
-- stays one.
abbrev pub marked_labels_of : (marked ok : Bool) → Labels → Labels
marked_labels_of marked ok l =
    labels l.limits l.direction l.control_signs l.calls (cond (marked && not ok) NoRoot l.cause)
