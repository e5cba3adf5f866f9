-- The theorem's premises can be met. Assumes nothing.
-- A move of seven phases of 1 second, jerk 1, from rest at 0 to rest at 8, under a label that sets a[3] to 0: `check`
-- says yes, and the theorem applies.
use mathlib.Core.Path.{◌≡◌, refl}
use mathlib.Core.Bool.{true, false}
use mathlib.Core.List.{List, [], ◌∷◌}
use Prim.Native.Nat.{ℕ}
use lib.Dec.{T, lit≤}
use lib.Ieee.Bits.{of_bits-fits}
use lib.Ieee.{Float, binary64, of_bits, neg, add, sub, mul, div, lt, le, fits}
use Rattle.float.specs.Ops.{#0, #1, #2, #8}
use Rattle.float.specs.Helpers.{abs_of}
use Rattle.util.specs.Integrate.{integrate_of}
use Rattle.labels.specs.declared.ReachedLimits.TheVariants.{Acc0Acc1Vel}
use Rattle.labels.specs.declared.ControlSigns.TheVariants.{UDDU}
use Rattle.profile.specs.declared.Profile.{Profile}
use Rattle.labels.specs.Tests.{tests_of}
use Rattle.jerks.specs.Jerks.{jerks_of}
use Rattle.phases.specs.Run.{run}
use Rattle.phases.specs.Times.{step_of_sums, sums_of, label_tests}
use Rattle.limits.specs.Limits.{band_of, accelerations_kept_of, velocities_kept_of, end_tests}
use Rattle.phases.specs.Phase.{replaced_of, zero_inside_of, node_of, phase_of}
use Rattle.labels.specs.Labels.{start_labels_of}
use Rattle.row.specs.Row.{with_times, start_of}
use Rattle.profile.specs.Parts.{profile_of}
use Rattle.profile.specs.Check.{check_of}
use Rattle.rounding.specs.Value.{unit, mag, sign, val, Number}
use Rattle.rounding.specs.Motion.{motion, lasts}
use Rattle.profile_arrives.specs.Reply.{time, Held, Within, Residual}
use Rattle.profile_arrives.specs.Arrives.{Arrives, demanded}
use Rattle.profile_arrives.proofs.Steps.{by_seven}
use Rattle.profile_arrives.proofs.Premises.{sized, within}
use Rattle.profile_arrives.proofs.CheckArrives.{reply, check_arrives}

abbrev seven : List Float
seven = #1 ∷ #1 ∷ #1 ∷ #1 ∷ #1 ∷ #1 ∷ #1 ∷ []

abbrev asked : Profile
asked = profile_of (with_times seven (start_of #0 #0 #0 #8 #0 #0)) start_labels_of

abbrev left : Profile
left = reply UDDU Acc0Acc1Vel #1 #2 (neg #2) #1 (neg #1) asked

held : Held asked
held =
    let one = of_bits-fits binary64 0x3FF0_0000_0000_0000 in
    let none = of_bits-fits binary64 0 in
    record {
      eight_a = refl;
      eight_v = refl;
      eight_p = refl;
      held_t = by_seven (λ (i : ℕ). T (fits binary64 (time asked i))) one one one one one one one;
      held_a = none;
      held_v = none;
      held_p = none;
      held_pf = of_bits-fits binary64 0x4020_0000_0000_0000;
      held_vf = none;
      held_af = none;
    }

-- all of it computes
met : ((check_of UDDU Acc0Acc1Vel false #1 #2 (neg #2) #1 (neg #1) asked).ok ≡ true) × Within left
    × Residual 0 Acc0Acc1Vel left × Number #1 × Number #2 × Number (neg #1) × Number (neg #2)
unfolding check_of sums_of step_of_sums run label_tests tests_of jerks_of phase_of node_of replaced_of zero_inside_of
    integrate_of band_of accelerations_kept_of velocities_kept_of end_tests abs_of of_bits neg add sub mul div lt le
    fits unit mag sign val motion lasts
met = (
  refl,
  within (sized tt tt) (sized tt tt) (sized tt tt) (lit≤ tt) (sized tt tt) (sized tt tt) (sized tt tt) (sized tt tt)
      (sized tt tt) (sized tt tt) (sized tt tt),
  λ h. record { held = tt; err = 0; near = record { over = lit≤ tt; under = lit≤ tt }; bound = lit≤ tt },
  record { held = tt; finite = tt },
  record { held = tt; finite = tt },
  record { held = tt; finite = tt },
  record { held = tt; finite = tt },
)

pub move-arrives : Arrives demanded #2 (neg #2) #1 (neg #1) left
move-arrives =
    check_arrives UDDU Acc0Acc1Vel #1 #2 (neg #2) #1 (neg #1) asked held met.3.held met.4 met.6 met.3
    met.5 met.0 0 (lit≤ tt) met.1 met.2
