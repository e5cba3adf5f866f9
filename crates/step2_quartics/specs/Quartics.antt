-- The two quartics of the second and of the third shape: UDDU's and UDUD's. Definitions only.
use Rattle.std.specs.Prelude.{[], ◌∷◌}
use Rattle.float.specs.Ops.{#0}
use Rattle.step2_solver.specs.declared.PositionThirdOrderStep2.{PositionThirdOrderStep2}
use Rattle.step2_solver.specs.declared.Limits.{Limits}
use Rattle.step2_solver.specs.declared.Shape.{Shape}
use Rattle.step2_solver.specs.declared.Shape.TheVariants.{Acc0Acc1Vel, Acc1Vel, Acc0Vel, Acc0Acc1, Acc0, RestToRest}
use Rattle.step2_quartics.specs.declared.Quartics.{Quartics}
use Rattle.time_acc1_vel.specs.TimeAcc1Vel.{acc1_vel_uddu_polynom, acc1_vel_udud_polynom}
use Rattle.time_acc0_vel.specs.TimeAcc0Vel.{acc0_vel_ph1, acc0_vel_uddu_polynom, acc0_vel_udud_polynom}

abbrev pub no_quartics_of : Quartics
no_quartics_of = record { uddu = #0 ∷ #0 ∷ #0 ∷ #0 ∷ []; udud = #0 ∷ #0 ∷ #0 ∷ #0 ∷ [] }

unfoldable pub acc1_vel_quartics_of : PositionThirdOrderStep2 → Limits → Quartics
acc1_vel_quartics_of s l =
    record {
      uddu = acc1_vel_uddu_polynom s l.a_min l.j_max;
      udud = acc1_vel_udud_polynom s l.a_max l.j_max;
    }

unfoldable pub acc0_vel_quartics_of : PositionThirdOrderStep2 → Limits → Quartics
acc0_vel_quartics_of s l =
    let ph1 = acc0_vel_ph1 s l.a_max l.j_max in
    record {
      uddu = acc0_vel_uddu_polynom s l.a_max l.j_max ph1;
      udud = acc0_vel_udud_polynom s l.a_max l.j_max ph1;
    }

-- those of a shape; zeros for a shape that has none
abbrev pub the_quartics : Shape → PositionThirdOrderStep2 → Limits → Quartics
the_quartics Acc0Acc1Vel s l = no_quartics_of
the_quartics Acc1Vel s l = acc1_vel_quartics_of s l
the_quartics Acc0Vel s l = acc0_vel_quartics_of s l
the_quartics Acc0Acc1 s l = no_quartics_of
the_quartics Acc0 s l = no_quartics_of
the_quartics RestToRest s l = no_quartics_of
