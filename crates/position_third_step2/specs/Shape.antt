-- The shapes: the attempts that each makes, in their order, and what comes of them on a profile. Definitions only.
use Rattle.std.specs.Prelude.{Bool, true, false, cond, List, [], ◌∷◌, ◌++◌, Float}
use Rattle.float.specs.Ops.{#0}
use Rattle.profile.specs.declared.Profile.{Profile}
use Rattle.profile.specs.declared.Checked.{Checked}
use Rattle.profile.specs.Boundary.{default_of, boundary_of}
use Rattle.roots.specs.declared.RootAnswer.{RootAnswer}
use Rattle.roots.specs.declared.RootAnswer.TheVariants.{CubeRoot}
use Rattle.step2_solver.specs.declared.PositionThirdOrderStep2.{PositionThirdOrderStep2}
use Rattle.step2_solver.specs.declared.Move.{Move}
use Rattle.step2_solver.specs.declared.Limits.{Limits}
use Rattle.step2_solver.specs.declared.Trial.{Trial}
use Rattle.step2_solver.specs.declared.Shape.{Shape}
use Rattle.step2_solver.specs.declared.Shape.TheVariants.{Acc0Acc1Vel, Acc1Vel, Acc0Vel, Acc0Acc1, Acc0, RestToRest}
use Rattle.time_acc0_acc1_vel.specs.TimeAcc0Acc1Vel.{acc0_acc1_vel_uddu, acc0_acc1_vel_udud}
use Rattle.time_acc0_acc1.specs.TimeAcc0Acc1.{acc0_acc1_of}
use Rattle.time_acc0_acc1.specs.RestToRest.{rest_to_rest_of}
use Rattle.time_acc0.specs.TimeAcc0.{acc0_first, acc0_second, acc0_third}
use Rattle.step2_quartics.specs.declared.Quartics.{Quartics}
use Rattle.time_acc1_vel.specs.TimeAcc1Vel.{acc1_vel_uddu_window, acc1_vel_uddu, acc1_vel_udud_window, acc1_vel_udud}
use Rattle.time_acc0_vel.specs.TimeAcc0Vel.{acc0_vel_too_short}
use Rattle.time_acc0_vel.specs.TimeAcc0Vel.{acc0_vel_uddu_window, acc0_vel_uddu, acc0_vel_udud_window, acc0_vel_udud}
use Rattle.step2_quartics.specs.Quartics.{the_quartics}
use Rattle.step2_attempt.specs.Attempt.{tried_of}
use Rattle.step2_over_roots.specs.OverRoots.{over_roots}

-- kind 08's, which is no shape of the Rust's
abbrev pub is_rest_to_rest_of : Shape → Bool
is_rest_to_rest_of Acc0Acc1Vel = false
is_rest_to_rest_of Acc1Vel = false
is_rest_to_rest_of Acc0Vel = false
is_rest_to_rest_of Acc0Acc1 = false
is_rest_to_rest_of Acc0 = false
is_rest_to_rest_of RestToRest = true

-- The Rust's attempts, in its order, and that of kind 08. q are UDDU's quartic and UDUD's, first and second what is
-- answered for them.
abbrev pub attempts_of : Shape → PositionThirdOrderStep2 → Limits → Quartics → RootAnswer → RootAnswer → List Trial
attempts_of Acc0Acc1Vel s l q first second = acc0_acc1_vel_uddu s l ∷ acc0_acc1_vel_udud s l ∷ []
attempts_of Acc1Vel s l q first second =
    over_roots (acc1_vel_uddu s l (acc1_vel_uddu_window s l)) q.uddu first
    ++ over_roots (acc1_vel_udud s l (acc1_vel_udud_window s l)) q.udud second
attempts_of Acc0Vel s l q first second =
    cond (acc0_vel_too_short s l.a_max l.j_max) []
    (over_roots (acc0_vel_uddu s l (acc0_vel_uddu_window s l)) q.uddu first
    ++ over_roots (acc0_vel_udud s l (acc0_vel_udud_window s l)) q.udud second)
attempts_of Acc0Acc1 s l q first second = acc0_acc1_of s l ∷ []
attempts_of Acc0 s l q first second = acc0_first s l ∷ acc0_second s l ∷ acc0_third s l ∷ []
attempts_of RestToRest s l q first second = rest_to_rest_of s l ∷ []

-- a shape, with quartics and answers that are handed in
abbrev pub shape_of : Shape → PositionThirdOrderStep2 → Limits → Quartics → RootAnswer → RootAnswer → Profile → Checked
shape_of shape s l q first second = tried_of l (attempts_of shape s l q first second)

-- a shape, with its own quartics
abbrev pub asked_of : Shape → PositionThirdOrderStep2 → Limits → RootAnswer → RootAnswer → Profile → Checked
asked_of shape s l first second = shape_of shape s l (the_quartics shape s l) first second

-- the profile that every line starts from: a default one after `set_boundary`
abbrev pub fresh : Move → Profile
fresh x = boundary_of x.p0 x.v0 x.a0 x.pf x.vf x.af default_of

-- stands for the answers of a shape that looks at none
abbrev pub unasked : RootAnswer
unasked = CubeRoot #0

abbrev pub limits : (v_max v_min a_max a_min j_max : Float) → Limits
limits v_max v_min a_max a_min j_max =
    record { v_max = v_max; v_min = v_min; a_max = a_max; a_min = a_min; j_max = j_max }
