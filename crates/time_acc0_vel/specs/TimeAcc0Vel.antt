-- What `time_acc0_vel` computes, by the Rust's names, each operation rounded once in
-- the Rust's order and brackets, and its two attempts. Definitions only.
use Rattle.std.specs.Prelude.{Bool, false, cond, List, [], ◌∷◌, Float}
use Rattle.std.specs.Float.Ieee.{neg, lt}
use Rattle.float.specs.Ops.{◌⊕◌, ◌⊖◌, ◌⊗◌, ◌⊘◌, #0, #2, #3, #4, #6, #12, #24, #ε}
use Rattle.float.specs.Helpers.{min_of, max_of}
use Rattle.step2_solver.specs.declared.PositionThirdOrderStep2.{PositionThirdOrderStep2}
use Rattle.step2_solver.specs.declared.Times.{Times}
use Rattle.step2_solver.specs.declared.Limits.{Limits}
use Rattle.step2_solver.specs.declared.Trial.{Trial}
use Rattle.step2_solver.specs.declared.Window.{Window}
use Rattle.step2_solver.specs.Trials.{the_trial, no_trial_of}
use Rattle.step2_solver.specs.Window.{outside_of}
use Rattle.labels.specs.declared.ReachedLimits.TheVariants.{Acc0Vel}
use Rattle.labels.specs.declared.ControlSigns.TheVariants.{UDDU, UDUD}

-- Whether no attempt is made.
unfoldable pub acc0_vel_too_short : PositionThirdOrderStep2 → (a_max j_max : Float) → Bool
acc0_vel_too_short s a_max j_max =
    lt s.tf (max_of ((neg s.a0 ⊕ a_max) ⊘ j_max) #0 ⊕ max_of (a_max ⊘ j_max) #0)

unfoldable pub acc0_vel_ph1 : PositionThirdOrderStep2 → (a_max j_max : Float) → Float
acc0_vel_ph1 s a_max j_max =
    #12
    ⊗ j_max
    ⊗ (neg a_max ⊗ a_max ⊗ s.vd ⊖ j_max ⊗ s.vd_vd ⊕ #2 ⊗ a_max ⊗ j_max ⊗ (neg s.pd ⊕ s.tf ⊗ s.vf))

-- Profile UDDU

unfoldable pub acc0_vel_uddu_polynom : PositionThirdOrderStep2 → (a_max j_max ph1 : Float) → List Float
acc0_vel_uddu_polynom s a_max j_max ph1 =
    let polynom0 = (#2 ⊗ a_max) ⊘ j_max in
    let polynom1 = (s.a0_a0 ⊖ s.af_af
    ⊕ #2 ⊗ s.ad ⊗ a_max
    ⊕ a_max ⊗ a_max
    ⊕ #2 ⊗ j_max ⊗ (s.vd ⊖ a_max ⊗ s.tf))
    ⊘ s.j_max_j_max in
    let polynom2 = #0 in
    let polynom3 = neg (neg #3 ⊗ (s.a0_p4 ⊕ s.af_p4) ⊕ #4 ⊗ (s.af_p3 ⊕ #2 ⊗ s.a0_p3) ⊗ a_max
    ⊖ #12 ⊗ s.a0 ⊗ a_max ⊗ (s.af_af ⊖ #2 ⊗ j_max ⊗ s.vd)
    ⊕ #6 ⊗ s.a0_a0 ⊗ (s.af_af ⊖ a_max ⊗ a_max ⊖ #2 ⊗ j_max ⊗ s.vd)
    ⊕ #6 ⊗ s.af_af ⊗ (a_max ⊗ a_max ⊖ #2 ⊗ a_max ⊗ j_max ⊗ s.tf ⊕ #2 ⊗ j_max ⊗ s.vd)
    ⊕ ph1)
    ⊘ (#12 ⊗ s.j_max_j_max ⊗ s.j_max_j_max) in
    polynom0 ∷ polynom1 ∷ polynom2 ∷ polynom3 ∷ []

unfoldable pub acc0_vel_uddu_t_min : PositionThirdOrderStep2 → (j_max : Float) → Float
acc0_vel_uddu_t_min s j_max = neg s.af ⊘ j_max

unfoldable pub acc0_vel_uddu_t_max : PositionThirdOrderStep2 → (a_max a_min j_max : Float) → Float
acc0_vel_uddu_t_max s a_max a_min j_max =
    min_of (s.tf ⊖ (#2 ⊗ a_max ⊖ s.a0) ⊘ j_max) (neg a_min ⊘ j_max)

unfoldable pub acc0_vel_uddu_orig : PositionThirdOrderStep2 → (a_max j_max t h1 : Float) → Float
acc0_vel_uddu_orig s a_max j_max t h1 =
    (neg #3 ⊗ (s.a0_p4 ⊕ s.af_p4) ⊕ #4 ⊗ (s.af_p3 ⊕ #2 ⊗ s.a0_p3) ⊗ a_max
    ⊖ #24 ⊗ s.af ⊗ a_max ⊗ s.j_max_j_max ⊗ t ⊗ t
    ⊖ #12 ⊗ s.a0 ⊗ a_max ⊗ (s.af_af ⊖ #2 ⊗ j_max ⊗ h1)
    ⊕ #6 ⊗ s.a0_a0 ⊗ (s.af_af ⊖ a_max ⊗ a_max ⊖ #2 ⊗ j_max ⊗ h1)
    ⊕ #6 ⊗ s.af_af ⊗ (a_max ⊗ a_max ⊖ #2 ⊗ a_max ⊗ j_max ⊗ s.tf ⊕ #2 ⊗ j_max ⊗ h1)
    ⊖ #12
    ⊗ j_max
    ⊗ (a_max ⊗ a_max ⊗ h1
    ⊕ j_max ⊗ h1 ⊗ h1
    ⊕ #2 ⊗ a_max ⊗ j_max ⊗ (s.pd ⊕ j_max ⊗ t ⊗ t ⊗ (t ⊖ s.tf) ⊖ s.tf ⊗ s.vf)))
    ⊘ (#24 ⊗ a_max ⊗ s.j_max_j_max)

unfoldable pub acc0_vel_uddu_deriv : PositionThirdOrderStep2 → (a_max j_max t h1 : Float) → Float
acc0_vel_uddu_deriv s a_max j_max t h1 =
    neg t
    ⊗ (s.a0_a0 ⊖ s.af_af
    ⊕ #2 ⊗ a_max ⊗ (s.ad ⊖ j_max ⊗ s.tf)
    ⊕ a_max ⊗ a_max
    ⊕ #3 ⊗ a_max ⊗ j_max ⊗ t
    ⊕ #2 ⊗ j_max ⊗ h1)
    ⊘ a_max

-- Single Newton step (regarding pd).
unfoldable pub acc0_vel_uddu_newton : PositionThirdOrderStep2 → (a_max j_max t : Float) → Float
acc0_vel_uddu_newton s a_max j_max t =
    cond (lt #ε t)
    (let h1 = j_max ⊗ t ⊗ t ⊕ s.vd in
    t ⊖ acc0_vel_uddu_orig s a_max j_max t h1 ⊘ acc0_vel_uddu_deriv s a_max j_max t h1)
    t

unfoldable pub acc0_vel_uddu_h1 : PositionThirdOrderStep2 → (a_max j_max t : Float) → Float
acc0_vel_uddu_h1 s a_max j_max t =
    ((s.a0_a0 ⊖ s.af_af) ⊘ #2 ⊕ j_max ⊗ (j_max ⊗ t ⊗ t ⊕ s.vd)) ⊘ a_max

unfoldable pub acc0_vel_uddu_times : PositionThirdOrderStep2 → (a_max j_max t h1 : Float) → Times
acc0_vel_uddu_times s a_max j_max t h1 =
    let t0 = (neg s.a0 ⊕ a_max) ⊘ j_max in
    let t1 = (h1 ⊖ a_max) ⊘ j_max in
    let t2 = a_max ⊘ j_max in
    let t3 = s.tf ⊖ (h1 ⊕ s.ad ⊕ a_max) ⊘ j_max ⊖ #2 ⊗ t in
    let t4 = t in
    let t5 = #0 in
    let t6 = s.af ⊘ j_max ⊕ t in
    record { t0 = t0; t1 = t1; t2 = t2; t3 = t3; t4 = t4; t5 = t5; t6 = t6 }

unfoldable pub acc0_vel_uddu_window : PositionThirdOrderStep2 → Limits → Window
acc0_vel_uddu_window s l =
    record {
      t_min = acc0_vel_uddu_t_min s l.j_max;
      t_max = acc0_vel_uddu_t_max s l.a_max l.a_min l.j_max;
    }

-- one root
unfoldable pub acc0_vel_uddu : PositionThirdOrderStep2 → Limits → Window → Float → Trial
acc0_vel_uddu s l w root =
    let t = acc0_vel_uddu_newton s l.a_max l.j_max root in
    let h1 = acc0_vel_uddu_h1 s l.a_max l.j_max t in
    let times = acc0_vel_uddu_times s l.a_max l.j_max t h1 in
    cond (outside_of w root) no_trial_of (the_trial false times UDDU Acc0Vel l.j_max)

-- Profile UDUD

unfoldable pub acc0_vel_udud_polynom : PositionThirdOrderStep2 → (a_max j_max ph1 : Float) → List Float
acc0_vel_udud_polynom s a_max j_max ph1 =
    let polynom0 = (neg #2 ⊗ a_max) ⊘ j_max in
    let polynom1 = neg (s.a0_a0 ⊕ s.af_af ⊖ #2 ⊗ (s.a0 ⊕ s.af) ⊗ a_max
    ⊕ a_max ⊗ a_max
    ⊕ #2 ⊗ j_max ⊗ (s.vd ⊖ a_max ⊗ s.tf))
    ⊘ s.j_max_j_max in
    let polynom2 = #0 in
    let polynom3 = (#3 ⊗ (s.a0_p4 ⊕ s.af_p4) ⊖ #4 ⊗ (s.af_p3 ⊕ #2 ⊗ s.a0_p3) ⊗ a_max
    ⊕ #6 ⊗ s.a0_a0 ⊗ (s.af_af ⊕ a_max ⊗ a_max ⊕ #2 ⊗ j_max ⊗ s.vd)
    ⊖ #12 ⊗ s.a0 ⊗ a_max ⊗ (s.af_af ⊕ #2 ⊗ j_max ⊗ s.vd)
    ⊕ #6 ⊗ s.af_af ⊗ (a_max ⊗ a_max ⊖ #2 ⊗ a_max ⊗ j_max ⊗ s.tf ⊕ #2 ⊗ j_max ⊗ s.vd)
    ⊖ ph1)
    ⊘ (#12 ⊗ s.j_max_j_max ⊗ s.j_max_j_max) in
    polynom0 ∷ polynom1 ∷ polynom2 ∷ polynom3 ∷ []

unfoldable pub acc0_vel_udud_t_min : PositionThirdOrderStep2 → (j_max : Float) → Float
acc0_vel_udud_t_min s j_max = s.af ⊘ j_max

unfoldable pub acc0_vel_udud_t_max : PositionThirdOrderStep2 → (a_max j_max : Float) → Float
acc0_vel_udud_t_max s a_max j_max = min_of (s.tf ⊖ a_max ⊘ j_max) (a_max ⊘ j_max)

unfoldable pub acc0_vel_udud_orig : PositionThirdOrderStep2 → (a_max j_max t h1 : Float) → Float
acc0_vel_udud_orig s a_max j_max t h1 =
    neg (#3 ⊗ (s.a0_p4 ⊕ s.af_p4) ⊖ #4 ⊗ (#2 ⊗ s.a0_p3 ⊕ s.af_p3) ⊗ a_max
    ⊕ #24 ⊗ s.af ⊗ a_max ⊗ s.j_max_j_max ⊗ t ⊗ t
    ⊖ #12 ⊗ s.a0 ⊗ a_max ⊗ (s.af_af ⊖ #2 ⊗ j_max ⊗ h1)
    ⊕ #6 ⊗ s.a0_a0 ⊗ (s.af_af ⊕ a_max ⊗ a_max ⊖ #2 ⊗ j_max ⊗ h1)
    ⊕ #6 ⊗ s.af_af ⊗ (a_max ⊗ a_max ⊖ #2 ⊗ j_max ⊗ (s.tf ⊗ a_max ⊕ h1))
    ⊕ #12
    ⊗ j_max
    ⊗ (neg a_max ⊗ a_max ⊗ h1 ⊕ j_max ⊗ h1 ⊗ h1
    ⊖ #2 ⊗ a_max ⊗ j_max ⊗ (neg s.pd ⊕ j_max ⊗ t ⊗ t ⊗ (t ⊖ s.tf) ⊕ s.tf ⊗ s.vf)))
    ⊘ (#24 ⊗ a_max ⊗ s.j_max_j_max)

unfoldable pub acc0_vel_udud_deriv : PositionThirdOrderStep2 → (a_max j_max t h1 : Float) → Float
acc0_vel_udud_deriv s a_max j_max t h1 =
    t
    ⊗ (s.a0_a0 ⊕ s.af_af ⊖ #2 ⊗ j_max ⊗ h1 ⊖ #2 ⊗ (s.a0 ⊕ s.af ⊕ j_max ⊗ s.tf) ⊗ a_max
    ⊕ a_max ⊗ a_max
    ⊕ #3 ⊗ a_max ⊗ j_max ⊗ t)
    ⊘ a_max

-- Single Newton step (regarding pd).
unfoldable pub acc0_vel_udud_newton : PositionThirdOrderStep2 → (a_max j_max t : Float) → Float
acc0_vel_udud_newton s a_max j_max t =
    let h1 = j_max ⊗ t ⊗ t ⊖ s.vd in
    t ⊖ acc0_vel_udud_orig s a_max j_max t h1 ⊘ acc0_vel_udud_deriv s a_max j_max t h1

unfoldable pub acc0_vel_udud_h1 : PositionThirdOrderStep2 → (a_max j_max t : Float) → Float
acc0_vel_udud_h1 s a_max j_max t =
    ((s.a0_a0 ⊕ s.af_af) ⊘ #2 ⊕ j_max ⊗ (s.vd ⊖ j_max ⊗ t ⊗ t)) ⊘ a_max

unfoldable pub acc0_vel_udud_times : PositionThirdOrderStep2 → (a_max j_max t h1 : Float) → Times
acc0_vel_udud_times s a_max j_max t h1 =
    let t0 = (neg s.a0 ⊕ a_max) ⊘ j_max in
    let t1 = (h1 ⊖ a_max) ⊘ j_max in
    let t2 = a_max ⊘ j_max in
    let t3 = s.tf ⊖ (h1 ⊖ s.a0 ⊖ s.af ⊕ a_max) ⊘ j_max ⊖ #2 ⊗ t in
    let t4 = t in
    let t5 = #0 in
    let t6 = neg (s.af ⊘ j_max) ⊕ t in
    record { t0 = t0; t1 = t1; t2 = t2; t3 = t3; t4 = t4; t5 = t5; t6 = t6 }

unfoldable pub acc0_vel_udud_window : PositionThirdOrderStep2 → Limits → Window
acc0_vel_udud_window s l =
    record {
      t_min = acc0_vel_udud_t_min s l.j_max;
      t_max = acc0_vel_udud_t_max s l.a_max l.j_max;
    }

-- one root
unfoldable pub acc0_vel_udud : PositionThirdOrderStep2 → Limits → Window → Float → Trial
acc0_vel_udud s l w root =
    let t = acc0_vel_udud_newton s l.a_max l.j_max root in
    let h1 = acc0_vel_udud_h1 s l.a_max l.j_max t in
    let times = acc0_vel_udud_times s l.a_max l.j_max t h1 in
    cond (outside_of w root) no_trial_of (the_trial false times UDUD Acc0Vel l.j_max)
