-- What `time_acc1_vel` computes, by the Rust's names, each operation rounded once in
-- the Rust's order and brackets, and its two attempts. Definitions only.
use Rattle.std.specs.Prelude.{false, cond, List, [], ◌∷◌, Float}
use Rattle.std.specs.Float.Ieee.{neg, lt}
use Rattle.float.specs.Ops.{◌⊕◌, ◌⊖◌, ◌⊗◌, ◌⊘◌, #0, #2, #3, #4, #5, #6, #8, #12, #24, #16ε}
use Rattle.float.specs.Helpers.{abs_of, min_of}
use Rattle.step2_solver.specs.declared.PositionThirdOrderStep2.{PositionThirdOrderStep2}
use Rattle.step2_solver.specs.declared.Times.{Times}
use Rattle.step2_solver.specs.declared.Limits.{Limits}
use Rattle.step2_solver.specs.declared.Trial.{Trial}
use Rattle.step2_solver.specs.declared.Window.{Window}
use Rattle.step2_solver.specs.Trials.{the_trial, no_trial_of}
use Rattle.step2_solver.specs.Window.{outside_of}
use Rattle.labels.specs.declared.ReachedLimits.TheVariants.{Acc1Vel}
use Rattle.labels.specs.declared.ControlSigns.TheVariants.{UDDU, UDUD}

-- The least root that either attempt takes.
unfoldable pub acc1_vel_t_min : PositionThirdOrderStep2 → (j_max : Float) → Float
acc1_vel_t_min s j_max = neg s.a0 ⊘ j_max

-- Profile UDDU

unfoldable pub acc1_vel_uddu_polynom : PositionThirdOrderStep2 → (a_min j_max : Float) → List Float
acc1_vel_uddu_polynom s a_min j_max =
    let ph1 = s.a0_a0 ⊕ s.af_af
    ⊖ a_min ⊗ (s.a0 ⊕ #2 ⊗ s.af ⊖ a_min)
    ⊖ #2 ⊗ j_max ⊗ (s.vd ⊖ a_min ⊗ s.tf) in
    let ph2 = #2 ⊗ a_min ⊗ (j_max ⊗ s.g1 ⊕ s.af ⊗ s.vd) ⊖ a_min ⊗ a_min ⊗ s.vd ⊕ j_max ⊗ s.vd_vd in
    let ph3 = s.af_af ⊕ a_min ⊗ (a_min ⊖ #2 ⊗ s.af) ⊖ #2 ⊗ j_max ⊗ (s.vd ⊖ a_min ⊗ s.tf) in
    let polynom0 = (#2 ⊗ (#2 ⊗ s.a0 ⊖ a_min)) ⊘ j_max in
    let polynom1 = (#4 ⊗ s.a0_a0 ⊕ ph1 ⊖ #3 ⊗ s.a0 ⊗ a_min) ⊘ s.j_max_j_max in
    let polynom2 = (#2 ⊗ s.a0 ⊗ ph1) ⊘ (s.j_max_j_max ⊗ j_max) in
    let polynom3 = (#3 ⊗ (s.a0_p4 ⊕ s.af_p4) ⊖ #4 ⊗ (s.a0_p3 ⊕ #2 ⊗ s.af_p3) ⊗ a_min
    ⊕ #6 ⊗ s.af_af ⊗ (a_min ⊗ a_min ⊖ #2 ⊗ j_max ⊗ s.vd)
    ⊕ #12 ⊗ j_max ⊗ ph2
    ⊕ #6 ⊗ s.a0_a0 ⊗ ph3)
    ⊘ (#12 ⊗ s.j_max_j_max ⊗ s.j_max_j_max) in
    polynom0 ∷ polynom1 ∷ polynom2 ∷ polynom3 ∷ []

unfoldable pub acc1_vel_uddu_t_max : PositionThirdOrderStep2 → (a_max a_min j_max : Float) → Float
acc1_vel_uddu_t_max s a_max a_min j_max =
    min_of
    ((s.tf ⊕ #2 ⊗ a_min ⊘ j_max ⊖ (s.a0 ⊕ s.af) ⊘ j_max) ⊘ #2)
    ((a_max ⊖ s.a0) ⊘ j_max)

unfoldable pub acc1_vel_uddu_orig : PositionThirdOrderStep2 → (a_min j_max t h0 : Float) → Float
acc1_vel_uddu_orig s a_min j_max t h0 =
    neg s.pd
    ⊕ (#3 ⊗ (s.a0_p4 ⊕ s.af_p4) ⊖ #8 ⊗ s.af_p3 ⊗ a_min ⊖ #4 ⊗ s.a0_p3 ⊗ a_min
    ⊕ #6 ⊗ s.af_af ⊗ (a_min ⊗ a_min ⊕ #2 ⊗ j_max ⊗ (h0 ⊖ s.vd))
    ⊕ #6
    ⊗ s.a0_a0
    ⊗ (s.af_af ⊖ #2 ⊗ s.af ⊗ a_min
    ⊕ a_min ⊗ a_min
    ⊕ #2 ⊗ a_min ⊗ j_max ⊗ (neg #2 ⊗ t ⊕ s.tf)
    ⊕ #2 ⊗ j_max ⊗ (#5 ⊗ h0 ⊖ s.vd))
    ⊕ #24
    ⊗ s.a0
    ⊗ j_max
    ⊗ t
    ⊗ (s.a0_a0 ⊕ s.af_af ⊖ #2 ⊗ s.af ⊗ a_min
    ⊕ a_min ⊗ a_min
    ⊕ #2 ⊗ j_max ⊗ (a_min ⊗ (neg t ⊕ s.tf) ⊕ h0 ⊖ s.vd))
    ⊖ #24 ⊗ s.af ⊗ a_min ⊗ j_max ⊗ (h0 ⊖ s.vd)
    ⊕ #12 ⊗ j_max ⊗ (a_min ⊗ a_min ⊗ (h0 ⊖ s.vd) ⊕ j_max ⊗ (h0 ⊖ s.vd) ⊗ (h0 ⊖ s.vd)))
    ⊘ (#24 ⊗ a_min ⊗ s.j_max_j_max)
    ⊕ h0 ⊗ (s.tf ⊖ t)
    ⊕ s.tf ⊗ s.v0

unfoldable pub acc1_vel_uddu_deriv : PositionThirdOrderStep2 → (a_min j_max t h0 : Float) → Float
acc1_vel_uddu_deriv s a_min j_max t h0 =
    (s.a0 ⊕ j_max ⊗ t)
    ⊗ ((s.a0_a0 ⊕ s.af_af) ⊘ (a_min ⊗ j_max)
    ⊕ (a_min ⊖ s.a0 ⊖ #2 ⊗ s.af) ⊘ j_max
    ⊕ (#4 ⊗ s.a0 ⊗ t ⊕ #2 ⊗ h0 ⊖ #2 ⊗ s.vd) ⊘ a_min
    ⊕ #2 ⊗ s.tf
    ⊖ #3 ⊗ t)

-- Single Newton step (regarding pd).
unfoldable pub acc1_vel_uddu_newton : PositionThirdOrderStep2 → (a_min j_max t : Float) → Float
acc1_vel_uddu_newton s a_min j_max t =
    cond (lt #16ε (abs_of (s.a0 ⊕ j_max ⊗ t)))
    (let h0 = j_max ⊗ t ⊗ t in
    t ⊖ acc1_vel_uddu_orig s a_min j_max t h0 ⊘ acc1_vel_uddu_deriv s a_min j_max t h0)
    t

unfoldable pub acc1_vel_uddu_h1 : PositionThirdOrderStep2 → (a_min j_max t : Float) → Float
acc1_vel_uddu_h1 s a_min j_max t =
    neg ((s.a0_a0 ⊕ s.af_af) ⊘ #2 ⊕ j_max ⊗ (neg s.vd ⊕ #2 ⊗ s.a0 ⊗ t ⊕ j_max ⊗ t ⊗ t)) ⊘ a_min

unfoldable pub acc1_vel_uddu_times : PositionThirdOrderStep2 → (a_min j_max t h1 : Float) → Times
acc1_vel_uddu_times s a_min j_max t h1 =
    let t0 = t in
    let t1 = #0 in
    let t2 = s.a0 ⊘ j_max ⊕ t in
    let t3 = s.tf ⊖ (h1 ⊖ a_min ⊕ s.a0 ⊕ s.af) ⊘ j_max ⊖ #2 ⊗ t in
    let t4 = neg a_min ⊘ j_max in
    let t5 = (h1 ⊕ a_min) ⊘ j_max in
    let t6 = t4 ⊕ s.af ⊘ j_max in
    record { t0 = t0; t1 = t1; t2 = t2; t3 = t3; t4 = t4; t5 = t5; t6 = t6 }

unfoldable pub acc1_vel_uddu_window : PositionThirdOrderStep2 → Limits → Window
acc1_vel_uddu_window s l =
    record {
      t_min = acc1_vel_t_min s l.j_max;
      t_max = acc1_vel_uddu_t_max s l.a_max l.a_min l.j_max;
    }

-- one root
unfoldable pub acc1_vel_uddu : PositionThirdOrderStep2 → Limits → Window → Float → Trial
acc1_vel_uddu s l w root =
    let t = acc1_vel_uddu_newton s l.a_min l.j_max root in
    let h1 = acc1_vel_uddu_h1 s l.a_min l.j_max t in
    let times = acc1_vel_uddu_times s l.a_min l.j_max t h1 in
    cond (outside_of w root) no_trial_of (the_trial false times UDDU Acc1Vel l.j_max)

-- Profile UDUD

unfoldable pub acc1_vel_udud_polynom : PositionThirdOrderStep2 → (a_max j_max : Float) → List Float
acc1_vel_udud_polynom s a_max j_max =
    let ph1 = s.a0_a0 ⊖ s.af_af ⊕ (#2 ⊗ s.af ⊖ s.a0) ⊗ a_max
    ⊖ a_max ⊗ a_max
    ⊖ #2 ⊗ j_max ⊗ (s.vd ⊖ a_max ⊗ s.tf) in
    let ph2 = a_max ⊗ a_max ⊕ #2 ⊗ j_max ⊗ s.vd in
    let ph3 = s.af_af ⊕ ph2 ⊖ #2 ⊗ a_max ⊗ (s.af ⊕ j_max ⊗ s.tf) in
    let ph4 = #2 ⊗ a_max ⊗ j_max ⊗ s.g1 ⊕ a_max ⊗ a_max ⊗ s.vd ⊕ j_max ⊗ s.vd_vd in
    let polynom0 = (#4 ⊗ s.a0 ⊖ #2 ⊗ a_max) ⊘ j_max in
    let polynom1 = (#4 ⊗ s.a0_a0 ⊖ #3 ⊗ s.a0 ⊗ a_max ⊕ ph1) ⊘ s.j_max_j_max in
    let polynom2 = (#2 ⊗ s.a0 ⊗ ph1) ⊘ (s.j_max_j_max ⊗ j_max) in
    let polynom3 = (#3 ⊗ (s.a0_p4 ⊕ s.af_p4)
    ⊖ #4 ⊗ (s.a0_p3 ⊕ #2 ⊗ s.af_p3) ⊗ a_max
    ⊖ #24 ⊗ s.af ⊗ a_max ⊗ j_max ⊗ s.vd
    ⊕ #12 ⊗ j_max ⊗ ph4
    ⊖ #6 ⊗ s.a0_a0 ⊗ ph3
    ⊕ #6 ⊗ s.af_af ⊗ ph2)
    ⊘ (#12 ⊗ s.j_max_j_max ⊗ s.j_max_j_max) in
    polynom0 ∷ polynom1 ∷ polynom2 ∷ polynom3 ∷ []

unfoldable pub acc1_vel_udud_t_max : PositionThirdOrderStep2 → (a_max j_max : Float) → Float
acc1_vel_udud_t_max s a_max j_max =
    min_of
    ((s.tf ⊕ s.ad ⊘ j_max ⊖ #2 ⊗ a_max ⊘ j_max) ⊘ #2)
    ((a_max ⊖ s.a0) ⊘ j_max)

unfoldable pub acc1_vel_udud_h1 : PositionThirdOrderStep2 → (a_max j_max t : Float) → Float
acc1_vel_udud_h1 s a_max j_max t =
    ((s.a0_a0 ⊖ s.af_af) ⊘ #2 ⊕ s.j_max_j_max ⊗ t ⊗ t ⊖ j_max ⊗ (s.vd ⊖ #2 ⊗ s.a0 ⊗ t)) ⊘ a_max

unfoldable pub acc1_vel_udud_times : PositionThirdOrderStep2 → (a_max j_max t h1 : Float) → Times
acc1_vel_udud_times s a_max j_max t h1 =
    let t0 = t in
    let t1 = #0 in
    let t2 = t ⊕ s.a0 ⊘ j_max in
    let t3 = s.tf ⊕ (h1 ⊕ s.ad ⊖ a_max) ⊘ j_max ⊖ #2 ⊗ t in
    let t4 = a_max ⊘ j_max in
    let t5 = neg (h1 ⊕ a_max) ⊘ j_max in
    let t6 = t4 ⊖ s.af ⊘ j_max in
    record { t0 = t0; t1 = t1; t2 = t2; t3 = t3; t4 = t4; t5 = t5; t6 = t6 }

unfoldable pub acc1_vel_udud_window : PositionThirdOrderStep2 → Limits → Window
acc1_vel_udud_window s l =
    record {
      t_min = acc1_vel_t_min s l.j_max;
      t_max = acc1_vel_udud_t_max s l.a_max l.j_max;
    }

-- one root
unfoldable pub acc1_vel_udud : PositionThirdOrderStep2 → Limits → Window → Float → Trial
acc1_vel_udud s l w root =
    let h1 = acc1_vel_udud_h1 s l.a_max l.j_max root in
    let times = acc1_vel_udud_times s l.a_max l.j_max root h1 in
    cond (outside_of w root) no_trial_of (the_trial false times UDUD Acc1Vel l.j_max)
