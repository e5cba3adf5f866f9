-- What `time_acc0_acc1_vel` computes, by the Rust's names, each operation rounded once in
-- the Rust's order and brackets, and the attempts made of it. Definitions only.
use Rattle.std.specs.Prelude.{Bool, false, cond, Float}
use Rattle.std.specs.Float.Ieee.{neg, lt}
use Rattle.float.specs.Ops.{◌⊕◌, ◌⊖◌, ◌⊗◌, ◌⊘◌, #2, #3, #4, #6, #8, #12, #24}
use Rattle.float.specs.Helpers.{abs_of}
use Rattle.sqrt.specs.Sqrt.{square_root_of, f64_of, is_mark_of}
use Rattle.step2_solver.specs.declared.PositionThirdOrderStep2.{PositionThirdOrderStep2}
use Rattle.step2_solver.specs.declared.Times.{Times}
use Rattle.step2_solver.specs.declared.Limits.{Limits}
use Rattle.step2_solver.specs.declared.Trial.{Trial}
use Rattle.step2_solver.specs.Trials.{the_trial, no_trial_of}
use Rattle.labels.specs.declared.ReachedLimits.TheVariants.{Acc0Acc1Vel}
use Rattle.labels.specs.declared.ControlSigns.TheVariants.{UDDU, UDUD}

-- Profile UDDU, Solution 1

-- Whether this attempt is made.
unfoldable pub acc0_acc1_vel_uddu_applies : PositionThirdOrderStep2 → (a_max a_min j_max : Float) → Bool
acc0_acc1_vel_uddu_applies s a_max a_min j_max = lt ((#2 ⊗ (a_max ⊖ a_min) ⊕ s.ad) ⊘ j_max) s.tf

unfoldable pub acc0_acc1_vel_uddu_radicand : PositionThirdOrderStep2 → (a_max a_min j_max : Float) → Float
acc0_acc1_vel_uddu_radicand s a_max a_min j_max =
    (s.a0_p4 ⊕ s.af_p4
    ⊖ #4 ⊗ s.a0_p3 ⊗ (#2 ⊗ a_max ⊕ a_min) ⊘ #3
    ⊖ #4 ⊗ s.af_p3 ⊗ (a_max ⊕ #2 ⊗ a_min) ⊘ #3
    ⊕ #2 ⊗ (s.a0_a0 ⊖ s.af_af) ⊗ a_max ⊗ a_max
    ⊕ (#4 ⊗ s.a0 ⊗ a_max ⊖ #2 ⊗ s.a0_a0)
    ⊗ (s.af_af ⊖ #2 ⊗ s.af ⊗ a_min
    ⊕ (a_min ⊖ a_max) ⊗ a_min
    ⊕ #2 ⊗ j_max ⊗ (a_min ⊗ s.tf ⊖ s.vd))
    ⊕ #2 ⊗ s.af_af ⊗ (a_min ⊗ a_min ⊕ #2 ⊗ j_max ⊗ (a_max ⊗ s.tf ⊖ s.vd))
    ⊕ #4
    ⊗ j_max
    ⊗ (#2 ⊗ a_min ⊗ (s.af ⊗ s.vd ⊕ j_max ⊗ s.g1)
    ⊕ (a_max ⊗ a_max ⊖ a_min ⊗ a_min) ⊗ s.vd
    ⊕ j_max ⊗ s.vd_vd)
    ⊕ #8 ⊗ a_max ⊗ s.j_max_j_max ⊗ (s.pd ⊖ s.tf ⊗ s.vf))
    ⊘ (a_max ⊗ a_min)
    ⊕ #4 ⊗ s.af_af
    ⊕ #2 ⊗ s.a0_a0
    ⊕ (#4 ⊗ s.af ⊕ a_max ⊖ a_min) ⊗ (a_max ⊖ a_min)
    ⊕ #4 ⊗ j_max ⊗ (a_min ⊖ a_max ⊕ j_max ⊗ s.tf ⊖ #2 ⊗ s.af) ⊗ s.tf

unfoldable pub acc0_acc1_vel_uddu_h1 : (j_max root : Float) → Float
acc0_acc1_vel_uddu_h1 j_max root = root ⊗ abs_of j_max ⊘ j_max

unfoldable pub acc0_acc1_vel_uddu_t1 : PositionThirdOrderStep2 → (a_max a_min j_max h1 : Float) → Float
acc0_acc1_vel_uddu_t1 s a_max a_min j_max h1 =
    (neg (s.af_af ⊖ s.a0_a0
    ⊕ #2 ⊗ a_max ⊗ a_max
    ⊕ a_min ⊗ (a_min ⊖ #2 ⊗ s.ad ⊖ #3 ⊗ a_max)
    ⊕ #2 ⊗ j_max ⊗ (a_min ⊗ s.tf ⊖ s.vd))
    ⊕ a_min ⊗ h1)
    ⊘ (#2 ⊗ (a_max ⊖ a_min) ⊗ j_max)

unfoldable pub acc0_acc1_vel_uddu_times : PositionThirdOrderStep2 → (a_max a_min j_max h1 t1 : Float) → Times
acc0_acc1_vel_uddu_times s a_max a_min j_max h1 t1 =
    let t0 = (neg s.a0 ⊕ a_max) ⊘ j_max in
    let t2 = a_max ⊘ j_max in
    let t3 = (a_min ⊖ a_max ⊕ h1) ⊘ (#2 ⊗ j_max) in
    let t4 = neg a_min ⊘ j_max in
    let t5 = s.tf ⊖ (t0 ⊕ t1 ⊕ t2 ⊕ t3 ⊕ #2 ⊗ t4 ⊕ s.af ⊘ j_max) in
    let t6 = t4 ⊕ s.af ⊘ j_max in
    record { t0 = t0; t1 = t1; t2 = t2; t3 = t3; t4 = t4; t5 = t5; t6 = t6 }

unfoldable pub acc0_acc1_vel_uddu : PositionThirdOrderStep2 → Limits → Trial
acc0_acc1_vel_uddu s l =
    let root = square_root_of (acc0_acc1_vel_uddu_radicand s l.a_max l.a_min l.j_max) in
    let h1 = acc0_acc1_vel_uddu_h1 l.j_max (f64_of root) in
    let t1 = acc0_acc1_vel_uddu_t1 s l.a_max l.a_min l.j_max h1 in
    let times = acc0_acc1_vel_uddu_times s l.a_max l.a_min l.j_max h1 t1 in
    cond (acc0_acc1_vel_uddu_applies s l.a_max l.a_min l.j_max)
    (the_trial (is_mark_of root) times UDDU Acc0Acc1Vel l.j_max)
    no_trial_of

-- Profile UDUD

-- Whether this attempt is made.
unfoldable pub acc0_acc1_vel_udud_applies : PositionThirdOrderStep2 → (a_max j_max : Float) → Bool
acc0_acc1_vel_udud_applies s a_max j_max = lt ((neg s.a0 ⊕ #4 ⊗ a_max ⊖ s.af) ⊘ j_max) s.tf

unfoldable pub acc0_acc1_vel_udud_t1 : PositionThirdOrderStep2 → (a_max j_max : Float) → Float
acc0_acc1_vel_udud_t1 s a_max j_max =
    (#3 ⊗ (s.a0_p4 ⊕ s.af_p4) ⊖ #4 ⊗ (s.a0_p3 ⊕ s.af_p3) ⊗ a_max ⊖ #4 ⊗ s.af_p3 ⊗ a_max
    ⊕ #24 ⊗ (s.a0 ⊕ s.af) ⊗ a_max ⊗ a_max ⊗ a_max
    ⊖ #6 ⊗ (s.af_af ⊕ s.a0_a0) ⊗ (a_max ⊗ a_max ⊖ #2 ⊗ j_max ⊗ s.vd)
    ⊕ #6 ⊗ s.a0_a0 ⊗ (s.af_af ⊖ #2 ⊗ s.af ⊗ a_max ⊖ #2 ⊗ a_max ⊗ j_max ⊗ s.tf)
    ⊖ #12 ⊗ a_max ⊗ a_max ⊗ (#2 ⊗ a_max ⊗ a_max ⊖ #2 ⊗ a_max ⊗ j_max ⊗ s.tf ⊕ j_max ⊗ s.vd)
    ⊖ #24 ⊗ s.af ⊗ a_max ⊗ j_max ⊗ s.vd
    ⊕ #12 ⊗ s.j_max_j_max ⊗ (#2 ⊗ a_max ⊗ s.g1 ⊕ s.vd_vd))
    ⊘ (#12
    ⊗ a_max
    ⊗ j_max
    ⊗ (s.a0_a0 ⊕ s.af_af ⊖ #2 ⊗ (s.a0 ⊕ s.af) ⊗ a_max
    ⊕ #2 ⊗ (a_max ⊗ a_max ⊖ a_max ⊗ j_max ⊗ s.tf ⊕ j_max ⊗ s.vd)))

unfoldable pub acc0_acc1_vel_udud_t3 : PositionThirdOrderStep2 → (a_max j_max : Float) → Float
acc0_acc1_vel_udud_t3 s a_max j_max =
    (neg s.a0_a0 ⊖ s.af_af ⊕ #2 ⊗ a_max ⊗ (s.a0 ⊕ s.af ⊖ #2 ⊗ a_max) ⊖ #2 ⊗ j_max ⊗ s.vd)
    ⊘ (#2 ⊗ a_max ⊗ j_max)
    ⊕ s.tf

unfoldable pub acc0_acc1_vel_udud_times : PositionThirdOrderStep2 → (a_max j_max t1 t3 : Float) → Times
acc0_acc1_vel_udud_times s a_max j_max t1 t3 =
    let t0 = (neg s.a0 ⊕ a_max) ⊘ j_max in
    let t2 = a_max ⊘ j_max in
    let t4 = t2 in
    let t5 = s.tf ⊖ (t0 ⊕ t1 ⊕ t2 ⊕ t3 ⊕ #2 ⊗ t4 ⊖ s.af ⊘ j_max) in
    let t6 = t4 ⊖ s.af ⊘ j_max in
    record { t0 = t0; t1 = t1; t2 = t2; t3 = t3; t4 = t4; t5 = t5; t6 = t6 }

unfoldable pub acc0_acc1_vel_udud : PositionThirdOrderStep2 → Limits → Trial
acc0_acc1_vel_udud s l =
    let t1 = acc0_acc1_vel_udud_t1 s l.a_max l.j_max in
    let t3 = acc0_acc1_vel_udud_t3 s l.a_max l.j_max in
    let times = acc0_acc1_vel_udud_times s l.a_max l.j_max t1 t3 in
    cond (acc0_acc1_vel_udud_applies s l.a_max l.j_max)
    (the_trial false times UDUD Acc0Acc1Vel l.j_max)
    no_trial_of
