-- What `time_acc0` computes, by the Rust's names, each operation rounded once in
-- the Rust's order and brackets, and the attempts made of it. Definitions only.
use Rattle.std.specs.Prelude.{Float}
use Rattle.std.specs.Float.Ieee.{neg}
use Rattle.float.specs.Ops.{◌⊕◌, ◌⊖◌, ◌⊗◌, ◌⊘◌, #0, #2, #3, #4, #6, #9, #18}
use Rattle.float.specs.Helpers.{abs_of}
use Rattle.sqrt.specs.Sqrt.{square_root_of, f64_of, is_mark_of}
use Rattle.step2_solver.specs.declared.PositionThirdOrderStep2.{PositionThirdOrderStep2}
use Rattle.step2_solver.specs.declared.Times.{Times}
use Rattle.step2_solver.specs.declared.Limits.{Limits}
use Rattle.step2_solver.specs.declared.Trial.{Trial}
use Rattle.step2_solver.specs.Trials.{the_trial}
use Rattle.labels.specs.declared.ReachedLimits.TheVariants.{Acc0, None}
use Rattle.labels.specs.declared.ControlSigns.TheVariants.{UDDU, UDUD}

-- First attempt: UDUD

unfoldable pub acc0_first_radicand : PositionThirdOrderStep2 → (a_max j_max : Float) → Float
acc0_first_radicand s a_max j_max =
    s.ad_ad ⊘ (#2 ⊗ s.j_max_j_max) ⊖ s.ad ⊗ (a_max ⊖ s.a0) ⊘ s.j_max_j_max
    ⊕ (a_max ⊗ s.tf ⊖ s.vd) ⊘ j_max

unfoldable pub acc0_first_times : PositionThirdOrderStep2 → (a_max j_max h1 : Float) → Times
acc0_first_times s a_max j_max h1 =
    let t0 = (a_max ⊖ s.a0) ⊘ j_max in
    let t1 = s.tf ⊖ s.ad ⊘ j_max ⊖ #2 ⊗ h1 in
    let t2 = h1 in
    let t3 = #0 in
    let t4 = (s.af ⊖ a_max) ⊘ j_max ⊕ h1 in
    let t5 = #0 in
    let t6 = #0 in
    record { t0 = t0; t1 = t1; t2 = t2; t3 = t3; t4 = t4; t5 = t5; t6 = t6 }

unfoldable pub acc0_first : PositionThirdOrderStep2 → Limits → Trial
acc0_first s l =
    let root = square_root_of (acc0_first_radicand s l.a_max l.j_max) in
    let h1 = f64_of root in
    let times = acc0_first_times s l.a_max l.j_max h1 in
    the_trial (is_mark_of root) times UDUD None l.j_max

-- Second attempt: UDDU by its signs, where the Rust's comment says UDUD

unfoldable pub acc0_second_h0a : PositionThirdOrderStep2 → (a_max j_max : Float) → Float
acc0_second_h0a s a_max j_max =
    neg s.a0_a0 ⊕ s.af_af ⊖ #2 ⊗ s.ad ⊗ a_max ⊕ #2 ⊗ j_max ⊗ (a_max ⊗ s.tf ⊖ s.vd)

unfoldable pub acc0_second_h0b : PositionThirdOrderStep2 → (a_max j_max : Float) → Float
acc0_second_h0b s a_max j_max =
    s.a0_p3 ⊕ #2 ⊗ s.af_p3
    ⊖ #6 ⊗ s.af_af ⊗ a_max
    ⊖ #3 ⊗ s.a0_a0 ⊗ (s.af ⊖ j_max ⊗ s.tf)
    ⊖ #3 ⊗ s.a0 ⊗ a_max ⊗ (a_max ⊖ #2 ⊗ s.af ⊕ #2 ⊗ j_max ⊗ s.tf)
    ⊖ #3
    ⊗ j_max
    ⊗ (j_max ⊗ (neg #2 ⊗ s.pd ⊕ a_max ⊗ s.tf_tf ⊕ #2 ⊗ s.tf ⊗ s.v0)
    ⊕ a_max ⊗ (a_max ⊗ s.tf ⊖ #2 ⊗ s.vd))
    ⊕ #3 ⊗ s.af ⊗ (a_max ⊗ a_max ⊕ #2 ⊗ a_max ⊗ j_max ⊗ s.tf ⊖ #2 ⊗ j_max ⊗ s.vd)

unfoldable pub acc0_second_radicand : (h0a h0b : Float) → Float
acc0_second_radicand h0a h0b = #4 ⊗ h0b ⊗ h0b ⊖ #18 ⊗ h0a ⊗ h0a ⊗ h0a

unfoldable pub acc0_second_h0 : (j_max root : Float) → Float
acc0_second_h0 j_max root = abs_of j_max ⊗ root

unfoldable pub acc0_second_h1 : (j_max h0a : Float) → Float
acc0_second_h1 j_max h0a = #3 ⊗ j_max ⊗ h0a

unfoldable pub acc0_second_t1 : PositionThirdOrderStep2 → (a_max j_max h1 : Float) → Float
acc0_second_t1 s a_max j_max h1 =
    (neg s.a0_p3
    ⊕ s.af_p3
    ⊕ s.af_af ⊗ (neg #6 ⊗ a_max ⊕ #3 ⊗ j_max ⊗ s.tf)
    ⊕ s.a0_a0 ⊗ (neg #3 ⊗ s.af ⊕ #6 ⊗ a_max ⊕ #3 ⊗ j_max ⊗ s.tf)
    ⊕ #6 ⊗ s.af ⊗ (a_max ⊗ a_max ⊖ j_max ⊗ s.vd)
    ⊕ #3 ⊗ s.a0 ⊗ (s.af_af ⊖ #2 ⊗ (a_max ⊗ a_max ⊕ j_max ⊗ s.vd))
    ⊖ #6 ⊗ j_max ⊗ (a_max ⊗ (a_max ⊗ s.tf ⊖ #2 ⊗ s.vd) ⊕ j_max ⊗ s.g2))
    ⊘ h1

unfoldable pub acc0_second_times : PositionThirdOrderStep2 → (a_max j_max h0 h1 t1 : Float) → Times
acc0_second_times s a_max j_max h0 h1 t1 =
    let t0 = (neg s.a0 ⊕ a_max) ⊘ j_max in
    let t2 = neg (s.ad ⊕ h0 ⊘ h1) ⊘ (#2 ⊗ j_max) ⊕ s.tf ⊘ #2 ⊖ t1 ⊘ #2 in
    let t3 = h0 ⊘ (j_max ⊗ h1) in
    let t4 = #0 in
    let t5 = #0 in
    let t6 = s.tf ⊖ (t0 ⊕ t1 ⊕ t2 ⊕ t3) in
    record { t0 = t0; t1 = t1; t2 = t2; t3 = t3; t4 = t4; t5 = t5; t6 = t6 }

unfoldable pub acc0_second : PositionThirdOrderStep2 → Limits → Trial
acc0_second s l =
    let h0a = acc0_second_h0a s l.a_max l.j_max in
    let h0b = acc0_second_h0b s l.a_max l.j_max in
    let root = square_root_of (acc0_second_radicand h0a h0b) in
    let h0 = acc0_second_h0 l.j_max (f64_of root) in
    let h1 = acc0_second_h1 l.j_max h0a in
    let t1 = acc0_second_t1 s l.a_max l.j_max h1 in
    let times = acc0_second_times s l.a_max l.j_max h0 h1 t1 in
    the_trial (is_mark_of root) times UDDU None l.j_max

-- Third attempt: UDDU, Solution 1, a[3] other than 0

unfoldable pub acc0_third_h0a : PositionThirdOrderStep2 → (a_max j_max : Float) → Float
acc0_third_h0a s a_max j_max =
    s.a0_p3 ⊕ #2 ⊗ s.af_p3
    ⊖ #6 ⊗ (s.af_af ⊕ a_max ⊗ a_max) ⊗ a_max
    ⊖ #6 ⊗ (s.a0 ⊕ s.af) ⊗ a_max ⊗ j_max ⊗ s.tf
    ⊕ #9 ⊗ a_max ⊗ a_max ⊗ (s.af ⊕ j_max ⊗ s.tf)
    ⊕ #3 ⊗ s.a0 ⊗ a_max ⊗ (neg #2 ⊗ s.af ⊕ #3 ⊗ a_max)
    ⊕ #3 ⊗ s.a0_a0 ⊗ (s.af ⊖ #2 ⊗ a_max ⊕ j_max ⊗ s.tf)
    ⊖ #6 ⊗ s.j_max_j_max ⊗ s.g1
    ⊕ #6 ⊗ (s.af ⊖ a_max) ⊗ j_max ⊗ s.vd
    ⊖ #3 ⊗ a_max ⊗ s.j_max_j_max ⊗ s.tf_tf

unfoldable pub acc0_third_h0b : PositionThirdOrderStep2 → (a_max j_max : Float) → Float
acc0_third_h0b s a_max j_max =
    s.a0_a0
    ⊕ s.af_af
    ⊕ #2 ⊗ (a_max ⊗ a_max ⊖ (s.a0 ⊕ s.af) ⊗ a_max ⊕ j_max ⊗ (s.vd ⊖ a_max ⊗ s.tf))

unfoldable pub acc0_third_radicand : (h0a h0b : Float) → Float
acc0_third_radicand h0a h0b = #4 ⊗ h0a ⊗ h0a ⊖ #18 ⊗ h0b ⊗ h0b ⊗ h0b

unfoldable pub acc0_third_h1 : (j_max root : Float) → Float
acc0_third_h1 j_max root = abs_of j_max ⊘ j_max ⊗ root

unfoldable pub acc0_third_h2 : (j_max h0b : Float) → Float
acc0_third_h2 j_max h0b = #6 ⊗ j_max ⊗ h0b

unfoldable pub acc0_third_times : PositionThirdOrderStep2 → (a_max j_max h0a h1 h2 : Float) → Times
acc0_third_times s a_max j_max h0a h1 h2 =
    let t0 = (neg s.a0 ⊕ a_max) ⊘ j_max in
    let t1 = s.ad ⊘ j_max ⊖ #2 ⊗ t0 ⊖ (#2 ⊗ h0a ⊖ h1) ⊘ h2 ⊕ s.tf in
    let t2 = neg (#2 ⊗ h0a ⊕ h1) ⊘ h2 in
    let t3 = (#2 ⊗ h0a ⊖ h1) ⊘ h2 in
    let t4 = s.tf ⊖ (t0 ⊕ t1 ⊕ t2 ⊕ t3) in
    let t5 = #0 in
    let t6 = #0 in
    record { t0 = t0; t1 = t1; t2 = t2; t3 = t3; t4 = t4; t5 = t5; t6 = t6 }

unfoldable pub acc0_third : PositionThirdOrderStep2 → Limits → Trial
acc0_third s l =
    let h0a = acc0_third_h0a s l.a_max l.j_max in
    let h0b = acc0_third_h0b s l.a_max l.j_max in
    let root = square_root_of (acc0_third_radicand h0a h0b) in
    let h1 = acc0_third_h1 l.j_max (f64_of root) in
    let h2 = acc0_third_h2 l.j_max h0b in
    let times = acc0_third_times s l.a_max l.j_max h0a h1 h2 in
    the_trial (is_mark_of root) times UDDU Acc0 l.j_max
