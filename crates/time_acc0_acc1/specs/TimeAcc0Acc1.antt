-- What `time_acc0_acc1` computes, by the Rust's names, each operation rounded once in
-- the Rust's order and brackets, and the attempts made of it. Definitions only.
use Rattle.std.specs.Prelude.{Bool, false, cond, ◌&&◌, Float}
use Rattle.std.specs.Float.Ieee.{neg, lt}
use Rattle.float.specs.Ops.{◌⊕◌, ◌⊖◌, ◌⊗◌, ◌⊘◌, #0, #2, #3, #4, #6, #8, #12, #48, #144, #ε}
use Rattle.float.specs.Helpers.{abs_of}
use Rattle.sqrt.specs.Sqrt.{square_root_of, f64_of, is_mark_of}
use Rattle.step2_solver.specs.declared.PositionThirdOrderStep2.{PositionThirdOrderStep2}
use Rattle.step2_solver.specs.declared.Times.{Times}
use Rattle.step2_solver.specs.declared.Limits.{Limits}
use Rattle.step2_solver.specs.declared.Trial.{Trial}
use Rattle.step2_solver.specs.Trials.{the_trial}
use Rattle.labels.specs.declared.ReachedLimits.TheVariants.{Acc0Acc1}
use Rattle.labels.specs.declared.ControlSigns.TheVariants.{UDDU}

-- Both end accelerations below EPS in size: the rest formula, and no other attempt

unfoldable pub acc0_acc1_rest_applies : PositionThirdOrderStep2 → Bool
acc0_acc1_rest_applies s = lt (abs_of s.a0) #ε && lt (abs_of s.af) #ε

unfoldable pub acc0_acc1_rest_h1 : PositionThirdOrderStep2 → (a_max a_min : Float) → Float
acc0_acc1_rest_h1 s a_max a_min =
    #2 ⊗ a_min ⊗ s.g1 ⊕ s.vd_vd ⊕ a_max ⊗ (#2 ⊗ s.pd ⊕ a_min ⊗ s.tf_tf ⊖ #2 ⊗ s.tf ⊗ s.vf)

unfoldable pub acc0_acc1_rest_h2 : PositionThirdOrderStep2 → (a_max a_min : Float) → Float
acc0_acc1_rest_h2 s a_max a_min =
    (a_max ⊖ a_min) ⊗ (neg a_min ⊗ s.vd ⊕ a_max ⊗ (a_min ⊗ s.tf ⊖ s.vd))

unfoldable pub acc0_acc1_rest_jf : (h1 h2 : Float) → Float
acc0_acc1_rest_jf h1 h2 = h2 ⊘ h1

unfoldable pub acc0_acc1_rest_t1 : PositionThirdOrderStep2 → (a_max a_min h1 h2 : Float) → Float
acc0_acc1_rest_t1 s a_max a_min h1 h2 = (neg #2 ⊗ a_max ⊗ h1 ⊕ a_min ⊗ a_min ⊗ s.g2) ⊘ h2

unfoldable pub acc0_acc1_rest_times : PositionThirdOrderStep2 → (a_max a_min jf t1 : Float) → Times
acc0_acc1_rest_times s a_max a_min jf t1 =
    let t0 = a_max ⊘ jf in
    let t2 = t0 in
    let t3 = #0 in
    let t4 = neg a_min ⊘ jf in
    let t5 = s.tf ⊖ (#2 ⊗ t0 ⊕ t1 ⊕ #2 ⊗ t4) in
    let t6 = t4 in
    record { t0 = t0; t1 = t1; t2 = t2; t3 = t3; t4 = t4; t5 = t5; t6 = t6 }

-- with any jerk and any t[1]
abbrev pub acc0_acc1_rest_trial : PositionThirdOrderStep2 → Limits → (jf t1 : Float) → Trial
acc0_acc1_rest_trial s l jf t1 =
    let times = acc0_acc1_rest_times s l.a_max l.a_min jf t1 in
    the_trial false times UDDU Acc0Acc1 jf

unfoldable pub acc0_acc1_rest : PositionThirdOrderStep2 → Limits → Trial
acc0_acc1_rest s l =
    let h1 = acc0_acc1_rest_h1 s l.a_max l.a_min in
    let h2 = acc0_acc1_rest_h2 s l.a_max l.a_min in
    let jf = acc0_acc1_rest_jf h1 h2 in
    let t1 = acc0_acc1_rest_t1 s l.a_max l.a_min h1 h2 in
    acc0_acc1_rest_trial s l jf t1

-- UDDU

-- v is what the Rust hands to `pow2`.
unfoldable pub acc0_acc1_uddu_radicand : PositionThirdOrderStep2 → (a_max a_min : Float) → Float
acc0_acc1_uddu_radicand s a_max a_min =
    let v = (a_max ⊖ a_min) ⊗ (neg a_min ⊗ s.vd ⊕ a_max ⊗ (a_min ⊗ s.tf ⊖ s.vd))
    ⊖ s.af_af ⊗ (a_max ⊗ s.tf ⊖ s.vd)
    ⊕ #2 ⊗ s.af ⊗ a_min ⊗ (a_max ⊗ s.tf ⊖ s.vd)
    ⊕ s.a0_a0 ⊗ (a_min ⊗ s.tf ⊕ s.v0 ⊖ s.vf)
    ⊖ #2 ⊗ s.a0 ⊗ a_max ⊗ (a_min ⊗ s.tf ⊖ s.vd) in
    #144 ⊗ (v ⊗ v)
    ⊕ #48
    ⊗ s.ad
    ⊗ (#3 ⊗ s.a0_p3 ⊖ #3 ⊗ s.af_p3
    ⊕ #12 ⊗ a_max ⊗ a_min ⊗ (neg a_max ⊕ a_min)
    ⊕ #4 ⊗ s.af_af ⊗ (a_max ⊕ #2 ⊗ a_min)
    ⊕ s.a0
    ⊗ (neg #3 ⊗ s.af_af
    ⊕ #8 ⊗ s.af ⊗ (a_min ⊖ a_max)
    ⊕ #6 ⊗ (a_max ⊗ a_max ⊕ #2 ⊗ a_max ⊗ a_min ⊖ a_min ⊗ a_min))
    ⊕ #6 ⊗ s.af ⊗ (a_max ⊗ a_max ⊖ #2 ⊗ a_max ⊗ a_min ⊖ a_min ⊗ a_min)
    ⊕ s.a0_a0 ⊗ (#3 ⊗ s.af ⊖ #4 ⊗ (#2 ⊗ a_max ⊕ a_min)))
    ⊗ (#2 ⊗ a_min ⊗ s.g1
    ⊕ s.vd ⊗ s.vd
    ⊕ a_max ⊗ (#2 ⊗ s.pd ⊕ a_min ⊗ s.tf ⊗ s.tf ⊖ #2 ⊗ s.tf ⊗ s.vf))

unfoldable pub acc0_acc1_uddu_jf : PositionThirdOrderStep2 → (a_max a_min h1 : Float) → Float
acc0_acc1_uddu_jf s a_max a_min h1 =
    neg (#3 ⊗ s.af_af ⊗ a_max ⊗ s.tf
    ⊖ #3 ⊗ s.a0_a0 ⊗ a_min ⊗ s.tf
    ⊖ #6 ⊗ s.ad ⊗ a_max ⊗ a_min ⊗ s.tf
    ⊕ #3 ⊗ a_max ⊗ a_min ⊗ (a_min ⊖ a_max) ⊗ s.tf
    ⊕ #3 ⊗ (s.a0_a0 ⊖ s.af_af) ⊗ s.vd
    ⊕ #6 ⊗ s.vd ⊗ (s.af ⊗ a_min ⊖ s.a0 ⊗ a_max)
    ⊕ #3 ⊗ (a_max ⊗ a_max ⊖ a_min ⊗ a_min) ⊗ s.vd
    ⊕ h1 ⊘ #4)
    ⊘ (#6
    ⊗ (#2 ⊗ a_min ⊗ s.g1
    ⊕ s.vd ⊗ s.vd
    ⊕ a_max ⊗ (#2 ⊗ s.pd ⊕ a_min ⊗ s.tf_tf ⊖ #2 ⊗ s.tf ⊗ s.vf)))

unfoldable pub acc0_acc1_uddu_t1 : PositionThirdOrderStep2 → (a_max a_min jf : Float) → Float
acc0_acc1_uddu_t1 s a_max a_min jf =
    (s.a0_a0 ⊖ s.af_af ⊕ #2 ⊗ s.ad ⊗ a_min
    ⊖ #2
    ⊗ (a_max ⊗ a_max ⊖ #2 ⊗ a_max ⊗ a_min ⊕ a_min ⊗ a_min ⊕ a_min ⊗ jf ⊗ s.tf ⊖ jf ⊗ s.vd))
    ⊘ (#2 ⊗ (a_max ⊖ a_min) ⊗ jf)

unfoldable pub acc0_acc1_uddu_times : PositionThirdOrderStep2 → (a_max a_min jf t1 : Float) → Times
acc0_acc1_uddu_times s a_max a_min jf t1 =
    let t0 = (a_max ⊖ s.a0) ⊘ jf in
    let t2 = a_max ⊘ jf in
    let t3 = #0 in
    let t4 = neg a_min ⊘ jf in
    let t5 = s.tf ⊖ (t0 ⊕ t1 ⊕ t2 ⊕ #2 ⊗ t4 ⊕ s.af ⊘ jf) in
    let t6 = t4 ⊕ s.af ⊘ jf in
    record { t0 = t0; t1 = t1; t2 = t2; t3 = t3; t4 = t4; t5 = t5; t6 = t6 }

unfoldable pub acc0_acc1_uddu : PositionThirdOrderStep2 → Limits → Trial
acc0_acc1_uddu s l =
    let root = square_root_of (acc0_acc1_uddu_radicand s l.a_max l.a_min) in
    let h1 = f64_of root in
    let jf = acc0_acc1_uddu_jf s l.a_max l.a_min h1 in
    let t1 = acc0_acc1_uddu_t1 s l.a_max l.a_min jf in
    let times = acc0_acc1_uddu_times s l.a_max l.a_min jf t1 in
    the_trial (is_mark_of root) times UDDU Acc0Acc1 jf

-- the one attempt that is made
abbrev pub acc0_acc1_of : PositionThirdOrderStep2 → Limits → Trial
acc0_acc1_of s l = cond (acc0_acc1_rest_applies s) (acc0_acc1_rest s l) (acc0_acc1_uddu s l)
