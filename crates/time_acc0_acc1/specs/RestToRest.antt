-- Document 02, Paper 4: kind 08, which is `time_acc0_acc1` with a t[1] that is the motion's in its rest formula. The
-- jerk, the other six times, label and signs are those of the Rust's rest formula with this t[1]. Definitions only.
use Rattle.std.specs.Prelude.{Bool, cond, Float}
use Rattle.float.specs.Ops.{◌⊖◌, ◌⊗◌, ◌⊘◌}
use Rattle.step2_solver.specs.declared.PositionThirdOrderStep2.{PositionThirdOrderStep2}
use Rattle.step2_solver.specs.declared.Limits.{Limits}
use Rattle.step2_solver.specs.declared.Trial.{Trial}
use Rattle.time_acc0_acc1.specs.TimeAcc0Acc1.{acc0_acc1_rest_applies, acc0_acc1_rest_h1, acc0_acc1_rest_h2}
use Rattle.time_acc0_acc1.specs.TimeAcc0Acc1.{acc0_acc1_rest_jf, acc0_acc1_rest_trial, acc0_acc1_uddu, acc0_acc1_of}

-- (jf (vd - a_min tf) - (a_max - a_min)²) / ((a_max - a_min) jf), each operation rounded in this order and the square
-- as one product
unfoldable pub rest_to_rest_t1 : PositionThirdOrderStep2 → (a_max a_min jf : Float) → Float
rest_to_rest_t1 s a_max a_min jf =
    (jf ⊗ (s.vd ⊖ a_min ⊗ s.tf) ⊖ (a_max ⊖ a_min) ⊗ (a_max ⊖ a_min)) ⊘ ((a_max ⊖ a_min) ⊗ jf)

unfoldable pub rest_to_rest_trial : PositionThirdOrderStep2 → Limits → Trial
rest_to_rest_trial s l =
    let h1 = acc0_acc1_rest_h1 s l.a_max l.a_min in
    let h2 = acc0_acc1_rest_h2 s l.a_max l.a_min in
    let jf = acc0_acc1_rest_jf h1 h2 in
    acc0_acc1_rest_trial s l jf (rest_to_rest_t1 s l.a_max l.a_min jf)

-- the one attempt that is made
abbrev pub rest_to_rest_of : PositionThirdOrderStep2 → Limits → Trial
rest_to_rest_of s l = cond (acc0_acc1_rest_applies s) (rest_to_rest_trial s l) (acc0_acc1_uddu s l)

-- kind 08's, or the Rust's
abbrev pub acc0_acc1_by : (rest_to_rest_lem : Bool) → PositionThirdOrderStep2 → Limits → Trial
acc0_acc1_by rest_to_rest_lem s l = cond rest_to_rest_lem (rest_to_rest_of s l) (acc0_acc1_of s l)
