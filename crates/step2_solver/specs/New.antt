-- What `new` keeps: the boundary numbers and their powers, each operation rounded once in the Rust's order.
-- Definitions only.
use Rattle.std.specs.Prelude.{Float}
use Rattle.std.specs.Float.Ieee.{neg}
use Rattle.float.specs.Ops.{◌⊕◌, ◌⊖◌, ◌⊗◌, #2}
use Rattle.step2_solver.specs.declared.PositionThirdOrderStep2.{PositionThirdOrderStep2}
use Rattle.step2_solver.specs.declared.Move.{Move}
use Rattle.step2_solver.specs.declared.Limits.{Limits}

unfoldable pub new_of : (tf p0 v0 a0 pf vf af j_max : Float) → PositionThirdOrderStep2
new_of tf p0 v0 a0 pf vf af j_max =
    let pd = pf ⊖ p0 in
    let tf_tf = tf ⊗ tf in
    let tf_p3 = tf_tf ⊗ tf in
    let tf_p4 = tf_tf ⊗ tf_tf in
    let vd = vf ⊖ v0 in
    let vd_vd = vd ⊗ vd in
    let vf_vf = vf ⊗ vf in
    let ad = af ⊖ a0 in
    let ad_ad = ad ⊗ ad in
    let a0_a0 = a0 ⊗ a0 in
    let af_af = af ⊗ af in
    let a0_p3 = a0 ⊗ a0_a0 in
    let a0_p4 = a0_a0 ⊗ a0_a0 in
    let a0_p5 = a0_p3 ⊗ a0_a0 in
    let a0_p6 = a0_p4 ⊗ a0_a0 in
    let af_p3 = af ⊗ af_af in
    let af_p4 = af_af ⊗ af_af in
    let af_p5 = af_p3 ⊗ af_af in
    let af_p6 = af_p4 ⊗ af_af in
    let j_max_j_max = j_max ⊗ j_max in
    let g1 = neg pd ⊕ tf ⊗ v0 in
    let g2 = neg #2 ⊗ pd ⊕ tf ⊗ (v0 ⊕ vf) in
    record {
      v0 = v0;
      a0 = a0;
      tf = tf;
      vf = vf;
      af = af;
      pd = pd;
      tf_tf = tf_tf;
      tf_p3 = tf_p3;
      tf_p4 = tf_p4;
      vd = vd;
      vd_vd = vd_vd;
      vf_vf = vf_vf;
      ad = ad;
      ad_ad = ad_ad;
      a0_a0 = a0_a0;
      af_af = af_af;
      a0_p3 = a0_p3;
      a0_p4 = a0_p4;
      a0_p5 = a0_p5;
      a0_p6 = a0_p6;
      af_p3 = af_p3;
      af_p4 = af_p4;
      af_p5 = af_p5;
      af_p6 = af_p6;
      j_max_j_max = j_max_j_max;
      g1 = g1;
      g2 = g2;
    }

-- the Rust's `new`, of the twelve numbers
abbrev pub solver_of : Move → PositionThirdOrderStep2
solver_of x = new_of x.tf x.p0 x.v0 x.a0 x.pf x.vf x.af x.j_max

-- the limits that `new` and every shape are passed
abbrev pub limits_of : Move → Limits
limits_of x =
    record {
      v_max = x.v_max;
      v_min = x.v_min;
      a_max = x.a_max;
      a_min = x.a_min;
      j_max = x.j_max;
    }
