-- Of every trial of the shapes enough is known: by the facts of its times, for whatever its formulas hand to them. The
-- root is any f64, and so is the t[1] of the rest formula (`rest_known`): only the formulas of the times count. Assumes
-- nothing.
use mathlib.Core.Path.{refl}
use mathlib.Core.Bool.{Bool, cond}
use lib.Dec.{T}
use lib.Ieee.{Float}
use lib.Ieee.Fits.{sub-fits, add-fits, div-fits, cond-fits}
use lib.Ieee.Bits.{of_bits-fits}
use Rattle.sqrt.specs.Sqrt.{square_root_of, f64_of, sqrt_of}
use Rattle.sqrt.proofs.Laws.{sqrt_of-fits}
use Rattle.labels.specs.declared.ReachedLimits.{ReachedLimits}
use Rattle.labels.specs.declared.ControlSigns.{ControlSigns}
use Rattle.labels.specs.Tests.{tests_of}
use Rattle.roots.specs.Fits.{Fits64}
use Rattle.step2_solver.specs.declared.PositionThirdOrderStep2.{PositionThirdOrderStep2}
use Rattle.step2_solver.specs.declared.Limits.{Limits}
use Rattle.step2_solver.specs.declared.Move.{Move}
use Rattle.step2_solver.specs.New.{solver_of, limits_of}
use Rattle.step2_solver.specs.declared.Times.{Times}
use Rattle.step2_solver.specs.declared.Trial.{Trial}
use Rattle.step2_solver.specs.Trials.{the_trial, no_trial_of}
use Rattle.time_acc0_acc1_vel.specs.TimeAcc0Acc1Vel.{acc0_acc1_vel_uddu_applies, acc0_acc1_vel_uddu_radicand}
use Rattle.time_acc0_acc1_vel.specs.TimeAcc0Acc1Vel.{acc0_acc1_vel_uddu_h1, acc0_acc1_vel_uddu_t1}
use Rattle.time_acc0_acc1_vel.specs.TimeAcc0Acc1Vel.{acc0_acc1_vel_udud_applies, acc0_acc1_vel_udud_t1}
use Rattle.time_acc0_acc1_vel.specs.TimeAcc0Acc1Vel.{acc0_acc1_vel_udud_t3}
use Rattle.time_acc0_acc1_vel.specs.TimeAcc0Acc1Vel.{acc0_acc1_vel_uddu, acc0_acc1_vel_udud, acc0_acc1_vel_uddu_times}
use Rattle.time_acc0_acc1_vel.specs.TimeAcc0Acc1Vel.{acc0_acc1_vel_udud_times}
use Rattle.time_acc0_acc1.specs.TimeAcc0Acc1.{acc0_acc1_rest_applies, acc0_acc1_rest_h1, acc0_acc1_rest_h2}
use Rattle.time_acc0_acc1.specs.TimeAcc0Acc1.{acc0_acc1_rest_jf}
use Rattle.time_acc0_acc1.specs.TimeAcc0Acc1.{acc0_acc1_rest_t1, acc0_acc1_rest_times, acc0_acc1_rest_trial}
use Rattle.time_acc0_acc1.specs.TimeAcc0Acc1.{acc0_acc1_rest}
use Rattle.time_acc0_acc1.specs.TimeAcc0Acc1.{acc0_acc1_uddu_radicand, acc0_acc1_uddu_jf, acc0_acc1_uddu_t1}
use Rattle.time_acc0_acc1.specs.TimeAcc0Acc1.{acc0_acc1_uddu_times, acc0_acc1_uddu}
use Rattle.time_acc0_acc1.specs.RestToRest.{rest_to_rest_t1, rest_to_rest_trial}
use Rattle.time_acc0.specs.TimeAcc0.{acc0_first_radicand, acc0_second_h0a, acc0_second_h0b, acc0_second_radicand}
use Rattle.time_acc0.specs.TimeAcc0.{acc0_second_h0}
use Rattle.time_acc0.specs.TimeAcc0.{acc0_second_h1, acc0_second_t1, acc0_third_h0a, acc0_third_h0b}
use Rattle.time_acc0.specs.TimeAcc0.{acc0_third_radicand}
use Rattle.time_acc0.specs.TimeAcc0.{acc0_third_h1, acc0_third_h2}
use Rattle.time_acc0.specs.TimeAcc0.{acc0_first, acc0_second, acc0_third}
use Rattle.time_acc0.specs.TimeAcc0.{acc0_first_times, acc0_second_times, acc0_third_times}
use Rattle.step2_solver.specs.declared.Window.{Window}
use Rattle.step2_solver.specs.Window.{outside_of}
use Rattle.time_acc1_vel.specs.TimeAcc1Vel.{acc1_vel_uddu_newton, acc1_vel_uddu_h1, acc1_vel_udud_h1}
use Rattle.time_acc1_vel.specs.TimeAcc1Vel.{acc1_vel_uddu, acc1_vel_udud, acc1_vel_uddu_times, acc1_vel_udud_times}
use Rattle.time_acc0_vel.specs.TimeAcc0Vel.{acc0_vel_uddu_newton, acc0_vel_uddu_h1, acc0_vel_udud_newton}
use Rattle.time_acc0_vel.specs.TimeAcc0Vel.{acc0_vel_udud_h1}
use Rattle.time_acc0_vel.specs.TimeAcc0Vel.{acc0_vel_uddu, acc0_vel_udud, acc0_vel_uddu_times, acc0_vel_udud_times}
use Rattle.step2_times.specs.Facts.{FormulaNumbers}
use Rattle.step2_times.proofs.Facts.{acc0_acc1_vel_uddu_lem, acc0_acc1_vel_udud_lem, acc1_vel_uddu_lem}
use Rattle.step2_times.proofs.Facts.{acc1_vel_udud_lem}
use Rattle.step2_times.proofs.Facts.{acc0_vel_uddu_lem, acc0_vel_udud_lem, acc0_acc1_rest_lem, acc0_acc1_uddu_lem}
use Rattle.step2_times.proofs.Facts.{acc0_first_lem}
use Rattle.step2_times.proofs.Facts.{acc0_second_lem, acc0_third_lem}
use Rattle.step2_arrives.specs.Moves.{MoveNumbers}
use Rattle.step2_arrives.proofs.Sound.{Known, known, none_known, known_cond}
use Rattle.step2_arrives.proofs.Made.{Timed, replacing, leaving}

module _ {m : Move} (n : MoveNumbers m) where
  abbrev s : PositionThirdOrderStep2
  s = solver_of m

  abbrev l : Limits
  l = limits_of m

  abbrev a_max : Float
  a_max = m.a_max

  abbrev a_min : Float
  a_min = m.a_min

  abbrev j_max : Float
  j_max = m.j_max

  -- ---- what the facts of the times ask, and a trial with the jerk j_max
  numbers : FormulaNumbers m.tf m.a0 m.af a_max a_min j_max
  numbers =
      record {
        of_tf = n.of_tf;
        of_a0 = n.of_a0;
        of_af = n.of_af;
        of_a_max = n.of_a_max;
        of_a_min = n.of_a_min;
        of_j_max = n.of_j_max;
      }

  by_j_max : {marked : Bool} {x : Times} {signs : ControlSigns} {label : ReachedLimits}
      → Timed label m.tf m.a0 j_max x → Known m (the_trial marked x signs label j_max)
  by_j_max h = known h n.of_j_max.held

  -- The times fit binary64, each being the result of an operation, a literal, or a number that fits; the facts say how
  -- long they last, and what the label's 0 for a[3] is off by.
  -- ---- `time_acc0_acc1_vel`
  pub acc0_acc1_vel_uddu_known : Known m (acc0_acc1_vel_uddu s l)
  unfolding acc0_acc1_vel_uddu
  acc0_acc1_vel_uddu_known =
      let root = square_root_of (acc0_acc1_vel_uddu_radicand s a_max a_min j_max) in
      let h1 = acc0_acc1_vel_uddu_h1 j_max (f64_of root) in let t1 = acc0_acc1_vel_uddu_t1 s a_max a_min j_max h1 in
      known_cond (acc0_acc1_vel_uddu_applies s a_max a_min j_max)
      (λ z. by_j_max
      (replacing (unfold acc0_acc1_vel_uddu_times acc0_acc1_vel_uddu_t1 in search (add-fits, sub-fits, div-fits))
      (λ t. acc0_acc1_vel_uddu_lem m.tf m.p0 m.v0 m.a0 m.pf m.vf m.af a_max a_min j_max numbers
      h1 t1)))
      (λ z. none_known)

  pub acc0_acc1_vel_udud_known : Known m (acc0_acc1_vel_udud s l)
  unfolding acc0_acc1_vel_udud
  acc0_acc1_vel_udud_known =
      let t1 = acc0_acc1_vel_udud_t1 s a_max j_max in let t3 = acc0_acc1_vel_udud_t3 s a_max j_max in
      known_cond (acc0_acc1_vel_udud_applies s a_max j_max)
      (λ z. by_j_max
      (replacing
      (unfold acc0_acc1_vel_udud_times acc0_acc1_vel_udud_t1 acc0_acc1_vel_udud_t3 in
      search (add-fits, sub-fits, div-fits))
      (λ t. acc0_acc1_vel_udud_lem m.tf m.p0 m.v0 m.a0 m.pf m.vf m.af a_max a_min j_max numbers
      t1 t3)))
      (λ z. none_known)

  -- ---- `time_acc1_vel` and `time_acc0_vel`, whose trials are made inside a window alone
  module _ (w : Window) (root : Float) (f : Fits64 root) where
    inside : {k : Trial} → Known m k → Known m (cond (outside_of w root) no_trial_of k)
    inside h = known_cond (outside_of w root) (λ z. none_known) (λ z. h)

    pub acc1_vel_uddu_known : Known m (acc1_vel_uddu s l w root)
    unfolding acc1_vel_uddu
    acc1_vel_uddu_known =
        let r = acc1_vel_uddu_newton s a_min j_max root in let h1 = acc1_vel_uddu_h1 s a_min j_max r in
        inside (by_j_max (replacing
        (unfold acc1_vel_uddu_times acc1_vel_uddu_newton in
        search (cond-fits, add-fits, sub-fits, div-fits, of_bits-fits))
        (λ t. acc1_vel_uddu_lem m.tf m.p0 m.v0 m.a0 m.pf m.vf m.af a_max a_min j_max numbers r h1
        (unfold acc1_vel_uddu_h1 in search (div-fits)))))

    pub acc1_vel_udud_known : Known m (acc1_vel_udud s l w root)
    unfolding acc1_vel_udud
    acc1_vel_udud_known =
        let h1 = acc1_vel_udud_h1 s a_max j_max root in
        inside (by_j_max (replacing (unfold acc1_vel_udud_times in search (add-fits, sub-fits, div-fits, of_bits-fits))
        (λ t. acc1_vel_udud_lem m.tf m.p0 m.v0 m.a0 m.pf m.vf m.af a_max a_min j_max numbers root h1
        (unfold acc1_vel_udud_h1 in search (div-fits)))))

    pub acc0_vel_uddu_known : Known m (acc0_vel_uddu s l w root)
    unfolding acc0_vel_uddu
    acc0_vel_uddu_known =
        let r = acc0_vel_uddu_newton s a_max j_max root in let h1 = acc0_vel_uddu_h1 s a_max j_max r in
        inside (by_j_max (replacing
        (unfold acc0_vel_uddu_times acc0_vel_uddu_newton in
        search (cond-fits, add-fits, sub-fits, div-fits, of_bits-fits))
        (λ t. acc0_vel_uddu_lem m.tf m.p0 m.v0 m.a0 m.pf m.vf m.af a_max a_min j_max numbers r h1
        (unfold acc0_vel_uddu_h1 in search (div-fits)))))

    pub acc0_vel_udud_known : Known m (acc0_vel_udud s l w root)
    unfolding acc0_vel_udud
    acc0_vel_udud_known =
        let r = acc0_vel_udud_newton s a_max j_max root in let h1 = acc0_vel_udud_h1 s a_max j_max r in
        inside (by_j_max (replacing
        (unfold acc0_vel_udud_times acc0_vel_udud_newton in search (add-fits, sub-fits, div-fits, of_bits-fits))
        (λ t. acc0_vel_udud_lem m.tf m.p0 m.v0 m.a0 m.pf m.vf m.af a_max a_min j_max numbers r h1
        (unfold acc0_vel_udud_h1 in search (div-fits)))))

  -- ---- `time_acc0_acc1`, which computes its own jerk: the rest formula with any jerk and any t[1] that are f64s
  module _ (jf t1 : Float) (f : Fits64 jf) (g : Fits64 t1) (z : T (acc0_acc1_rest_applies s)) where
    rest_known : Known m (acc0_acc1_rest_trial s l jf t1)
    rest_known =
        known
        (replacing (unfold acc0_acc1_rest_times in search (sub-fits, div-fits, of_bits-fits))
        (λ t. acc0_acc1_rest_lem m.tf m.p0 m.v0 m.a0 m.pf m.vf m.af a_max a_min j_max numbers jf t1 z))
        f

  acc0_acc1_rest_known : T (acc0_acc1_rest_applies s) → Known m (acc0_acc1_rest s l)
  unfolding acc0_acc1_rest
  acc0_acc1_rest_known z =
      let h1 = acc0_acc1_rest_h1 s a_max a_min in let h2 = acc0_acc1_rest_h2 s a_max a_min in
      rest_known (acc0_acc1_rest_jf h1 h2) (acc0_acc1_rest_t1 s a_max a_min h1 h2)
      (unfold acc0_acc1_rest_jf in search (div-fits)) (unfold acc0_acc1_rest_t1 in search (div-fits)) z

  -- with document 02's t[1]
  rest_to_rest_rest_known : T (acc0_acc1_rest_applies s) → Known m (rest_to_rest_trial s l)
  unfolding rest_to_rest_trial
  rest_to_rest_rest_known z =
      let jf = acc0_acc1_rest_jf (acc0_acc1_rest_h1 s a_max a_min) (acc0_acc1_rest_h2 s a_max a_min) in
      rest_known jf (rest_to_rest_t1 s a_max a_min jf) (unfold acc0_acc1_rest_jf in search (div-fits))
      (unfold rest_to_rest_t1 in search (div-fits)) z

  acc0_acc1_uddu_known : Known m (acc0_acc1_uddu s l)
  unfolding acc0_acc1_uddu
  acc0_acc1_uddu_known =
      let jf = acc0_acc1_uddu_jf s a_max a_min (f64_of (square_root_of (acc0_acc1_uddu_radicand s a_max a_min))) in
      let f : Fits64 jf = unfold acc0_acc1_uddu_jf in search (div-fits) in
      known
      (replacing (unfold acc0_acc1_uddu_times acc0_acc1_uddu_t1 in search (add-fits, sub-fits, div-fits, of_bits-fits))
      (λ t. acc0_acc1_uddu_lem m.tf m.p0 m.v0 m.a0 m.pf m.vf m.af a_max a_min j_max numbers jf f))
      f

  pub acc0_acc1_known : Known m (cond (acc0_acc1_rest_applies s) (acc0_acc1_rest s l) (acc0_acc1_uddu s l))
  acc0_acc1_known = known_cond (acc0_acc1_rest_applies s) acc0_acc1_rest_known (λ z. acc0_acc1_uddu_known)

  pub rest_to_rest_known : Known m (cond (acc0_acc1_rest_applies s) (rest_to_rest_trial s l) (acc0_acc1_uddu s l))
  rest_to_rest_known = known_cond (acc0_acc1_rest_applies s) rest_to_rest_rest_known (λ z. acc0_acc1_uddu_known)

  -- ---- `time_acc0`, under labels that replace nothing
  pub acc0_first_known : Known m (acc0_first s l)
  unfolding acc0_first
  acc0_first_known =
      by_j_max
      (leaving (unfold tests_of in refl)
      (unfold acc0_first_times acc0_first_radicand sqrt_of in
      search (sqrt_of-fits, add-fits, sub-fits, div-fits, of_bits-fits))
      (λ t. acc0_first_lem m.tf m.p0 m.v0 m.a0 m.pf m.vf m.af a_max a_min j_max numbers
      (f64_of (square_root_of (acc0_first_radicand s a_max j_max)))))

  pub acc0_second_known : Known m (acc0_second s l)
  unfolding acc0_second
  acc0_second_known =
      let h0a = acc0_second_h0a s a_max j_max in
      let h0b = acc0_second_h0b s a_max j_max in
      let h0 = acc0_second_h0 j_max (f64_of (square_root_of (acc0_second_radicand h0a h0b))) in
      let h1 = acc0_second_h1 j_max h0a in
      by_j_max
      (leaving (unfold tests_of in refl)
      (unfold acc0_second_times acc0_second_t1 in search (sub-fits, div-fits, of_bits-fits))
      (λ t. acc0_second_lem m.tf m.p0 m.v0 m.a0 m.pf m.vf m.af a_max a_min j_max numbers h0 h1
      (acc0_second_t1 s a_max j_max h1)))

  pub acc0_third_known : Known m (acc0_third s l)
  unfolding acc0_third
  acc0_third_known =
      let h0a = acc0_third_h0a s a_max j_max in let h0b = acc0_third_h0b s a_max j_max in
      by_j_max
      (leaving (unfold tests_of in refl)
      (unfold acc0_third_times in search (add-fits, sub-fits, div-fits, of_bits-fits))
      (λ t. acc0_third_lem m.tf m.p0 m.v0 m.a0 m.pf m.vf m.af a_max a_min j_max numbers h0a
      (acc0_third_h1 j_max (f64_of (square_root_of (acc0_third_radicand h0a h0b)))) (acc0_third_h2 j_max h0b)))
