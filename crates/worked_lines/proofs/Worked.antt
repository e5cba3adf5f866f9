-- The premises of demand 3 at the line can be met by each attempt of the shapes: for each there is a line whose
-- answer is 0, whose reply says yes by this attempt and is within the sizes; and so it arrives.
-- Computed; assumes nothing.
use mathlib.Core.Path.{◌≡◌, refl}
use mathlib.Core.Bool.{Bool, false}
use mathlib.Core.List.{List, [], ◌∷◌}
use Prim.Native.Nat.{ℕ}
use lib.Dec.{T}
use lib.ListN.{replicate}
use lib.Ieee.{is_nan, of_bits, to_bits, lt, le, eq, neg, add, sub, mul, div}
use Rattle.std.specs.Prelude.{Some}
use Rattle.float.specs.Helpers.{abs_of}
use Rattle.util.specs.Integrate.{integrate_of}
use Rattle.sqrt.specs.Sqrt.{square_root_of, sqrt_of}
use Rattle.labels.specs.Tests.{tests_of}
use Rattle.jerks.specs.Jerks.{jerks_of}
use Rattle.positive_set.specs.Set.{holds, insert_of, insert_all_of, into_of, sorted_of}
use Rattle.roots.specs.Quartic.{need_of, factors_of, quadratic_of, without_cd_of, with_cbrt_of, resolved_of, offered_of}
use Rattle.roots.specs.Quartic.{roots_of}
use Rattle.phases.specs.Run.{run}
use Rattle.phases.specs.Times.{step_of_sums, sums_of, label_tests}
use Rattle.limits.specs.Limits.{band_of, accelerations_kept_of, velocities_kept_of, end_tests}
use Rattle.phases.specs.Phase.{replaced_of, zero_inside_of, node_of, phase_of}
use Rattle.profile.specs.Check.{check_of}
use Rattle.profile.specs.Timing.{timing_of}
use Rattle.profile.specs.Boundary.{boundary_of}
use Rattle.rounding.specs.Value.{unit, mag, sign, val}
use Rattle.rounding.specs.Motion.{lasts}
use Rattle.step2_solver.specs.New.{new_of}
use Rattle.time_acc0_acc1_vel.specs.TimeAcc0Acc1Vel.{acc0_acc1_vel_uddu_applies, acc0_acc1_vel_uddu_radicand}
use Rattle.time_acc0_acc1_vel.specs.TimeAcc0Acc1Vel.{acc0_acc1_vel_uddu_h1}
use Rattle.time_acc0_acc1_vel.specs.TimeAcc0Acc1Vel.{acc0_acc1_vel_uddu_t1, acc0_acc1_vel_uddu_times}
use Rattle.time_acc0_acc1_vel.specs.TimeAcc0Acc1Vel.{acc0_acc1_vel_uddu}
use Rattle.time_acc0_acc1_vel.specs.TimeAcc0Acc1Vel.{acc0_acc1_vel_udud_applies, acc0_acc1_vel_udud_t1}
use Rattle.time_acc0_acc1_vel.specs.TimeAcc0Acc1Vel.{acc0_acc1_vel_udud_t3}
use Rattle.time_acc0_acc1_vel.specs.TimeAcc0Acc1Vel.{acc0_acc1_vel_udud_times, acc0_acc1_vel_udud}
use Rattle.time_acc1_vel.specs.TimeAcc1Vel.{acc1_vel_t_min, acc1_vel_uddu_polynom, acc1_vel_uddu_t_max}
use Rattle.time_acc1_vel.specs.TimeAcc1Vel.{acc1_vel_uddu_orig}
use Rattle.time_acc1_vel.specs.TimeAcc1Vel.{acc1_vel_uddu_deriv, acc1_vel_uddu_newton, acc1_vel_uddu_h1}
use Rattle.time_acc1_vel.specs.TimeAcc1Vel.{acc1_vel_uddu_times}
use Rattle.time_acc1_vel.specs.TimeAcc1Vel.{acc1_vel_uddu_window, acc1_vel_uddu, acc1_vel_udud_polynom}
use Rattle.time_acc1_vel.specs.TimeAcc1Vel.{acc1_vel_udud_t_max}
use Rattle.time_acc1_vel.specs.TimeAcc1Vel.{acc1_vel_udud_h1, acc1_vel_udud_times, acc1_vel_udud_window, acc1_vel_udud}
use Rattle.time_acc0_vel.specs.TimeAcc0Vel.{acc0_vel_too_short, acc0_vel_ph1, acc0_vel_uddu_polynom}
use Rattle.time_acc0_vel.specs.TimeAcc0Vel.{acc0_vel_uddu_t_min}
use Rattle.time_acc0_vel.specs.TimeAcc0Vel.{acc0_vel_uddu_t_max, acc0_vel_uddu_orig, acc0_vel_uddu_deriv}
use Rattle.time_acc0_vel.specs.TimeAcc0Vel.{acc0_vel_uddu_newton}
use Rattle.time_acc0_vel.specs.TimeAcc0Vel.{acc0_vel_uddu_h1, acc0_vel_uddu_times, acc0_vel_uddu_window, acc0_vel_uddu}
use Rattle.time_acc0_vel.specs.TimeAcc0Vel.{acc0_vel_udud_polynom, acc0_vel_udud_t_min, acc0_vel_udud_t_max}
use Rattle.time_acc0_vel.specs.TimeAcc0Vel.{acc0_vel_udud_orig}
use Rattle.time_acc0_vel.specs.TimeAcc0Vel.{acc0_vel_udud_deriv, acc0_vel_udud_newton, acc0_vel_udud_h1}
use Rattle.time_acc0_vel.specs.TimeAcc0Vel.{acc0_vel_udud_times}
use Rattle.time_acc0_vel.specs.TimeAcc0Vel.{acc0_vel_udud_window, acc0_vel_udud}
use Rattle.time_acc0_acc1.specs.TimeAcc0Acc1.{acc0_acc1_rest_applies, acc0_acc1_rest_h1, acc0_acc1_rest_h2}
use Rattle.time_acc0_acc1.specs.TimeAcc0Acc1.{acc0_acc1_rest_jf}
use Rattle.time_acc0_acc1.specs.TimeAcc0Acc1.{acc0_acc1_rest_t1, acc0_acc1_rest_times, acc0_acc1_rest}
use Rattle.time_acc0_acc1.specs.TimeAcc0Acc1.{acc0_acc1_uddu_radicand}
use Rattle.time_acc0_acc1.specs.TimeAcc0Acc1.{acc0_acc1_uddu_jf, acc0_acc1_uddu_t1, acc0_acc1_uddu_times}
use Rattle.time_acc0_acc1.specs.TimeAcc0Acc1.{acc0_acc1_uddu}
use Rattle.time_acc0_acc1.specs.RestToRest.{rest_to_rest_t1, rest_to_rest_trial}
use Rattle.time_acc0.specs.TimeAcc0.{acc0_first_radicand, acc0_first_times, acc0_first, acc0_second_h0a}
use Rattle.time_acc0.specs.TimeAcc0.{acc0_second_h0b}
use Rattle.time_acc0.specs.TimeAcc0.{acc0_second_radicand, acc0_second_h0, acc0_second_h1, acc0_second_t1}
use Rattle.time_acc0.specs.TimeAcc0.{acc0_second_times}
use Rattle.time_acc0.specs.TimeAcc0.{acc0_second, acc0_third_h0a, acc0_third_h0b, acc0_third_radicand, acc0_third_h1}
use Rattle.time_acc0.specs.TimeAcc0.{acc0_third_h2, acc0_third_times, acc0_third}
use Rattle.step2_quartics.specs.Quartics.{acc1_vel_quartics_of, acc0_vel_quartics_of}
use Rattle.step2_attempt.specs.Attempt.{attempt_of, try_of, tried_of}
use Rattle.line_kinds.specs.declared.Asks.TheVariants.{OfShape}
use Rattle.line_kinds.specs.Kinds.{reply_most, row_of, asks_of}
use Rattle.line_frame.specs.Frame.{word_at}
use Rattle.line_frame.specs.Numbers.{move_of, root_answer_of}
use Rattle.line_questions.specs.Suits.{both_suit_of}
use Rattle.line_questions.specs.Questions.{counts_fit_of, counts_suit_of, questions_of}
use Rattle.line_reply.specs.Reply.{head_of, rows_of, reply_bytes_of}
use Rattle.line_answers.specs.ShapeLine.{shape_line_of}
use Rattle.line_answers.specs.FrameAnswer.{reply_of, replied_of}
use Rattle.lines.specs.Answer.{answer_of}
use Rattle.line_arrives.specs.LineArrives.{byte_in, AsksShape}
use Rattle.line_arrives.proofs.Theorem.{yes_arrives}
use Rattle.worked_lines.specs.Attempts.{Attempt, Acc0Acc1Vel-UDDU, Acc0Acc1Vel-UDUD, Acc1Vel-UDDU, Acc1Vel-UDUD}
use Rattle.worked_lines.specs.Attempts.{Acc0Vel-UDDU, Acc0Vel-UDUD, Acc0Acc1-rest, Acc0Acc1-UDDU}
use Rattle.worked_lines.specs.Attempts.{Acc0-first, Acc0-second, Acc0-third, RestToRest-rest, RestToRest-UDDU}
use Rattle.worked_lines.specs.Attempts.{shape_by, trial_in}
use Rattle.worked_lines.specs.Lines.{line_for}
use Rattle.worked_lines.specs.Worked.{answer_for, Worked}
use Rattle.worked_lines.proofs.Tests.{all, each, passes, number_0, says_yes, is_made, label_is, signs_are}
use Rattle.worked_lines.proofs.Tests.{times_are, sizes_met}

-- the line passes the test by the attempt's first trial
abbrev by_first : Attempt → List ℕ → Bool
by_first attempt line = passes line (answer_for line) (trial_in attempt line 0)

abbrev Met : Attempt → List ℕ → Type 0
Met attempt line = (asks_of (row_of (byte_in line 0)) ≡ Some (OfShape (shape_by attempt))) × T (by_first attempt line)

worked : (attempt : Attempt) (line : List ℕ) → Met attempt line → Worked attempt line
worked attempt line m =
    let answer = answer_for line in
    let k = trial_in attempt line 0 in
    let number = number_0 line answer k m.1 in
    let says = says_yes line answer k m.1 in
    let sizes = sizes_met line answer k m.1 in
    let asks : AsksShape line = record { shape = shape_by attempt; causes = false; asked = m.0 } in
    record {
      number = number;
      says = says;
      sizes = sizes;
      trial = 0;
      made_by =
          record {
            asked = m.0;
            made = is_made line answer k m.1;
            label = label_is line answer k m.1;
            signs = signs_are line answer k m.1;
            times = times_are line answer k m.1;
          };
      arrives = yes_arrives line (replicate reply_most 0) number asks says sizes;
    }

abbrev own : Attempt → Bool
own attempt = by_first attempt (line_for attempt)

abbrev owns : List Bool
owns =
    own Acc0Acc1Vel-UDDU
    ∷ own Acc0Acc1Vel-UDUD
    ∷ own Acc1Vel-UDDU
    ∷ own Acc1Vel-UDUD
    ∷ own Acc0Vel-UDDU
    ∷ own Acc0Vel-UDUD
    ∷ own Acc0Acc1-rest
    ∷ own Acc0Acc1-UDDU
    ∷ own Acc0-first
    ∷ own Acc0-second
    ∷ own Acc0-third
    ∷ own RestToRest-rest
    ∷ own RestToRest-UDDU
    ∷ []

-- in one list, so that they are computed by one proof
all_own : T (all owns)
unfolding is_nan of_bits to_bits lt le eq neg add sub mul div abs_of integrate_of square_root_of sqrt_of holds insert_of
    insert_all_of into_of sorted_of need_of factors_of quadratic_of without_cd_of with_cbrt_of resolved_of offered_of
    roots_of
    tests_of jerks_of run step_of_sums sums_of label_tests band_of replaced_of zero_inside_of node_of phase_of
    accelerations_kept_of
    velocities_kept_of end_tests check_of timing_of boundary_of new_of acc0_acc1_vel_uddu_applies
    acc0_acc1_vel_uddu_radicand
    acc0_acc1_vel_uddu_h1 acc0_acc1_vel_uddu_t1 acc0_acc1_vel_uddu_times acc0_acc1_vel_uddu acc0_acc1_vel_udud_applies
    acc0_acc1_vel_udud_t1
    acc0_acc1_vel_udud_t3 acc0_acc1_vel_udud_times acc0_acc1_vel_udud acc1_vel_t_min acc1_vel_uddu_polynom
    acc1_vel_uddu_t_max
    acc1_vel_uddu_orig acc1_vel_uddu_deriv acc1_vel_uddu_newton acc1_vel_uddu_h1 acc1_vel_uddu_times
    acc1_vel_uddu_window acc1_vel_uddu
    acc1_vel_udud_polynom acc1_vel_udud_t_max acc1_vel_udud_h1 acc1_vel_udud_times acc1_vel_udud_window acc1_vel_udud
    acc0_vel_too_short
    acc0_vel_ph1 acc0_vel_uddu_polynom acc0_vel_uddu_t_min acc0_vel_uddu_t_max acc0_vel_uddu_orig acc0_vel_uddu_deriv
    acc0_vel_uddu_newton
    acc0_vel_uddu_h1 acc0_vel_uddu_times acc0_vel_uddu_window acc0_vel_uddu acc0_vel_udud_polynom acc0_vel_udud_t_min
    acc0_vel_udud_t_max
    acc0_vel_udud_orig acc0_vel_udud_deriv acc0_vel_udud_newton acc0_vel_udud_h1 acc0_vel_udud_times
    acc0_vel_udud_window acc0_vel_udud
    acc0_acc1_rest_applies acc0_acc1_rest_h1 acc0_acc1_rest_h2 acc0_acc1_rest_jf acc0_acc1_rest_t1 acc0_acc1_rest_times
    acc0_acc1_rest
    acc0_acc1_uddu_radicand acc0_acc1_uddu_jf acc0_acc1_uddu_t1 acc0_acc1_uddu_times acc0_acc1_uddu acc0_first_radicand
    acc0_first_times
    acc0_first acc0_second_h0a acc0_second_h0b acc0_second_radicand acc0_second_h0 acc0_second_h1 acc0_second_t1
    acc0_second_times
    acc0_second acc0_third_h0a acc0_third_h0b acc0_third_radicand acc0_third_h1 acc0_third_h2 acc0_third_times
    acc0_third
    rest_to_rest_t1 rest_to_rest_trial acc1_vel_quartics_of acc0_vel_quartics_of attempt_of try_of tried_of row_of
    word_at move_of
    root_answer_of head_of rows_of reply_bytes_of both_suit_of counts_fit_of counts_suit_of questions_of shape_line_of
    reply_of replied_of
    answer_of unit mag sign val lasts
all_own = tt

-- the kind of the attempt's line asks the shape that makes it
met : (attempt : Attempt) → Met attempt (line_for attempt)
unfolding row_of
met Acc0Acc1Vel-UDDU = (refl, each owns all_own 0)
met Acc0Acc1Vel-UDUD = (refl, each owns all_own 1)
met Acc1Vel-UDDU = (refl, each owns all_own 2)
met Acc1Vel-UDUD = (refl, each owns all_own 3)
met Acc0Vel-UDDU = (refl, each owns all_own 4)
met Acc0Vel-UDUD = (refl, each owns all_own 5)
met Acc0Acc1-rest = (refl, each owns all_own 6)
met Acc0Acc1-UDDU = (refl, each owns all_own 7)
met Acc0-first = (refl, each owns all_own 8)
met Acc0-second = (refl, each owns all_own 9)
met Acc0-third = (refl, each owns all_own 10)
met RestToRest-rest = (refl, each owns all_own 11)
met RestToRest-UDDU = (refl, each owns all_own 12)

pub worked_arrive : (attempt : Attempt) → Worked attempt (line_for attempt)
worked_arrive attempt = worked attempt (line_for attempt) (met attempt)
