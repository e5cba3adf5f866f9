-- The moves that documents 01 and 02 work through, as lines: each gets the verdict and the numbers that the document
-- gives. Computed; assumes nothing.
use mathlib.Core.Bool.{true}
use mathlib.Core.Path.{◌≡◌, refl}
use lib.Ieee.{of_bits, to_bits, lt, le, eq, neg, add, sub, mul, div}
use Rattle.float.specs.Helpers.{abs_of}
use Rattle.util.specs.Integrate.{integrate_of}
use Rattle.sqrt.specs.Sqrt.{square_root_of, sqrt_of}
use Rattle.positive_set.specs.Set.{holds, insert_of, insert_all_of, into_of, sorted_of}
use Rattle.roots.specs.Quartic.{need_of, factors_of, quadratic_of, without_cd_of, with_cbrt_of, resolved_of, offered_of}
use Rattle.roots.specs.Quartic.{roots_of}
use Rattle.labels.specs.Tests.{tests_of}
use Rattle.jerks.specs.Jerks.{jerks_of}
use Rattle.phases.specs.Run.{run}
use Rattle.phases.specs.Times.{step_of_sums, sums_of, label_tests}
use Rattle.limits.specs.Limits.{band_of, accelerations_kept_of, velocities_kept_of, end_tests}
use Rattle.phases.specs.Phase.{replaced_of, zero_inside_of, node_of, phase_of}
use Rattle.profile.specs.Check.{check_of}
use Rattle.profile.specs.Timing.{timing_of}
use Rattle.profile.specs.Boundary.{boundary_of}
use Rattle.step2_solver.specs.New.{new_of}
use Rattle.time_acc0_acc1_vel.specs.TimeAcc0Acc1Vel.{acc0_acc1_vel_uddu_applies, acc0_acc1_vel_uddu_radicand}
use Rattle.time_acc0_acc1_vel.specs.TimeAcc0Acc1Vel.{acc0_acc1_vel_uddu_h1}
use Rattle.time_acc0_acc1_vel.specs.TimeAcc0Acc1Vel.{acc0_acc1_vel_uddu_t1, acc0_acc1_vel_uddu_times}
use Rattle.time_acc0_acc1_vel.specs.TimeAcc0Acc1Vel.{acc0_acc1_vel_uddu}
use Rattle.time_acc0_acc1_vel.specs.TimeAcc0Acc1Vel.{acc0_acc1_vel_udud_applies, acc0_acc1_vel_udud_t1}
use Rattle.time_acc0_acc1_vel.specs.TimeAcc0Acc1Vel.{acc0_acc1_vel_udud_t3}
use Rattle.time_acc0_acc1_vel.specs.TimeAcc0Acc1Vel.{acc0_acc1_vel_udud_times, acc0_acc1_vel_udud}
use Rattle.time_acc0_acc1.specs.TimeAcc0Acc1.{acc0_acc1_rest_applies, acc0_acc1_rest_h1, acc0_acc1_rest_h2}
use Rattle.time_acc0_acc1.specs.TimeAcc0Acc1.{acc0_acc1_rest_jf}
use Rattle.time_acc0_acc1.specs.TimeAcc0Acc1.{acc0_acc1_rest_t1, acc0_acc1_rest_times, acc0_acc1_rest}
use Rattle.time_acc0_acc1.specs.RestToRest.{rest_to_rest_t1, rest_to_rest_trial}
use Rattle.step2_attempt.specs.Attempt.{attempt_of, try_of, tried_of}
use Rattle.line_kinds.specs.Kinds.{row_of}
use Rattle.line_frame.specs.Frame.{word_at}
use Rattle.line_frame.specs.Numbers.{check_numbers_of, move_of, root_answer_of}
use Rattle.line_reply.specs.Reply.{head_of, rows_of, reply_bytes_of}
use Rattle.line_questions.specs.Questions.{counts_fit_of, counts_suit_of, questions_of}
use Rattle.line_answers.specs.CheckLine.{checked_of}
use Rattle.line_answers.specs.ShapeLine.{shape_line_of}
use Rattle.line_answers.specs.FrameAnswer.{reply_of, replied_of}
use Rattle.lines.specs.Answer.{answer_of}
use Rattle.marked_moves.specs.Moves.{table, right}

pub marked_moves : right table ≡ true
unfolding of_bits to_bits lt le eq neg add sub mul div abs_of integrate_of square_root_of sqrt_of
    holds insert_of insert_all_of into_of sorted_of
    need_of factors_of quadratic_of without_cd_of with_cbrt_of resolved_of offered_of roots_of
    tests_of jerks_of run step_of_sums sums_of label_tests band_of replaced_of zero_inside_of node_of phase_of
    accelerations_kept_of velocities_kept_of end_tests check_of boundary_of new_of
    acc0_acc1_vel_uddu_applies acc0_acc1_vel_uddu_radicand acc0_acc1_vel_uddu_h1 acc0_acc1_vel_uddu_t1
    acc0_acc1_vel_uddu_times
    acc0_acc1_vel_uddu acc0_acc1_vel_udud_applies acc0_acc1_vel_udud_t1 acc0_acc1_vel_udud_t3 acc0_acc1_vel_udud_times
    acc0_acc1_vel_udud
    acc0_acc1_rest_applies acc0_acc1_rest_h1 acc0_acc1_rest_h2 acc0_acc1_rest_jf acc0_acc1_rest_t1 acc0_acc1_rest_times
    acc0_acc1_rest
    rest_to_rest_t1 rest_to_rest_trial timing_of attempt_of try_of tried_of
    row_of word_at check_numbers_of move_of root_answer_of head_of rows_of reply_bytes_of counts_fit_of counts_suit_of
    questions_of
    checked_of shape_line_of reply_of replied_of answer_of table
marked_moves = refl
