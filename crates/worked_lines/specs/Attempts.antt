-- The attempts of the shapes by name, the Rust's eleven and kind 08's two, and which of them a reply is of. Definitions
-- only.
use Rattle.std.specs.Prelude.{◌≡◌, cond, List, [], ◌∷◌, ◌++◌, ℕ, T, get_or, take, drop, Some}
use Rattle.labels.specs.Labels.{label_number_of, signs_number_of}
use Rattle.roots.specs.declared.RootAnswer.{RootAnswer}
use Rattle.step2_solver.specs.declared.PositionThirdOrderStep2.{PositionThirdOrderStep2}
use Rattle.step2_solver.specs.declared.Limits.{Limits}
use Rattle.step2_solver.specs.declared.Trial.{Trial}
use Rattle.step2_solver.specs.declared.Shape.{Shape}
use Rattle.step2_solver.specs.declared.Shape.TheVariants.{Acc0Acc1Vel, Acc1Vel, Acc0Vel, Acc0Acc1, Acc0, RestToRest}
use Rattle.step2_solver.specs.New.{solver_of, limits_of}
use Rattle.step2_solver.specs.Trials.{no_trial_of}
use Rattle.time_acc0_acc1_vel.specs.TimeAcc0Acc1Vel.{acc0_acc1_vel_uddu, acc0_acc1_vel_udud}
use Rattle.time_acc1_vel.specs.TimeAcc1Vel.{acc1_vel_uddu_window, acc1_vel_uddu, acc1_vel_udud_window, acc1_vel_udud}
use Rattle.time_acc0_vel.specs.TimeAcc0Vel.{acc0_vel_too_short}
use Rattle.time_acc0_vel.specs.TimeAcc0Vel.{acc0_vel_uddu_window, acc0_vel_uddu, acc0_vel_udud_window, acc0_vel_udud}
use Rattle.time_acc0_acc1.specs.TimeAcc0Acc1.{acc0_acc1_rest_applies, acc0_acc1_rest, acc0_acc1_uddu}
use Rattle.time_acc0_acc1.specs.RestToRest.{rest_to_rest_trial}
use Rattle.time_acc0.specs.TimeAcc0.{acc0_first, acc0_second, acc0_third}
use Rattle.step2_quartics.specs.declared.Quartics.{Quartics}
use Rattle.step2_attempt.specs.Attempt.{seven_of}
use Rattle.step2_over_roots.specs.OverRoots.{over_roots}
use Rattle.hex_bytes.specs.Hex.{bytes_of}
use Rattle.line_kinds.specs.declared.Asks.TheVariants.{OfShape}
use Rattle.line_kinds.specs.Kinds.{row_of, asks_of}
use Rattle.line_frame.specs.Frame.{byte_at}
use Rattle.line_frame.specs.Numbers.{first_answer_of, second_answer_of}
use Rattle.line_questions.specs.Questions.{quartics_at}
use Rattle.line_reply.specs.Reply.{numbers_bytes}
use Rattle.line_arrives.specs.LineArrives.{byte_in, move_in}

pub data Attempt : Type 0 where
  Acc0Acc1Vel-UDDU Acc0Acc1Vel-UDUD : Attempt
  Acc1Vel-UDDU Acc1Vel-UDUD : Attempt
  Acc0Vel-UDDU Acc0Vel-UDUD : Attempt
  Acc0Acc1-rest Acc0Acc1-UDDU : Attempt
  Acc0-first Acc0-second Acc0-third : Attempt
  RestToRest-rest RestToRest-UDDU : Attempt

-- the shape that makes it
abbrev pub shape_by : Attempt → Shape
shape_by Acc0Acc1Vel-UDDU = Acc0Acc1Vel
shape_by Acc0Acc1Vel-UDUD = Acc0Acc1Vel
shape_by Acc1Vel-UDDU = Acc1Vel
shape_by Acc1Vel-UDUD = Acc1Vel
shape_by Acc0Vel-UDDU = Acc0Vel
shape_by Acc0Vel-UDUD = Acc0Vel
shape_by Acc0Acc1-rest = Acc0Acc1
shape_by Acc0Acc1-UDDU = Acc0Acc1
shape_by Acc0-first = Acc0
shape_by Acc0-second = Acc0
shape_by Acc0-third = Acc0
shape_by RestToRest-rest = RestToRest
shape_by RestToRest-UDDU = RestToRest

-- Its trials: one at each root where it tries roots, none where the shape does not come to it.
-- `whole` in proofs/Whole.antt proves that those of a shape's attempts, in their order, are all that the shape makes.
abbrev pub trials_by : Attempt → PositionThirdOrderStep2 → Limits → Quartics → RootAnswer → RootAnswer → List Trial
trials_by Acc0Acc1Vel-UDDU s l q first second = acc0_acc1_vel_uddu s l ∷ []
trials_by Acc0Acc1Vel-UDUD s l q first second = acc0_acc1_vel_udud s l ∷ []
trials_by Acc1Vel-UDDU s l q first second = over_roots (acc1_vel_uddu s l (acc1_vel_uddu_window s l)) q.uddu first
trials_by Acc1Vel-UDUD s l q first second = over_roots (acc1_vel_udud s l (acc1_vel_udud_window s l)) q.udud second
trials_by Acc0Vel-UDDU s l q first second =
    cond (acc0_vel_too_short s l.a_max l.j_max) []
    (over_roots (acc0_vel_uddu s l (acc0_vel_uddu_window s l)) q.uddu first)
trials_by Acc0Vel-UDUD s l q first second =
    cond (acc0_vel_too_short s l.a_max l.j_max) []
    (over_roots (acc0_vel_udud s l (acc0_vel_udud_window s l)) q.udud second)
trials_by Acc0Acc1-rest s l q first second = cond (acc0_acc1_rest_applies s) (acc0_acc1_rest s l ∷ []) []
trials_by Acc0Acc1-UDDU s l q first second = cond (acc0_acc1_rest_applies s) [] (acc0_acc1_uddu s l ∷ [])
trials_by Acc0-first s l q first second = acc0_first s l ∷ []
trials_by Acc0-second s l q first second = acc0_second s l ∷ []
trials_by Acc0-third s l q first second = acc0_third s l ∷ []
trials_by RestToRest-rest s l q first second = cond (acc0_acc1_rest_applies s) (rest_to_rest_trial s l ∷ []) []
trials_by RestToRest-UDDU s l q first second = cond (acc0_acc1_rest_applies s) [] (acc0_acc1_uddu s l ∷ [])

-- the attempts of a shape, in their order: what f gives for each, together
abbrev pub in_order_of : (Attempt → List Trial) → Shape → List Trial
in_order_of f Acc0Acc1Vel = f Acc0Acc1Vel-UDDU ++ f Acc0Acc1Vel-UDUD
in_order_of f Acc1Vel = f Acc1Vel-UDDU ++ f Acc1Vel-UDUD
in_order_of f Acc0Vel = f Acc0Vel-UDDU ++ f Acc0Vel-UDUD
in_order_of f Acc0Acc1 = f Acc0Acc1-rest ++ f Acc0Acc1-UDDU
in_order_of f Acc0 = f Acc0-first ++ f Acc0-second ++ f Acc0-third
in_order_of f RestToRest = f RestToRest-rest ++ f RestToRest-UDDU

-- trial i of an attempt for the numbers and the root answers of a line
abbrev pub trial_in : Attempt → List ℕ → ℕ → Trial
trial_in attempt line i =
    let at = byte_at (bytes_of line) in
    let m = move_in line in
    get_or
    (trials_by attempt (solver_of m) (limits_of m) (quartics_at (shape_by attempt) at) (first_answer_of at)
    (second_answer_of at))
    i
    no_trial_of

-- the 56 bytes of a reply after the first four: its seven times
abbrev pub times_bytes : List ℕ → List ℕ
times_bytes reply = take 56 (drop 4 (bytes_of reply))

-- The line asks the shape that makes the attempt, and the reply is of trial i of the attempt: it has the label, the
-- signs and the seven times of that trial. `no_trial_of`, which stands for none, is not made.
pub record MadeBy (attempt : Attempt) (i : ℕ) (line reply : List ℕ) : Type 0 where
  pub asked : asks_of (row_of (byte_in line 0)) ≡ Some (OfShape (shape_by attempt))
  pub made : T (trial_in attempt line i).made
  pub label : byte_in reply 1 ≡ label_number_of (trial_in attempt line i).label
  pub signs : byte_in reply 3 ≡ signs_number_of (trial_in attempt line i).signs
  pub times : times_bytes reply ≡ numbers_bytes (seven_of (trial_in attempt line i).times)
