-- Demand 3. For every shape, whatever the quartics and the root answers hold, a yes is a move that arrives: the seven
-- times and jerks of the record carry the exact motion from the start to the goal, in the duration and within the
-- limits. The solver and the record share one start (`Starts`), as they do for every line; the twelve numbers are
-- finite (`MoveNumbers`); and of the size of the move no more is asked than the demand does (`Within`). The attempts
-- come down to one theorem about `check`, in crates/profile_arrives, and to eleven facts about times, in
-- crates/step2_times. Assumes nothing.
use mathlib.Core.Path.{◌≡◌}
use mathlib.Core.Bool.{true}
use lib.ListN.{get_or}
use lib.Ieee.{nan}
use Rattle.profile.specs.declared.Profile.{Profile}
use Rattle.profile.specs.declared.Checked.{Checked}
use Rattle.profile_arrives.specs.Reply.{Within}
use Rattle.roots.specs.declared.RootAnswer.{RootAnswer}
use Rattle.roots.specs.Fits.{Fits64, AnswerFits}
use Rattle.roots.proofs.Laws.{tried_fit}
use Rattle.step2_solver.specs.declared.Move.{Move}
use Rattle.step2_solver.specs.declared.Shape.{Shape}
use Rattle.step2_solver.specs.New.{solver_of, limits_of}
use Rattle.step2_quartics.specs.declared.Quartics.{Quartics}
use Rattle.step2_quartics.specs.Quartics.{the_quartics}
use Rattle.position_third_step2.specs.Shape.{attempts_of, shape_of}
use Rattle.step2_arrives.specs.Moves.{MoveNumbers, asked, Starts, ArrivesDemanded, ArrivesClosely}
use Rattle.step2_arrives.proofs.Made.{Made}
use Rattle.step2_arrives.proofs.Each.{Each, OfRoots, all_attempts}
use Rattle.step2_arrives.proofs.Sound.{Known, AlwaysSound, sound_tries}
use Rattle.step2_arrives.proofs.Arrives.{sound_arrives, sound_arrives_closely}
use Rattle.step2_arrives.proofs.Trials.{acc0_acc1_vel_uddu_known, acc0_acc1_vel_udud_known}
use Rattle.step2_arrives.proofs.Trials.{acc1_vel_uddu_known, acc1_vel_udud_known}
use Rattle.step2_arrives.proofs.Trials.{acc0_vel_uddu_known, acc0_vel_udud_known, acc0_acc1_known}
use Rattle.step2_arrives.proofs.Trials.{acc0_first_known, acc0_second_known, acc0_third_known}
use Rattle.step2_arrives.proofs.Trials.{rest_to_rest_known}

-- ---- every trial of a shape is known: the roots of a quartic of any coefficients are f64s where the answer is one
roots_fit : (answer : RootAnswer) → AnswerFits answer → OfRoots Fits64 answer
roots_fit answer f p = tried_fit (get_or p 0 nan) (get_or p 1 nan) (get_or p 2 nan) (get_or p 3 nan) answer f

each_known : {m : Move} → MoveNumbers m → Each (Known m) Fits64 (solver_of m) (limits_of m)
each_known n =
    record {
      of_acc0_acc1_vel_uddu = acc0_acc1_vel_uddu_known n;
      of_acc0_acc1_vel_udud = acc0_acc1_vel_udud_known n;
      of_acc1_vel_uddu = acc1_vel_uddu_known n _;
      of_acc1_vel_udud = acc1_vel_udud_known n _;
      of_acc0_vel_uddu = acc0_vel_uddu_known n _;
      of_acc0_vel_udud = acc0_vel_udud_known n _;
      of_acc0_acc1 = acc0_acc1_known n;
      of_acc0_first = acc0_first_known n;
      of_acc0_second = acc0_second_known n;
      of_acc0_third = acc0_third_known n;
      of_rest_to_rest = rest_to_rest_known n;
    }

-- ---- every shape, with quartics of any coefficients
module _ (shape : Shape) (quartics : Quartics) (first second : RootAnswer) (f : AnswerFits first)
    (g : AnswerFits second) {m : Move} (n : MoveNumbers m) where
  abbrev of_m : Profile → Checked
  of_m = shape_of shape (solver_of m) (limits_of m) quartics first second

  pub any_sound : AlwaysSound m of_m
  any_sound =
      sound_tries (attempts_of shape (solver_of m) (limits_of m) quartics first second)
      (all_attempts (Known m) Fits64 (each_known n) shape quartics first second (roots_fit first f)
      (roots_fit second g))

  module _ (q : Profile) (s : Starts m q) where
    -- start and goal are left as they were, after a no as after a yes
    pub any_starts : Starts m (of_m q).profile
    any_starts = (any_sound q s).starts

    module _ (accepted : (of_m q).ok ≡ true) where
      -- a yes is the yes of one attempt
      pub any_made : Made m (of_m q).profile
      any_made = (any_sound q s).made accepted

      -- the theorem
      pub any_arrives : Within (of_m q).profile → ArrivesDemanded m (of_m q).profile
      any_arrives = sound_arrives n any_sound q s accepted

      pub any_arrives_closely : Within (of_m q).profile → ArrivesClosely m (of_m q).profile
      any_arrives_closely = sound_arrives_closely n any_sound q s accepted

-- ---- with its own
module _ (shape : Shape) (first second : RootAnswer) (f : AnswerFits first) (g : AnswerFits second)
    {m : Move} (n : MoveNumbers m) (q : Profile) (s : Starts m q) where
  abbrev own : Quartics
  own = the_quartics shape (solver_of m) (limits_of m)

  pub shape-starts : Starts m (asked shape first second m q).profile
  shape-starts = any_starts shape own first second f g n q s

  module _ (accepted : (asked shape first second m q).ok ≡ true) where
    pub shape_made : Made m (asked shape first second m q).profile
    shape_made = any_made shape own first second f g n q s accepted

    pub shape-arrives : Within (asked shape first second m q).profile
        → ArrivesDemanded m (asked shape first second m q).profile
    shape-arrives = any_arrives shape own first second f g n q s accepted

    pub shape-arrives_closely : Within (asked shape first second m q).profile
        → ArrivesClosely m (asked shape first second m q).profile
    shape-arrives_closely = any_arrives_closely shape own first second f g n q s accepted
