-- What trials in turn make of a profile: they leave start and goal as they were, after a no as after a yes, and a yes
-- was made by one of them, of whose times enough is known (`Known`). Assumes nothing.
use mathlib.Core.Path.{◌≡◌, refl, sym, ap}
use mathlib.Core.Bool.{Bool, true, false, cond, not, true≢false}
use mathlib.Core.List.{List, [], ◌∷◌}
use lib.Dec.{T}
use lib.Ieee.{Float, binary64, fits}
use Rattle.labels.specs.declared.ReachedLimits.{ReachedLimits}
use Rattle.labels.specs.declared.ControlSigns.{ControlSigns}
use Rattle.profile.specs.declared.Profile.{Profile}
use Rattle.profile.specs.declared.Checked.{Checked}
use Rattle.profile_arrives.proofs.Yes.{Carried, check_carries}
use Rattle.positive_set.proofs.Laws.{Every}
use Rattle.step2_solver.specs.declared.Move.{Move}
use Rattle.step2_solver.specs.declared.Times.{Times}
use Rattle.step2_solver.specs.declared.Trial.{Trial}
use Rattle.step2_solver.specs.New.{limits_of}
use Rattle.step2_solver.specs.Trials.{the_trial, no_trial_of}
use Rattle.row.specs.Row.{with_times}
use Rattle.profile.specs.Parts.{changed}
use Rattle.profile.specs.Check.{check_of}
use Rattle.profile.specs.Timing.{marked_by, timing_of}
use Rattle.profile.proofs.Marks.{yes_stays}
use Rattle.step2_attempt.specs.Attempt.{seven_of, attempt_of, nothing, try_of, tried_of}
use Rattle.step2_arrives.specs.Moves.{Starts}
use Rattle.step2_arrives.proofs.Made.{Timed, Made, starts_with_times, starts-left}

-- ---- what is known of a trial, where it is made
pub record Known (m : Move) (k : Trial) : Type 0 where
  pub timed : T k.made → Timed k.label m.tf m.a0 k.jf k.times
  pub held_jf : T k.made → T (fits binary64 k.jf)

module _ {m : Move} where
  pub known : {marked : Bool} {x : Times} {signs : ControlSigns} {label : ReachedLimits} {jf : Float}
      → Timed label m.tf m.a0 jf x → T (fits binary64 jf) → Known m (the_trial marked x signs label jf)
  known h f = record { timed = λ z. h; held_jf = λ z. f }

  pub none_known : Known m no_trial_of
  none_known = record { timed = λ z. absurd z; held_jf = λ z. absurd z }

  pub known_cond : (b : Bool) {k k' : Trial} → (T b → Known m k) → (T (not b) → Known m k') → Known m (cond b k k')
  known_cond true h h' = h tt
  known_cond false h h' = h' tt

-- ---- what is made of a profile
pub record Sound (m : Move) (c : Checked) : Type 0 where
  pub starts : Starts m c.profile
  pub made : c.ok ≡ true → Made m c.profile

abbrev pub AlwaysSound : Move → (Profile → Checked) → Type 0
AlwaysSound m f = (q : Profile) → Starts m q → Sound m (f q)

-- the mark leaves times, goal and nodes as they are
carried_marked : {q : Profile} (marked : Bool) (c : Checked) → Carried q c.profile
    → Carried q (marked_by marked c).profile
carried_marked marked c h =
    record { t_is = h.t_is; pf_is = h.pf_is; vf_is = h.vf_is; af_is = h.af_is; nodes = h.nodes }

module _ {m : Move} where
  sound_nothing : AlwaysSound m nothing
  sound_nothing q s = record { starts = s; made = λ e. absurd (true≢false (sym e)) }

  sound_cond : (b : Bool) {c d : Checked} → (T b → Sound m c) → (T (not b) → Sound m d) → Sound m (cond b c d)
  sound_cond true h k = h tt
  sound_cond false h k = k tt

  sound_try : (k : Trial) → Known m k → AlwaysSound m (try_of (limits_of m) k)
  unfolding try_of attempt_of timing_of
  sound_try k h q s =
      sound_cond k.made
      (λ z.
      let b = starts_with_times k.times q (h.timed z).fit s in
      let c = check_of k.signs k.label false k.jf m.v_max m.v_min m.a_max m.a_min
      (changed (with_times (seven_of k.times)) q) in
      record {
        starts =
            starts-left
            (carried_marked k.marked c
            (check_carries k.signs k.label k.jf m.v_max m.v_min m.a_max m.a_min
            (changed (with_times (seven_of k.times)) q) b.held false))
            b;
        made = λ e.
            record {
              signs = k.signs;
              limits = k.label;
              times = k.times;
              jf = k.jf;
              before = changed (with_times (seven_of k.times)) q;
              starts = b;
              times_are = refl;
              timed = h.timed z;
              held_jf = h.held_jf z;
              said = e;
              left = ap (λ (r : Checked). r.profile) (yes_stays k.marked c e);
            };
      })
      (λ z. sound_nothing q s)

  pub sound_tries : (ks : List Trial) → Every (Known m) ks → AlwaysSound m (tried_of (limits_of m) ks)
  unfolding tried_of
  sound_tries [] e q s = sound_nothing q s
  sound_tries (k ∷ ks) e q s =
      let c = sound_try k e.0 q s in
      sound_cond (try_of (limits_of m) k q).ok (λ z. c)
      (λ z. sound_tries ks e.1 (try_of (limits_of m) k q).profile c.starts)
