-- The yes of one attempt, and what is known of it: the times that it tried, what `check` was handed and what it left.
-- An attempt is known by seven times that fit binary64 and last tf, and whose acceleration after phase 2 is near 0
-- where the label replaces it (`Timed`). That is all that a move's arrival needs of a formula. Assumes nothing.
use mathlib.Core.Path.{◌≡◌, sym, ◌∙◌, subst}
use mathlib.Core.Bool.{true, false}
use Prim.Native.Nat.{ℕ}
use lib.Dec.{T}
use lib.Ieee.{Float, binary64, fits}
use Rattle.float.specs.Ops.{#0}
use Rattle.labels.specs.declared.ReachedLimits.{ReachedLimits}
use Rattle.labels.specs.declared.ControlSigns.{ControlSigns}
use Rattle.profile.specs.declared.Profile.{Profile}
use Rattle.labels.specs.Tests.{tests_of}
use Rattle.profile.specs.Check.{check_of}
use Rattle.rounding.specs.Motion.{motion, state}
use Rattle.rounding.specs.Step.{Replaced}
use Rattle.profile_arrives.specs.Reply.{time}
use Rattle.profile_arrives.proofs.Steps.{by_seven}
use Rattle.profile_arrives.proofs.Yes.{Carried, held-left}
use Rattle.step2_solver.specs.declared.Move.{Move}
use Rattle.step2_solver.specs.declared.Times.{Times}
use Rattle.step2_times.specs.Facts.{Accepted, Lasts, Jerks, residual, Replaces}
use Rattle.row.specs.Row.{with_times}
use Rattle.profile.specs.Parts.{changed}
use Rattle.step2_attempt.specs.Attempt.{seven_of}
use Rattle.step2_arrives.specs.Moves.{StartOf, Starts}

pub record TimesFit (x : Times) : Type 0 where
  pub t0 : T (fits binary64 x.t0)
  pub t1 : T (fits binary64 x.t1)
  pub t2 : T (fits binary64 x.t2)
  pub t3 : T (fits binary64 x.t3)
  pub t4 : T (fits binary64 x.t4)
  pub t5 : T (fits binary64 x.t5)
  pub t6 : T (fits binary64 x.t6)

-- what is known of the times x of an attempt with the jerk jf under a label
pub record Timed (limits : ReachedLimits) (tf a0 jf : Float) (x : Times) : Type 0 where
  pub fit : TimesFit x
  pub lasts : (t : ℕ → Float) → Accepted t x → Lasts t tf
  pub replaced : T (tests_of limits).a3 → (t : ℕ → Float) → Accepted t x → (j : ℕ → Float) (p v : Float) → Jerks jf t j
      → Replaced residual #0 (motion t j (state p v a0) 3).a

-- from the facts of step2_times: under a label that replaces a[3], and under one that does not
pub replacing : {limits : ReachedLimits} {tf a0 jf : Float} {x : Times} → TimesFit x
    → ((t : ℕ → Float) → Accepted t x → Replaces t tf a0 jf) → Timed limits tf a0 jf x
replacing f h = record { fit = f; lasts = λ t a. (h t a).lasts; replaced = λ z t a. (h t a).replaced }

pub leaving : {limits : ReachedLimits} {tf a0 jf : Float} {x : Times} → (tests_of limits).a3 ≡ false → TimesFit x
    → ((t : ℕ → Float) → Accepted t x → Lasts t tf) → Timed limits tf a0 jf x
leaving e f h = record { fit = f; lasts = h; replaced = λ z t a j p v k. absurd (subst T e z) }

-- The profile q was left by a yes of `check`, asked with the times of an attempt on a profile that starts the move m.
pub record Made (m : Move) (q : Profile) : Type 0 where
  pub signs : ControlSigns
  pub limits : ReachedLimits
  pub times : Times
  pub jf : Float
  pub before : Profile
  pub starts : Starts m before
  pub times_are : before.t ≡ seven_of times
  pub timed : Timed limits m.tf m.a0 jf times
  pub held_jf : T (fits binary64 jf)
  pub said : (check_of signs limits false jf m.v_max m.v_min m.a_max m.a_min before).ok ≡ true
  pub left : q ≡ (check_of signs limits false jf m.v_max m.v_min m.a_max m.a_min before).profile

-- ---- start and goal stay
module _ {m : Move} where
  pub starts_with_times : (x : Times) (q : Profile) → TimesFit x → Starts m q
      → Starts m (changed (with_times (seven_of x)) q)
  starts_with_times x q f s =
      let h = s.held in
      record {
        held =
            record {
              eight_a = h.eight_a;
              eight_v = h.eight_v;
              eight_p = h.eight_p;
              held_t =
                  by_seven (λ (i : ℕ). T (fits binary64 (time (changed (with_times (seven_of x)) q) i))) f.t0 f.t1
                  f.t2
                  f.t3
                  f.t4 f.t5 f.t6;
              held_a = h.held_a;
              held_v = h.held_v;
              held_p = h.held_p;
              held_pf = h.held_pf;
              held_vf = h.held_vf;
              held_af = h.held_af;
            };
        start = s.start;
        pf_is = s.pf_is;
        vf_is = s.vf_is;
        af_is = s.af_is;
      }

  pub starts-left : {q q' : Profile} → Carried q q' → Starts m q → Starts m q'
  starts-left c s =
      record {
        held = held-left c s.held;
        start = subst (StartOf m) (sym c.nodes.start) s.start;
        pf_is = c.pf_is ∙ s.pf_is;
        vf_is = c.vf_is ∙ s.vf_is;
        af_is = c.af_is ∙ s.af_is;
      }
