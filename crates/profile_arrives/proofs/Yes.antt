-- What `check` leaves as it was, and what a yes says. Assumes nothing.
-- The first after a no as after a yes; the second part by part, of the profile q that it was handed and the profile q'
-- that it left.
use mathlib.Core.Path.{◌≡◌, refl, sym, subst}
use mathlib.Core.Bool.{Bool, true, false, cond, ◌&&◌, true≢false}
use mathlib.Core.List.{List}
use Prim.Native.Nat.{ℕ, zero, suc, ◌+◌, ◌<◌, zero-le}
use native.Mathlib.Nat.{le_refl, le_of_suc-le-suc}
use native.Mathlib.Numerals.{add-one}
use lib.Dec.{T, eqb}
use lib.ListN.{get_or, set}
use lib.Ieee.{Float, nan, binary64, lt, fits}
use Rattle.float.specs.Ops.{◌⊕◌, #0}
use Rattle.labels.specs.declared.ReachedLimits.{ReachedLimits}
use Rattle.labels.specs.declared.ControlSigns.{ControlSigns}
use Rattle.labels.specs.declared.tests.Tests.{Tests}
use Rattle.limits.specs.declared.Band.{Band}
use Rattle.profile.specs.declared.Profile.{Profile}
use Rattle.labels.specs.Tests.{tests_of}
use Rattle.jerks.specs.Jerks.{jerks_of}
use Rattle.row.specs.Row.{Nodes}
use Rattle.phases.specs.Run.{Step, run, yes!, no! }
use Rattle.phases.specs.Times.{step_of_sums, sums_of, label_tests}
use Rattle.limits.specs.Limits.{band_of, end_tests}
use Rattle.phases.specs.Phase.{replaced_of, node_of, phase_of}
use Rattle.labels.specs.Causes.{none_fails}
use Rattle.profile.specs.Parts.{nodes_of, goal_of}
use Rattle.profile.specs.Check.{check_of}
use Rattle.profile.proofs.Left.{leaves, times_pass, others_pass, yes_leaves}
use Rattle.rounding.specs.Step.{Node, step_of}
use Rattle.profile_arrives.specs.Reply.{time, jerk, node, Held}
use Rattle.profile_arrives.proofs.Steps.{at, stored, Eight, Begins, each_yes, begins, follows}

-- the node after phase i, as `check` records it without set_limits: 0 in the place of a[3] where the label says so
abbrev pub stepped : Tests → ℕ → Float → Float → Node → Node
stepped m i t j s =
    record { a = cond (m.a3 && eqb i 2) #0 (step_of t j s).a; v = (step_of t j s).v; p = (step_of t j s).p }

-- the times, the goal and the start
pub record Carried (q q' : Profile) : Type 0 where
  pub t_is : q'.t ≡ q.t
  pub pf_is : q'.pf ≡ q.pf
  pub vf_is : q'.vf ≡ q.vf
  pub af_is : q'.af ≡ q.af
  pub nodes : Begins (nodes_of q) (nodes_of q')

pub record Yes (signs : ControlSigns) (limits : ReachedLimits) (jf v_max v_min a_max a_min : Float)
    (q q' : Profile) : Type 0 where
  pub carried : Carried q q'
  -- what is written
  pub j_is : q'.j ≡ jerks_of signs q.t jf
  pub limits_is : q'.limits ≡ limits
  pub signs_is : q'.control_signs ≡ signs
  pub step : (i : ℕ) → i < 7 → node q' (suc i) ≡ stepped (tests_of limits) i (time q' i) (jerk q' i) (node q' i)
  -- what is tested
  pub not_negative : (i : ℕ) → i < 7 → lt (time q' i) #0 ≡ false
  pub not_refused : none_fails (label_tests (tests_of limits) q'.t q'.t_sum) ≡ true
  pub at_end : none_fails (end_tests (nodes_of q') (goal_of q') (band_of v_max a_max a_min) (band_of v_max v_max v_min))
      ≡ true

-- ---- two tests that pass
pub both : (a b : Bool) → a && b ≡ true → (a ≡ true) × (b ≡ true)
both true b h = (refl, h)
both false b h = absurd (true≢false (sym h))

-- ---- the times
kept_on : {X : Type 0} (b : Bool) (x : X) (y : Step X) → (cond b (no! x) y).ok ≡ true → (b ≡ false) × (y.ok ≡ true)
kept_on true x y h = absurd (true≢false (sym h))
kept_on false x y h = (refl, h)

times_yes : (t s : List Float) → (sums_of t s).ok ≡ true → (i : ℕ) → i < 7 → lt (get_or t i nan) #0 ≡ false
unfolding sums_of step_of_sums
times_yes t s h zero l = (kept_on (lt (get_or t 0 nan) #0) s (run (step_of_sums t) 6 0 (set s 0 (get_or t 0 nan))) h).0
times_yes t s h (suc i) l =
    let w = each_yes (step_of_sums t) 6 0 (set s 0 (get_or t 0 nan))
    (kept_on (lt (get_or t 0 nan) #0) s (run (step_of_sums t) 6 0 (set s 0 (get_or t 0 nan))) h).1 i zero-le
    (le_of_suc-le-suc l) in
    subst (λ (k : ℕ). lt (get_or t k nan) #0 ≡ false) (add-one i)
    (kept_on (lt (get_or t (i + 1) nan) #0) w.0 (yes! (set w.0 (i + 1) (get_or w.0 i nan ⊕ get_or t (i + 1) nan)))
    w.1).0

-- ---- the phases
module _ (m : Tests) (set_limits : Bool) (a_max a_min : Float) (b : Band) (t j : List Float) where
  abbrev next : ℕ → Node → Node
  next i s =
      let w = step_of (get_or t i nan) (get_or j i nan) s in
      record { a = replaced_of m set_limits a_max a_min i w.a; v = w.v; p = w.p }

  phase_is : (i : ℕ) (n : Nodes)
      → (phase_of m set_limits a_max a_min b t j i n).left ≡ stored n (i + 1) (next i (at n i))
  unfolding phase_of node_of
  phase_is i n = refl

  phases_begin : (n : Nodes) → Eight n → Begins n (run (phase_of m set_limits a_max a_min b t j) 7 0 n).left
  phases_begin n = begins (phase_of m set_limits a_max a_min b t j) next phase_is 7 n

module _ (m : Tests) (a_max a_min : Float) (b : Band) (t j : List Float) (n : Nodes) where
  abbrev ran : Step Nodes
  ran = run (phase_of m false a_max a_min b t j) 7 0 n

  phases_step : Eight n → ran.ok ≡ true → (i : ℕ) → i < 7
      → at ran.left (suc i) ≡ stepped m i (get_or t i nan) (get_or j i nan) (at ran.left i)
  unfolding replaced_of
  phases_step o h i l =
      subst (λ (k : ℕ). at ran.left k ≡ next m false a_max a_min b t j i (at ran.left i)) (add-one i)
      (follows (phase_of m false a_max a_min b t j) (next m false a_max a_min b t j)
      (phase_is m false a_max a_min b t j) 7 0 n o (le_refl 7) h i zero-le l)

-- ---- all of it
eight_of : (q : Profile) → Held q → Eight (nodes_of q)
eight_of q h = record { eight_a = h.eight_a; eight_v = h.eight_v; eight_p = h.eight_p }

module _ (signs : ControlSigns) (limits : ReachedLimits) (jf v_max v_min a_max a_min : Float) (q : Profile)
    (h : Held q) where
  pub check_carries : (set_limits : Bool)
      → Carried q (check_of signs limits set_limits jf v_max v_min a_max a_min q).profile
  check_carries set_limits =
      let begun = phases_begin (tests_of limits) set_limits a_max a_min (band_of v_max v_max v_min) q.t
      (jerks_of signs q.t jf) (nodes_of q) (eight_of q h) in
      leaves signs limits set_limits jf v_max v_min a_max a_min q (λ (z : Profile). Carried q z)
      (record {
        t_is = refl;
        pf_is = refl;
        vf_is = refl;
        af_is = refl;
        nodes = record { start = refl; eight = eight_of q h };
      })
      (record { t_is = refl; pf_is = refl; vf_is = refl; af_is = refl; nodes = begun })
      (record { t_is = refl; pf_is = refl; vf_is = refl; af_is = refl; nodes = begun })

  pub check_yes : (check_of signs limits false jf v_max v_min a_max a_min q).ok ≡ true
      → Yes signs limits jf v_max v_min a_max a_min q
      (check_of signs limits false jf v_max v_min a_max a_min q).profile
  check_yes said =
      let is = yes_leaves signs limits false jf v_max v_min a_max a_min q said in
      let first = times_pass signs limits false jf v_max v_min a_max a_min q said in
      let last = others_pass signs limits false jf v_max v_min a_max a_min q said in
      subst (λ (z : Profile). Yes signs limits jf v_max v_min a_max a_min q z) (sym is)
      (record {
        carried = subst (λ (z : Profile). Carried q z) is (check_carries false);
        j_is = refl;
        limits_is = refl;
        signs_is = refl;
        step =
            phases_step (tests_of limits) a_max a_min (band_of v_max v_max v_min) q.t (jerks_of signs q.t jf)
            (nodes_of q) (eight_of q h) last.0;
        not_negative = times_yes q.t q.t_sum first.0;
        not_refused = first.1;
        at_end = last.1;
      })

-- what is carried over holds f64s still, and eight of them
pub held-left : {q q' : Profile} → Carried q q' → Held q → Held q'
held-left {q} {q'} c h =
    let w : T (fits binary64 (node q' 0).a) × T (fits binary64 (node q' 0).v) × T (fits binary64 (node q' 0).p) =
    subst (λ (z : Node). T (fits binary64 z.a) × T (fits binary64 z.v) × T (fits binary64 z.p))
    (sym c.nodes.start) (h.held_a, h.held_v, h.held_p) in
    record {
      eight_a = c.nodes.eight.eight_a;
      eight_v = c.nodes.eight.eight_v;
      eight_p = c.nodes.eight.eight_p;
      held_t =
          λ (i : ℕ) (l : i < 7). subst (λ (t : List Float). T (fits binary64 (get_or t i nan))) (sym c.t_is)
          (h.held_t i l);
      held_a = w.0;
      held_v = w.1;
      held_p = w.2;
      held_pf = subst (λ (z : Float). T (fits binary64 z)) (sym c.pf_is) h.held_pf;
      held_vf = subst (λ (z : Float). T (fits binary64 z)) (sym c.vf_is) h.held_vf;
      held_af = subst (λ (z : Float). T (fits binary64 z)) (sym c.af_is) h.held_af;
    }
