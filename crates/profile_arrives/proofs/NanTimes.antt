-- A NaN among the seven times gets no yes: from its phase on every position is NaN, so the end is not at the goal.
-- Nothing is asked of the profile. Assumes nothing.
use mathlib.Core.Path.{◌≡◌, refl, sym, ap, ◌∙◌, subst}
use mathlib.Core.Bool.{Bool, true, false, true≢false}
use mathlib.Core.Logic.{inl, inr}
use mathlib.Core.List.{List, [], ◌∷◌}
use Prim.Native.Nat.{ℕ, zero, suc, ◌+◌, ◌≤◌, ◌<◌, zero-le}
use native.Mathlib.Nat.{add-zero, eq-or-lt_of_le}
use native.Mathlib.Omega.{arith}
use lib.ListN.{get_or, set}
use lib.Ieee.{Float, nan, lt}
use Rattle.float.specs.Ops.{◌⊖◌, #1e-8}
use Rattle.float.specs.Helpers.{abs_of}
use Rattle.float.proofs.Nan.{nan-add, add-nan, nan-mul, nan-sub}
use Rattle.labels.specs.declared.ReachedLimits.{ReachedLimits}
use Rattle.labels.specs.declared.ControlSigns.{ControlSigns}
use Rattle.labels.specs.declared.tests.Tests.{Tests}
use Rattle.labels.specs.Tests.{tests_of}
use Rattle.labels.specs.Causes.{none_fails}
use Rattle.limits.specs.declared.Band.{Band}
use Rattle.limits.specs.Limits.{band_of, end_tests}
use Rattle.jerks.specs.Jerks.{jerks_of}
use Rattle.row.specs.Row.{Nodes, Goal}
use Rattle.util.specs.Integrate.{integrate_of}
use Rattle.phases.specs.Run.{Step, run}
use Rattle.phases.specs.Phase.{node_of, phase_of}
use Rattle.profile.specs.declared.Profile.{Profile}
use Rattle.profile.specs.Parts.{nodes_of, goal_of}
use Rattle.profile.specs.Check.{check_of}
use Rattle.profile.proofs.Left.{nodes, others_pass}
use Rattle.profile_arrives.proofs.Steps.{never, later, first, rest}
use Rattle.profile_arrives.proofs.Yes.{both}

-- past the end of a list there is a NaN as well
stored : (l : List Float) (i : ℕ) {x : Float} → x ≡ nan → get_or (set l i x) i nan ≡ nan
stored [] i e = refl
stored (y ∷ l) zero e = e
stored (y ∷ l) (suc i) e = stored l i e

-- the position at i is a NaN
abbrev Lost : ℕ → Nodes → Type 0
Lost i n = get_or n.p i nan ≡ nan

module _ (m : Tests) (set_limits : Bool) (a_max a_min : Float) (b : Band) (t j : List Float) where
  abbrev phase : ℕ → Nodes → Step Nodes
  phase = phase_of m set_limits a_max a_min b t j

  by_time : (i : ℕ) (n : Nodes) → get_or t i nan ≡ nan → Lost (i + 1) (phase i n).left
  unfolding phase_of node_of integrate_of
  by_time i n h = stored n.p (i + 1) (rw (h, nan-mul _, add-nan (get_or n.p i nan)))

  by_position : (i : ℕ) (n : Nodes) → Lost i n → Lost (i + 1) (phase i n).left
  unfolding phase_of node_of integrate_of
  by_position i n h = stored n.p (i + 1) (rw (h, nan-add _))

  step_on : (k i : ℕ) → i + 1 + k ≡ i + suc k
  step_on k i = omega arith

  -- from one position on all are lost
  stay_lost : (k i : ℕ) (n : Nodes) → (run phase k i n).ok ≡ true → Lost i n → Lost (i + k) (run phase k i n).left
  unfolding run
  stay_lost zero i n h e = subst (λ (z : ℕ). Lost z n) (sym (add-zero i)) e
  stay_lost (suc k) i n h e =
      rw (first phase k i n h).1
      (subst (λ (z : ℕ). Lost z (run phase k (i + 1) (phase i n).left).left) (step_on k i)
      (stay_lost k (i + 1) (phase i n).left (rest phase k i n h) (by_position i n e)))

  lost : (k i : ℕ) (n : Nodes) → (run phase k i n).ok ≡ true → (l : ℕ) → i ≤ l → l < i + k → get_or t l nan ≡ nan
      → Lost (i + k) (run phase k i n).left
  lost zero i n h l a c e = absurd (never i l a c)
  lost (suc k) i n h l a c e =
      rw (first phase k i n h).1
      (subst (λ (z : ℕ). Lost z (run phase k (i + 1) (phase i n).left).left) (step_on k i)
      (elim (eq-or-lt_of_le a) [
        | inl s ↦ stay_lost k (i + 1) (phase i n).left (rest phase k i n h)
            (by_time i n (subst (λ (z : ℕ). get_or t z nan ≡ nan) (sym s) e))
        | inr s ↦ lost k (i + 1) (phase i n).left (rest phase k i n h) l (later k i l s c).0 (later k i l s c).1 e
      ]))

-- such an end is not at the goal
not_near : (n : Nodes) (g : Goal) (a_band v_band : Band) → Lost 7 n → none_fails (end_tests n g a_band v_band) ≡ true
    → ⊥
unfolding end_tests lt abs_of
not_near n g a_band v_band e h =
    let near = (both (lt (abs_of (get_or n.p 7 nan ⊖ g.pf)) #1e-8) _ h).0 in
    let lost = ap (λ (z : Float). z ⊖ g.pf) e ∙ nan-sub g.pf in
    true≢false (sym near ∙ ap (λ (z : Float). lt (abs_of z) #1e-8) lost)

module _ (signs : ControlSigns) (limits : ReachedLimits) (set_limits : Bool) (jf v_max v_min a_max a_min : Float)
    (q : Profile) where
  never_yes : (i : ℕ) → i < 7 → get_or q.t i nan ≡ nan
      → (check_of signs limits set_limits jf v_max v_min a_max a_min q).ok ≡ true → ⊥
  never_yes i l e h =
      let o = others_pass signs limits set_limits jf v_max v_min a_max a_min q h in
      not_near (nodes signs limits set_limits jf v_max v_min a_max a_min q).left (goal_of q) _ _
      (lost (tests_of limits) set_limits a_max a_min (band_of v_max v_max v_min) q.t (jerks_of signs q.t jf) 7 0
      (nodes_of q) o.0 i zero-le l e)
      o.1

  pub nan-time : (i : ℕ) → i < 7 → get_or q.t i nan ≡ nan
      → (check_of signs limits set_limits jf v_max v_min a_max a_min q).ok ≡ false
  nan-time i l e = by (check_of signs limits set_limits jf v_max v_min a_max a_min q).ok (never_yes i l e)
    where
      by : (b : Bool) → (b ≡ true → ⊥) → b ≡ false
      by true h = absurd (h refl)
      by false h = refl
