-- The test that `check` makes inside a phase: a yes says of every phase from 2 on that the velocity where the
-- recorded acceleration passes through 0 keeps its limits, wherever `check` tests it. It is stated of the record that
-- is left, so that it can be used beside `Yes` of crates/profile_arrives. Assumes nothing.
use mathlib.Core.Path.{◌≡◌, refl, sym, ap, ◌∙◌, subst}
use mathlib.Core.Bool.{Bool, true, false}
use mathlib.Core.Logic.{inl, inr}
use mathlib.Core.List.{List}
use Prim.Native.Nat.{ℕ, zero, suc, ◌+◌, ◌≤◌, ◌<◌, zero-le}
use native.Mathlib.Nat.{le_refl, eq-or-lt_of_le}
use lib.ListN.{get_or}
use lib.Ieee.{Float, nan}
use Rattle.labels.specs.declared.ReachedLimits.{ReachedLimits}
use Rattle.labels.specs.declared.ControlSigns.{ControlSigns}
use Rattle.labels.specs.declared.tests.Tests.{Tests}
use Rattle.limits.specs.declared.Band.{Band}
use Rattle.profile.specs.declared.Profile.{Profile}
use Rattle.labels.specs.Tests.{tests_of}
use Rattle.jerks.specs.Jerks.{jerks_of}
use Rattle.row.specs.Row.{Nodes}
use Rattle.phases.specs.Run.{Step, run}
use Rattle.limits.specs.Limits.{band_of}
use Rattle.phases.specs.Phase.{replaced_of, zero_inside_of, node_of, phase_of}
use Rattle.profile.specs.Parts.{nodes_of}
use Rattle.profile.specs.Check.{check_of}
use Rattle.profile.proofs.Left.{ended, others_pass, yes_leaves}
use Rattle.rounding.specs.Step.{Node, step_of}
use Rattle.profile_arrives.specs.Reply.{jerk, node, Held}
use Rattle.profile_arrives.proofs.Steps.{never, later, first, rest, at, stored, stays}
use Rattle.profile_arrives.proofs.Yes.{Yes, check_yes}
use Rattle.step2_solver.specs.declared.Move.{Move}
use Rattle.step2_arrives.proofs.Made.{Made}

-- ---- steps that store entry i + 1 and test entry i
module _ (f : ℕ → Nodes → Step Nodes) (g : ℕ → Node → Node) (test : ℕ → Node → Bool)
    (is : (i : ℕ) (n : Nodes) → (f i n).left ≡ stored n (i + 1) (g i (at n i)))
    (tests : (i : ℕ) (n : Nodes) → (f i n).ok ≡ test i (at n i)) where
  -- a run that says yes has tested every entry that it left
  tested : (k i : ℕ) (n : Nodes) → (run f k i n).ok ≡ true → (l : ℕ) → i ≤ l → l < i + k
      → test l (at (run f k i n).left l) ≡ true
  tested zero i n h l a b = absurd (never i l a b)
  tested (suc k) i n h l a b =
      let w = first f k i n h in
      elim (eq-or-lt_of_le a) [
        | inl e ↦
            subst (λ (z : ℕ). test z (at (run f (suc k) i n).left z) ≡ true) e
            (ap (test i) (stays f g is (suc k) i n i (le_refl i)) ∙ sym (tests i n) ∙ w.0)
        | inr c ↦
            subst (λ (s : Step Nodes). test l (at s.left l) ≡ true) (sym w.1)
            (tested k (i + 1) (f i n).left (rest f k i n h) l (later k i l c b).0 (later k i l c b).1)
      ]

-- ---- the phases of `check`
module _ (m : Tests) (a_max a_min : Float) (b : Band) (t j : List Float) where
  abbrev next : ℕ → Node → Node
  next i s =
      let w = step_of (get_or t i nan) (get_or j i nan) s in
      record { a = replaced_of m false a_max a_min i w.a; v = w.v; p = w.p }

  abbrev inside : ℕ → Node → Bool
  inside i s = zero_inside_of i s.v s.a (next i s).a (get_or j i nan) b

  phases_tested : (n : Nodes) → (run (phase_of m false a_max a_min b t j) 7 0 n).ok ≡ true → (i : ℕ) → i < 7
      → inside i (at (run (phase_of m false a_max a_min b t j) 7 0 n).left i) ≡ true
  unfolding phase_of node_of
  phases_tested n h i l =
      tested (phase_of m false a_max a_min b t j) next inside (λ i n. refl) (λ i n. refl) 7 0 n h i zero-le l

-- ---- a yes of `check`
-- phase i of the profile q passed the test, or was not put to it
abbrev pub ZeroInside : Float → Float → Profile → ℕ → Type 0
ZeroInside v_max v_min q i =
    zero_inside_of i (node q i).v (node q i).a (node q (suc i)).a (jerk q i) (band_of v_max v_max v_min) ≡ true

module _ (signs : ControlSigns) (limits : ReachedLimits) (jf v_max v_min a_max a_min : Float) (q : Profile)
    (h : Held q) where
  pub check_zero_inside : (check_of signs limits false jf v_max v_min a_max a_min q).ok ≡ true → (i : ℕ) → i < 7
      → ZeroInside v_max v_min (check_of signs limits false jf v_max v_min a_max a_min q).profile i
  unfolding replaced_of
  check_zero_inside said i l =
      let b = band_of v_max v_max v_min in
      let y = ended signs limits false jf v_max v_min a_max a_min q in
      let is = yes_leaves signs limits false jf v_max v_min a_max a_min q said in
      let made = subst (λ (z : Profile). Yes signs limits jf v_max v_min a_max a_min q z) is
      (check_yes signs limits jf v_max v_min a_max a_min q h said) in
      subst (λ (z : Profile). ZeroInside v_max v_min z i) (sym is)
      (ap (λ (x : Float). zero_inside_of i (node y i).v (node y i).a x (jerk y i) b)
      (ap (λ (n : Node). n.a) (made.step i l))
      ∙ phases_tested (tests_of limits) a_max a_min b q.t (jerks_of signs q.t jf) (nodes_of q)
      (others_pass signs limits false jf v_max v_min a_max a_min q said).0 i l)

-- and so of every attempt that says yes
pub made_zero_inside : {m : Move} {q : Profile} → Made m q → (i : ℕ) → i < 7
    → ZeroInside m.v_max m.v_min q i
made_zero_inside {m} d i l =
    subst (λ (z : Profile). ZeroInside m.v_max m.v_min z i) (sym d.left)
    (check_zero_inside d.signs d.limits d.jf m.v_max m.v_min m.a_max m.a_min d.before
    d.starts.held d.said i l)
