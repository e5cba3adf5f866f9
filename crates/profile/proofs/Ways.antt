-- The ways out of `check`: what `check_of` is, from what its parts say on the way there. Assumes nothing.
use mathlib.Core.Path.{◌≡◌, refl, ap, sym, ◌∙◌}
use mathlib.Core.Bool.{Bool, true, false}
use mathlib.Core.List.{List}
use Prim.Native.Nat.{ℕ}
use lib.Ieee.{Float}
use Rattle.labels.specs.declared.ReachedLimits.{ReachedLimits}
use Rattle.labels.specs.declared.ControlSigns.{ControlSigns}
use Rattle.labels.specs.declared.Direction.{Direction}
use Rattle.labels.specs.declared.Labels.{Labels}
use Rattle.labels.specs.declared.causes.Cause.{Cause}
use Rattle.labels.specs.declared.causes.Cause.TheVariants.{NegativeTime, VelocityAtZero}
use Rattle.labels.specs.declared.tests.Tests.{Tests}
use Rattle.labels.specs.Labels.{labels}
use Rattle.labels.specs.Causes.{is_yes, Test, none_fails, cause_of, counted_of}
use Rattle.labels.specs.Tests.{tests_of}
use Rattle.labels.proofs.Failing.{none_fails_lem, both_pass, earlier, later}
use Rattle.jerks.specs.Jerks.{jerks_of}
use Rattle.row.specs.Row.{Nodes, Goal, Numbers, with_sums, with_jerks, with_nodes}
use Rattle.limits.specs.declared.Band.{Band}
use Rattle.phases.specs.Run.{Step, run}
use Rattle.phases.specs.Times.{sums_of, label_tests}
use Rattle.limits.specs.Limits.{direction_of, band_of, end_tests}
use Rattle.phases.specs.Phase.{phase_of}
use Rattle.phases.specs.Moved.{summed_of, moved_of}
use Rattle.profile.specs.declared.Profile.{Profile}
use Rattle.profile.specs.declared.Checked.{Checked}
use Rattle.profile.specs.Parts.{profile_of, numbers_of, labels_of}
use Rattle.profile.specs.Check.{check_of}

-- no cause of these tests is Yes, so none fails where the cause is
label-none : (m : Tests) (t s : List Float)
    → none_fails (label_tests m t s) ≡ is_yes (cause_of (label_tests m t s))
unfolding label_tests
label-none m t s = none_fails_lem (label_tests m t s) (refl, (refl, (refl, (refl, tt))))

end_none : (n : Nodes) (g : Goal) (a_band v_band : Band)
    → none_fails (end_tests n g a_band v_band) ≡ is_yes (cause_of (end_tests n g a_band v_band))
unfolding end_tests
end_none n g a_band v_band =
    none_fails_lem (end_tests n g a_band v_band) (refl, (refl, (refl, (refl, (refl, tt)))))

-- n₀ is what `check` is handed, n₁ what it has after the sums, n₂ after the jerks, n₃ after the phases
module _ (signs : ControlSigns) (limits : ReachedLimits) (set_limits : Bool) (jf v_max v_min a_max a_min : Float)
    (n₀ : Numbers) (l : Labels) {calls : ℕ} (ec : calls ≡ counted_of l.calls) where
  abbrev asked : Checked
  asked = check_of signs limits set_limits jf v_max v_min a_max a_min (profile_of n₀ l)

  module _ {n₁ : Numbers} {b : Bool} (e : record { ok = b; left = n₁ } ≡ summed_of n₀) where
    abbrev sums : Step (List Float)
    sums = sums_of n₀.t n₀.t_sum

    b_is : b ≡ sums.ok
    b_is = unfold summed_of in ap (λ (s : Step Numbers). s.ok) e

    n₁_is : n₁ ≡ with_sums sums.left n₀
    n₁_is = unfold summed_of in ap (λ (s : Step Numbers). s.left) e

    pub negative_time : b ≡ false
        → record {
          ok = false;
          profile = profile_of n₁ (labels l.limits l.direction l.control_signs calls NegativeTime);
        }
        ≡ asked
    unfolding check_of
    negative_time h = rw (ec, n₁_is, ← b_is, h)

    module _ (h : b ≡ true) {made : Tests} (em : made ≡ tests_of limits) {cause : Cause}
        (er : cause ≡ cause_of (label_tests made n₁.t n₁.t_sum)) where
      abbrev early : List Test
      early = label_tests made n₀.t sums.left

      cause_is : cause_of early ≡ cause
      cause_is = rw n₁_is at (sym er)

      early_is : none_fails early ≡ is_yes cause
      early_is = label-none made n₀.t sums.left ∙ ap is_yes cause_is

      pub refused_time : is_yes cause ≡ false
          → record {
            ok = false;
            profile = profile_of n₁ (labels l.limits l.direction l.control_signs calls cause);
          }
          ≡ asked
      unfolding check_of
      refused_time r =
          rw (ec, n₁_is, ← em, ← b_is, h, both_pass early _, early_is, r)
          (rw (earlier early _ (early_is ∙ r), cause_is))

      module _ (r : is_yes cause ≡ true) {t j : List Float} (et : t ≡ n₁.t)
          (ej : j ≡ jerks_of signs t jf) {n₂ : Numbers}
          (e₂ : n₂ ≡ with_jerks j n₁) {way : Direction} (ew : way ≡ direction_of v_max) {v_band : Band}
          (eb : v_band ≡ band_of v_max v_max v_min) {n₃ : Numbers} {o : Bool}
          (e₃ : record { ok = o; left = n₃ } ≡ moved_of made set_limits a_max a_min v_band n₂) where
        abbrev nodes : Step Nodes
        nodes = run (phase_of made set_limits a_max a_min v_band n₀.t (jerks_of signs n₀.t jf)) 7 0 n₀.nodes

        abbrev jerked : Numbers
        jerked = with_jerks (jerks_of signs n₀.t jf) (with_sums sums.left n₀)

        after : record { ok = o; left = n₃ } ≡ moved_of made set_limits a_max a_min v_band jerked
        after = rw (e₂, ej, et, n₁_is) at e₃

        o_is : o ≡ nodes.ok
        o_is = unfold moved_of in ap (λ (s : Step Numbers). s.ok) after

        n₃_is : n₃ ≡ with_nodes nodes.left jerked
        n₃_is = unfold moved_of in ap (λ (s : Step Numbers). s.left) after

        passed : none_fails early ≡ true
        passed = early_is ∙ r

        pub left_the_band : o ≡ false
            → record {
              ok = false;
              profile = profile_of n₃ (labels l.limits way l.control_signs calls VelocityAtZero);
            }
            ≡ asked
        unfolding check_of
        left_the_band k =
            rw (ec, n₃_is, ← em, ← b_is, h, both_pass early _, passed, later early _ passed)
            (rw (← eb, ← ew, ← o_is, k))

        pub ended : {a_band : Band} → a_band ≡ band_of v_max a_max a_min → o ≡ true → {last : Cause}
            → last ≡ cause_of (end_tests n₃.nodes n₃.goal a_band v_band) → {ok : Bool} → ok ≡ is_yes last
            → record { ok = ok; profile = profile_of n₃ (labels limits way signs calls last) } ≡ asked
        unfolding check_of
        ended {a_band} ea k el eo =
            rw (eo, el, ec, n₃_is, ← em, ← b_is, h, both_pass early _, passed, later early _ passed)
            (rw (← eb, ← ew, ← ea, ← o_is, k, end_none nodes.left n₀.goal a_band v_band))

-- a profile taken apart and worked on in its row
pub put_together : (f : Profile → Checked) (q : Profile) {n : Numbers} {l : Labels} → n ≡ numbers_of q → l ≡ labels_of q
    → {c : Checked} → c ≡ f (profile_of n l) → c ≡ f q
put_together f q en el e = rw (en, el) at e
