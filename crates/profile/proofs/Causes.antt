-- What `check` leaves of a profile's count and cause: one call more, and the cause of the verdict, which is yes exactly
-- where none of the tests fails; and that the verdict and the Rust's record depend on neither. Assumes nothing.
use mathlib.Core.Path.{◌≡◌, refl, sym, ap, ◌∙◌, subst}
use mathlib.Core.Bool.{Bool, true, false, cond}
use mathlib.Core.List.{List, [], ◌∷◌}
use Prim.Native.Nat.{ℕ}
use lib.Dec.{T, leb}
use lib.Ieee.{Float}
use Rattle.labels.specs.declared.ReachedLimits.{ReachedLimits}
use Rattle.labels.specs.declared.ControlSigns.{ControlSigns}
use Rattle.labels.specs.declared.causes.Cause.{Cause}
use Rattle.labels.specs.declared.tests.Tests.{Tests}
use Rattle.labels.specs.Tests.{tests_of}
use Rattle.labels.specs.Causes.{cause_number_of, is_yes, Test, none_fails, cause_of, causes_in, counted_of}
use Rattle.labels.proofs.Failing.{none_fails_lem}
use Rattle.row.specs.Row.{Nodes, Goal}
use Rattle.limits.specs.declared.Band.{Band}
use Rattle.limits.specs.Limits.{band_of, end_tests}
use Rattle.phases.specs.Run.{Step}
use Rattle.phases.specs.Times.{label_tests}
use Rattle.profile.specs.declared.Profile.{Profile}
use Rattle.profile.specs.Parts.{goal_of, noted, record_of, rust_of}
use Rattle.profile.specs.Check.{check_tests, check_of}
use Rattle.profile.proofs.Left.{sums, nodes, times, summed, stopped, ended, leaves}

-- ---- the tests: their causes are 1 to 11, in this order
module _ (m : Tests) (t : List Float) (s : Step (List Float)) (n : Step Nodes) (goal : Goal)
    (a_band v_band : Band) where
  abbrev tests : List Test
  tests = check_tests m t s n goal a_band v_band

  pub in_order : causes_in (check_tests m t s n goal a_band v_band)
      ≡ 1 ∷ 2 ∷ 3 ∷ 4 ∷ 5 ∷ 6 ∷ 7 ∷ 8 ∷ 9 ∷ 10 ∷ 11 ∷ []
  unfolding label_tests end_tests
  in_order = refl

  pub verdict_is_cause : none_fails tests ≡ is_yes (cause_of tests)
  unfolding label_tests end_tests
  verdict_is_cause =
      none_fails_lem tests
      (refl, (refl, (refl, (refl, (refl, (refl, (refl, (refl, (refl, (refl, (refl, tt)))))))))))

  -- none of them is 12
  pub some-cause : T (leb (cause_number_of (cause_of tests)) 11)
  unfolding label_tests end_tests
  some-cause = each tests (tt, (tt, (tt, (tt, (tt, (tt, (tt, (tt, (tt, (tt, (tt, tt)))))))))))
    where
      Few : List Test → Type 0
      Few [] = Unit {0}
      Few (x ∷ xs) = T (leb (cause_number_of x.cause) 11) × Few xs

      each : (xs : List Test) → Few xs → T (leb (cause_number_of (cause_of xs)) 11)
      each [] h = tt
      each (x ∷ xs) h = by x.passed h.0 (each xs h.1)
        where
          by : (b : Bool) → T (leb (cause_number_of x.cause) 11) → T (leb (cause_number_of (cause_of xs)) 11)
              → T (leb (cause_number_of (cond b (cause_of xs) x.cause)) 11)
          by true h k = k
          by false h k = h

-- ---- what is left of a profile
same_ways : (b o : Bool) (x y z x' y' z' : Profile) → record_of x ≡ record_of x' → record_of y ≡ record_of y'
    → record_of z ≡ record_of z' → record_of (cond b (cond o y z) x) ≡ record_of (cond b (cond o y' z') x')
same_ways true true x y z x' y' z' ex ey ez = ey
same_ways true false x y z x' y' z' ex ey ez = ez
same_ways false o x y z x' y' z' ex ey ez = ex

module _ (signs : ControlSigns) (limits : ReachedLimits) (set_limits : Bool) (jf v_max v_min a_max a_min : Float)
    (q : Profile) where
  abbrev s : Step (List Float)
  s = sums signs limits set_limits jf v_max v_min a_max a_min q

  abbrev n : Step Nodes
  n = nodes signs limits set_limits jf v_max v_min a_max a_min q

  abbrev made : List Test
  made = tests (tests_of limits) q.t s n (goal_of q) (band_of v_max a_max a_min) (band_of v_max v_max v_min)

  pub one_call_more : (check_of signs limits set_limits jf v_max v_min a_max a_min q).profile.calls
      ≡ counted_of q.calls
  one_call_more =
      leaves signs limits set_limits jf v_max v_min a_max a_min q (λ z. z.calls ≡ counted_of q.calls) refl refl
      refl

  cause_is : (check_of signs limits set_limits jf v_max v_min a_max a_min q).profile.cause ≡ cause_of made
  cause_is =
      leaves signs limits set_limits jf v_max v_min a_max a_min q (λ z. z.cause ≡ cause_of made) refl refl refl

  -- the verdict is yes exactly where the cause is
  pub yes_is_cause : (check_of signs limits set_limits jf v_max v_min a_max a_min q).ok
      ≡ is_yes (check_of signs limits set_limits jf v_max v_min a_max a_min q).profile.cause
  unfolding check_of
  yes_is_cause =
      verdict_is_cause (tests_of limits) q.t s n (goal_of q) (band_of v_max a_max a_min) (band_of v_max v_max v_min)
      ∙ ap is_yes (sym cause_is)

  -- the cause after a call is not 12
  pub a_call_has_a_cause :
      T (leb (cause_number_of (check_of signs limits set_limits jf v_max v_min a_max a_min q).profile.cause) 11)
  a_call_has_a_cause =
      subst (λ (c : Cause). T (leb (cause_number_of c) 11)) (sym cause_is)
      (some-cause (tests_of limits) q.t s n (goal_of q) (band_of v_max a_max a_min) (band_of v_max v_max v_min))

  -- the cause before is not looked at: that of the last call alone counts
  pub cause_anew : (k : ℕ) (c : Cause)
      → (check_of signs limits set_limits jf v_max v_min a_max a_min (noted k c q)).profile.cause
      ≡ (check_of signs limits set_limits jf v_max v_min a_max a_min q).profile.cause
  cause_anew k c =
      leaves signs limits set_limits jf v_max v_min a_max a_min (noted k c q) (λ z. z.cause ≡ cause_of made) refl refl
      refl
      ∙ sym cause_is

  -- Demand 2 leaves count and cause out: whatever they were, the verdict and the Rust's record are the same.
  pub apart : (k : ℕ) (c : Cause)
      → rust_of (check_of signs limits set_limits jf v_max v_min a_max a_min (noted k c q))
      ≡ rust_of (check_of signs limits set_limits jf v_max v_min a_max a_min q)
  unfolding check_of
  apart k c =
      let q' = noted k c q in
      ap (λ (r : Profile). record { ok = none_fails made; profile = r })
      (same_ways (none_fails (times signs limits set_limits jf v_max v_min a_max a_min q)) n.ok
      (summed signs limits set_limits jf v_max v_min a_max a_min q')
      (ended signs limits set_limits jf v_max v_min a_max a_min q')
      (stopped signs limits set_limits jf v_max v_min a_max a_min q')
      (summed signs limits set_limits jf v_max v_min a_max a_min q)
      (ended signs limits set_limits jf v_max v_min a_max a_min q)
      (stopped signs limits set_limits jf v_max v_min a_max a_min q)
      refl refl refl)
