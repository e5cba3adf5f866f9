-- The phase times: running sums up to the first time below 0, and the tests of label and total. Definitions only.
use Rattle.std.specs.Prelude.{Bool, cond, not, ◌&&◌, List, [], ◌∷◌, ℕ, ◌+◌, get_or, set, Float}
use Rattle.std.specs.Float.{nan}
use Rattle.std.specs.Float.Ieee.{lt}
use Rattle.float.specs.Ops.{◌⊕◌, #0, #ε, #1e12}
use Rattle.labels.specs.declared.causes.Cause.TheVariants.{T3, T1, T5, Total}
use Rattle.labels.specs.declared.tests.Tests.{Tests}
use Rattle.labels.specs.Causes.{Test, test}
use Rattle.phases.specs.Run.{Step, yes!, no!, run}

-- t_sum[i + 1] = t_sum[i] + t[i + 1], unless t[i + 1] is below 0; -0 and NaN are not
unfoldable pub step_of_sums : List Float → ℕ → List Float → Step (List Float)
step_of_sums t i s = cond (lt (get_or t (i + 1) nan) #0) (no! s)
    (yes! (set s (i + 1) (get_or s i nan ⊕ get_or t (i + 1) nan)))

unfoldable pub sums_of : List Float → List Float → Step (List Float)
sums_of t s = cond (lt (get_or t 0 nan) #0) (no! s) (run (step_of_sums t) 6 0 (set s 0 (get_or t 0 nan)))

-- the tests of label and total, of whether each fails
abbrev pub four_tests : Bool → Bool → Bool → Bool → List Test
four_tests t3 t1 t5 total = test T3 (not t3) ∷ test T1 (not t1) ∷ test T5 (not t5) ∷ test Total (not total) ∷ []

-- t[3], t[1] or t[5] below EPS, where the label asks; and the total above T_MAX
unfoldable pub label_tests : Tests → List Float → List Float → List Test
label_tests m t s =
    four_tests (m.t3 && lt (get_or t 3 nan) #ε) (m.t1 && lt (get_or t 1 nan) #ε) (m.t5 && lt (get_or t 5 nan) #ε)
    (lt #1e12 (get_or s 6 nan))
