-- Which tests `check` makes under each label: the Rust's matches. Definitions only.
use Rattle.std.specs.Prelude.{Bool, false, ◌||◌, List, [], ◌∷◌, eqb}
use Rattle.labels.specs.declared.ReachedLimits.{ReachedLimits}
use Rattle.labels.specs.declared.ReachedLimits.TheVariants.{Acc0Acc1Vel, Vel, Acc0, Acc1, Acc0Acc1}
use Rattle.labels.specs.declared.ReachedLimits.TheVariants.{Acc0Vel, Acc1Vel}
use Rattle.labels.specs.declared.tests.Tests.{Tests}
use Rattle.labels.specs.Labels.{label_number_of}

-- Rust's `matches!(l, A | B | ..)`
abbrev pub matches : ReachedLimits → List ReachedLimits → Bool
matches l [] = false
matches l (k ∷ ks) = eqb (label_number_of l) (label_number_of k) || matches l ks

-- t3, t1, t5: such a time below EPS refuses; a3: a[3] becomes 0.
-- Where set_limits is on, set_a3: a[3] becomes a_min; set_a1_a5: a[1] becomes a_max and a[5] a_min.
unfoldable pub tests_of : ReachedLimits → Tests
tests_of l =
    record {
      t3 = matches l (Acc0Acc1Vel ∷ Acc0Vel ∷ Acc1Vel ∷ Vel ∷ []);
      t1 = matches l (Acc0 ∷ Acc0Acc1 ∷ []);
      t5 = matches l (Acc1 ∷ Acc0Acc1 ∷ []);
      a3 = matches l (Acc0Acc1Vel ∷ Acc0Acc1 ∷ Acc0Vel ∷ Acc1Vel ∷ Vel ∷ []);
      set_a3 = matches l (Acc1 ∷ []);
      set_a1_a5 = matches l (Acc0Acc1 ∷ []);
    }
