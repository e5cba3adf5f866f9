-- What comes of the roots that are left is what comes of all, by any trial that the attempt gives. Assumes nothing.
use mathlib.Core.Path.{◌≡◌}
use lib.Ieee.{Float}
use Rattle.profile.specs.Parts.{profile_in}
use Rattle.step2_solver.specs.declared.Trial.{Trial}
use Rattle.step2_over_roots.proofs.Roots.{Rest}
use Rattle.step2_over_roots.proofs.over_roots.over_roots.Given as goal

abbrev pub invariant-loop-root : goal.invariant-loop-root
invariant-loop-root g l =
    (trial : Float → Trial) → ((root : Float) (k : Trial) → goal.F-post g l.attempt root k → k ≡ trial root)
    → Rest l.initial.l trial l.root-items (profile_in l.initial.x l.initial.left) l.root-index (profile_in l.x l.left)
