-- An attempt at each root of a quartic. Definitions only.
use Rattle.std.specs.Prelude.{List, map, Float}
use Rattle.positive_set.specs.Set.{sorted_of}
use Rattle.roots.specs.declared.RootAnswer.{RootAnswer}
use Rattle.roots.specs.Quartic.{polynom_roots_of}
use Rattle.step2_solver.specs.declared.Trial.{Trial}

-- from the smallest root on
abbrev pub over_roots : (Float → Trial) → List Float → RootAnswer → List Trial
over_roots attempt polynom answer = map attempt (sorted_of (polynom_roots_of polynom answer))
