-- An answer that holds f64s, as every argument of the code does. Definitions only.
use Rattle.std.specs.Prelude.{T, Float}
use Rattle.std.specs.Float.{binary64}
use Rattle.std.specs.Float.Ieee.{fits}
use Rattle.roots.specs.declared.RootAnswer.{RootAnswer}
use Rattle.roots.specs.declared.RootAnswer.TheVariants.{CubeRoot, Resolved}

abbrev pub Fits64 : Float → Type 0
Fits64 x = T (fits binary64 x)

-- Nothing is asked of a resolvent's values: what is tried is worked out from them, and so it is an f64.
abbrev pub AnswerFits : RootAnswer → Type 0
AnswerFits (CubeRoot r) = Fits64 r
AnswerFits (Resolved n x) = Unit {0}
