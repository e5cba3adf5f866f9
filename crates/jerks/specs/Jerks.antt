-- The sign of the jerk in each phase, and the seven jerks of a profile. Definitions only.
use Rattle.std.specs.Prelude.{cond, List, [], ◌∷◌, ℕ, get_or, Float}
use Rattle.std.specs.Float.{nan}
use Rattle.std.specs.Float.Ieee.{lt, neg}
use Rattle.float.specs.Ops.{#0}
use Rattle.labels.specs.declared.ControlSigns.{ControlSigns}
use Rattle.labels.specs.declared.ControlSigns.TheVariants.{UDDU, UDUD}
use Rattle.jerks.specs.declared.Sign.{Sign}
use Rattle.jerks.specs.declared.Sign.TheVariants.{Plus, Zero, Minus}

abbrev pub pattern_of : ControlSigns → List Sign
pattern_of UDDU = Plus ∷ Zero ∷ Minus ∷ Zero ∷ Minus ∷ Zero ∷ Plus ∷ []
pattern_of UDUD = Plus ∷ Zero ∷ Minus ∷ Zero ∷ Plus ∷ Zero ∷ Minus ∷ []

abbrev pub signed_of : Sign → Float → Float
signed_of Plus jf = jf
signed_of Zero jf = #0
signed_of Minus jf = neg jf

-- the jerk of a phase of the time t: 0 where t is not above 0, NaN included
abbrev pub jerk_of : Sign → Float → Float → Float
jerk_of s t jf = cond (lt #0 t) (signed_of s jf) #0

-- the seven jerks
unfoldable pub jerks_of : ControlSigns → List Float → Float → List Float
jerks_of c t jf =
    at 0 ∷ at 1 ∷ at 2 ∷ at 3 ∷ at 4 ∷ at 5 ∷ at 6 ∷ []
  where
    at : ℕ → Float
    at i = jerk_of (get_or (pattern_of c) i Zero) (get_or t i nan) jf
