-- Whether the count of a root answer suits the need of its quartic. Definitions only.
use Rattle.std.specs.Prelude.{Bool, true, ◌&&◌, List, ℕ, eqb, leb, get_or, Float}
use Rattle.std.specs.Float.{nan}
use Rattle.roots.specs.declared.Need.{Need}
use Rattle.roots.specs.declared.Need.TheVariants.{Nothing, Cube, Resolvent}
use Rattle.roots.specs.Quartic.{need_of}
use Rattle.step2_quartics.specs.declared.Quartics.{Quartics}

-- 0 is a cube root, 1 to 3 a resolvent's count
abbrev pub suits : Need → ℕ → Bool
suits Nothing count = true
suits Cube count = eqb count 0
suits Resolvent count = leb 1 count && leb count 3

abbrev pub need_of_quartic : List Float → Need
need_of_quartic p = need_of (get_or p 0 nan) (get_or p 1 nan) (get_or p 2 nan) (get_or p 3 nan)

unfoldable pub both_suit_of : Quartics → ℕ → ℕ → Bool
both_suit_of q uddu udud = suits (need_of_quartic q.uddu) uddu && suits (need_of_quartic q.udud) udud
