-- The branches of `quartic_need` and of `solve_quart_monic_coeffs`. Assumes nothing.
use mathlib.Core.Path.{◌≡◌, refl, sym, ap, ◌∙◌}
use mathlib.Core.Bool.{Bool, true, false, cond, ◌&&◌}
use mathlib.Core.List.{[]}
use lib.Ieee.{Float}
use Rattle.roots.specs.declared.Need.{Need}
use Rattle.roots.specs.declared.Need.TheVariants.{Cube, Resolvent}
use Rattle.roots.specs.declared.RootAnswer.{RootAnswer}
use Rattle.positive_set.specs.Set.{insert_all_of}
use Rattle.roots.specs.Quartic.{small_of, need_of, offered_of, roots_of}

-- d is small and c is not
pub d_alone : (a b c d : Float) {sa sb sc sd : Bool} → sd ≡ small_of d → sc ≡ small_of c → sa ≡ small_of a
    → sb ≡ small_of b → sd ≡ true → sc ≡ false → need_of a b c d ≡ cond (sa && sb) Cube Resolvent
unfolding need_of
d_alone a b c d e f g h t u = rw (← e, ← f, ← g, ← h, t, u)

-- in the branch of the need n, at the answer w
pub branch : (a b c d : Float) (answer : RootAnswer) {m n : Need} {w : RootAnswer} → m ≡ need_of a b c d → m ≡ n
    → answer ≡ w → roots_of a b c d answer ≡ insert_all_of [] (offered_of a b c d n w)
unfolding roots_of
branch a b c d answer {n = n} e g f =
    ap (λ (k : Need). insert_all_of [] (offered_of a b c d k answer)) (sym e ∙ g)
    ∙ ap (λ (v : RootAnswer). insert_all_of [] (offered_of a b c d n v)) f

-- nothing is offered
pub none_joins : insert_all_of [] [] ≡ []
unfolding insert_all_of
none_joins = refl

pub ruleset branches = (branch, none_joins)
