-- `roots::solve_resolved` offers what the two factors do. Assumes nothing.
use Prim.Native.Nat.{ℕ, zero-le}
use mathlib.Core.Path.{◌≡◌, sym, ap, ◌∙◌}
use mathlib.Core.List.{List, [], ◌++◌}
use lib.Ieee.{Float}
use Rattle.float.specs.Ops.{#16ε}
use Rattle.positive_set.specs.Set.{set_of, insert_all_of}
use Rattle.roots.specs.declared.Three.{Three}
use Rattle.roots.specs.declared.Factors.{Factors}
use Rattle.roots.specs.Quartic.{chosen_of, factors_of, quadratic_of, resolved_of}
use Rattle.positive_set.proofs.Sets.{insert_all_length, insert_all_append}
use Rattle.roots.proofs.solve_resolved.Goals as goal

-- what two factors offer
abbrev both : Factors → List Float
both f = quadratic_of #16ε f.p1 f.q1 ++ quadratic_of #16ε f.p2 f.q2

by-factors : (a b c d : Float) (count : ℕ) (x : Three) {y : Float} {f : Factors} → y ≡ chosen_of count x
    → f ≡ factors_of a b c d y → both f ≡ resolved_of a b c d count x
unfolding resolved_of
by-factors a b c d count x e g = ap both (g ∙ ap (factors_of a b c d) e)

pub returns : goal.returns
returns c =
    let f = c.factor-f.result in
    let u = quadratic_of #16ε f.p1 f.q1 in
    let v = quadratic_of #16ε f.p2 f.q2 in
    c.insert_quadratic.ensures (insert_all_of [] u) (insert_all_length u [] zero-le)
    (c.insert_quadratic-roots.ensures [] zero-le c.new.ensures)
    ∙ ap set_of (sym (insert_all_append u v []))
    ∙ ap (λ l. set_of (insert_all_of [] l))
    (by-factors c.args.a c.args.b c.args.c c.args.d c.args.number_zeroes c.args.x3
    c.chosen.ensures c.factor-f.ensures)
