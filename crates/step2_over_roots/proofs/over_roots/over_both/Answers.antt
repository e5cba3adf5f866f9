-- The roots of UDDU, then those of UDUD, by any trials that the two attempts give. Assumes nothing.
use Rattle.step2_attempt.proofs.Turns.{first_yes, first_no_lem}
use Rattle.step2_over_roots.proofs.over_roots.over_both.Goals as goal

pub returns-then-r : goal.returns-then-r
returns-then-r g c = λ f h gives_f gives_h. first_yes _ _ _ _ (c.over_roots-r.ensures f gives_f) c.if-r.true

pub returns : goal.returns
returns g c = λ f h gives_f gives_h.
    first_no_lem _ _ _ _ (c.over_roots-r.ensures f gives_f) c.if-r.false (c.over_roots.ensures h gives_h)
