-- `float::abs` is `abs_of`: the tests against 0, at each kind of float (Cases.antt). Assumes nothing.
use mathlib.Core.Path.{sym, subst}
use lib.Dec.{T}
use Rattle.float.proofs.Cases.{abs_is}
use Rattle.float.proofs.abs.Goals as goal

pub returns : goal.returns
returns c =
    rw (c.pick-2.ensures, c.pick.ensures) (abs_is c.args.x (subst T (sym c.well_formed.0.1) tt))
