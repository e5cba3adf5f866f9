-- `float::near` is `lt (abs_of d) e`, at each kind of float (Cases.antt). Assumes nothing.
use mathlib.Core.Path.{sym}
use Rattle.float.proofs.Cases.{near_is}
use Rattle.float.proofs.near.Goals as goal

pub returns : goal.returns
returns c = sym (near_is c.args.d c.args.e)
