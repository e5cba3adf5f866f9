-- The window of the roots that an attempt takes. Definitions only.
use Rattle.std.specs.Prelude.{Bool, ◌||◌, Float}
use Rattle.std.specs.Float.Ieee.{lt}
use Rattle.step2_solver.specs.declared.Window.{Window}

-- The Rust's `root < t_min || root > t_max`: a NaN is not outside.
abbrev pub outside_of : Window → Float → Bool
outside_of w root = lt root w.t_min || lt w.t_max root
