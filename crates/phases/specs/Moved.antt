-- What `check` does to a profile's numbers, part by part: the sums, and the seven phases. Definitions only.
use Rattle.std.specs.Prelude.{Bool, Float}
use Rattle.labels.specs.declared.tests.Tests.{Tests}
use Rattle.limits.specs.declared.Band.{Band}
use Rattle.phases.specs.Run.{Step, run}
use Rattle.phases.specs.Times.{sums_of}
use Rattle.phases.specs.Phase.{phase_of}
use Rattle.row.specs.Row.{Numbers, with_sums, with_nodes}

unfoldable pub summed_of : Numbers → Step Numbers
summed_of n =
    let sums = sums_of n.t n.t_sum in
    record { ok = sums.ok; left = with_sums sums.left n }

unfoldable pub moved_of : Tests → Bool → Float → Float → Band → Numbers → Step Numbers
moved_of m set_limits a_max a_min b n =
    let nodes = run (phase_of m set_limits a_max a_min b n.t n.j) 7 0 n.nodes in
    record { ok = nodes.ok; left = with_nodes nodes.left n }
