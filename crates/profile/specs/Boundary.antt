-- A default profile, and the boundary states put into one. Definitions only.
use Rattle.std.specs.Prelude.{set, Float}
use Rattle.float.specs.Ops.{#0}
use Rattle.labels.specs.Labels.{start_labels_of}
use Rattle.row.specs.Row.{with_nodes, with_goal, start_of}
use Rattle.profile.specs.declared.Profile.{Profile}
use Rattle.profile.specs.Parts.{profile_of, changed}

-- all numbers +0, label None, direction UP, signs UDDU, no call of `check` yet
abbrev pub default_of : Profile
default_of = profile_of (start_of #0 #0 #0 #0 #0 #0) start_labels_of

-- the start in the first entries, and the goal
unfoldable pub boundary_of : Float → Float → Float → Float → Float → Float → Profile → Profile
boundary_of p0 v0 a0 pf vf af =
    changed
    (λ n. with_goal (record { pf = pf; vf = vf; af = af })
    (with_nodes (record { a = set n.nodes.a 0 a0; v = set n.nodes.v 0 v0; p = set n.nodes.p 0 p0 }) n))
