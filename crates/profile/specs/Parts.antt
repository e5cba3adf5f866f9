-- A profile by its numbers and labels: the one place that spells out its fields. Definitions only.
use Rattle.std.specs.Prelude.{List, ℕ, Float}
use Rattle.labels.specs.declared.causes.Cause.{Cause}
use Rattle.labels.specs.declared.causes.Cause.TheVariants.{NoCall}
use Rattle.labels.specs.declared.Labels.{Labels}
use Rattle.labels.specs.Labels.{labels}
use Rattle.row.specs.Row.{Nodes, Goal, Numbers, numbers_in}
use Rattle.profile.specs.declared.Profile.{Profile}
use Rattle.profile.specs.declared.Checked.{Checked}
use Rattle.profile.specs.declared.in_place.Verdict.{Verdict}

abbrev pub profile_of : Numbers → Labels → Profile
profile_of n l =
    record {
      t = n.t;
      t_sum = n.t_sum;
      j = n.j;
      a = n.nodes.a;
      v = n.nodes.v;
      p = n.nodes.p;
      pf = n.goal.pf;
      vf = n.goal.vf;
      af = n.goal.af;
      limits = l.limits;
      direction = l.direction;
      control_signs = l.control_signs;
      calls = l.calls;
      cause = l.cause;
    }

abbrev pub nodes_of : Profile → Nodes
nodes_of q = record { a = q.a; v = q.v; p = q.p }

abbrev pub goal_of : Profile → Goal
goal_of q = record { pf = q.pf; vf = q.vf; af = q.af }

abbrev pub numbers_of : Profile → Numbers
numbers_of q = record { t = q.t; t_sum = q.t_sum; j = q.j; nodes = nodes_of q; goal = goal_of q }

abbrev pub labels_of : Profile → Labels
labels_of q = labels q.limits q.direction q.control_signs q.calls q.cause

-- a profile with its numbers changed
abbrev pub changed : (Numbers → Numbers) → Profile → Profile
changed f q = profile_of (f (numbers_of q)) (labels_of q)

-- the profile whose numbers stand in a row, and a verdict with the row that it leaves
unfoldable pub profile_in : List Float → Labels → Profile
profile_in x l = profile_of (numbers_in x) l

abbrev pub checked_in : List Float → Verdict → Checked
checked_in x r = record { ok = r.ok; profile = profile_in x r.labels }

-- A profile with another count and cause; and a verdict with the Rust's record alone, which has neither: demand 2 is
-- about these.
abbrev pub noted : ℕ → Cause → Profile → Profile
noted n c q = profile_of (numbers_of q) (labels q.limits q.direction q.control_signs n c)

abbrev pub record_of : Profile → Profile
record_of = noted 0 NoCall

abbrev pub rust_of : Checked → Checked
rust_of c = record { ok = c.ok; profile = record_of c.profile }
