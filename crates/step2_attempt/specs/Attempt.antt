-- A trial made on a profile: seven times put into it and checked; and what comes of trials made one after the other.
-- Definitions only.
use Rattle.std.specs.Prelude.{false, cond, List, [], ◌∷◌, ℕ, ◌+◌, Float}
use Rattle.profile.specs.declared.Profile.{Profile}
use Rattle.profile.specs.declared.Checked.{Checked}
use Rattle.row.specs.Row.{with_times}
use Rattle.profile.specs.Parts.{changed}
use Rattle.profile.specs.Timing.{timing_of}
use Rattle.step2_solver.specs.declared.Limits.{Limits}
use Rattle.step2_solver.specs.declared.Times.{Times}
use Rattle.step2_solver.specs.declared.Trial.{Trial}

abbrev pub seven_of : Times → List Float
seven_of x = x.t0 ∷ x.t1 ∷ x.t2 ∷ x.t3 ∷ x.t4 ∷ x.t5 ∷ x.t6 ∷ []

-- `check_with_timing` after profile.t is set
unfoldable pub attempt_of : Limits → Trial → Profile → Checked
attempt_of l k q =
    timing_of k.signs k.label k.jf l.v_max l.v_min l.a_max l.a_min k.marked
    (changed (with_times (seven_of k.times)) q)

-- no attempt
abbrev pub nothing : Profile → Checked
nothing q = record { ok = false; profile = q }

-- a yes ends it; after a no the next attempt is made on the record that the no left
abbrev pub or_else : Checked → (Profile → Checked) → Checked
or_else c next = cond c.ok c (next c.profile)

-- one trial, where it is made
unfoldable pub try_of : Limits → Trial → Profile → Checked
try_of l k q = cond k.made (attempt_of l k q) (nothing q)

-- trials in turn
unfoldable pub tried_of : Limits → List Trial → Profile → Checked
tried_of l [] q = nothing q
tried_of l (k ∷ ks) q = or_else (try_of l k q) (tried_of l ks)

-- how many of them call `check`: those that are made, up to the first with a yes
abbrev pub calls_of : Limits → List Trial → Profile → ℕ
calls_of l [] q = 0
calls_of l (k ∷ ks) q =
    let c = try_of l k q in
    cond k.made 1 0 + cond c.ok 0 (calls_of l ks c.profile)
