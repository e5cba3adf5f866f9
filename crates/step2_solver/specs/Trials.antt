-- An attempt as data: seven times and what `check` is told of them, or no attempt. Definitions only.
use Rattle.std.specs.Prelude.{Bool, true, false, Float}
use Rattle.float.specs.Ops.{#0}
use Rattle.labels.specs.declared.ReachedLimits.{ReachedLimits}
use Rattle.labels.specs.declared.ReachedLimits.TheVariants.{None}
use Rattle.labels.specs.declared.ControlSigns.{ControlSigns}
use Rattle.labels.specs.declared.ControlSigns.TheVariants.{UDDU}
use Rattle.step2_solver.specs.declared.Times.{Times}
use Rattle.step2_solver.specs.declared.Trial.{Trial}

abbrev pub the_times : (t0 t1 t2 t3 t4 t5 t6 : Float) → Times
the_times t0 t1 t2 t3 t4 t5 t6 = record { t0 = t0; t1 = t1; t2 = t2; t3 = t3; t4 = t4; t5 = t5; t6 = t6 }

-- an attempt that is made; marked, where it takes a square root that does not exist
abbrev pub the_trial : (marked : Bool) → Times → ControlSigns → ReachedLimits → Float → Trial
the_trial marked times signs label jf =
    record { made = true; marked = marked; times = times; signs = signs; label = label; jf = jf }

abbrev no_times : Times
no_times = the_times #0 #0 #0 #0 #0 #0 #0

-- no attempt is made, and nothing of it is looked at
abbrev pub no_trial_of : Trial
no_trial_of = record { made = false; marked = false; times = no_times; signs = UDDU; label = None; jf = #0 }
