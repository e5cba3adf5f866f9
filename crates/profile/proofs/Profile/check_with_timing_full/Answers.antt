-- `check_with_timing_full` is `timing_full_of` where the jerk keeps it from `check`. Assumes nothing.
use Rattle.std.proofs.lemmas.Grind.{common_steps}
use native.Mathlib.Omega.{arith}
use Rattle.profile.specs.Parts.{profile_in}
use Rattle.profile.specs.Timing.{timing_full_of}
use Rattle.profile.proofs.Profile.check_with_timing_full.Goals as goal

pub returns-else-abs : goal.returns-else-abs
unfolding timing_full_of profile_in
returns-else-abs c = grind (arith, common_steps)
