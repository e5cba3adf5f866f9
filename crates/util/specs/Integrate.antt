-- Definitions only. `integrate` of util.rs: the state after the time t at the constant jerk j,
-- each operation rounded once, in the Rust's order.
use Rattle.std.specs.Prelude.{Float}
use Rattle.float.specs.Ops.{◌⊕◌, ◌⊗◌, ◌⊘◌, #2, #6}
use Rattle.util.specs.declared.State.{State}

unfoldable pub integrate_of : Float → Float → Float → Float → Float → State
integrate_of t p0 v0 a0 j =
    record {
      p = p0 ⊕ t ⊗ (v0 ⊕ t ⊗ (a0 ⊘ #2 ⊕ t ⊗ j ⊘ #6));
      v = v0 ⊕ t ⊗ (a0 ⊕ t ⊗ j ⊘ #2);
      a = a0 ⊕ t ⊗ j;
    }
