-- The direction of a move, its limits as `check` compares with them, and `check`'s tests at the end. Definitions only.
use Rattle.std.specs.Prelude.{Bool, cond, ◌&&◌, List, [], ◌∷◌, get_or, Float}
use Rattle.std.specs.Float.{nan}
use Rattle.std.specs.Float.Ieee.{lt, le}
use Rattle.float.specs.Ops.{◌⊕◌, ◌⊖◌, #0, #1e-8, #1e-10, #1e-12}
use Rattle.float.specs.Helpers.{abs_of}
use Rattle.labels.specs.declared.Direction.{Direction}
use Rattle.labels.specs.declared.Direction.TheVariants.{UP, DOWN}
use Rattle.labels.specs.declared.causes.Cause.TheVariants.{EndPosition, EndVelocity, EndAcceleration}
use Rattle.labels.specs.declared.causes.Cause.TheVariants.{AccelerationLimit, VelocityLimit}
use Rattle.labels.specs.Causes.{Test, test}
use Rattle.row.specs.Row.{Nodes, Goal}
use Rattle.limits.specs.declared.Band.{Band}

-- UP where v_max is above 0
abbrev pub direction_of : Float → Direction
direction_of v_max = cond (lt #0 v_max) UP DOWN

-- The upper limit is max where the direction is UP, else min; the lower is the other. Each is widened by V_EPS or
-- A_EPS, both 1e-12.
unfoldable pub band_of : Float → Float → Float → Band
band_of v_max max min =
    record {
      low = cond (lt #0 v_max) min max ⊖ #1e-12;
      upp = cond (lt #0 v_max) max min ⊕ #1e-12;
    }

abbrev pub within_of : Float → Band → Bool
within_of x b = le b.low x && le x b.upp

-- a[1], a[3] and a[5] keep their limits; so do v[3] to v[6]
unfoldable pub accelerations_kept_of : Nodes → Band → Bool
accelerations_kept_of n b =
    within_of (get_or n.a 1 nan) b && within_of (get_or n.a 3 nan) b && within_of (get_or n.a 5 nan) b

unfoldable pub velocities_kept_of : Nodes → Band → Bool
velocities_kept_of n b =
    within_of (get_or n.v 3 nan) b
    && within_of (get_or n.v 4 nan) b
    && within_of (get_or n.v 5 nan) b
    && within_of (get_or n.v 6 nan) b

-- the tests at the end, of whether each passed
abbrev pub five_tests : Bool → Bool → Bool → Bool → Bool → List Test
five_tests p v a a-kept v-kept =
    test EndPosition p
    ∷ test EndVelocity v
    ∷ test EndAcceleration a
    ∷ test AccelerationLimit a-kept
    ∷ test VelocityLimit v-kept
    ∷ []

-- the end is the goal within P_PRECISION, V_PRECISION and A_PRECISION; and the limits are kept
unfoldable pub end_tests : Nodes → Goal → Band → Band → List Test
end_tests n g a_band v_band =
    five_tests (lt (abs_of (get_or n.p 7 nan ⊖ g.pf)) #1e-8) (lt (abs_of (get_or n.v 7 nan ⊖ g.vf)) #1e-8)
    (lt (abs_of (get_or n.a 7 nan ⊖ g.af)) #1e-10)
    (accelerations_kept_of n a_band)
    (velocities_kept_of n v_band)
