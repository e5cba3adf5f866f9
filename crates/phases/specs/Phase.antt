-- One turn of `check`'s loop over the phases. Definitions only.
use Rattle.std.specs.Prelude.{Bool, true, cond, not, ◌&&◌, ◌||◌, List, ℕ, ◌+◌, eqb, ltb, get_or, set, Float}
use Rattle.std.specs.Float.{nan}
use Rattle.std.specs.Float.Ieee.{lt, neg}
use Rattle.float.specs.Ops.{◌⊖◌, ◌⊗◌, ◌⊘◌, #0, #2, #ε}
use Rattle.row.specs.Row.{Nodes}
use Rattle.util.specs.Integrate.{integrate_of}
use Rattle.labels.specs.declared.tests.Tests.{Tests}
use Rattle.limits.specs.declared.Band.{Band}
use Rattle.phases.specs.declared.phase.Next.{Next}
use Rattle.phases.specs.Run.{Step}

-- What the label puts in the place of the acceleration x after phase i: 0 for a[3]; then, where set_limits is on,
-- a_min for a[3], or a_max for a[1] and a_min for a[5].
unfoldable pub replaced_of : Tests → Bool → Float → Float → ℕ → Float → Float
replaced_of m set_limits a_max a_min i x =
    let x₁ = cond (m.a3 && eqb i 2) #0 x in
    let x₂ = cond (set_limits && m.set_a3 && eqb i 2) a_min x₁ in
    let x₃ = cond (set_limits && m.set_a1_a5 && eqb i 0) a_max x₂ in
    cond (set_limits && m.set_a1_a5 && eqb i 4) a_min x₃

-- Whether the velocity where the acceleration passes through 0 lies in the band: asked from phase 2 on,
-- where the product of the accelerations at the phase's ends is below -EPS.
unfoldable pub zero_inside_of : ℕ → Float → Float → Float → Float → Band → Bool
zero_inside_of i v0 a0 a1 j b =
    let v-a-zero = v0 ⊖ a0 ⊗ a0 ⊘ (#2 ⊗ j) in
    cond (ltb 1 i && lt (a1 ⊗ a0) (neg #ε)) (not (lt b.upp v-a-zero || lt v-a-zero b.low)) true

-- The node after phase i of the time t and the jerk j, from the position, velocity and acceleration at its start.
abbrev pub next_of :
    Tests → Bool → Float → Float → Band → ℕ → Float → Float → Float → Float → Float → Next
next_of m set_limits a_max a_min b i t j p0 v0 a0 =
    let next = integrate_of t p0 v0 a0 j in
    let a1 = replaced_of m set_limits a_max a_min i next.a in
    record { ok = zero_inside_of i v0 a0 a1 j b; p = next.p; v = next.v; a = a1 }

-- The same from entry i, recorded as entry i + 1.
unfoldable pub node_of : Tests → Bool → Float → Float → Band → ℕ → Float → Float → Nodes → Step Nodes
node_of m set_limits a_max a_min b i t j q =
    let next =
    next_of m set_limits a_max a_min b i t j (get_or q.p i nan) (get_or q.v i nan) (get_or q.a i nan) in
    record {
      ok = next.ok;
      left =
          record {
            a = set q.a (i + 1) next.a;
            v = set q.v (i + 1) next.v;
            p = set q.p (i + 1) next.p;
          };
    }

-- the same by the seven times and jerks
unfoldable pub phase_of : Tests → Bool → Float → Float → Band → List Float → List Float → ℕ → Nodes → Step Nodes
phase_of m set_limits a_max a_min b t j i q = node_of m set_limits a_max a_min b i (get_or t i nan) (get_or j i nan) q
