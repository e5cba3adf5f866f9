-- The bounds that the theorem asks of a move, from tests that compute. Assumes nothing.
use mathlib.Core.Bool.{false}
use Prim.Native.Nat.{ℕ, ◌+◌, ◌*◌}
use lib.Dec.{T, leb, lit≤}
use Rattle.profile.specs.declared.Profile.{Profile}
use Rattle.rounding.specs.Exact.{D, signed, Size, Below}
use Rattle.rounding.specs.Value.{unit, val}
use Rattle.rounding.specs.Motion.{lasts}
use Rattle.profile_arrives.specs.Reply.{node, time, jerk, Within}
use Rattle.profile_arrives.proofs.Steps.{by_seven}

pub sized : {a : D} {e : ℕ} → T (leb a.p (a.n + e)) → T (leb a.n (a.p + e)) → Size a e
sized o u = record { over = lit≤ o; under = lit≤ u }

abbrev Start : D → Type 0
Start a = Size a (8 * unit)

abbrev Jerk : Profile → ℕ → Type 0
Jerk q i = Size (val (jerk q i)) (64 * unit)

pub within : {q : Profile} → Start (val (node q 0).p) → Start (val (node q 0).v) → Start (val (node q 0).a)
    → Below (lasts (time q) 7) (signed false (8 * unit))
    → Jerk q 0 → Jerk q 1 → Jerk q 2 → Jerk q 3 → Jerk q 4 → Jerk q 5 → Jerk q 6 → Within q
within {q} x v a t j0 j1 j2 j3 j4 j5 j6 =
    record { start_p = x; start_v = v; start_a = a; total = t; jerks = by_seven (Jerk q) j0 j1 j2 j3 j4 j5 j6 }
