-- Every line's profile starts its move, so the theorem holds of every line that asks a shape.
-- Assumes nothing.
use mathlib.Core.Path.{◌≡◌, refl}
use mathlib.Core.Bool.{true}
use Prim.Native.Nat.{ℕ}
use lib.Dec.{T}
use lib.Ieee.{binary64, fits}
use lib.Ieee.Bits.{of_bits-fits}
use Rattle.profile.specs.Boundary.{boundary_of}
use Rattle.profile_arrives.specs.Reply.{time, Within}
use Rattle.profile_arrives.proofs.Steps.{by_seven}
use Rattle.roots.specs.declared.RootAnswer.{RootAnswer}
use Rattle.roots.specs.Fits.{AnswerFits}
use Rattle.step2_solver.specs.declared.Move.{Move}
use Rattle.step2_solver.specs.declared.Shape.{Shape}
use Rattle.position_third_step2.specs.Shape.{fresh}
use Rattle.step2_arrives.specs.Moves.{MoveNumbers, asked, Starts, ArrivesDemanded}
use Rattle.step2_arrives.proofs.Shapes.{shape-arrives}

pub fresh-starts : {m : Move} → MoveNumbers m → Starts m (fresh m)
unfolding boundary_of
fresh-starts {m} n =
    let none = of_bits-fits binary64 0 in
    record {
      start = refl;
      pf_is = refl;
      vf_is = refl;
      af_is = refl;
      held =
          record {
            eight_a = refl;
            eight_v = refl;
            eight_p = refl;
            held_t =
                by_seven (λ (i : ℕ). T (fits binary64 (time (fresh m) i))) none none none none none none none;
            held_a = n.of_a0.held;
            held_v = n.of_v0.held;
            held_p = n.of_p0.held;
            held_pf = n.of_pf.held;
            held_vf = n.of_vf.held;
            held_af = n.of_af.held;
          };
    }

-- demand 3, of what a shape leaves in the profile of a line
pub line-arrives : (shape : Shape) (first second : RootAnswer) → AnswerFits first → AnswerFits second → {m : Move}
    → MoveNumbers m → (asked shape first second m (fresh m)).ok ≡ true
    → Within (asked shape first second m (fresh m)).profile
    → ArrivesDemanded m (asked shape first second m (fresh m)).profile
line-arrives shape first second f g {m} n = shape-arrives shape first second f g n (fresh m) (fresh-starts n)
