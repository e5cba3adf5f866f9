-- Quartics worked through by antt: document 01's -3 2 0 0, a cube root that suits and an answer that does not.
-- Assumes nothing.
use Prim.Native.Nat.{ℕ}
use mathlib.Core.Path.{◌≡◌, refl}
use mathlib.Core.List.{[], ◌∷◌}
use lib.Ieee.{neg, of_bits, lt, le, eq, add, sub, mul, div}
use Rattle.float.specs.Ops.{#0, #1, #2, #3, #8}
use Rattle.float.specs.Helpers.{abs_of}
use Rattle.sqrt.specs.Sqrt.{square_root_of, sqrt_of}
use Rattle.roots.specs.declared.Three.{Three}
use Rattle.roots.specs.declared.RootAnswer.{RootAnswer}
use Rattle.roots.specs.declared.RootAnswer.TheVariants.{CubeRoot, Resolved}
use Rattle.positive_set.specs.Set.{sorted_of}
use Rattle.roots.specs.Quartic.{need_of, need_number_of, roots_of}

-- x⁴ - 3 x³ + 2 x² needs nothing, and whatever is handed in, it inserts 0, 1 and 2, in that order
pub needs_nothing : need_number_of (need_of (neg #3) #2 #0 #0) ≡ 0x00
unfolding need_of abs_of lt of_bits
needs_nothing = refl

pub zero_one_two : (answer : RootAnswer) → roots_of (neg #3) #2 #0 #0 answer ≡ #0 ∷ #1 ∷ #2 ∷ []
unfolding roots_of sqrt_of square_root_of abs_of neg of_bits add sub mul div lt le eq
zero_one_two answer = refl

pub zero_one_two_tried : (answer : RootAnswer) → sorted_of (roots_of (neg #3) #2 #0 #0 answer) ≡ #0 ∷ #1 ∷ #2 ∷ []
unfolding sorted_of roots_of sqrt_of square_root_of abs_of neg of_bits add sub mul div lt le eq
zero_one_two_tried answer = refl

-- x⁴ - 8 x needs the cube root of -8, and has the roots 0 and 2; the resolvent's answer does not suit it
pub needs_cube_root : need_number_of (need_of #0 #0 (neg #8) #0) ≡ 0x01
unfolding need_of abs_of lt neg of_bits
needs_cube_root = refl

pub zero_two : roots_of #0 #0 (neg #8) #0 (CubeRoot (neg #2)) ≡ #0 ∷ #2 ∷ []
unfolding roots_of abs_of neg of_bits lt le eq
zero_two = refl

pub unsuited : (count : ℕ) (x : Three) → roots_of #0 #0 (neg #8) #0 (Resolved count x) ≡ []
unfolding roots_of abs_of neg of_bits lt
unsuited count x = refl
