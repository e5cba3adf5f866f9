-- `solve_quart_monic_coeffs` of roots.rs, for x⁴ + a x³ + b x² + c x + d:
-- what has to be handed in, and the roots, each operation rounded once, in the Rust's order.
-- Definitions only.
use Rattle.std.specs.Prelude.{ℕ, Bool, cond, ◌&&◌, List, [], ◌∷◌, ◌++◌, eqb, get_or, Float}
use Rattle.std.specs.Float.{nan}
use Rattle.std.specs.Float.Ieee.{lt, neg}
use Rattle.float.specs.Ops.{◌⊕◌, ◌⊖◌, ◌⊗◌, ◌⊘◌, #0, #2, #4, #ε, #16ε}
use Rattle.float.specs.Helpers.{abs_of}
use Rattle.sqrt.specs.Sqrt.{sqrt_of}
use Rattle.roots.specs.declared.Three.{Three}
use Rattle.roots.specs.declared.Factors.{Factors}
use Rattle.roots.specs.declared.Need.{Need}
use Rattle.roots.specs.declared.Need.TheVariants.{Nothing, Cube, Resolvent}
use Rattle.roots.specs.declared.RootAnswer.{RootAnswer}
use Rattle.roots.specs.declared.RootAnswer.TheVariants.{CubeRoot, Resolved}
use Rattle.positive_set.specs.Set.{insert_all_of}

-- below EPS in size
abbrev pub small_of : Float → Bool
small_of x = lt (abs_of x) #ε

-- Nothing where d and c are small; the cube root of c where d is small, c is not, and a and b both are;
-- otherwise the resolvent's roots.
unfoldable pub need_of : Float → Float → Float → Float → Need
need_of a b c d =
    cond (small_of d) (cond (small_of c) Nothing (cond (small_of a && small_of b) Cube Resolvent)) Resolvent

-- The byte that stands for a need.
abbrev pub need_number_of : Need → ℕ
need_number_of Nothing = 0x00
need_number_of Cube = 0x01
need_number_of Resolvent = 0x02

-- a3, b3 and c3, with which the Rust calls `solve_resolvent`.
abbrev pub resolvent_of : Float → Float → Float → Float → Three
resolvent_of a b c d = record { x0 = neg b; x1 = a ⊗ c ⊖ #4 ⊗ d; x2 = neg (a ⊗ a) ⊗ d ⊖ c ⊗ c ⊕ #4 ⊗ b ⊗ d }

-- x where it is above y in size, else y.
abbrev pub larger_of : Float → Float → Float
larger_of y x = cond (lt (abs_of y) (abs_of x)) x y

-- The resolvent's root that is used: the only one of one, else the largest in size, the first of equal ones.
abbrev pub chosen_of : ℕ → Three → Float
chosen_of count x = cond (eqb count 1) x.x0 (larger_of (larger_of x.x0 x.x1) x.x2)

-- The two factors x² + p x + q by a root y of the resolvent: q1 and q2 are the roots of q² - y q + d. Where they agree,
-- p1 and p2 are the roots of p² - a p + b - y, else p1 and p2 follow from a = p1 + p2 and c = p1 q2 + p2 q1.
unfoldable pub factors_of : Float → Float → Float → Float → Float → Factors
factors_of a b c d y =
    cond (small_of (y ⊗ y ⊖ #4 ⊗ d)) (equal (a ⊗ a ⊖ #4 ⊗ (b ⊖ y)))
    (apart ((y ⊕ sqrt_of (y ⊗ y ⊖ #4 ⊗ d)) ⊘ #2) ((y ⊖ sqrt_of (y ⊗ y ⊖ #4 ⊗ d)) ⊘ #2))
  where
    equal : Float → Factors
    equal e =
        cond (small_of e) (record { p1 = a ⊘ #2; q1 = y ⊘ #2; p2 = a ⊘ #2; q2 = y ⊘ #2 })
        (record { p1 = (a ⊕ sqrt_of e) ⊘ #2; q1 = y ⊘ #2; p2 = (a ⊖ sqrt_of e) ⊘ #2; q2 = y ⊘ #2 })

    apart : Float → Float → Factors
    apart q1 q2 = record { p1 = (a ⊗ q1 ⊖ c) ⊘ (q1 ⊖ q2); q1 = q1; p2 = (c ⊖ a ⊗ q2) ⊘ (q1 ⊖ q2); q2 = q2 }

-- What x² + p x + q offers: its only root where the discriminant is below eps in size,
-- the smaller and the larger where it is above 0, else none.
unfoldable pub quadratic_of : Float → Float → Float → List Float
quadratic_of eps p q = by (p ⊗ p ⊖ #4 ⊗ q)
  where
    by : Float → List Float
    by e =
        cond (lt (abs_of e) eps) ((neg p ⊘ #2) ∷ [])
        (cond (lt #0 e) (((neg p ⊖ sqrt_of e) ⊘ #2) ∷ ((neg p ⊕ sqrt_of e) ⊘ #2) ∷ []) [])

-- What the quartic offers where c and d count as 0: x² (x² + a x + b).
unfoldable pub without_cd_of : Float → Float → List Float
unfolding quadratic_of
without_cd_of a b = #0 ∷ quadratic_of #ε a b

-- Where only c is left, x (x³ + c): its root is the opposite of the cube root of c.
unfoldable pub with_cbrt_of : Float → List Float
with_cbrt_of cbrt = #0 ∷ neg cbrt ∷ []

-- By the resolvent's count and roots: what the first factor offers, then the second.
unfoldable pub resolved_of : Float → Float → Float → Float → ℕ → Three → List Float
unfolding factors_of quadratic_of
resolved_of a b c d count x = by (factors_of a b c d (chosen_of count x))
  where
    by : Factors → List Float
    by f = quadratic_of #16ε f.p1 f.q1 ++ quadratic_of #16ε f.p2 f.q2

-- What is offered for a need, by the answer that was handed in. An answer that does not suit the need offers nothing.
unfoldable pub offered_of : Float → Float → Float → Float → Need → RootAnswer → List Float
unfolding without_cd_of with_cbrt_of resolved_of
offered_of a b c d Nothing answer = without_cd_of a b
offered_of a b c d Cube (CubeRoot cbrt) = with_cbrt_of cbrt
offered_of a b c d Cube (Resolved count x) = []
offered_of a b c d Resolvent (CubeRoot cbrt) = []
offered_of a b c d Resolvent (Resolved count x) = resolved_of a b c d count x

-- The roots that the quartic's set holds, in the order in which they joined.
unfoldable pub roots_of : Float → Float → Float → Float → RootAnswer → List Float
unfolding need_of offered_of insert_all_of
roots_of a b c d answer = insert_all_of [] (offered_of a b c d (need_of a b c d) answer)

-- The same of the array of a, b, c and d.
abbrev pub polynom_roots_of : List Float → RootAnswer → List Float
polynom_roots_of p answer = roots_of (get_or p 0 nan) (get_or p 1 nan) (get_or p 2 nan) (get_or p 3 nan) answer
