-- What holds of every quartic's roots, as found and in the order of trial: at most four, none below 0 or NaN, each an
-- f64. That the order of trial ascends is in positive_set. Assumes nothing.
use Prim.Native.Nat.{ℕ, ◌≤◌, zero-le}
use mathlib.Core.Bool.{Bool, true, false, cond}
use mathlib.Core.List.{List, [], ◌∷◌, ◌++◌}
use native.Mathlib.Omega.{arith}
use lib.Dec.{T}
use lib.ListN.{length, length-append}
use lib.Ieee.{Float, binary64, lt, le, neg}
use lib.Ieee.Fits.{neg-fits, div-fits}
use lib.Ieee.Bits.{of_bits-fits}
use Rattle.float.specs.Ops.{◌⊕◌, ◌⊖◌, ◌⊗◌, ◌⊘◌, #0, #2, #4, #ε, #16ε}
use Rattle.float.specs.Helpers.{abs_of}
use Rattle.sqrt.specs.Sqrt.{sqrt_of}
use Rattle.roots.specs.declared.Three.{Three}
use Rattle.roots.specs.declared.Need.{Need}
use Rattle.roots.specs.declared.Need.TheVariants.{Nothing, Cube, Resolvent}
use Rattle.roots.specs.declared.RootAnswer.{RootAnswer}
use Rattle.roots.specs.declared.RootAnswer.TheVariants.{CubeRoot, Resolved}
use Rattle.positive_set.specs.Set.{sorted_of}
use Rattle.roots.specs.Quartic.{need_of, chosen_of, factors_of, quadratic_of, without_cd_of, with_cbrt_of, resolved_of}
use Rattle.roots.specs.Quartic.{offered_of, roots_of}
use Rattle.roots.specs.Fits.{Fits64, AnswerFits}
use Rattle.positive_set.proofs.Sets.{insert_all_length, sorted_length}
use Rattle.positive_set.proofs.Laws.{Every, every_of_all, every_append, every_insert_all, every_sorted, NotBelow0}

-- ---- a quadratic factor offers at most two numbers
quadratic_cases : (P : List Float → Type 0) (eps p q : Float) → ((x : Float) → P ((x ⊘ #2) ∷ []))
    → ((x y : Float) → P ((x ⊘ #2) ∷ (y ⊘ #2) ∷ [])) → P [] → P (quadratic_of eps p q)
unfolding quadratic_of
quadratic_cases P eps p q one two none = go (p ⊗ p ⊖ #4 ⊗ q)
  where
    choose : (b c : Bool) (x y z : Float) → P (cond b ((x ⊘ #2) ∷ []) (cond c ((y ⊘ #2) ∷ (z ⊘ #2) ∷ []) []))
    choose true c x y z = one x
    choose false true x y z = two y z
    choose false false x y z = none

    go : (e : Float)
        → P (cond (lt (abs_of e) eps) ((neg p ⊘ #2) ∷ [])
        (cond (lt #0 e) (((neg p ⊖ sqrt_of e) ⊘ #2) ∷ ((neg p ⊕ sqrt_of e) ⊘ #2) ∷ []) []))
    go e = choose (lt (abs_of e) eps) (lt #0 e) (neg p) (neg p ⊖ sqrt_of e) (neg p ⊕ sqrt_of e)

quadratic_length : (eps p q : Float) → length (quadratic_of eps p q) ≤ 2
quadratic_length eps p q =
    quadratic_cases (λ l. length l ≤ 2) eps p q (λ x. omega arith) (λ x y. omega arith) (omega arith)

quadratic_fits : (eps p q : Float) → Every Fits64 (quadratic_of eps p q)
quadratic_fits eps p q =
    quadratic_cases (Every Fits64) eps p q (λ x. (div-fits binary64 x #2, tt))
    (λ x y. (div-fits binary64 x #2, (div-fits binary64 y #2, tt))) tt

-- ---- what the quartic offers: at most four numbers, so no number finds the set full
resolved_length : (a b c d : Float) (count : ℕ) (x : Three) → length (resolved_of a b c d count x) ≤ 4
unfolding resolved_of
resolved_length a b c d count x =
    let f = factors_of a b c d (chosen_of count x) in
    sum (quadratic_of #16ε f.p1 f.q1) (quadratic_of #16ε f.p2 f.q2) (quadratic_length #16ε f.p1 f.q1)
    (quadratic_length #16ε f.p2 f.q2)
  where
    sum : (l m : List Float) → length l ≤ 2 → length m ≤ 2 → length (l ++ m) ≤ 4
    sum l m h k = simp length-append (omega arith)

pub offered_length : (a b c d : Float) (n : Need) (answer : RootAnswer) → length (offered_of a b c d n answer) ≤ 4
unfolding offered_of without_cd_of with_cbrt_of
offered_length a b c d Nothing answer = omega (arith, quadratic_length #ε a b)
offered_length a b c d Cube (CubeRoot r) = omega arith
offered_length a b c d Cube (Resolved n x) = omega arith
offered_length a b c d Resolvent (CubeRoot r) = omega arith
offered_length a b c d Resolvent (Resolved n x) = resolved_length a b c d n x

resolved_fits : (a b c d : Float) (count : ℕ) (x : Three) → Every Fits64 (resolved_of a b c d count x)
unfolding resolved_of
resolved_fits a b c d count x =
    let f = factors_of a b c d (chosen_of count x) in
    every_append Fits64 (quadratic_of #16ε f.p1 f.q1) (quadratic_of #16ε f.p2 f.q2)
    (quadratic_fits #16ε f.p1 f.q1) (quadratic_fits #16ε f.p2 f.q2)

offered_fits : (a b c d : Float) (n : Need) (answer : RootAnswer) → AnswerFits answer
    → Every Fits64 (offered_of a b c d n answer)
unfolding offered_of without_cd_of with_cbrt_of
offered_fits a b c d Nothing answer h = (of_bits-fits binary64 0, quadratic_fits #ε a b)
offered_fits a b c d Cube (CubeRoot r) h = (of_bits-fits binary64 0, (neg-fits binary64 r h, tt))
offered_fits a b c d Cube (Resolved n x) h = tt
offered_fits a b c d Resolvent (CubeRoot r) h = tt
offered_fits a b c d Resolvent (Resolved n x) h = resolved_fits a b c d n x

-- ---- the roots
pub roots-length : (a b c d : Float) (answer : RootAnswer) → length (roots_of a b c d answer) ≤ 4
unfolding roots_of
roots-length a b c d answer = insert_all_length (offered_of a b c d (need_of a b c d) answer) [] zero-le

pub roots_not_below : (a b c d : Float) (answer : RootAnswer) → Every NotBelow0 (roots_of a b c d answer)
unfolding roots_of
roots_not_below a b c d answer =
    let vs = offered_of a b c d (need_of a b c d) answer in
    every_insert_all NotBelow0 vs [] (every_of_all (λ v. T (le #0 v) → T (le #0 v)) (λ v t. t) vs) tt

pub roots_fit : (a b c d : Float) (answer : RootAnswer) → AnswerFits answer → Every Fits64 (roots_of a b c d answer)
unfolding roots_of
roots_fit a b c d answer h =
    let vs = offered_of a b c d (need_of a b c d) answer in
    every_insert_all Fits64 vs [] (weaker vs (offered_fits a b c d (need_of a b c d) answer h)) tt
  where
    weaker : (l : List Float) → Every Fits64 l → Every (λ v. T (le #0 v) → Fits64 v) l
    weaker [] e = tt
    weaker (x ∷ l) e = (λ t. e.0, weaker l e.1)

-- ---- the roots in the order of trial
pub tried_length : (a b c d : Float) (answer : RootAnswer) → length (sorted_of (roots_of a b c d answer)) ≤ 4
tried_length a b c d answer = rw (sorted_length (roots_of a b c d answer)) (roots-length a b c d answer)

pub tried_not_below : (a b c d : Float) (answer : RootAnswer) → Every NotBelow0 (sorted_of (roots_of a b c d answer))
tried_not_below a b c d answer = every_sorted NotBelow0 (roots_of a b c d answer) (roots_not_below a b c d answer)

pub tried_fit : (a b c d : Float) (answer : RootAnswer) → AnswerFits answer
    → Every Fits64 (sorted_of (roots_of a b c d answer))
tried_fit a b c d answer h = every_sorted Fits64 (roots_of a b c d answer) (roots_fit a b c d answer h)
