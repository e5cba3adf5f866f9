-- `PositiveSet` of roots.rs with four places: what a set holds, how a number joins it,
-- and the order in which its numbers are tried.
-- Definitions only. In definitions a set is the list of the numbers that it holds, in the order in which they joined.
use Rattle.std.specs.Prelude.{Bool, false, not, cond, ◌&&◌, ◌||◌, List, [], ◌∷◌, ◌++◌, length, take, ltb, Float}
use Rattle.std.specs.Float.Ieee.{lt, le, eq}
use Rattle.float.specs.Ops.{#0}
use Rattle.positive_set.specs.declared.PositiveSet.{PositiveSet}

-- What a set holds: its places below its length.
abbrev pub held_of : PositiveSet → List Float
held_of s = take s.len s.«data»

-- The set that holds the numbers of a list, four at most: one place each, and +0 in the places that are free.
abbrev pub set_of : List Float → PositiveSet
set_of l = record { «data» = take 4 (l ++ (#0 ∷ #0 ∷ #0 ∷ #0 ∷ [])); len = length l }

-- Whether v equals one of the numbers, as IEEE 754 compares: 0 and -0 are equal.
unfoldable pub holds : List Float → Float → Bool
holds [] v = false
holds (x ∷ l) v = eq x v || holds l v

-- v joins where it is 0, -0 or above (so it is no NaN), equals none of the numbers held, and finds a place free.
unfoldable pub insert_of : List Float → Float → List Float
unfolding holds
insert_of l v = cond (le #0 v && (not (holds l v) && ltb (length l) 4)) (l ++ (v ∷ [])) l

-- The numbers of a list, offered to a set one after the other.
unfoldable pub insert_all_of : List Float → List Float → List Float
unfolding insert_of
insert_all_of l [] = l
insert_all_of l (v ∷ vs) = insert_all_of (insert_of l v) vs

-- x before the first number that is not below it.
unfoldable pub into_of : Float → List Float → List Float
into_of x [] = x ∷ []
into_of x (y ∷ l) = cond (lt y x) (y ∷ into_of x l) (x ∷ y ∷ l)

-- The numbers from the smallest to the largest; equal ones stay in order.
unfoldable pub sorted_of : List Float → List Float
unfolding into_of
sorted_of [] = []
sorted_of (x ∷ l) = into_of x (sorted_of l)
