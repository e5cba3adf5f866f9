-- Insertions worked through by antt: -0 and NaN. Assumes nothing.
use mathlib.Core.Path.{◌≡◌, refl}
use mathlib.Core.List.{[], ◌∷◌}
use lib.Ieee.{nan, neg, of_bits, le, eq}
use Rattle.float.specs.Ops.{#0}
use Rattle.positive_set.specs.Set.{insert_of}

-- -0 joins an empty set, and no set that holds 0; NaN joins none
pub minus-zero_joins : insert_of [] (neg #0) ≡ neg #0 ∷ []
unfolding insert_of neg of_bits le
minus-zero_joins = refl

pub minus-zero-held : insert_of (#0 ∷ []) (neg #0) ≡ #0 ∷ []
unfolding insert_of neg of_bits le eq
minus-zero-held = refl

pub nan_stays_out : insert_of [] nan ≡ []
unfolding insert_of of_bits le
nan_stays_out = refl
