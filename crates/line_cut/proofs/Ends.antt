-- The lines at the ends of an input: none in an empty one, none after a last line feed. Assumes nothing.
use mathlib.Core.Path.{◌≡◌, refl}
use mathlib.Core.List.{[], ◌∷◌}
use Rattle.line_cut.specs.Cut.{lines_from}

nothing : lines_from [] [] ≡ []
nothing = refl

feed : lines_from [] (10 ∷ []) ≡ [] ∷ []
feed = refl

-- x is 120
character : lines_from [] (120 ∷ []) ≡ (120 ∷ []) ∷ []
character = refl

character_feed : lines_from [] (120 ∷ 10 ∷ []) ≡ (120 ∷ []) ∷ []
character_feed = refl

feeds : lines_from [] (120 ∷ 10 ∷ 10 ∷ 120 ∷ []) ≡ (120 ∷ []) ∷ [] ∷ (120 ∷ []) ∷ []
feeds = refl
