-- What the line entry leaves in the lent places: the reply of an accepted line, as long as its kind says; else what was
-- there. Assumes nothing.
use mathlib.Core.Path.{◌≡◌}
use mathlib.Core.List.{List}
use Prim.Native.Nat.{ℕ}
use lib.ListN.{length}
use borrow.Author.Tests.{ne_eqb}
use Rattle.hex_bytes.specs.Hex.{fill}
use Rattle.line_answers.specs.FrameAnswer.{replied_of}
use Rattle.lines.specs.Answer.{answer_of}
use Rattle.line_places.specs.Exactly.{places_for, reply_to_of}
use Rattle.line_places.proofs.Places.{after_a_reply}

module _ (line lent : List ℕ) where
  pub as_came : ((answer_of line lent).number ≡ 0 → ⊥) → (answer_of line lent).places ≡ lent
  unfolding answer_of replied_of
  as_came z = rw (ne_eqb (answer_of line lent).number 0 z)

  module _ (said : (answer_of line lent).number ≡ 0) where
    pub reply-first : (answer_of line lent).places ≡ fill (reply_to_of line) lent
    unfolding answer_of replied_of
    reply-first = rw said

    pub reply-exact : length (reply_to_of line) ≡ places_for line
    reply-exact = (after_a_reply line lent said).exactly
