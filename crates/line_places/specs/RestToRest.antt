-- That a line of kind 08 is answered as the same line of kind 04, unless both ends are at rest. Definitions only.
use Rattle.std.specs.Prelude.{◌≡◌, Bool, false, ◌&&◌, List, ◌∷◌, ℕ}
use Rattle.std.specs.Float.Ieee.{lt}
use Rattle.float.specs.Ops.{#ε}
use Rattle.float.specs.Helpers.{abs_of}
use Rattle.hex_bytes.specs.Hex.{bytes_of}
use Rattle.line_frame.specs.Frame.{byte_at}
use Rattle.line_frame.specs.Numbers.{move_of}
use Rattle.lines.specs.Answer.{answer_of}

-- the lines of kinds 08 and 04 with the same characters after the kind's: 48, 52 and 56 are the digits 0, 4 and 8
abbrev pub of08 : List ℕ → List ℕ
of08 body = 48 ∷ 56 ∷ body

abbrev pub of04 : List ℕ → List ℕ
of04 body = 48 ∷ 52 ∷ body

-- both end accelerations of the line's move are below EPS in size
abbrev pub at_rest_of : List ℕ → Bool
at_rest_of line = let m = move_of (byte_at (bytes_of line)) in lt (abs_of m.a0) #ε && lt (abs_of m.af) #ε

-- For any lent places the number is kind 04's, and elsewhere so is the whole answer.
pub record As04 (body : List ℕ) : Type 0 where
  pub number : (lent : List ℕ) → (answer_of (of08 body) lent).number ≡ (answer_of (of04 body) lent).number
  pub elsewhere : at_rest_of (of08 body) ≡ false
      → (lent : List ℕ) → answer_of (of08 body) lent ≡ answer_of (of04 body) lent
