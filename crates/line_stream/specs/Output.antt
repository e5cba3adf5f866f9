-- What the line program writes for an input: document 01's answers to its lines. Definitions only.
use Rattle.std.specs.Prelude.{cond, List, [], ◌∷◌, ◌++◌, ℕ, ◌+◌, ◌/◌, ◌%◌, eqb, take, replicate}
use Rattle.line_kinds.specs.Kinds.{line_most, reply_most}
use Rattle.lines.specs.Answer.{Outcome, outcome_of}
use Rattle.line_cut.specs.Stream.{Answering, Progress, whole_of, last_of, block_of, blocks_of, stream_of}

-- the most places of what is written for a line: a reply and a line feed
abbrev pub answer_most : ℕ
answer_most = reply_most + 1

-- two decimal digits
abbrev pub pair_of_digits : ℕ → List ℕ
pair_of_digits n = (48 + n / 10 % 10) ∷ (48 + n % 10) ∷ []

-- the reply, or the refusal in two decimal digits
abbrev pub text_of : Outcome → List ℕ
text_of a = cond (eqb a.number 0) (take a.filled a.places) (pair_of_digits a.number)

-- what is written for a line: its answer, where `reply_most` places that hold 0 are lent, ended by a line feed
unfoldable pub line_output : List ℕ → List ℕ
line_output line = text_of (outcome_of line (replicate reply_most 0)) ++ (10 ∷ [])

-- the line entry as a way to answer lines: nothing goes from line to line
abbrev pub line_way : Answering (Unit {0})
line_way =
    record {
      answer = λ s line. record { state = s; text = line_output line };
      text_most = answer_most;
      line_most = line_most;
    }

-- the whole output for a whole input
unfoldable pub output_of : List ℕ → List ℕ
output_of input = (whole_of line_way tt input).text

-- one turn: with what is kept of a line that has begun, a block as a whole
abbrev pub turn_of : List ℕ → List ℕ → Progress (Unit {0})
turn_of kept block = block_of line_way tt kept block

-- turns one after the other, from the start of the input
abbrev pub turns_of : List (List ℕ) → Progress (Unit {0})
turns_of blocks = blocks_of line_way tt [] blocks

-- one call: with some room, what is kept of a line that has begun, and a block
abbrev pub call_of : ℕ → List ℕ → List ℕ → Progress (Unit {0})
call_of room kept block = stream_of line_way room tt kept block

-- what is written where the input ends
abbrev pub last_output : List ℕ → List ℕ
last_output kept = (last_of line_way tt kept).text
