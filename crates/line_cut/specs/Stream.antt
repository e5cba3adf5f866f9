-- What is written for an input, line by line, at once and in pieces, whatever a line is answered: an answer may depend
-- on a state that goes from line to line, and may change it. Definitions only.
use Rattle.std.specs.Prelude.{cond, List, [], ◌∷◌, ◌++◌, ◌≡◌, ℕ, suc, ◌+◌, ◌*◌, ◌≤◌, eqb, leb, length, take}
use Rattle.hex_bytes.specs.Hex.{fill}
use Rattle.line_cut.specs.Cut.{last_lines, lines_from}

-- what a line does: the state that it leaves, and the text that is written for it, with its line feed
pub record LineAnswer (S : Type 0) : Type 0 where
  pub state : S
  pub text : List ℕ

-- How far a call came: how many characters of the input it took, the first characters of the line that has begun,
-- the state after the lines that ended, and what was written for them.
pub record Progress (S : Type 0) : Type 0 where
  pub used : ℕ
  pub kept : List ℕ
  pub state : S
  pub written : List ℕ

-- where a call starts: with a state and what is kept of a line that has begun
abbrev pub start : {S : Type 0} → S → List ℕ → Progress S
start s kept = record { used = 0; kept = kept; state = s; written = [] }

-- one call and then another: what both used and wrote, and what the second left
abbrev pub followed : {S : Type 0} → Progress S → Progress S → Progress S
followed p q =
    record {
      used = p.used + q.used;
      kept = q.kept;
      state = q.state;
      written = p.written ++ q.written;
    }

-- A way to answer lines: what a line does in a state; the most characters of a text; and the longest line that is
-- answered by all its characters.
pub record Answering (S : Type 0) : Type 0 where
  pub answer : S → List ℕ → LineAnswer S
  pub text_most : ℕ
  pub line_most : ℕ

-- the characters kept of a line that has begun: one more, which tells a longer line, of which no more is asked
abbrev pub kept_most : {S : Type 0} → Answering S → ℕ
kept_most way = suc way.line_most

module _ {S : Type 0} (way : Answering S) where
  -- lines one after the other, from a state on
  abbrev pub outputs : S → List (List ℕ) → LineAnswer S
  outputs s [] = record { state = s; text = [] }
  outputs s (line ∷ lines) =
      let a = way.answer s line in
      let b = outputs a.state lines in
      record { state = b.state; text = a.text ++ b.text }

  -- a whole input
  abbrev pub whole_of : S → List ℕ → LineAnswer S
  whole_of s input = outputs s (lines_from [] input)

  -- what is left where the input ends
  abbrev pub last_of : S → List ℕ → LineAnswer S
  last_of s kept = outputs s (last_lines kept)

  -- one character: a line feed ends the line, any other character lengthens it
  abbrev pub step : Progress S → ℕ → Progress S
  step p c =
      let a = way.answer p.state p.kept in
      cond (eqb c 10)
      (record { used = suc p.used; kept = []; state = a.state; written = p.written ++ a.text })
      (record {
        used = suc p.used;
        kept = take (kept_most way) (p.kept ++ (c ∷ []));
        state = p.state;
        written = p.written;
      })

  -- characters one after the other
  unfoldable pub block_from : Progress S → List ℕ → Progress S
  block_from p [] = p
  block_from p (c ∷ block) = block_from (step p c) block

  -- a block as a whole
  abbrev pub block_of : S → List ℕ → List ℕ → Progress S
  block_of s kept block = block_from (start s kept) block

  -- blocks one after the other, each from the state and the line that the one before left
  abbrev pub blocks_of : S → List ℕ → List (List ℕ) → Progress S
  blocks_of s kept [] = start s kept
  blocks_of s kept (block ∷ blocks) =
      let p = block_of s kept block in
      followed p (blocks_of p.state p.kept blocks)

  -- characters one after the other, as long as the room holds another text
  unfoldable pub stream_from : ℕ → Progress S → List ℕ → Progress S
  stream_from room p [] = p
  stream_from room p (c ∷ input) =
      cond (leb (length p.written + way.text_most) room) (stream_from room (step p c) input) p

  -- one call with some room
  abbrev pub stream_of : ℕ → S → List ℕ → List ℕ → Progress S
  stream_of room s kept input = stream_from room (start s kept) input

-- A call's outcome is p: its numbers, the first `count` places of `kept`, and the whole of the lent output.
-- What `kept` holds past `count` is left open: nothing reads it.
pub record Streams {S : Type 0} (p : Progress S) (used count filled : ℕ) (kept lent out : List ℕ) : Type 0 where
  pub used_is : used ≡ p.used
  pub count_is : count ≡ length p.kept
  pub filled_is : filled ≡ length p.written
  pub kept_is : take count kept ≡ p.kept
  pub out_is : out ≡ fill p.written lent

-- Calls one after the other. Each is given the state that the one before left, what it kept, some room and some block.
-- In `Calls s kept input output s' kept'` they begin with s and `kept`, use `input` of their blocks, write `output`,
-- and leave s' and kept'.
module _ {S : Type 0} (way : Answering S) where
  pub data Calls : S → List ℕ → List ℕ → List ℕ → S → List ℕ → Type 0 where
    none : {s : S} {kept : List ℕ} → Calls s kept [] [] s kept
    call : {s s' : S} {kept input output kept' : List ℕ} (room : ℕ) (block : List ℕ)
        → Calls (stream_of way room s kept block).state (stream_of way room s kept block).kept input output s' kept'
        → Calls s kept (take (stream_of way room s kept block).used block ++ input)
        ((stream_of way room s kept block).written ++ output) s' kept'

-- The way holds what it says: no text has more characters than `text_most`, and what is kept of a line is answered as
-- the line is.
pub record Holds {S : Type 0} (way : Answering S) : Type 0 where
  pub text_most_lem : (s : S) (line : List ℕ) → length (way.answer s line).text ≤ way.text_most
  pub kept_same : (s : S) (line : List ℕ) → way.answer s (take (kept_most way) line) ≡ way.answer s line

-- No text has more than k characters for each character of its line, the line feed counted.
abbrev pub Spreads : {S : Type 0} → Answering S → ℕ → Type 0
Spreads {S} way k = (s : S) (line : List ℕ) → length (way.answer s line).text ≤ k * suc (length line)
