-- Over any blocks, and over any calls of `stream`, each going on where the one before stopped, the outputs one after
-- the other are those of the whole input: the law of line_cut's Whole.antt, since what is kept of a line gets the
-- line's own answer. Assumes nothing.
use mathlib.Core.Path.{◌≡◌, refl, ap, sym, ◌∙◌}
use mathlib.Core.Bool.{Bool, true, false}
use mathlib.Core.List.{List, [], ◌∷◌, ◌++◌, flatten}
use Prim.Native.Nat.{ℕ, ◌+◌, ◌*◌, ◌≤◌, ◌<◌}
use native.Mathlib.Omega.{arith}
use lib.Dec.{leb}
use lib.ListN.{length, take, replicate}
use lib.Seq.{take_all, length-take-le}
use borrow.Author.Tests.{leb-true, leb-false}
use Rattle.line_kinds.specs.Kinds.{line_most, reply_most, spread}
use Rattle.lines.specs.Answer.{answer_of, Outcome, outcome_of}
use Rattle.line_cut.specs.Stream.{LineAnswer, kept_most, Calls, Holds, Spreads}
use Rattle.line_cut.proofs.Taken.{whole_block}
use Rattle.line_cut.proofs.Whole as any
use Rattle.line_stream.specs.Output.{answer_most, text_of, line_output, line_way, output_of, turn_of, turns_of, call_of}
use Rattle.line_stream.specs.Output.{last_output}
use Rattle.line_stream.proofs.Answers.{output_most, output_spread}
use Rattle.line_stream.proofs.FirstQuestion.{too_long}

pub first_refusal : (line : List ℕ) → (answer_of line (replicate reply_most 0)).number ≡ 1
    → line_output line ≡ 48 ∷ 49 ∷ 10 ∷ []
unfolding line_output outcome_of
first_refusal line e = by (outcome_of line (replicate reply_most 0)) e
  where
    by : (a : Outcome) → a.number ≡ 1 → text_of a ++ (10 ∷ []) ≡ 48 ∷ 49 ∷ 10 ∷ []
    by a e = rw e

long_output : (line : List ℕ) → line_most < length line → line_output line ≡ 48 ∷ 49 ∷ 10 ∷ []
long_output line h = first_refusal line (too_long line (replicate reply_most 0) h)

-- the first characters of a line
abbrev kept : ℕ
kept = kept_most line_way

abbrev cut : List ℕ → List ℕ
cut line = take kept line

cut_output : (line : List ℕ) → line_output (cut line) ≡ line_output line
cut_output line = by (leb (length line) kept) refl
  where
    by : (b : Bool) → leb (length line) kept ≡ b → line_output (cut line) ≡ line_output line
    by true e = ap line_output (take_all kept line (leb-true (length line) kept e))
    by false e =
        let h : kept < length line = leb-false (length line) kept e in
        let c : line_most < length (cut line) = rw (length-take-le kept line (omega arith)) (omega arith) in
        let l : line_most < length line = omega arith in
        long_output (cut line) c ∙ sym (long_output line l)

pub holds : Holds line_way
holds =
    record {
      text_most_lem = λ s line. output_most line;
      kept_same = λ s line. ap (λ (l : List ℕ). record { state = s; text = l }) (cut_output line);
    }

spreads : Spreads line_way spread
spreads s line = output_spread line

pub whole : {input output kept : List ℕ} → Calls line_way tt [] input output tt kept
    → output ++ last_output kept ≡ output_of input
unfolding output_of
whole calls = ap (λ (a : LineAnswer (Unit {0})). a.text) (any.whole line_way holds calls)

pub whole_blocks : (blocks : List (List ℕ))
    → (turns_of blocks).written ++ last_output (turns_of blocks).kept ≡ output_of (flatten blocks)
unfolding output_of
whole_blocks blocks = ap (λ (a : LineAnswer (Unit {0})). a.text) (any.whole_blocks line_way holds tt blocks)

-- where the room holds the answers to the block, the answer to the line that began earlier, and one more
pub one_call : (room : ℕ) (kept block : List ℕ) → spread * length block + 2 * answer_most ≤ room
    → call_of room kept block ≡ turn_of kept block
one_call room kept block h = whole_block line_way room spread holds spreads tt kept block h
