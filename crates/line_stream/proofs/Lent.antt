-- A line's output, from its answer in a part of the output's own places. Assumes nothing.
use mathlib.Core.Path.{◌≡◌, ap, sym, ◌∙◌}
use mathlib.Core.List.{List, [], ◌∷◌, ◌++◌}
use Prim.Native.Nat.{ℕ, suc, ◌+◌, ◌≤◌}
use native.Mathlib.Omega.{arith}
use lib.ListN.{length, drop, set}
use Rattle.hex_bytes.proofs.Lent.{from, back, from-length, back-same, back-reply}
use Rattle.line_kinds.specs.Kinds.{reply_most}
use Rattle.lines.specs.Answer.{answer_of, Outcome, outcome_of}
use Rattle.line_places.specs.Exactly.{places_for, reply_to_of}
use Rattle.line_cut.specs.Cut.{Put}
use Rattle.line_cut.proofs.Copies.{put_last}
use Rattle.line_stream.specs.Output.{answer_most, pair_of_digits, line_output}
use Rattle.line_stream.proofs.Replies.{as_came, reply-first, reply-exact}
use Rattle.line_stream.proofs.Answers.{filled_most, output_reply, output_number}

-- three characters, one store each
pub three : (out : List ℕ) (at a b c : ℕ)
    → Put out at (a ∷ b ∷ c ∷ []) (at + 3) (set (set (set out at a) (at + 1) b) (at + 2) c)
three out at a b c =
    let e1 : at + 1 ≡ suc at = omega arith in
    let e2 : at + 2 ≡ suc (suc at) = omega arith in
    record { end_is = omega arith; out_is = rw (e1, e2) }

-- ---- the answer in the places from `at` on
module _ (line out places : List ℕ) (at n m : ℕ) (h : at + answer_most ≤ length out)
    (e : record { number = n; filled = m; places = places } ≡ outcome_of line (from out at)) where
  abbrev lent : List ℕ
  lent = from out at

  number_is : (answer_of line lent).number ≡ n
  unfolding outcome_of
  number_is = sym (ap (λ (a : Outcome). a.number) e)

  places_are : places ≡ (answer_of line lent).places
  unfolding outcome_of
  places_are = ap (λ (a : Outcome). a.places) e

  pub filled_few : m ≤ reply_most
  filled_few = rw (ap (λ (a : Outcome). a.filled) e) (filled_most line lent)

  filled_is : (answer_of line lent).number ≡ 0 → m ≡ places_for line
  unfolding outcome_of
  filled_is z = ap (λ (a : Outcome). a.filled) e ∙ rw z

  room : reply_most ≤ length lent
  room = rw (from-length out at) (omega arith)

  pub replied : n ≡ 0 → Put out at (line_output line) (at + m + 1) (set (back out at places) (at + m) 10)
  replied z =
      let said : (answer_of line lent).number ≡ 0 = number_is ∙ z in
      let l : m ≡ length (reply_to_of line) = filled_is said ∙ sym (reply-exact line lent said) in
      let w : m ≤ reply_most = filled_few in
      let b : at + length (reply_to_of line) ≤ length out = omega arith in
      let p : places ≡ reply_to_of line ++ drop (length (reply_to_of line)) lent =
      places_are ∙ reply-first line lent said in
      rw (l, output_reply line lent room said)
      (put_last out (reply_to_of line) (back out at places) at 10
      (ap (back out at) p ∙ back-reply out (reply_to_of line) at b))

  pub refused : (n ≡ 0 → ⊥) → (end : ℕ) (left : List ℕ)
      → Put (back out at places) at (pair_of_digits n ++ (10 ∷ [])) end left
      → Put out at (line_output line) end left
  refused z end left p =
      let said : (answer_of line lent).number ≡ 0 → ⊥ = λ s. z (sym number_is ∙ s) in
      let b : back out at places ≡ out =
      ap (back out at) (places_are ∙ as_came line lent said) ∙ back-same out at in
      rw (output_number line lent room n number_is z) (rw b at p)
