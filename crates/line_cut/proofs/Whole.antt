-- Over any blocks, and over any calls of a stream, each going on where the one before stopped, the texts one after the
-- other are those of the whole input, and the state that is left is the whole input's: for every way to answer lines
-- that answers a line as it answers what is kept of it. Assumes nothing.
use mathlib.Core.Path.{◌≡◌, refl, ap, sym, ◌∙◌}
use mathlib.Core.Bool.{Bool, true, false, cond}
use mathlib.Core.List.{List, [], ◌∷◌, ◌++◌, flatten, append-nil, append_assoc}
use Prim.Native.Nat.{ℕ, suc, ◌+◌}
use native.Mathlib.Nat.{zero-add, add-zero, add-suc}
use lib.Dec.{eqb}
use lib.ListN.{take}
use Rattle.line_cut.specs.Cut.{last_lines, lines_from}
use Rattle.line_cut.specs.Stream.{LineAnswer, Progress, Answering, kept_most, outputs, whole_of, last_of}
use Rattle.line_cut.specs.Stream.{start, followed, step, block_from, block_of, blocks_of, stream_of, Calls, Holds}
use Rattle.line_cut.specs.Stream.Calls.{none, call}
use Rattle.line_cut.proofs.Streaming.{progress, take_twice}
use Rattle.line_cut.proofs.Taken.{next, Takes, takes}

-- a text before an answer's own
abbrev pub behind : {S : Type 0} → List ℕ → LineAnswer S → LineAnswer S
behind written a = record { state = a.state; text = written ++ a.text }

-- one text behind another
behind_two : {S : Type 0} (xs ys : List ℕ) (a : LineAnswer S) → behind (xs ++ ys) a ≡ behind xs (behind ys a)
behind_two xs ys a = rw (append_assoc xs ys a.text)

module _ {S : Type 0} (way : Answering S) where
  abbrev cut : List ℕ → List ℕ
  cut line = take (kept_most way) line

  -- ---- a block in two parts
  -- what was used and written before makes no difference
  step_after : (p q : Progress S) (c : ℕ) → step way (followed p q) c ≡ followed p (step way q c)
  step_after p q c = by (eqb c 10)
    where
      by : (b : Bool)
          → next way b (p.used + q.used) q.kept q.state (p.written ++ q.written) c
          ≡ followed p (next way b q.used q.kept q.state q.written c)
      by true =
          rw (
            add-suc p.used q.used,
            append_assoc p.written q.written (way.answer q.state q.kept).text,
          )
      by false = rw (add-suc p.used q.used)

  after : (p q : Progress S) (input : List ℕ)
      → block_from way (followed p q) input ≡ followed p (block_from way q input)
  unfolding block_from
  after p q [] = refl
  after p q (c ∷ input) =
      ap (λ (r : Progress S). block_from way r input) (step_after p q c) ∙ after p (step way q c) input

  -- from where the first part ends
  goes_on : (p : Progress S) (input : List ℕ)
      → block_from way p input ≡ followed p (block_of way p.state p.kept input)
  goes_on p input =
      let e : p ≡ followed p (start p.state p.kept) = rw (add-zero p.used, append-nil p.written) in
      ap (λ (r : Progress S). block_from way r input) e ∙ after p (start p.state p.kept) input

  both : (p : Progress S) (xs ys : List ℕ) → block_from way p (xs ++ ys) ≡ block_from way (block_from way p xs) ys
  unfolding block_from
  both p [] ys = refl
  both p (c ∷ xs) ys = both (step way p c) xs ys

  in_two : (s : S) (kept xs ys : List ℕ) → let p = block_of way s kept xs in
      block_of way s kept (xs ++ ys) ≡ followed p (block_of way p.state p.kept ys)
  in_two s kept xs ys = both (start s kept) xs ys ∙ goes_on (block_of way s kept xs) ys

  -- ---- blocks one after the other are one block
  pub joined : (s : S) (kept : List ℕ) (blocks : List (List ℕ))
      → blocks_of way s kept blocks ≡ block_of way s kept (flatten blocks)
  unfolding block_from flatten
  joined s kept [] = refl
  joined s kept (block ∷ blocks) =
      let p : Progress S = block_of way s kept block in
      ap (followed p) (joined p.state p.kept blocks) ∙ sym (in_two s kept block (flatten blocks))

  -- ---- the whole input, of whose first line some has been read
  -- what is written in the end, with the answer to what is left
  abbrev closed : Progress S → LineAnswer S
  closed p = behind p.written (last_of way p.state p.kept)

  module _ (same : (s : S) (line : List ℕ) → way.answer s (cut line) ≡ way.answer s line) where
    last_cut : (s : S) (line : List ℕ) → last_of way s (cut line) ≡ outputs way s (last_lines line)
    last_cut s [] = refl
    last_cut s (c ∷ line) = rw (same s (c ∷ line))

    all : (used : ℕ) (line : List ℕ) (s : S) (written input : List ℕ)
        → closed (block_from way (progress used (cut line) s written) input)
        ≡ behind written (outputs way s (lines_from line input))
    unfolding block_from
    all used line s written [] = ap (behind written) (last_cut s line)
    all used line s written (c ∷ input) =
        by (eqb c 10)
        (all (suc used) [] (way.answer s (cut line)).state (written ++ (way.answer s (cut line)).text) input)
        (all (suc used) (line ++ (c ∷ [])) s written input)
      where
        by : (b : Bool)
            → closed
            (block_from way
            (progress (suc used) [] (way.answer s (cut line)).state (written ++ (way.answer s (cut line)).text))
            input)
            ≡ behind (written ++ (way.answer s (cut line)).text)
            (outputs way (way.answer s (cut line)).state (lines_from [] input))
            → closed (block_from way (progress (suc used) (cut (line ++ (c ∷ []))) s written) input)
            ≡ behind written (outputs way s (lines_from (line ++ (c ∷ [])) input))
            → closed (block_from way (next way b used (cut line) s written c) input)
            ≡ behind written
            (outputs way s (cond b (line ∷ lines_from [] input) (lines_from (line ++ (c ∷ [])) input)))
        by true ended longer =
            ended
            ∙ behind_two written (way.answer s (cut line)).text
            (outputs way (way.answer s (cut line)).state (lines_from [] input))
            ∙ ap
            (λ (a : LineAnswer S). behind written (behind a.text (outputs way a.state (lines_from [] input))))
            (same s line)
        by false ended longer = rw (take_twice (kept_most way) line (c ∷ [])) longer

  pub whole_blocks : Holds way → (s : S) (blocks : List (List ℕ)) → let p = blocks_of way s [] blocks in
      behind p.written (last_of way p.state p.kept) ≡ whole_of way s (flatten blocks)
  whole_blocks holds s blocks = rw (joined s [] blocks) (all holds.kept_same 0 [] s [] (flatten blocks))

  -- ---- calls one after the other
  -- a call is the block of what it used
  called : (room : ℕ) (s : S) (kept block : List ℕ) → let p = stream_of way room s kept block in
      p ≡ block_of way s kept (take p.used block)
  called room s kept block =
      let t : Takes way room (start s kept) block = takes way room (start s kept) block in
      let u : (stream_of way room s kept block).used ≡ t.count = t.used_is ∙ zero-add t.count in
      t.progress-is ∙ ap (λ (n : ℕ). block_of way s kept (take n block)) (sym u)

  record Ran (p : Progress S) (output : List ℕ) (s : S) (kept : List ℕ) : Type 0 where
    kept_is : p.kept ≡ kept
    state-is : p.state ≡ s
    written_is : p.written ≡ output

  ran : {s s' : S} {kept input output kept' : List ℕ} → Calls way s kept input output s' kept'
      → Ran (block_of way s kept input) output s' kept'
  unfolding block_from
  ran none = record { kept_is = refl; state-is = refl; written_is = refl }
  ran (call {s} {s'} {kept} {input} {output} {kept'} room block calls) =
      let t : Progress S = stream_of way room s kept block in
      let c = ran calls in
      let r =
      in_two s kept (take t.used block) input
      ∙ ap (λ (p : Progress S). followed p (block_of way p.state p.kept input))
      (sym (called room s kept block)) in
      record {
        kept_is = ap (λ (x : Progress S). x.kept) r ∙ c.kept_is;
        state-is = ap (λ (x : Progress S). x.state) r ∙ c.state-is;
        written_is =
            ap (λ (x : Progress S). x.written) r ∙ ap (λ (l : List ℕ). t.written ++ l) c.written_is;
      }

  pub whole : Holds way → {s s' : S} {input output kept : List ℕ} → Calls way s [] input output s' kept
      → behind output (last_of way s' kept) ≡ whole_of way s input
  whole holds {s} {s'} {input} {output} {kept} calls =
      let c = ran calls in
      rw (← c.kept_is, ← c.state-is, ← c.written_is) (all holds.kept_same 0 [] s [] input)
