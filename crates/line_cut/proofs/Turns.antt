-- The loop of a stream, a line a turn, whatever a line is answered. Assumes nothing.
use mathlib.Core.Path.{◌≡◌, refl, ap, sym, ◌∙◌}
use mathlib.Core.List.{List, ◌++◌}
use Prim.Native.Nat.{ℕ, suc, ◌+◌, ◌-◌, ◌≤◌, ◌<◌, min}
use native.Mathlib.Omega.{arith}
use lib.ListN.{length, take, drop, take-append-drop, length-take, length-drop}
use lib.Seq.{length-sets, length-take-le, take_all, drop-drop}
use Rattle.line_cut.specs.Cut.{line_length, lengthened, Fills, Put}
use Rattle.line_cut.specs.Stream.{Answering, kept_most, Progress, stream_from, stream_of, Streams, Holds}
use Rattle.line_cut.proofs.Copies.{take-sets, drop-sets}
use Rattle.line_cut.proofs.Keeping.{held, kept-part, keeps_fits}
use Rattle.line_cut.proofs.Streaming.{progress, first, line_most_lem, no_feed_lem, feed, no_room}

module _ {S : Type 0} (way : Answering S) where
  -- The call came with the state s₀ and the characters `begun`; it is at the place `at` of its input, with the state s.
  -- What comes from here on is what comes from the start; what is filled is what was written, and the rest is as lent.
  pub record Going (s₀ : S) (input begun lent : List ℕ) (s : S) (kept out : List ℕ) (count at filled : ℕ) : Type 0 where
    pub few : count ≤ kept_most way
    pub whole : length kept ≡ kept_most way
    pub within : at ≤ length input
    pub room : filled ≤ length out
    pub same : length out ≡ length lent
    pub rest : drop filled out ≡ drop filled lent
    pub goes : stream_from way (length lent) (progress at (take count kept) s (take filled out)) (drop at input)
        ≡ stream_of way (length lent) s₀ begun input

  pub begins : (s : S) (input kept lent : List ℕ) (count n : ℕ) → length kept ≡ kept_most way
      → n ≡ min count (kept_most way)
      → Going s input (take count kept) lent s kept lent n 0 0
  begins s input kept lent count n w e =
      record {
        few = omega arith;
        whole = w;
        within = omega arith;
        room = omega arith;
        same = refl;
        rest = refl;
        goes = rw (held kept count n (rw w e));
      }

  -- an outcome, from the progress that it shows
  ends : (s₀ s : S) (input begun lent kept out : List ℕ) (used count filled : ℕ) → count ≤ length kept
      → filled ≤ length out → drop filled out ≡ drop filled lent
      → progress used (take count kept) s (take filled out) ≡ stream_of way (length lent) s₀ begun input
      → Streams (stream_of way (length lent) s₀ begun input) used count filled kept lent out
  ends s₀ s input begun lent kept out used count filled wk wo r e =
      let lf : length (take filled out) ≡ filled = length-take-le filled out wo in
      rw (← e)
      (record {
        used_is = refl;
        count_is = sym (length-take-le count kept wk);
        filled_is = sym lf;
        kept_is = refl;
        out_is = rw (lf, ← r) (sym (take-append-drop filled out));
      })

module _ {S : Type 0} {way : Answering S} {s₀ s : S} {input begun lent kept out : List ℕ}
    {count at filled : ℕ} (g : Going way s₀ input begun lent s kept out count at filled) where
  abbrev most : ℕ
  most = way.text_most

  -- the whole call
  abbrev all : Progress S
  all = stream_of way (length lent) s₀ begun input

  abbrev rest : List ℕ
  rest = drop at input

  length_rest : length rest ≡ length input - at
  length_rest = length-drop at input

  held_most : length (take count kept) ≤ kept_most way
  held_most = rw (length-take count kept) (omega arith)

  filled_is : length (take filled out) ≡ filled
  filled_is = length-take-le filled out g.room

  pub out_of_room : length out - filled < most → Streams all at count filled kept lent out × (all.state ≡ s)
  out_of_room h =
      let w : count ≤ length kept = rw g.whole g.few in
      let l : length lent < length (take filled out) + most =
      rw filled_is (less (length lent) (length out) filled most g.same g.room h) in
      let p : Progress S = progress at (take count kept) s (take filled out) in
      let e = sym (no_room way (length lent) p rest l) ∙ g.goes in (
        ends way s₀ s input begun lent kept out at count filled w g.room g.rest e,
        sym (ap (λ (p : Progress S). p.state) e),
      )
    where
      less : (lent out filled most : ℕ) → out ≡ lent → filled ≤ out → out - filled < most → lent < filled + most
      less lent out filled most e w h = omega arith

  module _ (h : most ≤ length out - filled) (end : ℕ) (ee : end ≡ at + line_length rest) where
    enough : length (take filled out) + most ≤ length lent
    enough = rw filled_is (more (length lent) (length out) filled most g.same g.room h)
      where
        more : (lent out filled most : ℕ) → out ≡ lent → filled ≤ out → most ≤ out - filled → filled + most ≤ lent
        more lent out filled most e w h = omega arith

    pub out_of_input : end ≡ length input → (n : ℕ) (kept' : List ℕ) → length kept' ≡ kept_most way
        → Fills kept (lengthened kept count (take (length input - at) rest)) n kept'
        → Streams all end n filled kept' lent out × (all.state ≡ s)
    out_of_input ei n kept' wk part =
        let t : take (length input - at) rest ≡ rest =
        take_all (length input - at) rest (rw length_rest (omega arith)) in
        let k : take n kept' ≡ take (kept_most way) (take count kept ++ rest) =
        rw t at (kept-part (kept_most way) kept (take (length input - at) rest) kept' count n g.whole part) in
        let l : line_length rest ≡ length rest =
        rw length_rest (line-all end at (length input) (line_length rest) g.within ee ei) in
        let u : at + length rest ≡ end = rw length_rest (upto end at (length input) g.within ei) in
        let w : n ≤ length kept' =
        rw (wk, ← g.whole) (keeps_fits kept (take (length input - at) rest) kept' count n part) in
        let e : progress end (take n kept') s (take filled out) ≡ all =
        rw (k, ← u)
        (sym (no_feed_lem way (length lent) s (take filled out) enough at (take count kept) rest held_most l)
        ∙ g.goes) in (
          ends way s₀ s input begun lent kept' out end n filled w g.room g.rest e,
          sym (ap (λ (p : Progress S). p.state) e),
        )
      where
        line-all : (end at input line : ℕ) → at ≤ input → end ≡ at + line → end ≡ input → line ≡ input - at
        line-all end at input line w e i = omega arith

        upto : (end at input : ℕ) → at ≤ input → end ≡ input → at + (input - at) ≡ end
        upto end at input w i = omega arith

    pub end_within : end ≤ length input
    end_within =
        let w = g.within in
        let m : line_length rest ≤ length rest = line_most_lem rest in
        let r = length_rest in
        omega arith

    -- the line that ends here, as it is kept
    abbrev pub line : List ℕ
    line = take (kept_most way) (take count kept ++ take (end - at) rest)

    part_is : line ≡ take (kept_most way) (take count kept ++ first rest)
    part_is = let e : end - at ≡ line_length rest = omega arith in rw e

    pub turns : Holds way → (end ≡ length input → ⊥) → (kept' out' : List ℕ) (filled' : ℕ)
        → length kept' ≡ kept_most way → Put out filled (way.answer s line).text filled' out'
        → Going way s₀ input begun lent (way.answer s line).state kept' out' 0 (end + 1) filled'
    turns holds ne kept' out' filled' wk p =
        let x : List ℕ = (way.answer s line).text in
        let fit : filled + length x ≤ length out =
        fits (length x) filled (length out) most (holds.text_most_lem s line) g.room h in
        let lo : length out' ≡ length out = ap length p.out_is ∙ length-sets out filled x in
        let b : line_length rest < length rest =
        rw length_rest (before end at (length input) (line_length rest) end_within ne g.within ee) in
        let t : take filled' out' ≡ take filled out ++ x = rw (p.end_is, p.out_is) (take-sets out x filled fit) in
        record {
          few = omega arith;
          whole = wk;
          within = next end (length input) end_within ne;
          room = rw (lo, p.end_is) fit;
          same = lo ∙ g.same;
          rest =
              rw (p.end_is, p.out_is)
              (drop-sets out x filled fit
              ∙ sym (drop-drop (length x) filled out)
              ∙ ap (drop (length x)) g.rest
              ∙ drop-drop (length x) filled lent);
          goes =
              let i : drop (end + 1) input ≡ drop (suc (line_length rest)) rest =
              rw ee
              (ap (λ (k : ℕ). drop k input) (sum at (line_length rest))
              ∙ sym (drop-drop (suc (line_length rest)) at input)) in
              let u : at + suc (line_length rest) ≡ end + 1 = rw ee (sym (sum at (line_length rest))) in
              rw (t, i, ← u, part_is)
              (sym (feed way (length lent) s (take filled out) enough at (take count kept) rest held_most b)
              ∙ g.goes);
        }
      where
        fits : (x filled out most : ℕ) → x ≤ most → filled ≤ out → most ≤ out - filled → filled + x ≤ out
        fits x filled out most m w h = omega arith

        before : (end at input line : ℕ) → end ≤ input → (end ≡ input → ⊥) → at ≤ input → end ≡ at + line
            → line < input - at
        before end at input line w n v e = omega (arith, n)

        next : (end input : ℕ) → end ≤ input → (end ≡ input → ⊥) → end + 1 ≤ input
        next end input w n = omega (arith, n)

        sum : (at line : ℕ) → at + line + 1 ≡ at + suc line
        sum at line = omega arith
