-- A call of a stream takes the first characters of its block, one after the other; and all of them, where the room
-- holds the most that may be written for them. Assumes nothing.
use mathlib.Core.Path.{◌≡◌, refl, sym, ◌∙◌}
use mathlib.Core.Bool.{Bool, true, false, cond}
use mathlib.Core.List.{List, [], ◌∷◌, ◌++◌}
use Prim.Native.Nat.{ℕ, suc, ◌+◌, ◌*◌, ◌≤◌}
use native.Mathlib.Nat.{add-zero, zero-add, add-suc, suc-add, mul-le-mul_left}
use native.Mathlib.Omega.{arith}
use lib.Dec.{eqb, leb}
use lib.ListN.{length, take, length-append, length-take}
use borrow.Author.Tests.{le-leb}
use Rattle.line_cut.specs.Stream.{Answering, kept_most, Progress, start, step, block_from, block_of, Spreads}
use Rattle.line_cut.specs.Stream.{stream_from, stream_of, Holds}
use Rattle.line_cut.proofs.Streaming.{progress}

module _ {S : Type 0} (way : Answering S) where
  -- one character more, by the test for a line feed
  abbrev pub next : Bool → ℕ → List ℕ → S → List ℕ → ℕ → Progress S
  next b used kept s written c =
      cond b (progress (suc used) [] (way.answer s kept).state (written ++ (way.answer s kept).text))
      (progress (suc used) (take (kept_most way) (kept ++ (c ∷ []))) s written)

  step-used : (p : Progress S) (c : ℕ) → (step way p c).used ≡ suc p.used
  step-used p c = by (eqb c 10)
    where
      by : (b : Bool) → (next b p.used p.kept p.state p.written c).used ≡ suc p.used
      by true = refl
      by false = refl

  pub record Takes (room : ℕ) (p : Progress S) (block : List ℕ) : Type 0 where
    pub count : ℕ
    pub within : count ≤ length block
    pub used_is : (stream_from way room p block).used ≡ p.used + count
    pub progress-is : stream_from way room p block ≡ block_from way p (take count block)

  pub takes : (room : ℕ) (p : Progress S) (block : List ℕ) → Takes room p block
  unfolding stream_from block_from
  takes room p [] =
      record { count = 0; within = omega arith; used_is = sym (add-zero p.used); progress-is = refl }
  takes room p (c ∷ block) =
      by (leb (length p.written + way.text_most) room) refl (takes room (step way p c) block)
    where
      by : (b : Bool) → leb (length p.written + way.text_most) room ≡ b → Takes room (step way p c) block
          → Takes room p (c ∷ block)
      by true e t =
          record {
            count = suc t.count;
            within = let m = t.within in omega arith;
            used_is =
                rw e (t.used_is ∙ rw (step-used p c, suc-add p.used t.count, add-suc p.used t.count));
            progress-is = rw e t.progress-is;
          }
      by false e t =
          record { count = 0; within = omega arith; used_is = rw (e, add-zero p.used); progress-is = rw e }

  -- ---- room for all
  module _ (room k : ℕ) (holds : Holds way) (spreads : Spreads way k) where
    -- k places for each character of the line that has begun and of the input that is left, and a text more
    abbrev Enough : Progress S → List ℕ → Type 0
    Enough p input = length p.written + k * (length p.kept + length input) + way.text_most ≤ room

    stays : (p : Progress S) (c : ℕ) (input : List ℕ) → Enough p (c ∷ input) → Enough (step way p c) input
    stays p c input h = by (eqb c 10)
      where
        ended : (w x m n t : ℕ) → x ≤ k * suc m → w + k * (m + suc n) + t ≤ room → w + x + k * (0 + n) + t ≤ room
        ended w x m n t s h = omega arith

        longer : (w m m' n t : ℕ) → k * m' ≤ k * suc m → w + k * (m + suc n) + t ≤ room → w + k * (m' + n) + t ≤ room
        longer w m m' n t s h = omega arith

        by : (b : Bool) → Enough (next b p.used p.kept p.state p.written c) input
        by true =
            let text : List ℕ = (way.answer p.state p.kept).text in
            rw (length-append p.written text)
            (ended (length p.written) (length text) (length p.kept) (length input) way.text_most
            (spreads p.state p.kept) h)
        by false =
            let m : length (take (kept_most way) (p.kept ++ (c ∷ []))) ≤ suc (length p.kept) =
            rw (length-take (kept_most way) (p.kept ++ (c ∷ [])), length-append p.kept (c ∷ [])) (omega arith) in
            longer (length p.written) (length p.kept) _ (length input) way.text_most (mul-le-mul_left k m) h

    taken : (p : Progress S) (c : ℕ) (input : List ℕ) → length p.written + way.text_most ≤ room
        → stream_from way room p (c ∷ input) ≡ stream_from way room (step way p c) input
    unfolding stream_from
    taken p c input h = rw (le-leb (length p.written + way.text_most) room h)

    abbrev All : Progress S → List ℕ → Type 0
    All p input = stream_from way room p input ≡ block_from way p input

    all_taken : (p : Progress S) (input : List ℕ) → Enough p input → All p input
    unfolding stream_from block_from
    all_taken p [] h = refl
    all_taken p (c ∷ input) h =
        taken p c input (less (length p.written) (length p.kept + suc (length input)) way.text_most h)
        ∙ all_taken (step way p c) input (stays p c input h)
      where
        less : (w n t : ℕ) → w + k * n + t ≤ room → w + t ≤ room
        less w n t h = omega arith

    -- the line that began earlier, however much of it is kept, gets one text
    begun_taken : (used : ℕ) (kept : List ℕ) (s : S) (input : List ℕ) → k * length input + 2 * way.text_most ≤ room
        → All (progress used kept s []) input
    unfolding stream_from block_from
    begun_taken used kept s [] h = refl
    begun_taken used kept s (c ∷ input) h =
        taken (progress used kept s []) c input (less (length input) way.text_most h)
        ∙ by (eqb c 10)
        (begun_taken (suc used) (take (kept_most way) (kept ++ (c ∷ []))) s input
        (fewer (length input) way.text_most h))
      where
        less : (n t : ℕ) → k * suc n + 2 * t ≤ room → 0 + t ≤ room
        less n t h = omega arith

        fewer : (n t : ℕ) → k * suc n + 2 * t ≤ room → k * n + 2 * t ≤ room
        fewer n t h = omega arith

        one : (x n t : ℕ) → x ≤ t → k * suc n + 2 * t ≤ room → x + k * (0 + n) + t ≤ room
        one x n t m h = omega arith

        by : (b : Bool) → All (next false used kept s [] c) input → All (next b used kept s [] c) input
        by true longer =
            all_taken (next true used kept s [] c) input
            (one (length (way.answer s kept).text) (length input) way.text_most (holds.text_most_lem s kept) h)
        by false longer = longer

    pub whole_block : (s : S) (kept block : List ℕ) → k * length block + 2 * way.text_most ≤ room
        → stream_of way room s kept block ≡ block_of way s kept block
    whole_block s kept block h = begun_taken 0 kept s block h

  -- a block as a whole uses all its characters
  from-used : (p : Progress S) (block : List ℕ) → (block_from way p block).used ≡ p.used + length block
  unfolding block_from
  from-used p [] = sym (add-zero p.used)
  from-used p (c ∷ block) =
      from-used (step way p c) block
      ∙ rw (step-used p c, suc-add p.used (length block), add-suc p.used (length block))

  pub block_used : (s : S) (kept block : List ℕ) → (block_of way s kept block).used ≡ length block
  block_used s kept block = from-used (start s kept) block ∙ zero-add (length block)
