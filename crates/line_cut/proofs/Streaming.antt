-- A call of a stream goes by characters: what it does up to the first line feed, or up to the end where there is none.
-- Assumes nothing.
use mathlib.Core.Path.{◌≡◌, refl, ap, ◌∙◌}
use mathlib.Core.Bool.{Bool, true, false, cond}
use mathlib.Core.List.{List, [], ◌∷◌, ◌++◌, append-nil}
use Prim.Native.Nat.{ℕ, zero, suc, ◌+◌, ◌≤◌, ◌<◌}
use native.Mathlib.Nat.{add-zero, add-suc, suc-add}
use native.Mathlib.Omega.{arith}
use lib.Dec.{eqb}
use lib.ListN.{length, take, drop, length-take}
use lib.Seq.{take_all, append_snoc}
use borrow.Author.Tests.{le-leb, lt-leb}
use Rattle.line_cut.specs.Cut.{line_length}
use Rattle.line_cut.specs.Stream.{Answering, kept_most, Progress, stream_from}

-- ---- the first characters of a line, from those of its beginning
pub take_twice : (n : ℕ) (xs ys : List ℕ) → take n (take n xs ++ ys) ≡ take n (xs ++ ys)
take_twice zero xs ys = refl
take_twice (suc n) [] ys = refl
take_twice (suc n) (x ∷ xs) ys = ap (λ (l : List ℕ). x ∷ l) (take_twice n xs ys)

module _ (most : ℕ) where
  abbrev longer : List ℕ → ℕ → List ℕ
  longer kept c = take most (kept ++ (c ∷ []))

  cut_more : (kept : List ℕ) (c : ℕ) (rest : List ℕ)
      → take most (longer kept c ++ rest) ≡ take most (kept ++ (c ∷ rest))
  cut_more kept c rest = take_twice most (kept ++ (c ∷ [])) rest ∙ ap (take most) (append_snoc kept c rest)

  cut_whole : (kept : List ℕ) → length kept ≤ most → take most (kept ++ []) ≡ kept
  cut_whole kept h = ap (take most) (append-nil kept) ∙ take_all most kept h

  cut_most : (line : List ℕ) → length (take most line) ≤ most
  cut_most line = rw (length-take most line) (omega arith)

-- the first line of an input
abbrev pub first : List ℕ → List ℕ
first input = take (line_length input) input

pub line_most_lem : (l : List ℕ) → line_length l ≤ length l
line_most_lem [] = omega arith
line_most_lem (c ∷ l) = by (eqb c 10) (line_most_lem l)
  where
    by : (b : Bool) → line_length l ≤ length l → cond b 0 (suc (line_length l)) ≤ suc (length l)
    by true h = omega arith
    by false h = omega arith

abbrev pub progress : {S : Type 0} → ℕ → List ℕ → S → List ℕ → Progress S
progress used kept s written = record { used = used; kept = kept; state = s; written = written }

module _ {S : Type 0} (way : Answering S) where
  abbrev most : ℕ
  most = kept_most way

  -- ---- characters up to the end, or up to the first line feed
  module _ (room : ℕ) (s : S) (written : List ℕ) (h : length written + way.text_most ≤ room) where
    abbrev from : ℕ → List ℕ → List ℕ → Progress S
    from used kept input = stream_from way room (progress used kept s written) input

    -- what comes after the line of these characters
    abbrev next : ℕ → List ℕ → List ℕ → Progress S
    next used line input =
        stream_from way room (progress used [] (way.answer s line).state (written ++ (way.answer s line).text)) input

    -- one character
    lengthened : (used : ℕ) (kept : List ℕ) (c : ℕ) (input : List ℕ) → eqb c 10 ≡ false
        → from used kept (c ∷ input) ≡ from (suc used) (longer most kept c) input
    unfolding stream_from
    lengthened used kept c input e = rw (le-leb (length written + way.text_most) room h, e)

    ended : (used : ℕ) (kept : List ℕ) (c : ℕ) (input : List ℕ) → eqb c 10 ≡ true
        → from used kept (c ∷ input) ≡ next (suc used) kept input
    unfolding stream_from
    ended used kept c input e = rw (le-leb (length written + way.text_most) room h, e)

    at_end : (used : ℕ) (kept : List ℕ) → length kept ≤ most
        → from used kept [] ≡ progress (used + 0) (take most (kept ++ [])) s written
    unfolding stream_from
    at_end used kept few = rw (add-zero used, cut_whole most kept few)

    pub no_feed_lem : (used : ℕ) (kept input : List ℕ) → length kept ≤ most → line_length input ≡ length input
        → from used kept input ≡ progress (used + length input) (take most (kept ++ input)) s written
    no_feed_lem used kept [] few e = at_end used kept few
    no_feed_lem used kept (c ∷ input) few e =
        by (eqb c 10) refl e
        (λ n. no_feed_lem (suc used) (longer most kept c) input (cut_most most (kept ++ (c ∷ []))) n)
      where
        by : (b : Bool) → eqb c 10 ≡ b → cond b 0 (suc (line_length input)) ≡ suc (length input)
            → (line_length input ≡ length input
            → from (suc used) (longer most kept c) input
            ≡ progress (suc used + length input) (take most (longer most kept c ++ input)) s written)
            → from used kept (c ∷ input)
            ≡ progress (used + suc (length input)) (take most (kept ++ (c ∷ input))) s written
        by true eb n after = absurd (none (length input) n)
          where
            none : (n : ℕ) → 0 ≡ suc n → ⊥
            none n e = omega arith
        by false eb n after =
            lengthened used kept c input eb
            ∙ after (same (line_length input) (length input) n)
            ∙ rw (cut_more most kept c input, suc-add used (length input), add-suc used (length input))
          where
            same : (a b : ℕ) → suc a ≡ suc b → a ≡ b
            same a b e = omega arith

    pub feed : (used : ℕ) (kept input : List ℕ) → length kept ≤ most → line_length input < length input
        → from used kept input
        ≡ next (used + suc (line_length input)) (take most (kept ++ first input))
        (drop (suc (line_length input)) input)
    feed used kept [] few l = absurd (none l)
      where
        none : 0 < 0 → ⊥
        none h = omega arith
    feed used kept (c ∷ input) few l =
        by (eqb c 10) refl l (λ n. feed (suc used) (longer most kept c) input (cut_most most (kept ++ (c ∷ []))) n)
      where
        by : (b : Bool) → eqb c 10 ≡ b → cond b 0 (suc (line_length input)) < suc (length input)
            → (line_length input < length input
            → from (suc used) (longer most kept c) input
            ≡ next (suc used + suc (line_length input)) (take most (longer most kept c ++ first input))
            (drop (suc (line_length input)) input))
            → from used kept (c ∷ input)
            ≡ next (used + suc (cond b 0 (suc (line_length input))))
            (take most (kept ++ take (cond b 0 (suc (line_length input))) (c ∷ input)))
            (drop (cond b 0 (suc (line_length input))) input)
        by true eb l after = ended used kept c input eb ∙ rw (cut_whole most kept few, add-suc used 0, add-zero used)
        by false eb l after =
            lengthened used kept c input eb
            ∙ after (less (line_length input) (length input) l)
            ∙ rw (
              cut_more most kept c (first input),
              suc-add used (suc (line_length input)),
              add-suc used (suc (line_length input)),
            )
          where
            less : (a b : ℕ) → suc a < suc b → a < b
            less a b e = omega arith

  -- no room for another text
  pub no_room : (room : ℕ) (p : Progress S) (input : List ℕ) → room < length p.written + way.text_most
      → stream_from way room p input ≡ p
  unfolding stream_from
  no_room room p [] h = refl
  no_room room p (c ∷ input) h = rw (lt-leb (length p.written + way.text_most) room h)
