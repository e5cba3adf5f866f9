-- Assumes nothing. The ways out of the line entry: what `outcome_of` is, from what each of
-- its parts says on the way there.
use mathlib.Core.Path.{◌≡◌, refl, ap, sym, ◌∙◌, fun_ext}
use mathlib.Core.Bool.{Bool, true, false, ◌&&◌}
use mathlib.Core.List.{List, [], ◌∷◌, ◌++◌}
use Prim.Native.Nat.{ℕ, zero, suc, ◌+◌, ◌*◌, ◌/◌, ◌%◌, ◌≤◌}
use native.Mathlib.Omega.{arith}
use lib.Dec.{eqb, leb}
use lib.ListN.{length, get_or, drop, replicate, length-replicate}
use lib.Seq.{get_or-drop}
use borrow.Author.Tests.{eq-eqb, ne_eqb, le-ltb, eqb-true, leb-true}
use Rattle.std.specs.Prelude.{Option, Some, None, Result, Ok, Err}
use Rattle.std.specs.Result.{result_and}
use Rattle.hex_bytes.proofs.Digits.{and_left, and_right}
use Rattle.hex_bytes.specs.Hex.{Filled, all_digits_of, bytes_of, fill, decode_of}
use Rattle.line_kinds.specs.declared.Row.{Row}
use Rattle.line_kinds.specs.Kinds.{frame_most, line_most, row_of}
use Rattle.line_kinds.specs.declared.refusals.Refusal.{Refusal}
use Rattle.line_kinds.specs.Refusals.{number_of}
use Rattle.line_kinds.proofs.Numbers.{not_0}
use Rattle.line_kinds.proofs.Rows.{sound}
use Rattle.line_frame.specs.Frame.{Frame, byte_at}
use Rattle.line_questions.specs.Questions.{Question, ask, length_fits_of, bytes_fit}
use Rattle.line_questions.specs.Questions.{line_questions_of, questions_of}
use Rattle.line_questions.specs.Questions.{AllYes}
use Rattle.line_questions.proofs.Asked.{past}
use Rattle.line_answers.specs.FrameAnswer.{replied_of, frame_answer_of}
use Rattle.lines.specs.Answer.{answer_of, filled_of, outcome_of}
use Rattle.line_answers.proofs.Replies.{refused}

-- ---- a frame in its array, zeros after it
zeros_at : (n i : ℕ) → ◌≡◌ {A = ℕ} (get_or (replicate n 0) i 0) 0
zeros_at zero i = refl
zeros_at (suc n) zero = refl
zeros_at (suc n) (suc i) = zeros_at n i

behind : (xs ys : List ℕ) (i : ℕ) → ((k : ℕ) → get_or ys k 0 ≡ 0) → get_or (xs ++ ys) i 0 ≡ get_or xs i 0
behind [] ys i h = h i
behind (x ∷ xs) ys zero h = refl
behind (x ∷ xs) ys (suc i) h = behind xs ys i h

pub frame_at : (xs : List ℕ) (n : ℕ) → byte_at (fill xs (replicate n 0)) ≡ byte_at xs
frame_at xs n =
    fun_ext
    (λ i. behind xs (drop (length xs) (replicate n 0)) i
    (λ k. get_or-drop (length xs) (replicate n 0) k 0 ∙ zeros_at n (length xs + k)))

-- ---- the count of characters
module _ (n : ℕ) (h : length_fits_of n ≡ true) where
  even : n % 2 ≡ 0
  even =
      eqb-true (n % 2) 0
      (and_left (eqb (n % 2) 0) (leb 2 n) (and_left (eqb (n % 2) 0 && leb 2 n) (leb n line_most) h))

  most : n ≤ line_most
  most = leb-true n line_most (and_right (eqb (n % 2) 0 && leb 2 n) (leb n line_most) h)

-- the bytes of a line are half its characters
pairs : (line : List ℕ) → (2 * length (bytes_of line) ≤ length line) × (length line ≤ 2 * length (bytes_of line) + 1)
pairs [] = (omega arith, omega arith)
pairs (a ∷ []) = (omega arith, omega arith)
pairs (a ∷ b ∷ line) = let h = pairs line in (omega arith, omega arith)

half : (line : List ℕ) → length line / 2 ≡ length (bytes_of line)
half line = let h = pairs line in omega arith

-- ---- the ways out
module _ (line lent : List ℕ) where
  abbrev at : Frame
  at = byte_at (bytes_of line)

  abbrev row : Option Row
  row = row_of (at 0)

  -- after a number nothing is filled
  numbered : (n : ℕ) → record { number = n; places = lent } ≡ answer_of line lent → (n ≡ 0 → ⊥)
      → record { number = n; filled = 0; places = lent } ≡ outcome_of line lent
  unfolding outcome_of
  numbered n e z = rw (← e, ne_eqb n 0 z)

  pub first : length_fits_of (length line) ≡ false
      → record { number = 1; filled = 0; places = lent } ≡ outcome_of line lent
  unfolding answer_of
  first h = numbered 1 (refused _ lent [] 1 _ tt h (λ e. omega arith)) (λ e. omega arith)

  module _ (h1 : length_fits_of (length line) ≡ true) {ok : Bool} {bytes : List ℕ}
      (e : record { ok = ok; left = bytes } ≡ decode_of line (replicate frame_most 0)) where
    decoded : ◌≡◌ {A = Filled} (record { ok = ok; left = bytes })
        (record { ok = all_digits_of line; left = fill (bytes_of line) (replicate frame_most 0) })
    unfolding decode_of
    decoded =
        let o : length line % 2 ≡ 1 → ⊥ = λ x. odd (length line % 2) (even (length line) h1) x in
        let m : length line / 2 ≤ length {A = ℕ} (replicate frame_most 0) =
        room (length line) (most (length line) h1) in
        e ∙ rw (ne_eqb (length line % 2) 1 o, le-ltb (length {A = ℕ} (replicate frame_most 0)) (length line / 2) m)
      where
        odd : (n : ℕ) → n ≡ 0 → n ≡ 1 → ⊥
        odd n a b = omega arith

        room : (n : ℕ) → n ≤ line_most → n / 2 ≤ length {A = ℕ} (replicate frame_most 0)
        room n l = rw (length-replicate {A = ℕ} frame_most 0) (omega arith)

    pub second : ok ≡ false → record { number = 2; filled = 0; places = lent } ≡ outcome_of line lent
    unfolding answer_of
    second k =
        numbered 2
        (refused _ lent (ask 1 (length_fits_of (length line)) ∷ []) 2 _ (h1, tt) (sym (ap (λ x. x.ok) decoded) ∙ k)
        (λ e. omega arith))
        (λ e. omega arith)

    pub frame_is : byte_at bytes ≡ at
    frame_is = rw (ap (λ x. x.left) decoded) (frame_at (bytes_of line) frame_most)

    module _ (h2 : ok ≡ true) where
      row_is : {o : Option Row} → o ≡ row_of (byte_at bytes 0) → row ≡ o
      row_is e = sym (e ∙ ap (λ (f : Frame). row_of (f 0)) frame_is)

      digits : all_digits_of line ≡ true
      digits = sym (ap (λ x. x.ok) decoded) ∙ h2

      pub third : None ≡ row_of (byte_at bytes 0)
          → record { number = 3; filled = 0; places = lent } ≡ outcome_of line lent
      unfolding answer_of
      third e =
          numbered 3
          (refused _ lent (ask 1 (length_fits_of (length line)) ∷ ask 2 (all_digits_of line) ∷ []) 3 _
          (h1, (digits, tt)) (rw (row_is e)) (λ e. omega arith))
          (λ e. omega arith)

      module _ {r : Row} (h3 : Some r ≡ row_of (byte_at bytes 0)) where
        known : row ≡ Some r
        known = row_is h3

        -- the questions of any line, and the length
        abbrev asked : List Question
        asked = line_questions_of line (Some r) ++ (ask 4 (bytes_fit (length (bytes_of line)) r) ∷ [])

        pub fourth : (length line / 2 ≡ r.bytes → ⊥)
            → record { number = 4; filled = 0; places = lent } ≡ outcome_of line lent
        unfolding answer_of
        fourth d =
            numbered 4
            (rw known
            (refused _ lent (line_questions_of line (Some r)) 4 _ (h1, (digits, (refl, tt)))
            (rw (← half line, ne_eqb (length line / 2) r.bytes d)) (λ e. omega arith)))
            (λ e. omega arith)

        module _ (h4 : length line / 2 ≡ r.bytes) {n : ℕ} {reply : List ℕ}
            (ea : record { number = n; places = reply } ≡ frame_answer_of r.asks (byte_at bytes) lent) where
          passed : AllYes asked
          passed = (h1, (digits, (refl, (rw (← half line, eq-eqb (length line / 2) r.bytes h4), tt))))

          -- the frame's answer is the line's
          answer_is : record { number = n; places = reply } ≡ answer_of line lent
          unfolding answer_of frame_answer_of replied_of
          answer_is =
              ea
              ∙ rw (
                frame_is,
                known,
                ← (sound (at 0) known).0,
                past asked (questions_of r.asks at ++ (ask 8 (leb r.places (length lent)) ∷ [])) passed,
              )

          pub later : (n ≡ 0 → ⊥) → record { number = n; filled = 0; places = reply } ≡ outcome_of line lent
          unfolding outcome_of
          later z = rw (← answer_is, ne_eqb n 0 z)

          pub all : n ≡ 0 → record { number = 0; filled = r.places; places = reply } ≡ outcome_of line lent
          unfolding outcome_of
          all z = rw (← answer_is, z, known)

        pub ends : length line / 2 ≡ r.bytes → {reply : List ℕ} (a : Result (Unit {0}) Refusal)
            → record { number = number_of a; places = reply } ≡ frame_answer_of r.asks (byte_at bytes) lent
            → let end : Result ℕ Refusal = result_and a (Ok r.places) in
            record { number = number_of end; filled = filled_of end; places = reply } ≡ outcome_of line lent
        ends h4 (Ok x) ea = all h4 ea refl
        ends h4 (Err refusal) ea = later h4 ea (not_0 refusal)
