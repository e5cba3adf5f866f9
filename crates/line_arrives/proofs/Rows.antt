-- Assumes nothing. The numbers of a reply, read back from its bytes:
-- the times from byte 4 on, the jerks from byte 116 on, and the verdict in byte 0.
use mathlib.Core.Path.{◌≡◌, refl, sym, ap, ◌∙◌, subst}
use mathlib.Core.Bool.{Bool, true, false, cond}
use mathlib.Core.List.{List, [], ◌∷◌, ◌++◌, append_assoc}
use Prim.Native.Nat.{ℕ, zero, suc, ◌+◌, ◌*◌, ◌<◌}
use native.Mathlib.Nat.{not-suc-le-zero, le_of_suc-le-suc}
use native.Mathlib.Omega.{arith}
use lib.Dec.{T}
use lib.ListN.{length, get_or, length-append}
use lib.Seq.{get_or-append_seam, get_or-append-add}
use lib.Ieee.{Float, nan, binary64, fits, of_bits}
use Rattle.number_bytes.specs.Bytes.{word_of, number_bytes_of}
use Rattle.number_bytes.proofs.Eight.{number-back}
use Rattle.profile.specs.Parts.{labels_of}
use Rattle.profile.specs.declared.Profile.{Profile}
use Rattle.profile.specs.declared.Checked.{Checked}
use Rattle.line_frame.specs.Frame.{byte_at, word_at, number_at}
use Rattle.line_reply.proofs.Rows.{length-numbers}
use Rattle.line_reply.specs.Reply.{numbers_bytes, head_of, rows_of, reply_bytes_of}

-- ---- one number among bytes
module _ (before : List ℕ) (a b c d e f g h : ℕ) (after : List ℕ) where
  abbrev among : List ℕ
  among = before ++ (a ∷ b ∷ c ∷ d ∷ e ∷ f ∷ g ∷ h ∷ after)

  word_among : word_at (byte_at among) (length before) ≡ word_of (a ∷ b ∷ c ∷ d ∷ e ∷ f ∷ g ∷ h ∷ [])
  unfolding word_at
  word_among =
      let l = a ∷ b ∷ c ∷ d ∷ e ∷ f ∷ g ∷ h ∷ after in
      rw (
        get_or-append_seam before a (b ∷ c ∷ d ∷ e ∷ f ∷ g ∷ h ∷ after) 0,
        get_or-append-add before l 1 0,
        get_or-append-add before l 2 0,
        get_or-append-add before l 3 0,
        get_or-append-add before l 4 0,
        get_or-append-add before l 5 0,
        get_or-append-add before l 6 0,
        get_or-append-add before l 7 0,
      )

number_among : (before : List ℕ) (x : Float) (after : List ℕ) → T (fits binary64 x)
    → number_at (byte_at (before ++ (number_bytes_of x ++ after))) (length before) ≡ x
number_among before x after h = ap (of_bits binary64) (word_among before _ _ _ _ _ _ _ _ after) ∙ number-back x h

-- ---- a number of a row
next_place : (n i : ℕ) → n + 8 + 8 * i ≡ n + 8 * suc i
next_place n i = omega arith

first-place : (n : ℕ) → n ≡ n + 8 * 0
first-place n = omega arith

pub row_back : (before : List ℕ) (n : ℕ) → length before ≡ n → (xs : List Float) (after : List ℕ) (i : ℕ)
    → i < length xs → T (fits binary64 (get_or xs i nan))
    → number_at (byte_at (before ++ (numbers_bytes xs ++ after))) (n + 8 * i) ≡ get_or xs i nan
row_back before n e [] after i l f = absurd (not-suc-le-zero l)
row_back before n e (x ∷ xs) after zero l f =
    subst (λ (k : ℕ). number_at (byte_at (before ++ (number_bytes_of x ++ numbers_bytes xs ++ after))) k ≡ x)
    (e ∙ first-place n)
    (subst (λ (r : List ℕ). number_at (byte_at (before ++ r)) (length before) ≡ x)
    (sym (append_assoc (number_bytes_of x) (numbers_bytes xs) after))
    (number_among before x (numbers_bytes xs ++ after) f))
row_back before n e (x ∷ xs) after (suc i) l f =
    subst (λ (k : ℕ). number_at
    (byte_at (before ++ (number_bytes_of x ++ numbers_bytes xs ++ after))) k ≡ get_or xs i nan)
    (next_place n i)
    (subst (λ (r : List ℕ). number_at (byte_at r) (n + 8 + 8 * i) ≡ get_or xs i nan) moved
    (row_back (before ++ number_bytes_of x) (n + 8)
    (length-append before (number_bytes_of x) ∙ ap (λ (k : ℕ). k + 8) e) xs
    after i (le_of_suc-le-suc l) f))
  where
    moved : before ++ number_bytes_of x ++ (numbers_bytes xs ++ after)
        ≡ before ++ (number_bytes_of x ++ numbers_bytes xs ++ after)
    moved = append_assoc before (number_bytes_of x) (numbers_bytes xs ++ after)
        ∙ ap (λ (r : List ℕ). before ++ r) (sym (append_assoc (number_bytes_of x) (numbers_bytes xs) after))

-- ---- the reply
module _ (h t s j a v p rest : List ℕ) where
  -- six rows after a head, seen from the first and from the third
  from_first : h ++ (t ++ s ++ j ++ a ++ v ++ p) ++ rest ≡ h ++ (t ++ (s ++ j ++ a ++ v ++ p ++ rest))
  from_first = simp (append_assoc)

  from-third : h ++ (t ++ s ++ j ++ a ++ v ++ p) ++ rest ≡ h ++ t ++ s ++ (j ++ (a ++ v ++ p ++ rest))
  from-third = simp (append_assoc)

-- the same rows as numbers, after a head of four bytes
module _ (h : List ℕ) (t s j a v p : List Float) (rest : List ℕ) (four : length h ≡ 4) where
  abbrev all : List ℕ
  all = h ++ (numbers_bytes t ++ numbers_bytes s ++ numbers_bytes j ++ numbers_bytes a ++ numbers_bytes v
      ++ numbers_bytes p)
      ++ rest

  first-row : (i : ℕ) → i < length t → T (fits binary64 (get_or t i nan))
      → number_at (byte_at all) (4 + 8 * i) ≡ get_or t i nan
  first-row i l f =
      subst (λ (r : List ℕ). number_at (byte_at r) (4 + 8 * i) ≡ get_or t i nan)
      (sym (from_first h (numbers_bytes t) (numbers_bytes s) (numbers_bytes j) (numbers_bytes a) (numbers_bytes v)
      (numbers_bytes p) rest))
      (row_back h 4 four t
      (numbers_bytes s ++ numbers_bytes j ++ numbers_bytes a ++ numbers_bytes v ++ numbers_bytes p ++ rest) i l f)

  before_third : length t ≡ 7 → length s ≡ 7 → length (h ++ numbers_bytes t ++ numbers_bytes s) ≡ 116
  before_third e g =
      length-append (h ++ numbers_bytes t) (numbers_bytes s)
      ∙ ap (λ (k : ℕ). k + length (numbers_bytes s)) (length-append h (numbers_bytes t))
      ∙ rw (four, length-numbers t, length-numbers s, e, g)

  third-row : length t ≡ 7 → length s ≡ 7 → (i : ℕ) → i < length j → T (fits binary64 (get_or j i nan))
      → number_at (byte_at all) (116 + 8 * i) ≡ get_or j i nan
  third-row e g i l f =
      subst (λ (r : List ℕ). number_at (byte_at r) (116 + 8 * i) ≡ get_or j i nan)
      (sym (from-third h (numbers_bytes t) (numbers_bytes s) (numbers_bytes j) (numbers_bytes a) (numbers_bytes v)
      (numbers_bytes p) rest))
      (row_back (h ++ numbers_bytes t ++ numbers_bytes s) 116 (before_third e g) j
      (numbers_bytes a ++ numbers_bytes v ++ numbers_bytes p ++ rest) i l f)

module _ (c : Checked) (rest : List ℕ) where
  abbrev q : Profile
  q = c.profile

  pub verdict_back : byte_at (reply_bytes_of c ++ rest) 0 ≡ 1 → c.ok ≡ true
  unfolding reply_bytes_of head_of
  verdict_back e = by c.ok e
    where
      by : (b : Bool) → ◌≡◌ {A = ℕ} (cond b 1 0) 1 → b ≡ true
      by true e = refl
      by false e = absurd (omega arith)

  pub time-back : (i : ℕ) → i < length q.t → T (fits binary64 (get_or q.t i nan))
      → number_at (byte_at (reply_bytes_of c ++ rest)) (4 + 8 * i) ≡ get_or q.t i nan
  unfolding reply_bytes_of head_of rows_of
  time-back i l f =
      first-row (head_of (record { ok = c.ok; labels = labels_of q })) q.t q.t_sum q.j q.a q.v q.p
      rest refl i l f

  pub jerk-back : length q.t ≡ 7 → length q.t_sum ≡ 7 → (i : ℕ) → i < length q.j
      → T (fits binary64 (get_or q.j i nan))
      → number_at (byte_at (reply_bytes_of c ++ rest)) (116 + 8 * i) ≡ get_or q.j i nan
  unfolding reply_bytes_of head_of rows_of
  jerk-back e g i l f =
      third-row (head_of (record { ok = c.ok; labels = labels_of q })) q.t q.t_sum q.j q.a q.v q.p
      rest refl e g i l f
