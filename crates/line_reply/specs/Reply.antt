-- The replies: of kinds 00 to 05 and 08 the verdict and the whole record, in 364 bytes; of kinds 11 to 15 the same with
-- count and cause, in 366; of kinds 06 and 07 two quartics, in 114. Definitions only.
use Rattle.std.specs.Prelude.{true, false, cond, List, [], ◌∷◌, ◌++◌, ℕ, leb, length, get_or, Float}
use Rattle.std.specs.Float.{nan}
use Rattle.hex_bytes.specs.Hex.{Filled, hex_of, fill}
use Rattle.number_bytes.specs.Bytes.{number_bytes_of}
use Rattle.labels.specs.Labels.{label_number_of, direction_number_of, signs_number_of}
use Rattle.labels.specs.Causes.{cause_number_of}
use Rattle.row.specs.Row.{Numbers}
use Rattle.profile.specs.Parts.{numbers_of, labels_of}
use Rattle.profile.specs.declared.in_place.Verdict.{Verdict}
use Rattle.profile.specs.declared.Checked.{Checked}
use Rattle.roots.specs.Quartic.{need_of, need_number_of, resolvent_of}

-- numbers one after the other, eight bytes each
abbrev pub numbers_bytes : List Float → List ℕ
numbers_bytes [] = []
numbers_bytes (x ∷ xs) = number_bytes_of x ++ numbers_bytes xs

-- verdict (1 yes), label, direction, signs
unfoldable pub head_of : Verdict → List ℕ
head_of r =
    let l = r.labels in
    cond r.ok 1 0 ∷ label_number_of l.limits ∷ direction_number_of l.direction ∷ signs_number_of l.control_signs ∷ []

-- t, t_sum, j (7 each), a, v, p (8 each)
unfoldable pub rows_of : Numbers → List ℕ
rows_of n =
    numbers_bytes n.t
    ++ numbers_bytes n.t_sum
    ++ numbers_bytes n.j
    ++ numbers_bytes n.nodes.a
    ++ numbers_bytes n.nodes.v
    ++ numbers_bytes n.nodes.p

unfoldable pub reply_bytes_of : Checked → List ℕ
reply_bytes_of c =
    let q = c.profile in
    head_of (record { ok = c.ok; labels = labels_of q }) ++ rows_of (numbers_of q)

-- and after it the count of the calls of `check` and the cause of the last one
unfoldable pub causes_bytes_of : Checked → List ℕ
causes_bytes_of c = let q = c.profile in reply_bytes_of c ++ (q.calls ∷ cause_number_of q.cause ∷ [])

-- for x⁴ + a x³ + b x² + c x + d: the need, a b c d, and the resolvent's three arguments
unfoldable pub quartic_bytes_of : Float → Float → Float → Float → List ℕ
quartic_bytes_of a b c d =
    let r = resolvent_of a b c d in
    need_number_of (need_of a b c d) ∷ numbers_bytes (a ∷ b ∷ c ∷ d ∷ r.x0 ∷ r.x1 ∷ r.x2 ∷ [])

-- the same, of four coefficients
abbrev pub quartic_bytes : List Float → List ℕ
quartic_bytes p = quartic_bytes_of (get_or p 0 nan) (get_or p 1 nan) (get_or p 2 nan) (get_or p 3 nan)

-- A reply of n characters goes into the first lent places; where these are fewer than n the answer is no, and they stay
-- as they came.
unfoldable pub written_of : ℕ → List ℕ → List ℕ → Filled
written_of n bytes lent =
    cond (leb n (length lent)) (record { ok = true; left = fill (hex_of bytes) lent })
    (record { ok = false; left = lent })
