-- Every entry of a reply is a byte, so every one of its characters is a digit. Assumes nothing.
use mathlib.Core.Path.{◌≡◌}
use mathlib.Core.Bool.{Bool, true, false, cond}
use mathlib.Core.List.{List, [], ◌∷◌, ◌++◌}
use Prim.Native.Nat.{ℕ, zero, suc, ◌%◌, ◌<◌}
use native.Mathlib.Omega.{arith}
use lib.Dec.{lit≤}
use lib.ListN.{get_or}
use lib.Ieee.{Float, nan, binary64, to_bits}
use Rattle.hex_bytes.specs.Hex.{all_digits_of, hex_of}
use Rattle.hex_bytes.proofs.Laws.{all_digits}
use Rattle.number_bytes.specs.Bytes.{word_bytes, number_bytes_of}
use Rattle.labels.specs.Labels.{label_number_of, direction_number_of, signs_number_of}
use Rattle.labels.specs.declared.ReachedLimits.{ReachedLimits}
use Rattle.labels.specs.declared.ReachedLimits.TheVariants.{Acc0Acc1Vel, Vel, Acc0, Acc1, Acc0Acc1, Acc0Vel, Acc1Vel}
use Rattle.labels.specs.declared.ReachedLimits.TheVariants.{None}
use Rattle.labels.specs.declared.Direction.{Direction}
use Rattle.labels.specs.declared.Direction.TheVariants.{UP, DOWN}
use Rattle.labels.specs.declared.ControlSigns.{ControlSigns}
use Rattle.labels.specs.declared.ControlSigns.TheVariants.{UDDU, UDUD}
use Rattle.labels.specs.declared.causes.Cause.{Cause}
use Rattle.labels.specs.declared.causes.Cause.TheVariants.{Yes, NegativeTime, T3, T1, T5, Total, VelocityAtZero}
use Rattle.labels.specs.declared.causes.Cause.TheVariants.{EndPosition, EndVelocity, EndAcceleration}
use Rattle.labels.specs.declared.causes.Cause.TheVariants.{AccelerationLimit, VelocityLimit, NoCall, NoRoot}
use Rattle.labels.specs.Causes.{cause_number_of}
use Rattle.row.specs.Row.{Numbers}
use Rattle.profile.specs.declared.Checked.{Checked}
use Rattle.profile.specs.Parts.{numbers_of}
use Rattle.roots.specs.declared.Need.{Need}
use Rattle.roots.specs.declared.Need.TheVariants.{Nothing, Cube, Resolvent}
use Rattle.roots.specs.Quartic.{need_of, need_number_of, resolvent_of}
use Rattle.line_frame.specs.Frame.{Frame}
use Rattle.line_reply.specs.Reply.{numbers_bytes, head_of, rows_of, reply_bytes_of, causes_bytes_of}
use Rattle.line_reply.specs.Reply.{quartic_bytes_of, quartic_bytes}
use Rattle.step2_solver.specs.declared.Shape.{Shape}
use Rattle.line_questions.specs.Questions.{quartics_at}
use Rattle.line_answers.specs.QuarticLine.{both_bytes, quartic_line_of}

-- every one of a list is a byte
abbrev pub Bytes : List ℕ → Type 0
Bytes [] = Unit {0}
Bytes (b ∷ bs) = (b < 256) × Bytes bs

pub bytes_append : (xs ys : List ℕ) → Bytes xs → Bytes ys → Bytes (xs ++ ys)
bytes_append [] ys h k = k
bytes_append (x ∷ xs) ys h k = (h.0, bytes_append xs ys h.1 k)

pub bytes_digits : (bytes : List ℕ) → Bytes bytes → all_digits_of (hex_of bytes) ≡ true
bytes_digits bytes h = all_digits bytes (each bytes h)
  where
    each : (bytes : List ℕ) → Bytes bytes → (i : ℕ) → get_or bytes i 0 < 256
    each [] h i = lit≤ tt
    each (b ∷ bytes) h zero = h.0
    each (b ∷ bytes) h (suc i) = each bytes h.1 i

-- ---- numbers, eight bytes each
rest_lt : (w : ℕ) → w % 256 < 256
rest_lt w = omega arith

word_are_bytes : (w : ℕ) → Bytes (word_bytes w)
word_are_bytes w =
    (rest_lt _, (rest_lt _, (rest_lt _, (rest_lt _, (rest_lt _, (rest_lt _, (rest_lt _, (rest_lt _, tt))))))))

numbers_are_bytes : (xs : List Float) → Bytes (numbers_bytes xs)
numbers_are_bytes [] = tt
numbers_are_bytes (x ∷ xs) =
    bytes_append (number_bytes_of x) (numbers_bytes xs) (word_are_bytes (to_bits binary64 x)) (numbers_are_bytes xs)

-- ---- the single bytes
verdict_lt : (b : Bool) → cond b 1 0 < 256
verdict_lt true = lit≤ tt
verdict_lt false = lit≤ tt

label-lt : (l : ReachedLimits) → label_number_of l < 256
label-lt Acc0Acc1Vel = lit≤ tt
label-lt Vel = lit≤ tt
label-lt Acc0 = lit≤ tt
label-lt Acc1 = lit≤ tt
label-lt Acc0Acc1 = lit≤ tt
label-lt Acc0Vel = lit≤ tt
label-lt Acc1Vel = lit≤ tt
label-lt None = lit≤ tt

direction_lt : (d : Direction) → direction_number_of d < 256
direction_lt UP = lit≤ tt
direction_lt DOWN = lit≤ tt

signs-lt : (c : ControlSigns) → signs_number_of c < 256
signs-lt UDDU = lit≤ tt
signs-lt UDUD = lit≤ tt

cause-lt : (c : Cause) → cause_number_of c < 256
cause-lt Yes = lit≤ tt
cause-lt NegativeTime = lit≤ tt
cause-lt T3 = lit≤ tt
cause-lt T1 = lit≤ tt
cause-lt T5 = lit≤ tt
cause-lt Total = lit≤ tt
cause-lt VelocityAtZero = lit≤ tt
cause-lt EndPosition = lit≤ tt
cause-lt EndVelocity = lit≤ tt
cause-lt EndAcceleration = lit≤ tt
cause-lt AccelerationLimit = lit≤ tt
cause-lt VelocityLimit = lit≤ tt
cause-lt NoCall = lit≤ tt
cause-lt NoRoot = lit≤ tt

need_lt : (n : Need) → need_number_of n < 256
need_lt Nothing = lit≤ tt
need_lt Cube = lit≤ tt
need_lt Resolvent = lit≤ tt

-- ---- kinds 00 to 05 and 08: the head and six rows
rows : (n : Numbers) → Bytes (rows_of n)
unfolding rows_of
rows n =
    let t = n.t in let s = n.t_sum in let j = n.j in let a = n.nodes.a in let v = n.nodes.v in
    let ts = numbers_bytes t ++ numbers_bytes s in
    let tsj = ts ++ numbers_bytes j in
    let tsja = tsj ++ numbers_bytes a in
    and (tsja ++ numbers_bytes v) n.nodes.p
    (and tsja v (and tsj a (and ts j (and (numbers_bytes t) s (numbers_are_bytes t)))))
  where
    and : (xs : List ℕ) (row : List Float) → Bytes xs → Bytes (xs ++ numbers_bytes row)
    and xs row h = bytes_append xs (numbers_bytes row) h (numbers_are_bytes row)

pub reply_bytes : (c : Checked) → Bytes (reply_bytes_of c)
unfolding reply_bytes_of head_of
reply_bytes c =
    let q = c.profile in (
      verdict_lt c.ok,
      (
        label-lt q.limits,
        (
          direction_lt q.direction,
          (signs-lt q.control_signs, rows (numbers_of q)),
        ),
      ),
    )

-- kinds 11 to 15: and count and cause
pub causes_bytes : (c : Checked) → c.profile.calls < 256 → Bytes (causes_bytes_of c)
unfolding causes_bytes_of
causes_bytes c h = bytes_append (reply_bytes_of c) _ (reply_bytes c) (h, (cause-lt c.profile.cause, tt))

-- ---- kinds 06 and 07: two quartics
quartic : (a b c d : Float) → Bytes (quartic_bytes_of a b c d)
unfolding quartic_bytes_of
quartic a b c d =
    let r = resolvent_of a b c d in
    (need_lt (need_of a b c d), numbers_are_bytes (a ∷ b ∷ c ∷ d ∷ r.x0 ∷ r.x1 ∷ r.x2 ∷ []))

of_list : (p : List Float) → Bytes (quartic_bytes p)
of_list p = quartic (get_or p 0 nan) (get_or p 1 nan) (get_or p 2 nan) (get_or p 3 nan)

pub quartics_bytes : (shape : Shape) (at : Frame) → Bytes (quartic_line_of shape at)
unfolding both_bytes
quartics_bytes shape at =
    let q = quartics_at shape at in
    bytes_append (quartic_bytes q.uddu) (quartic_bytes q.udud) (of_list q.uddu) (of_list q.udud)
