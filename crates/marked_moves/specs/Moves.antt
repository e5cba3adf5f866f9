-- The moves that documents 01 and 02 work through, as rows of one table: each move is a line, and its row says what the
-- line entry answers. The root of 2 and the quartic are no lines: their rows are of `sqrt_of`, `roots_of` and
-- `sorted_of`.
-- Definitions only.
use Rattle.std.specs.Prelude.{Bool, true, false, ◌&&◌, List, [], ◌∷◌, ◌++◌, ℕ, ◌+◌, ◌*◌, eqb, replicate, Float}
use Rattle.std.specs.Float.{nan, binary64}
use Rattle.std.specs.Float.Ieee.{of_bits, to_bits, neg}
use Rattle.float.specs.Ops.{#0, #1, #2, #3, #4, #6, #8, #9, #1e12}
use Rattle.sqrt.specs.Sqrt.{sqrt_of}
use Rattle.roots.specs.declared.RootAnswer.TheVariants.{CubeRoot}
use Rattle.positive_set.specs.Set.{sorted_of}
use Rattle.roots.specs.Quartic.{roots_of}
use Rattle.hex_bytes.specs.Hex.{bytes_of, hex_of}
use Rattle.line_kinds.specs.Kinds.{record_places, reply_most}
use Rattle.line_frame.specs.Frame.{byte_at, number_at, numbers_at}
use Rattle.line_reply.specs.Reply.{numbers_bytes}
use Rattle.line_answers.specs.FrameAnswer.{Answer}
use Rattle.lines.specs.Answer.{answer_of}

-- two numbers are the same, all NaNs being one
abbrev same : Float → Float → Bool
same x y = eqb (to_bits binary64 x) (to_bits binary64 y)

abbrev all_same : List Float → List Float → Bool
all_same [] [] = true
all_same [] (y ∷ ys) = false
all_same (x ∷ xs) [] = false
all_same (x ∷ xs) (y ∷ ys) = same x y && all_same xs ys

-- two lists of characters or places are the same
abbrev all_equal : List ℕ → List ℕ → Bool
all_equal [] [] = true
all_equal [] (y ∷ ys) = false
all_equal (x ∷ xs) [] = false
all_equal (x ∷ xs) (y ∷ ys) = eqb x y && all_equal xs ys

-- literals that the Rust does not have
abbrev #1½ : Float
#1½ = of_bits binary64 0x3FF8_0000_0000_0000

abbrev #1¼ : Float
#1¼ = of_bits binary64 0x3FF4_0000_0000_0000

abbrev #7 : Float
#7 = of_bits binary64 0x401C_0000_0000_0000

abbrev #2·00000002 : Float
#2·00000002 = of_bits binary64 0x4000_0000_02AF_31DC

-- the f64 after 1e12, and -2 ^ -1074
abbrev after_1e12 : Float
after_1e12 = of_bits binary64 0x426D_1A94_A200_0001

abbrev least_negative : Float
least_negative = of_bits binary64 0x8000_0000_0000_0001

-- ---- lines
-- the answer to a frame, where the places of the longest reply are lent
abbrev answered : List ℕ → Answer
answered frame = answer_of (hex_of frame) (replicate reply_most 0)

-- Kind 00, with set_limits 0: the start is at rest in 0 but for a0, jf is 1, af is 0, the limits are plus and minus v
-- and a.
abbrev checked : (signs label : ℕ) (t : List Float) (a0 pf vf v a : Float) → Answer
checked signs label t a0 pf vf v a =
    answered
    (0x00 ∷ signs ∷ label ∷ 0 ∷ numbers_bytes (t ++ (#0 ∷ #0 ∷ a0 ∷ pf ∷ vf ∷ #0 ∷ #1 ∷ v ∷ neg v ∷ a ∷ neg a ∷ [])))

-- Kinds 01, 04 and 08, from rest in 0 to rest in pf: j_max is 1, the limits are plus and minus v and a.
abbrev moved : (kind : ℕ) (tf pf v a : Float) → Answer
moved kind tf pf v a =
    answered (kind ∷ numbers_bytes (tf ∷ #0 ∷ #0 ∷ #0 ∷ pf ∷ #0 ∷ #0 ∷ v ∷ neg v ∷ a ∷ neg a ∷ #1 ∷ []))

-- document 01's numbers
abbrev UDDU : ℕ
UDDU = 0

abbrev UDUD : ℕ
UDUD = 1

abbrev Vel : ℕ
Vel = 1

abbrev None : ℕ
None = 7

abbrev rest : List Float
rest = #0 ∷ #0 ∷ #0 ∷ #0 ∷ #0 ∷ #0 ∷ #0 ∷ []

abbrev third : Float → List Float
third x = #0 ∷ #0 ∷ #0 ∷ x ∷ #0 ∷ #0 ∷ #0 ∷ []

abbrev last : Float → List Float
last x = #0 ∷ #0 ∷ #0 ∷ #0 ∷ #0 ∷ #0 ∷ x ∷ []

abbrev every_other : List Float
every_other = #1 ∷ #0 ∷ #1 ∷ #0 ∷ #1 ∷ #0 ∷ #1 ∷ []

abbrev ones : List Float
ones = #1 ∷ #1 ∷ #1 ∷ #1 ∷ #1 ∷ #1 ∷ #1 ∷ []

-- UDDU, limits 9, all else 0
abbrev at_rest : (label : ℕ) (t : List Float) (a0 : Float) → Answer
at_rest label t a0 = checked UDDU label t a0 #0 #0 #9 #9

abbrev there : (signs : ℕ) (pf vf v a : Float) → Answer
there signs pf vf v a = checked signs None every_other #0 pf vf v a

-- ---- replies: the line is accepted, and the verdict's byte is 1 or 0
abbrev says : ℕ → Answer → Bool
says verdict answer = eqb answer.number 0 && eqb (byte_at (bytes_of answer.places) 0) verdict

abbrev yes : Answer → Bool
yes = says 1

abbrev no : Answer → Bool
no = says 0

abbrev times : Answer → List Float
times answer = numbers_at (byte_at (bytes_of answer.places)) 4 7

-- a[i] stands after t, t_sum and j
abbrev acceleration : ℕ → Answer → Float
acceleration i answer = number_at (byte_at (bytes_of answer.places)) (172 + 8 * i)

-- ---- the table
unfoldable pub table : List Bool
table =
    -- as it is; with label Vel
    yes (at_rest None rest #0)
    ∷ no (at_rest Vel rest #0)
    -- t = 1 0 1 0 1 0 1, pf 2, limits 1; same, pf 2.00000002
    ∷ yes (there UDDU #2 #0 #1 #1)
    ∷ no (there UDDU #2·00000002 #0 #1 #1)
    -- same t, UDUD, pf 4, vf 2, v 1.5; v 1.25
    ∷ yes (there UDUD #4 #2 #1½ #9)
    ∷ no (there UDUD #4 #2 #1¼ #9)
    -- t[3] = 1e12; the next f64
    ∷ yes (at_rest None (third #1e12) #0)
    ∷ no (at_rest None (third after_1e12) #0)
    -- t[0] NaN
    ∷ no (at_rest None (nan ∷ #0 ∷ #0 ∷ #0 ∷ #0 ∷ #0 ∷ #0 ∷ []) #0)
    -- t[6] = -0; -2 ^ -1074
    ∷ yes (at_rest None (last (neg #0)) #0)
    ∷ no (at_rest None (last least_negative) #0)
    -- t[3] = 1, a0 = 1, Vel: yes, a[3] replaced
    ∷ yes (at_rest Vel (third #1) #1)
    ∷ same (acceleration 3 (at_rest Vel (third #1) #1)) #0
    -- kind 01, tf 7, pf 8, v 2, a 1, j_max 1: yes, all times 1; same, v 1.5
    ∷ yes (moved 0x01 #7 #8 #2 #1)
    ∷ all_same (times (moved 0x01 #7 #8 #2 #1)) ones
    ∷ no (moved 0x01 #7 #8 #1½ #1)
    -- kind 04, tf 6, pf 6, v 2, a 1: no, t[1] = -1
    ∷ no (moved 0x04 #6 #6 #2 #1)
    ∷ same (number_at (byte_at (bytes_of (moved 0x04 #6 #6 #2 #1).places)) 12) (neg #1)
    -- kind 08, the same move: yes, times 1 1 1 0 1 1 1
    ∷ yes (moved 0x08 #6 #6 #2 #1)
    ∷ all_same (times (moved 0x08 #6 #6 #2 #1)) (#1 ∷ #1 ∷ #1 ∷ #0 ∷ #1 ∷ #1 ∷ #1 ∷ [])
    -- root of 2
    ∷ same (sqrt_of #2) (of_bits binary64 0x3FF6_A09E_667F_3BCD)
    -- quartic -3 2 0 0 inserts 0, 1, 2, in this order, and tries them in this order
    ∷ all_same (roots_of (neg #3) #2 #0 #0 (CubeRoot #0)) (#0 ∷ #1 ∷ #2 ∷ [])
    ∷ all_same (sorted_of (roots_of (neg #3) #2 #0 #0 (CubeRoot #0))) (#0 ∷ #1 ∷ #2 ∷ [])
    -- whole case: 00000700 and 288 zeros print 01070100 and 720 zeros
    ∷ all_equal (answer_of (48 ∷ 48 ∷ 48 ∷ 48 ∷ 48 ∷ 55 ∷ 48 ∷ 48 ∷ replicate 288 48)
    (replicate record_places 0)).places
    (48 ∷ 49 ∷ 48 ∷ 55 ∷ 48 ∷ 49 ∷ 48 ∷ 48 ∷ replicate 720 48)
    -- an empty line gets number 1
    ∷ eqb (answer_of [] (replicate reply_most 0)).number 1
    ∷ []

-- every row is as the documents say
abbrev pub right : List Bool → Bool
right [] = true
right (r ∷ rs) = r && right rs
