-- A line for each attempt. Definitions only.
use Rattle.std.specs.Prelude.{List, [], ◌∷◌, ◌++◌, ℕ, Float}
use Rattle.std.specs.Float.{binary64}
use Rattle.std.specs.Float.Ieee.{of_bits, neg}
use Rattle.float.specs.Ops.{#0, #1, #2, #3, #4, #5, #6, #8}
use Rattle.hex_bytes.specs.Hex.{hex_of}
use Rattle.line_reply.specs.Reply.{numbers_bytes}
use Rattle.worked_lines.specs.Attempts.{Attempt, Acc0Acc1Vel-UDDU, Acc0Acc1Vel-UDUD, Acc1Vel-UDDU, Acc1Vel-UDUD}
use Rattle.worked_lines.specs.Attempts.{Acc0Vel-UDDU, Acc0Vel-UDUD, Acc0Acc1-rest, Acc0Acc1-UDDU}
use Rattle.worked_lines.specs.Attempts.{Acc0-first, Acc0-second, Acc0-third, RestToRest-rest, RestToRest-UDDU}

-- whole numbers that the Rust's formulas do not name
abbrev #7 : Float
#7 = of_bits binary64 0x401C_0000_0000_0000

abbrev #10 : Float
#10 = of_bits binary64 0x4024_0000_0000_0000

abbrev #14 : Float
#14 = of_bits binary64 0x402C_0000_0000_0000

abbrev #-1 : Float
#-1 = neg #1

abbrev #-2 : Float
#-2 = neg #2

abbrev #-3 : Float
#-3 = neg #3

abbrev #-4 : Float
#-4 = neg #4

-- the characters of a kind, the twelve numbers, and the bytes of the root answers where the kind has them
abbrev line : (kind : ℕ) (tf p0 v0 a0 pf vf af v_max v_min a_max a_min j_max : Float) (answers : List ℕ) → List ℕ
line kind tf p0 v0 a0 pf vf af v_max v_min a_max a_min j_max answers =
    hex_of
    (kind
    ∷ numbers_bytes (tf ∷ p0 ∷ v0 ∷ a0 ∷ pf ∷ vf ∷ af ∷ v_max ∷ v_min ∷ a_max ∷ a_min ∷ j_max ∷ [])
    ++ answers)

-- a root answer: the count, and three numbers by their bits
abbrev roots : (count x0 x1 x2 : ℕ) → List ℕ
roots count x0 x1 x2 = count ∷ numbers_bytes (of_bits binary64 x0 ∷ of_bits binary64 x1 ∷ of_bits binary64 x2 ∷ [])

-- A row: the kind; tf; p0, v0, a0; pf, vf, af; v_max, v_min, a_max, a_min, j_max; the root answers. Every line starts
-- in 0 with j_max 1. The comment ends with the seven times of the reply, which are exactly these, unless said. The root
-- answers are the Rust's own: the roots of the resolvents of UDDU's and of UDUD's quartic, rounded.
abbrev pub line_for : Attempt → List ℕ
-- from rest to rest, document 01's own: 1 1 1 1 1 1 1
line_for Acc0Acc1Vel-UDDU = line 0x01 #7 #0 #0 #0 #8 #0 #0 #2 #-2 #1 #-1 #1 []
-- from rest to the speed 4, over 2: 1 1 1 1 1 1 1
line_for Acc0Acc1Vel-UDUD = line 0x01 #7 #0 #0 #0 #14 #4 #0 #4 #-4 #1 #-1 #1 []
-- from rest to the speed 1, and on to -1: 1 0 1 2 1 1 1. Roots -10.602, 5.823, -6.221; 25.666.
line_for Acc1Vel-UDDU =
    line 0x02 #7 #0 #0 #0 #3 #-1 #0 #1 #-1 #2 #-1 #1
    (roots 3 0xC025_3439_A12B_F2F5 0x4017_4A4D_39C5_CBD0 0xC018_E1D9_F76D_E5E6 ++ roots 1 0x4039_AA84_9CEE_9188 0 0)
-- from rest to the speed 1, and on to 3: 1 0 1 1 1 1 1. Roots -16.524, 9.556, -10.031; 4.566.
line_for Acc1Vel-UDUD =
    line 0x02 #6 #0 #0 #0 #8 #3 #0 #3 #-3 #1 #-1 #1
    (roots 3 0xC030_8643_EE16_EAFD 0x4023_1C94_F99A_1E38 0xC024_100D_1D6C_4840 ++ roots 1 0x4012_4357_36F2_AA5B 0 0)
-- from rest to the speed 2, and down to 1: 1 1 1 1 1 0 1. Roots -8.503, 5.070, -5.567; -4.717, 9.376, 4.341.
line_for Acc0Vel-UDDU =
    line 0x03 #6 #0 #0 #0 #8 #1 #0 #2 #-2 #1 #-1 #1
    (roots 3 0xC021_019B_A3AD_FF43 0x4014_47C3_F8C9_A682 0xC016_448C_B16D_A7FC
    ++ roots 3 0xC012_DE3C_7EC5_754A 0x4022_C04B_CA36_E8E0 0x4011_5DA4_EA57_A38A)
-- from rest to the speed 2, and on to 3: 1 1 1 1 1 0 1. Roots -5.358; 4.566.
line_for Acc0Vel-UDUD =
    line 0x03 #6 #0 #0 #0 #10 #3 #0 #3 #-3 #1 #-1 #1
    (roots 1 0xC015_6E79_BA68_636B 0 0 ++ roots 1 0x4012_4357_36F2_AA5B 0 0)
-- at the speed 2, then down to rest: 0 1 0 0 1 1 1
line_for Acc0Acc1-rest = line 0x04 #4 #0 #2 #0 #5 #0 #0 #2 #-2 #0 #-1 #1 []
-- from the acceleration 1 back to it, over -1: 0 1 1 0 1 1 2
line_for Acc0Acc1-UDDU = line 0x04 #6 #0 #0 #1 #3 #0 #1 #2 #-2 #1 #-1 #1 []
-- from rest to the speed 1, over the acceleration -1: 1 1 2 0 1 0 0
line_for Acc0-first = line 0x05 #5 #0 #0 #0 #6 #1 #0 #2 #-2 #1 #-1 #1 []
-- from rest to rest, with the acceleration -1 held: 1 1 2 1 0 0 1
line_for Acc0-second = line 0x05 #6 #0 #0 #0 #6 #0 #0 #2 #-2 #1 #-1 #1 []
-- from the acceleration -1 over 1 back to -1: 2 1 1 1 1 0 0
line_for Acc0-third = line 0x05 #6 #0 #0 #-1 #4 #1 #-1 #2 #-2 #1 #-1 #1 []
-- from rest to rest, by kind 08: 0.9 0.7 0.9 0 0.9 0.7 0.9 but for roundings. Kind 04 has t[1] = -1, and says no.
line_for RestToRest-rest = line 0x08 #5 #0 #0 #0 #4 #0 #0 #2 #-2 #1 #-1 #1 []
-- the line of `Acc0Acc1-UDDU` by kind 08: 0 1 1 0 1 1 2
line_for RestToRest-UDDU = line 0x08 #6 #0 #0 #1 #3 #0 #1 #2 #-2 #1 #-1 #1 []
