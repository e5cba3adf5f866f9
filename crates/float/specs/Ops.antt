-- IEEE 754's operations on f64 and the Rust's literals, by names that let a definition read like the Rust's line.
-- Definitions only. A literal is given by its bits; `#ε` is Rust's `f64::EPSILON`, 2 ^ -52.
use Rattle.std.specs.Prelude.{Float}
use Rattle.std.specs.Float.{binary64}
use Rattle.std.specs.Float.Ieee.{add, sub, mul, div, of_bits}

infixl 6 ◌⊕◌
infixl 6 ◌⊖◌
infixl 7 ◌⊗◌
infixl 7 ◌⊘◌
-- rounded once each: x + y, x - y, x * y, x / y
abbrev pub ◌⊕◌ : Float → Float → Float
x ⊕ y = add binary64 x y

abbrev pub ◌⊖◌ : Float → Float → Float
x ⊖ y = sub binary64 x y

abbrev pub ◌⊗◌ : Float → Float → Float
x ⊗ y = mul binary64 x y

abbrev pub ◌⊘◌ : Float → Float → Float
x ⊘ y = div binary64 x y

abbrev pub #0 : Float
#0 = of_bits binary64 0x0000_0000_0000_0000

abbrev pub #½ : Float
#½ = of_bits binary64 0x3FE0_0000_0000_0000

abbrev pub #1 : Float
#1 = of_bits binary64 0x3FF0_0000_0000_0000

abbrev pub #2 : Float
#2 = of_bits binary64 0x4000_0000_0000_0000

abbrev pub #3 : Float
#3 = of_bits binary64 0x4008_0000_0000_0000

abbrev pub #4 : Float
#4 = of_bits binary64 0x4010_0000_0000_0000

abbrev pub #5 : Float
#5 = of_bits binary64 0x4014_0000_0000_0000

abbrev pub #6 : Float
#6 = of_bits binary64 0x4018_0000_0000_0000

abbrev pub #8 : Float
#8 = of_bits binary64 0x4020_0000_0000_0000

abbrev pub #9 : Float
#9 = of_bits binary64 0x4022_0000_0000_0000

abbrev pub #12 : Float
#12 = of_bits binary64 0x4028_0000_0000_0000

abbrev pub #18 : Float
#18 = of_bits binary64 0x4032_0000_0000_0000

abbrev pub #24 : Float
#24 = of_bits binary64 0x4038_0000_0000_0000

abbrev pub #48 : Float
#48 = of_bits binary64 0x4048_0000_0000_0000

abbrev pub #144 : Float
#144 = of_bits binary64 0x4062_0000_0000_0000

abbrev pub #ε : Float
#ε = of_bits binary64 0x3CB0_0000_0000_0000

abbrev pub #16ε : Float
#16ε = of_bits binary64 0x3CF0_0000_0000_0000

abbrev pub #1e-12 : Float
#1e-12 = of_bits binary64 0x3D71_9799_812D_EA11

abbrev pub #1e-10 : Float
#1e-10 = of_bits binary64 0x3DDB_7CDF_D9D7_BDBB

abbrev pub #1e-8 : Float
#1e-8 = of_bits binary64 0x3E45_798E_E230_8C3A

abbrev pub #1e12 : Float
#1e12 = of_bits binary64 0x426D_1A94_A200_0000
