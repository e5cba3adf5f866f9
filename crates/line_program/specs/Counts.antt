-- How many characters a read gave. Definitions only.
use Rattle.std.specs.Prelude.{ℕ, min, ℤ, pos, negsuc}

-- what a read answered, brought into 0 to the characters that it was lent: below 0 it failed and gave none
abbrev pub clamp_len : ℤ → ℕ → ℕ
clamp_len (pos k) most = min k most
clamp_len (negsuc k) most = 0
