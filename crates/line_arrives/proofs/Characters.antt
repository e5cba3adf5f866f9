-- The characters of bytes, whatever characters stand after them, stand for these bytes first. Assumes nothing.
use mathlib.Core.Path.{◌≡◌, refl, ap}
use mathlib.Core.List.{List, [], ◌∷◌, ◌++◌}
use Prim.Native.Nat.{ℕ, zero, suc, ◌+◌, ◌*◌, ◌/◌, ◌%◌, ◌<◌}
use native.Mathlib.Omega.{arith}
use lib.ListN.{get_or}
use Rattle.hex_bytes.specs.Hex.{value_of, bytes_of, digit_of, hex_of}
use Rattle.hex_bytes.proofs.Laws.{bytes_back}
use Rattle.line_places.proofs.Bytes.{Bytes}

-- one byte's two digits
two_digits : (b : ℕ) → b < 256 → 16 * value_of (digit_of (b / 16)) + value_of (digit_of (b % 16)) ≡ b
two_digits b h = ap (λ (l : List ℕ). get_or l 0 0) (bytes_back (b ∷ []) alone)
  where
    alone : (i : ℕ) → get_or (b ∷ []) i 0 < 256
    alone zero = h
    alone (suc i) = omega arith

pub bytes_first : (bytes rest : List ℕ) → Bytes bytes → bytes_of (hex_of bytes ++ rest) ≡ bytes ++ bytes_of rest
bytes_first [] rest h = refl
bytes_first (b ∷ bytes) rest h = rw (two_digits b h.0) (ap (λ (r : List ℕ). b ∷ r) (bytes_first bytes rest h.1))
