-- Eight bytes and their word: std's words for both are ours, and a word's bytes stand for it. Assumes nothing.
use mathlib.Core.Path.{◌≡◌, refl, ap, sym, ◌∙◌}
use mathlib.Core.List.{List, [], ◌∷◌}
use Prim.Native.Nat.{ℕ, ◌^◌, ◌<◌}
use native.Mathlib.Omega.{arith}
use lib.Dec.{T}
use lib.ListN.{length}
use lib.Ieee.{Float, binary64, of_bits, to_bits, fits}
use lib.Ieee.Bits.{of_bits-to_bits, to_bits-lt}
use mir.Syntax.{w64}
use Rattle.std.specs.Int.{from_be_bytes}
use Rattle.std.proofs.lemmas.Nat.{from_be_bytes-to_be_bytes_8}
use Rattle.number_bytes.specs.Bytes.{word_of, word_bytes, number_of, number_bytes_of}

pub word_of_eight : (bs : List ℕ) → length bs ≡ 8 → from_be_bytes w64 bs ≡ word_of bs
word_of_eight (a ∷ b ∷ c ∷ d ∷ e ∷ f ∷ g ∷ h ∷ []) k = omega arith
word_of_eight [] k = absurd (omega arith)
word_of_eight (a ∷ []) k = absurd (omega arith)
word_of_eight (a ∷ b ∷ []) k = absurd (omega arith)
word_of_eight (a ∷ b ∷ c ∷ []) k = absurd (omega arith)
word_of_eight (a ∷ b ∷ c ∷ d ∷ []) k = absurd (omega arith)
word_of_eight (a ∷ b ∷ c ∷ d ∷ e ∷ []) k = absurd (omega arith)
word_of_eight (a ∷ b ∷ c ∷ d ∷ e ∷ f ∷ []) k = absurd (omega arith)
word_of_eight (a ∷ b ∷ c ∷ d ∷ e ∷ f ∷ g ∷ []) k = absurd (omega arith)
word_of_eight (a ∷ b ∷ c ∷ d ∷ e ∷ f ∷ g ∷ h ∷ i ∷ bs) k = absurd (omega arith)

pub word_back : (w : ℕ) → w < 2 ^ 64 → word_of (word_bytes w) ≡ w
word_back w h = sym (word_of_eight (word_bytes w) refl) ∙ from_be_bytes-to_be_bytes_8 w h

-- an f64's bytes stand for it
pub number-back : (x : Float) → T (fits binary64 x) → number_of (number_bytes_of x) ≡ x
number-back x h =
    ap (of_bits binary64) (word_back (to_bits binary64 x) (to_bits-lt binary64 x h)) ∙ of_bits-to_bits binary64 x h
