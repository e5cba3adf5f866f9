-- A number is finite exactly where its bits, the sign left out, are below infinity's. Assumes nothing.
use mathlib.Core.Path.{◌≡◌, refl, ap, sym, subst, ◌∙◌}
use mathlib.Core.Bool.{Bool, true, false, not}
use mathlib.Core.Logic.{◌⊎◌, inl, inr, ⊎_elim}
use Prim.Native.Nat.{ℕ, ◌%◌, ◌≤◌, ◌<◌}
use native.Mathlib.Nat.{eq-or-lt_of_le}
use native.Mathlib.Omega.{arith}
use lib.Dec.{T, ltb}
use lib.Ieee.{Float, nan, inf, fin, binary64, of_bits, to_bits, is_nan}
use lib.Ieee.Bits.{to_bits-of_bits, nan_bits_is}
use lib.Ieee.Scale.{finite}
use borrow.Author.Tests.{ltb-true, ltb-false}
use Rattle.float.proofs.Cases.{some_bits, nan_bits_lem}

-- an infinity's bits, the sign left out
inf_bits : (s : Bool) → to_bits binary64 (inf s) % 0x8000_0000_0000_0000 ≡ 0x7FF0_0000_0000_0000
unfolding to_bits
inf_bits true = refl
inf_bits false = refl

-- below them, a number
below : (x : Float) (b : ℕ) → b < 0x1_0000_0000_0000_0000 → b % 0x8000_0000_0000_0000 < 0x7FF0_0000_0000_0000
    → x ≡ of_bits binary64 b → finite x ≡ true
unfolding is_nan
below (fin s m e) b h k p = refl
below nan b h k p =
    absurd
    (subst T (ap not (ap is_nan (sym p))) (subst T (ap not (nan_bits_is binary64 b)) (some_bits b (omega arith))))
below (inf s) b h k p = absurd (at_infinity (to_bits binary64 (inf s)) b (inf_bits s) same k)
  where
    same : to_bits binary64 (inf s) ≡ b
    same =
        ap (to_bits binary64) p ∙ to_bits-of_bits binary64 b h
        (subst T (ap not (nan_bits_is binary64 b)) (some_bits b (omega arith)))

    at_infinity : (a b : ℕ) → a % 0x8000_0000_0000_0000 ≡ 0x7FF0_0000_0000_0000 → a ≡ b
        → b % 0x8000_0000_0000_0000 < 0x7FF0_0000_0000_0000 → ⊥
    at_infinity a b e f l = omega arith

-- from them on, an infinity or NaN
infinite : (b : ℕ) → b < 0x1_0000_0000_0000_0000 → b % 0x8000_0000_0000_0000 ≡ 0x7FF0_0000_0000_0000
    → finite (of_bits binary64 b) ≡ false
unfolding of_bits
infinite b h k = ⊎_elim (λ e. rw e) (λ e. rw e) (two b h k)
  where
    two : (b : ℕ) → b < 0x1_0000_0000_0000_0000 → b % 0x8000_0000_0000_0000 ≡ 0x7FF0_0000_0000_0000
        → (b ≡ 0x7FF0_0000_0000_0000) ⊎ (b ≡ 0xFFF0_0000_0000_0000)
    two b h k = by (ltb b 0x8000_0000_0000_0000) refl
      where
        by : (t : Bool) → ltb b 0x8000_0000_0000_0000 ≡ t → (b ≡ 0x7FF0_0000_0000_0000) ⊎ (b ≡ 0xFFF0_0000_0000_0000)
        by true e = inl (omega (arith, ltb-true b 0x8000_0000_0000_0000 e))
        by false e = inr (omega (arith, ltb-false b 0x8000_0000_0000_0000 e))

pub finite_is : (b : ℕ) → b < 0x1_0000_0000_0000_0000
    → ltb (b % 0x8000_0000_0000_0000) 0x7FF0_0000_0000_0000 ≡ finite (of_bits binary64 b)
finite_is b h = by (ltb (b % 0x8000_0000_0000_0000) 0x7FF0_0000_0000_0000) refl
  where
    from : 0x7FF0_0000_0000_0000 ≤ b % 0x8000_0000_0000_0000 → false ≡ finite (of_bits binary64 b)
    from k =
        ⊎_elim (λ e. sym (infinite b h (sym e))) (λ l. sym (ap finite (nan_bits_lem b l))) (eq-or-lt_of_le k)

    by : (t : Bool) → ltb (b % 0x8000_0000_0000_0000) 0x7FF0_0000_0000_0000 ≡ t
        → ltb (b % 0x8000_0000_0000_0000) 0x7FF0_0000_0000_0000 ≡ finite (of_bits binary64 b)
    by true e =
        e ∙ sym (below (of_bits binary64 b) b h (ltb-true (b % 0x8000_0000_0000_0000) 0x7FF0_0000_0000_0000 e) refl)
    by false e = e ∙ from (ltb-false (b % 0x8000_0000_0000_0000) 0x7FF0_0000_0000_0000 e)
