-- What a finite f64 is in units, and its bits. It is p * 2 ^ j units with p below 2 ^ 53,
-- so it is q * 2 ^ k units where k counts its digits beyond 53 and q has the others;
-- and its bits are k * 2 ^ 52 + q. Read back, those bits are `units` of q and k. Assumes nothing.
use mathlib.Core.Path.{◌≡◌, refl, sym, ap, ◌∙◌, subst}
use Prim.Native.Nat.{ℕ, zero, suc, ◌+◌, ◌-◌, ◌*◌, ◌/◌, ◌%◌, ◌^◌, ◌≤◌, ◌<◌}
use native.Mathlib.Nat.{le_trans, le_of_eq, le_of_lt, lt_of_lt_of_le, lt_of_not-le, not-le_of_lt, le_of_suc-le-suc}
use native.Mathlib.Nat.{zero-mul, mul-one, one-mul, mul_assoc, mul_right_comm, lt_of_mul-lt-mul_right, lt_of_le_of_lt}
use native.Mathlib.Nat.{le_refl, mul-le-mul_right, mul-lt-mul_of_pos_right, mul-div_cancel, zero-add, le-div_iff_mul-le}
use native.Mathlib.Omega.{arith}
use mathlib.Core.Bool.{Bool, true, false, ◌&&◌, cond}
use lib.IntN.{ℤ, pos, negsuc}
use lib.Dec.{T, ltb, leb, eqb, ltb→lt, lt→ltb, leb→le}
use lib.Pow.{pow-add, pow_pos, pow_mono, pow-lt, shl_lt}
use lib.Ieee.{Float, nan, inf, fin, binary64, up, down, size, odd, units, fits, to_bits, of_bits}
use lib.Ieee.Digits.{size-le, size_reaches, back}
use lib.Ieee.Fits.{odd-fits, kept-lt, down_pos, and_l, and_r}
use lib.Ieee.Exact.{HasValue, units_val}
use lib.Ieee.Bits.{of_bits-to_bits}
use Rattle.sqrt.specs.Sqrt.{units_in}
use Rattle.sqrt.specs.Steps.{Parts}
use Rattle.sqrt.proofs.Rounded.{size_is}

-- ---- an f64 in units
pub record InUnits (n : ℕ) : Type 0 where
  pub digits : ℕ
  pub shift : ℕ
  pub few : digits < 2 ^ 53
  pub exact : n ≡ digits * 2 ^ shift
  pub small : n < 2 ^ 2098

pow_le_back : (a b : ℕ) → 2 ^ a ≤ 2 ^ b → a ≤ b
pow_le_back a b h = le_of_suc-le-suc (lt_of_not-le (λ (g : suc b ≤ a). not-le_of_lt (pow-lt g) h))

-- 2 ^ e * 2 ^ L is a power of two, for an e that is not below -L
place : (L : ℕ) (e : ℤ) → down e ≤ 2 ^ L → (j : ℕ) × (up e * 2 ^ L ≡ 2 ^ j * down e)
place L (pos a) h = (a + L, sym (pow-add 2 a L) ∙ sym (mul-one (2 ^ (a + L))))
place L (negsuc a) h = (
  L - suc a,
  one-mul (2 ^ L) ∙ ap (λ (x : ℕ). 2 ^ x) (sym (back L (suc a) (pow_le_back (suc a) L h)))
      ∙ pow-add 2 (L - suc a) (suc a),
)

in_units : (m : ℕ) (e : ℤ) → m < 2 ^ 53 → down e ≤ 2 ^ 1074 → m * up e < 2 ^ 1024 * down e
    → InUnits (m * up e * 2 ^ 1074 / down e)
in_units m e a b c =
    let l = place 1074 e b in
    let whole : m * up e * 2 ^ 1074 ≡ m * 2 ^ l.0 * down e =
    mul_assoc m (up e) (2 ^ 1074) ∙ ap (λ (x : ℕ). m * x) l.1 ∙ sym (mul_assoc m (2 ^ l.0) (down e)) in
    let n-is : m * up e * 2 ^ 1074 / down e ≡ m * 2 ^ l.0 =
    ap (λ (x : ℕ). x / down e) whole ∙ mul-div_cancel (m * 2 ^ l.0) (down_pos e) in
    let under : m * 2 ^ l.0 * down e < 2 ^ 2098 * down e =
    subst (λ (x : ℕ). x < 2 ^ 2098 * down e) whole
    (subst (λ (x : ℕ). m * up e * 2 ^ 1074 < x) (mul_right_comm (2 ^ 1024) (down e) (2 ^ 1074))
    (mul-lt-mul_of_pos_right c (pow_pos 1074))) in
    record {
      digits = m;
      shift = l.0;
      few = a;
      exact = n-is;
      small = subst (λ (x : ℕ). x < 2 ^ 2098) (sym n-is) (lt_of_mul-lt-mul_right (down e) under);
    }

nothing : InUnits 0
nothing = record { digits = 0; shift = 0; few = pow_pos 53; exact = refl; small = pow_pos 2098 }

no_units : (e : ℤ) → 0 * up e * 2 ^ 1074 / down e ≡ 0
no_units e = ap (λ (x : ℕ). x * 2 ^ 1074 / down e) (zero-mul (up e))
    ∙ ap (λ (x : ℕ). x / down e) (sym (zero-mul (down e))) ∙ mul-div_cancel 0 (down_pos e)

pub units_of : (x : Float) → T (fits binary64 x) → InUnits (units_in x)
unfolding fits units_in
units_of nan t = nothing
units_of (inf s) t = nothing
units_of (fin s zero e) t = subst InUnits (sym (no_units e)) nothing
units_of (fin s (suc m) e) t =
    let a : Bool = eqb (suc m % 2) 1 in
    let b : Bool = ltb (suc m) (2 ^ 53) in
    let c : Bool = leb (down e) (2 ^ 1074) in
    let d : Bool = ltb (suc m * up e) (2 ^ 1024 * down e) in
    in_units (suc m) e (ltb→lt (suc m) (2 ^ 53) (and_r a b (and_l (a && b) c (and_l (a && b && c) d t))))
    (leb→le (down e) (2 ^ 1074) (and_r (a && b) c (and_l (a && b && c) d t)))
    (ltb→lt (suc m * up e) (2 ^ 1024 * down e) (and_r (a && b && c) d t))

-- ---- its leading 53 digits, and how many follow
pub record Kept (n q k : ℕ) : Type 0 where
  pub few : q < 2 ^ 53
  pub full : 0 < k → 2 ^ 52 ≤ q
  pub exact : q * 2 ^ k ≡ n
  pub low : k ≤ 2045

-- where digits are dropped, 53 are left
pub kept_full : (n : ℕ) → 0 < size n - 53 → 2 ^ 52 ≤ n / 2 ^ (size n - 53)
kept_full n h =
    let k = size n - 53 in
    (le-div_iff_mul-le (pow_pos k)).1
    (le_trans (le_of_eq (sym (pow-add 2 52 k))) (size_reaches n (52 + k) (within (size n) h)))
  where
    within : (z : ℕ) → 0 < z - 53 → 52 + (z - 53) < z
    within z h = omega arith

pub kept : (n : ℕ) → InUnits n → Kept n (n / 2 ^ (size n - 53)) (size n - 53)
kept n u =
    let k = size n - 53 in
    let j = u.shift in
    let k_le : k ≤ j =
    spare (size n) j
    (size-le n (53 + j) (subst (λ (x : ℕ). x < 2 ^ (53 + j)) (sym u.exact) (shl_lt 53 j u.few))) in
    let whole : u.digits * 2 ^ (j - k) * 2 ^ k ≡ n =
    mul_assoc u.digits (2 ^ (j - k)) (2 ^ k)
    ∙ ap (λ (x : ℕ). u.digits * x) (sym (pow-add 2 (j - k) k) ∙ ap (λ (x : ℕ). 2 ^ x) (back j k k_le))
    ∙ sym u.exact in
    record {
      few = kept-lt 53 n;
      full = kept_full n;
      exact = ap (λ (x : ℕ). x / 2 ^ k * 2 ^ k) (sym whole)
          ∙ ap (λ (x : ℕ). x * 2 ^ k) (mul-div_cancel (u.digits * 2 ^ (j - k)) (pow_pos k)) ∙ whole;
      low = spare (size n) 2045 (size-le n 2098 u.small);
    }
  where
    spare : (z j : ℕ) → z ≤ 53 + j → z - 53 ≤ j
    spare z j h = omega arith

-- ---- the bits
to_bits_is : (m : ℕ) (e : ℤ) (n : ℕ) → m * up e * 2 ^ 1074 / down e ≡ n
    → to_bits binary64 (fin false m e) ≡ (size n - 53) * 2 ^ 52 + n / 2 ^ (size n - 53)
unfolding to_bits
to_bits_is m e n p = ap (λ (x : ℕ). 0 + (size x - 53) * 2 ^ 52 + x / 2 ^ (size x - 53)) p
    ∙ ap (λ (x : ℕ). x + n / 2 ^ (size n - 53)) (zero-add ((size n - 53) * 2 ^ 52))

pub to_bits_parts : (m : ℕ) (e : ℤ) → T (fits binary64 (fin false m e))
    → (q : ℕ) × (k : ℕ) × Kept (units_in (fin false m e)) q k × Parts (to_bits binary64 (fin false m e)) q k
unfolding units_in
to_bits_parts m e t =
    let n = m * up e * 2 ^ 1074 / down e in
    let h = kept n (units_of (fin false m e) t) in
    (n / 2 ^ (size n - 53), size n - 53, h, record { sum = to_bits_is m e n refl; few = h.few; full = h.full })

-- ---- q * 2 ^ k units, read from the bits
value_bits : (v : Float) (n : ℕ) → HasValue v false n (2 ^ 1074)
    → to_bits binary64 v ≡ (size n - 53) * 2 ^ 52 + n / 2 ^ (size n - 53)
value_bits nan n h = absurd h
value_bits (inf s) n h = absurd h
value_bits (fin s m e) n h =
    ap (λ (x : Bool). to_bits binary64 (fin x m e)) h.0
    ∙ to_bits_is m e n (ap (λ (x : ℕ). x / down e) h.1 ∙ mul-div_cancel n (down_pos e))

pub units_small : (q k : ℕ) → q < 2 ^ 53 → k ≤ 2045 → q * 2 ^ k < 2 ^ 2098
units_small q k h l = lt_of_lt_of_le (shl_lt 53 k h) (pow_mono (room k l))
  where
    room : (z : ℕ) → z ≤ 2045 → 53 + z ≤ 2098
    room z g = omega arith

-- also for the q that rounding up made one digit longer
pub units-fits : (q k : ℕ) → q ≤ 2 ^ 53 → q * 2 ^ k < 2 ^ 2098 → T (fits binary64 (units binary64 false q k))
unfolding units
units-fits q k h l = go (ltb (q * 2 ^ k) (2 ^ 2098)) (lt→ltb (q * 2 ^ k) (2 ^ 2098) l)
  where
    go : (b : Bool) → T b → T (fits binary64 (cond b (odd 54 false q k 1074) (inf false)))
    go true t = odd-fits binary64 54 false q k (lt_of_le_of_lt h (pow-lt (le_refl 54))) h l
    go false t = absurd t

size_exact : (q k : ℕ) → 2 ^ 52 ≤ q → q < 2 ^ 53 → size (q * 2 ^ k) - 53 ≡ k
size_exact q k lo hi =
    ap (λ (x : ℕ). x - 53)
    (size_is (q * 2 ^ k) (52 + k) (le_trans (le_of_eq (pow-add 2 52 k)) (mul-le-mul_right (2 ^ k) lo))
    (lt_of_lt_of_le (shl_lt 53 k hi) (le_of_eq (ap (λ (x : ℕ). 2 ^ x) (next k)))))
    ∙ less k
  where
    next : (z : ℕ) → 53 + z ≡ suc (52 + z)
    next z = omega arith

    less : (z : ℕ) → suc (52 + z) - 53 ≡ z
    less z = omega arith

pub of_bits_units : (q k : ℕ) → 2 ^ 52 ≤ q → q < 2 ^ 53 → k ≤ 2045
    → of_bits binary64 (k * 2 ^ 52 + q) ≡ units binary64 false q k
of_bits_units q k lo hi l =
    let v = units binary64 false q k in
    let u = units_small q k hi l in
    let bits : to_bits binary64 v ≡ k * 2 ^ 52 + q =
    value_bits v (q * 2 ^ k) (units_val binary64 false q k u)
    ∙ ap (λ (x : ℕ). x * 2 ^ 52 + q * 2 ^ k / 2 ^ x) (size_exact q k lo hi)
    ∙ ap (λ (x : ℕ). k * 2 ^ 52 + x) (mul-div_cancel q (pow_pos k)) in
    ap (of_bits binary64) (sym bits) ∙ of_bits-to_bits binary64 v (units-fits q k (le_of_lt hi) u)
