-- Assumes nothing. √w lies between two neighbouring f64s, q * 2 ^ k and (q + 1) * 2 ^ k units;
-- `nearest_root` takes the one on √w's side of the middle, and √w is never the middle itself.
use mathlib.Core.Path.{◌≡◌, refl, sym, ap, ◌∙◌, subst}
use mathlib.Core.Logic.{◌⊎◌, inl, inr}
use Prim.Native.Nat.{ℕ, suc, ◌+◌, ◌-◌, ◌*◌, ◌/◌, ◌^◌, ◌≤◌, ◌<◌, zero-le, compare, Ordering}
use native.Mathlib.Nat.{le_trans, le_of_eq, le_of_lt, lt_of_lt_of_le, lt_of_le_of_lt, lt_of_not-le, not-le_of_lt}
use native.Mathlib.Nat.{lt-suc_self, mul-one, mul_assoc, mul_left_comm, pow-succ', mul-le-mul_left, mul-le-mul_right}
use native.Mathlib.Nat.{add_comm, eq_of_mul-eq-mul_right, div-mul-le_self, div-lt_iff_lt-mul}
use native.Mathlib.Omega.{arith}
use native.Mathlib.Decide.{dec_le}
use mathlib.Core.Bool.{not}
use lib.Dec.{T, is_le, compare_is_eq, nleb→lt, leb→le, eqb→eq}
use lib.Arith.{lt_of_le-ne}
use lib.Pow.{pow-add, pow_pos, pow_mono, shl_lt}
use lib.Ieee.{size, nearest}
use lib.Ieee.Digits.{back}
use lib.Ieee.Fits.{kept-lt, nearest-le}
use lib.Ieee.Nearest.{nearest-ge}
use Rattle.sqrt.specs.Sqrt.{root}
use Rattle.sqrt.proofs.Squares.{square_le, square_lt, square_product}
use Rattle.sqrt.proofs.Root.{root-under, root_over}
use Rattle.sqrt.proofs.Rounded.{middle, rounded}
use Rattle.sqrt.proofs.Units.{InUnits, kept_full}

-- ---- √w lies from q * 2 ^ k up to (q + 1) * 2 ^ k, and q has 53 digits where digits are dropped
pub record Bracket (w q k : ℕ) : Type 0 where
  pub under : q * 2 ^ k * (q * 2 ^ k) ≤ w
  pub over : w < suc q * 2 ^ k * (suc q * 2 ^ k)
  pub few : q < 2 ^ 53
  pub full : 0 < k → 2 ^ 52 ≤ q

pub bracket : (w : ℕ) → Bracket w (root w / 2 ^ (size (root w) - 53)) (size (root w) - 53)
bracket w =
    let r = root w in
    let k = size r - 53 in
    record {
      under = le_trans (square_le (div-mul-le_self r (2 ^ k))) (root-under w);
      over = lt_of_lt_of_le (root_over w) (square_le ((div-lt_iff_lt-mul (pow_pos k)).0 (lt-suc_self (r / 2 ^ k))));
      few = kept-lt 53 r;
      full = kept_full r;
    }

-- ---- no f64 lies between the two
-- it is a multiple of 2 ^ k, or it has so few digits that it is below both
multiple : (q t u : ℕ) → (t * u ≤ q * u) ⊎ (suc q * u ≤ t * u)
multiple q t u = side (dec_le t q)
  where
    side : Dec (t ≤ q) → (t * u ≤ q * u) ⊎ (suc q * u ≤ t * u)
    side (yes h) = inl (mul-le-mul_right u h)
    side (no h) = inr (mul-le-mul_right u (lt_of_not-le h))

short : (p j q k : ℕ) → p < 2 ^ 53 → j < k → 2 ^ 52 ≤ q → p * 2 ^ j ≤ q * 2 ^ k
short p j q k h l g =
    le_trans (le_of_lt (shl_lt 53 j h))
    (le_trans (pow_mono (fewer j k l)) (le_trans (le_of_eq (pow-add 2 52 k)) (mul-le-mul_right (2 ^ k) g)))
  where
    fewer : (j k : ℕ) → j < k → 53 + j ≤ 52 + k
    fewer j k l = omega arith

-- a multiple of 2 ^ j as one of 2 ^ i, for an i up to j
split : (i j : ℕ) → i ≤ j → (p : ℕ) → p * 2 ^ j ≡ p * 2 ^ (j - i) * 2 ^ i
split i j l p = ap (λ (x : ℕ). p * x) (ap (λ (x : ℕ). 2 ^ x) (sym (back j i l)) ∙ pow-add 2 (j - i) i)
    ∙ sym (mul_assoc p (2 ^ (j - i)) (2 ^ i))

gap_at : (p j q k : ℕ) → p < 2 ^ 53 → (0 < k → 2 ^ 52 ≤ q) → (p * 2 ^ j ≤ q * 2 ^ k) ⊎ (suc q * 2 ^ k ≤ p * 2 ^ j)
gap_at p j q k h g = go (dec_le k j)
  where
    go : Dec (k ≤ j) → (p * 2 ^ j ≤ q * 2 ^ k) ⊎ (suc q * 2 ^ k ≤ p * 2 ^ j)
    go (yes l) = rw (split k j l p) (multiple q (p * 2 ^ (j - k)) (2 ^ k))
    go (no l) = let l' : j < k = lt_of_not-le l in inl (short p j q k h l' (g (lt_of_le_of_lt zero-le l')))

gap : (w q k y : ℕ) → Bracket w q k → InUnits y → (y ≤ q * 2 ^ k) ⊎ (suc q * 2 ^ k ≤ y)
gap w q k y B u = rw u.exact (gap_at u.digits u.shift q k u.few B.full)

-- ---- √w is not the middle: 4 * w is c * 2 ^ i with c below 2 ^ 53, and the middle's square is an odd number
-- above 2 ^ 53 times a power of two
odd_is_odd : (q z : ℕ) → (2 * q + 1) * (2 * q + 1) ≡ 2 * z → ⊥
odd_is_odd q z h = omega arith

no_tie_at : (c i o l : ℕ) → c < o → ((z : ℕ) → o ≡ 2 * z → ⊥) → c * 2 ^ i ≡ o * 2 ^ l → ⊥
no_tie_at c i o l h odd e = go (dec_le i l)
  where
    go : Dec (i ≤ l) → ⊥
    go (yes g) =
        let c-is : c ≡ o * 2 ^ (l - i) =
        eq_of_mul-eq-mul_right (2 ^ i) (pow_pos i) c (o * 2 ^ (l - i)) (e ∙ split i l g o) in
        not-le_of_lt h
        (le_trans (le_of_eq (sym (mul-one o))) (le_trans (mul-le-mul_left o (pow_pos (l - i))) (le_of_eq (sym c-is))))
    go (no g) =
        let g' : l < i = lt_of_not-le g in
        let o_is : o ≡ c * 2 ^ (i - l) =
        eq_of_mul-eq-mul_right (2 ^ l) (pow_pos l) o (c * 2 ^ (i - l)) (sym e ∙ split l i (le_of_lt g') c) in
        let d-is : i - l ≡ suc (i - suc l) = omega arith in
        odd (c * 2 ^ (i - suc l))
        (o_is ∙ ap (λ (x : ℕ). c * 2 ^ x) d-is ∙ ap (λ (x : ℕ). c * x) (pow-succ' 2 (i - suc l))
        ∙ mul_left_comm c 2 (2 ^ (i - suc l)))

pub no_tie : (n q k : ℕ) → InUnits n → 2 ^ 52 ≤ q → 4 * (n * 2 ^ 1074) ≡ middle q k * middle q k → ⊥
no_tie n q k u h e =
    no_tie_at u.digits (u.shift + 1076) ((2 * q + 1) * (2 * q + 1)) (k + k) (lt_of_lt_of_le u.few (large q h))
    (odd_is_odd q)
    (ap (λ (x : ℕ). u.digits * x) (pow-add 2 u.shift 1076)
    ∙ sym (mul_assoc u.digits (2 ^ u.shift) (2 ^ 1076))
    ∙ ap (λ (x : ℕ). x * 2 ^ 1076) (sym u.exact)
    ∙ ap (λ (x : ℕ). n * x) (pow-add 2 1074 2)
    ∙ four n (2 ^ 1074)
    ∙ e
    ∙ square_product (2 * q + 1) (2 ^ k)
    ∙ ap (λ (x : ℕ). (2 * q + 1) * (2 * q + 1) * x) (sym (pow-add 2 k k)))
  where
    more : (q : ℕ) → 2 ^ 52 ≤ q → 2 ^ 53 ≤ 2 * q + 1
    more q l = omega arith

    some : (q : ℕ) → 1 ≤ 2 * q + 1
    some q = omega arith

    large : (q : ℕ) → 2 ^ 52 ≤ q → 2 ^ 53 ≤ (2 * q + 1) * (2 * q + 1)
    large q l =
        le_trans (more q l) (le_trans (le_of_eq (sym (mul-one (2 * q + 1)))) (mul-le-mul_left (2 * q + 1) (some q)))

    four : (n u : ℕ) → n * (u * 4) ≡ 4 * (n * u)
    four n u = omega arith

-- ---- the side that is taken
pub rounded_le : (w q k : ℕ) → rounded w q k ≤ suc q
rounded_le w q k = nearest-le q (compare (4 * w) (middle q k * middle q k))

pub rounded_ge : (w q k : ℕ) → q ≤ rounded w q k
rounded_ge w q k = nearest-ge q (compare (4 * w) (middle q k * middle q k))

abbrev pub Sides : ℕ → ℕ → ℕ → Type 0
Sides w q k = ((rounded w q k ≡ q) × (4 * w < middle q k * middle q k))
    ⊎ ((rounded w q k ≡ suc q) × (middle q k * middle q k < 4 * w))

pub sides : (w q k : ℕ) → (4 * w ≡ middle q k * middle q k → ⊥) → Sides w q k
sides w q k tie = at (4 * w) (middle q k * middle q k) tie
  where
    at : (a b : ℕ) → (a ≡ b → ⊥)
        → ((nearest q (compare a b) ≡ q) × (a < b)) ⊎ ((nearest q (compare a b) ≡ suc q) × (b < a))
    at a b n = go (compare a b) (leb→le a b) (nleb→lt a b) (eqb→eq a b)
      where
        go : (o : Ordering) → (T (is_le o) → a ≤ b) → (T (not (is_le o)) → b < a) → (T (compare_is_eq o) → a ≡ b)
            → ((nearest q o ≡ q) × (a < b)) ⊎ ((nearest q o ≡ suc q) × (b < a))
        go Ordering.lt l g e = inl (refl, lt_of_le-ne (l tt) n)
        go Ordering.eq l g e = absurd (n (e tt))
        go Ordering.gt l g e = inr (refl, g tt)

-- ---- every other f64's middle with the one that is taken is on the far side of √w
sum_is : (q u : ℕ) → q * u + suc q * u ≡ (2 * q + 1) * u
sum_is q u = omega arith

double_square : (x : ℕ) → (x + x) * (x + x) ≡ 4 * (x * x)
double_square x = omega arith

four_le : {x y : ℕ} → x ≤ y → 4 * x ≤ 4 * y
four_le h = omega arith

more_le : (x : ℕ) {y z : ℕ} → y ≤ z → x + y ≤ x + z
more_le x h = omega arith

more_lt : (x : ℕ) {y z : ℕ} → y < z → x + y < x + z
more_lt x h = omega arith

module _ (w q k y : ℕ) (B : Bracket w q k) (Y : InUnits y) where
  -- the lower one is taken
  lower-below : y < q * 2 ^ k → (q * 2 ^ k + y) * (q * 2 ^ k + y) < 4 * w
  lower-below h = lt_of_lt_of_le (square_lt (more_lt (q * 2 ^ k) h))
      (le_trans (le_of_eq (double_square (q * 2 ^ k))) (four_le B.under))

  lower-above : 4 * w < middle q k * middle q k → q * 2 ^ k < y → 4 * w < (q * 2 ^ k + y) * (q * 2 ^ k + y)
  lower-above m h = go (gap w q k y B Y)
    where
      go : (y ≤ q * 2 ^ k) ⊎ (suc q * 2 ^ k ≤ y) → 4 * w < (q * 2 ^ k + y) * (q * 2 ^ k + y)
      go (inl l) = absurd (not-le_of_lt h l)
      go (inr l) = lt_of_lt_of_le m (square_le (le_trans (le_of_eq (sym (sum_is q (2 ^ k)))) (more_le (q * 2 ^ k) l)))

  -- the upper one is taken
  upper-below : middle q k * middle q k < 4 * w → y < suc q * 2 ^ k → (suc q * 2 ^ k + y) * (suc q * 2 ^ k + y) < 4 * w
  upper-below m h = go (gap w q k y B Y)
    where
      go : (y ≤ q * 2 ^ k) ⊎ (suc q * 2 ^ k ≤ y) → (suc q * 2 ^ k + y) * (suc q * 2 ^ k + y) < 4 * w
      go (inl l) =
          lt_of_le_of_lt (square_le
          (le_trans (more_le (suc q * 2 ^ k) l) (le_of_eq (add_comm (suc q * 2 ^ k) (q * 2 ^ k) ∙ sum_is q (2 ^ k))))) m
      go (inr l) = absurd (not-le_of_lt h l)

  upper-above : suc q * 2 ^ k < y → 4 * w < (suc q * 2 ^ k + y) * (suc q * 2 ^ k + y)
  upper-above h =
      lt_of_le_of_lt (le_trans (four_le (le_of_lt B.over)) (le_of_eq (sym (double_square (suc q * 2 ^ k)))))
      (square_lt (more_lt (suc q * 2 ^ k) h))

  pub far_below : Sides w q k → y < rounded w q k * 2 ^ k
      → (rounded w q k * 2 ^ k + y) * (rounded w q k * 2 ^ k + y) < 4 * w
  far_below (inl s) =
      subst (λ (z : ℕ). y < z * 2 ^ k → (z * 2 ^ k + y) * (z * 2 ^ k + y) < 4 * w) (sym s.0) lower-below
  far_below (inr s) =
      subst (λ (z : ℕ). y < z * 2 ^ k → (z * 2 ^ k + y) * (z * 2 ^ k + y) < 4 * w) (sym s.0) (upper-below s.1)

  pub far_above : Sides w q k → rounded w q k * 2 ^ k < y
      → 4 * w < (rounded w q k * 2 ^ k + y) * (rounded w q k * 2 ^ k + y)
  far_above (inl s) =
      subst (λ (z : ℕ). z * 2 ^ k < y → 4 * w < (z * 2 ^ k + y) * (z * 2 ^ k + y)) (sym s.0) (lower-above s.1)
  far_above (inr s) =
      subst (λ (z : ℕ). z * 2 ^ k < y → 4 * w < (z * 2 ^ k + y) * (z * 2 ^ k + y)) (sym s.0) upper-above
