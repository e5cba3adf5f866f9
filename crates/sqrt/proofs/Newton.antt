-- Assumes nothing. Newton's method for a whole square root:
-- a step from any guess above 0 is no less than the root's whole part, and less than a guess that is too large.
use mathlib.Core.Path.{◌≡◌}
use Prim.Native.Nat.{ℕ, suc, ◌+◌, ◌-◌, ◌*◌, ◌/◌, ◌^◌, ◌≤◌, ◌<◌}
use native.Mathlib.Nat.{lt-suc_self, div-lt_iff_lt-mul}
use native.Mathlib.Omega.{arith}
use native.Mathlib.Decide.{dec_le}
use mir.Syntax.{w64}
use mir.Val.{Fits}
use mir.Facts.{Fits-bits}
use Rattle.sqrt.specs.Steps.{Radicand, Guess, Follows}
use Rattle.sqrt.proofs.Squares.{square_le, square_lt, between_squares}

-- four times a product is at most the square of the sum
mean : (x y : ℕ) → 4 * (x * y) ≤ (x + y) * (x + y)
mean x y = go (dec_le x y)
  where
    apart : (u d : ℕ) → 4 * (u * (u + d)) ≤ (u + (u + d)) * (u + (u + d))
    apart u d = omega arith

    go : Dec (x ≤ y) → 4 * (x * y) ≤ (x + y) * (x + y)
    go (yes h) = let e : y ≡ x + (y - x) = omega arith in rw e (apart x (y - x))
    go (no f) = let e : x ≡ y + (x - y) = omega arith in rw e (let l = apart y (x - y) in omega arith)

-- v is half of h + c, where a / h is c
newton_above : (a h c v : ℕ) → a < suc c * h → h + c < 2 * suc v → a < suc v * suc v
newton_above a h c v l k =
    let p : (h + suc c) * (h + suc c) ≤ 2 * suc v * (2 * suc v) = square_le (up h c (2 * suc v) k) in
    let q : 4 * (h * suc c) ≤ (h + suc c) * (h + suc c) = mean h (suc c) in
    close (h * suc c) ((h + suc c) * (h + suc c)) v l' p q
  where
    up : (x y z : ℕ) → x + y < z → x + suc y ≤ z
    up x y z g = omega arith

    l' : a < h * suc c
    l' = omega arith

    close : (m s v : ℕ) → a < m → s ≤ 2 * suc v * (2 * suc v) → 4 * m ≤ s → a < suc v * suc v
    close m s v g p q = omega arith

newton_below : (h c v : ℕ) → c < h → 2 * v ≤ h + c → v < h
newton_below h c v l m = omega arith

pub positive : (h : ℕ) → Guess h → 0 < h
positive h H = omega arith

-- the quotient by a guess
pub quotient_lt : (a h : ℕ) → Radicand a → Guess h → a / h < 2 ^ 29
quotient_lt a h A H = (div-lt_iff_lt-mul (positive h H)).1 (below A.high H.low)
  where
    below : suc a < 2 ^ 54 → 2 ^ 25 ≤ h → a < 2 ^ 29 * h
    below k l = omega arith

-- c is the quotient of a by h, and v half of their sum
follows_at : (a h c v : ℕ) → Radicand a → Guess h → a < suc c * h → c < 2 ^ 29 → (a < h * h → c < h) → 2 * v ≤ h + c
    → h + c < 2 * suc v → Follows a h v
follows_at a h c v A H over small less k l = record {
  guess = record { low = reaches (between_squares (2 ^ 26) a (suc v) A.low above); high = high H.high };
  above = above;
  falls = λ g. newton_below h c v (less g) k;
}
  where
    above : a < suc v * suc v
    above = newton_above a h c v over l

    reaches : 2 ^ 26 < suc v → 2 ^ 25 ≤ v
    reaches g = omega arith

    high : h < 2 ^ 30 → v < 2 ^ 30
    high g = omega arith

pub follows : (a h : ℕ) → Radicand a → Guess h → Follows a h ((h + a / h) / 2)
follows a h A H =
    let H₀ = positive h H in
    follows_at a h (a / h) ((h + a / h) / 2) A H ((div-lt_iff_lt-mul H₀).0 (lt-suc_self (a / h))) (quotient_lt a h A H)
    (λ g. (div-lt_iff_lt-mul H₀).1 g) (half (h + a / h)) (next (h + a / h))
  where
    half : (z : ℕ) → 2 * (z / 2) ≤ z
    half z = omega arith

    next : (z : ℕ) → z < 2 * suc (z / 2)
    next z = omega arith

pub square_fits : (h : ℕ) → Guess h → Fits w64 (h * h)
square_fits h H = Fits-bits 60 tt (square_lt H.high)
