-- What the crate's functions say to each other of the numbers that they pass. No part of what `sqrt` promises.
use Rattle.std.specs.Prelude.{◌≡◌, ℕ, suc, ◌+◌, ◌*◌, ◌≤◌, ◌<◌, ◌^◌}
use Rattle.std.specs.Float.{binary64}
use Rattle.std.specs.Float.Ieee.{of_bits}
use Rattle.sqrt.specs.Sqrt.{nearest_root}

-- what the integer root is taken of: 53 or 54 digits, and not all of the 54 are 1
pub record Radicand (a : ℕ) : Type 0 where
  pub low : 2 ^ 52 ≤ a
  pub high : suc a < 2 ^ 54

-- a guess at the root of such a number that is far from 0, and whose square fits a u64
pub record Guess (h : ℕ) : Type 0 where
  pub low : 2 ^ 25 ≤ h
  pub high : h < 2 ^ 30

-- r follows the guess h at √a: it is no less than √a's whole part, and less than an h that is too large
pub record Follows (a h r : ℕ) : Type 0 where
  pub guess : Guess r
  pub above : a < suc r * suc r
  pub falls : a < h * h → r < h

-- the bits of m * 2 ^ k units
pub record Parts (bits m k : ℕ) : Type 0 where
  pub sum : bits ≡ k * 2 ^ 52 + m
  pub few : m < 2 ^ 53
  pub full : 0 < k → 2 ^ 52 ≤ m

-- q is m brought up to 53 digits, by s places, and e is the power of two that is left, which counts from -1022
pub record Digits (bits q e : ℕ) : Type 0 where
  pub m : ℕ
  pub k : ℕ
  pub s : ℕ
  pub parts : Parts bits m k
  pub brought : q ≡ m * 2 ^ s
  pub few : s ≤ 52
  pub low : 2 ^ 52 ≤ q
  pub high : q < 2 ^ 53
  pub power : e + s ≡ k + 1022

-- r is the bits of the f64 nearest to the root of the f64 with these bits
pub record RootBits (bits r : ℕ) : Type 0 where
  pub finite : r < 0x7ff0_0000_0000_0000
  pub root : (m k : ℕ) → Parts bits m k → of_bits binary64 r ≡ nearest_root (m * 2 ^ k * 2 ^ 1074)
