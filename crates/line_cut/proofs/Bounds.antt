-- A call of a stream fills no more places than are lent. Assumes nothing.
use mathlib.Core.Path.{◌≡◌}
use mathlib.Core.List.{List}
use Prim.Native.Nat.{ℕ, ◌≤◌}
use native.Mathlib.Omega.{arith}
use lib.ListN.{length, drop, length-append}
use Rattle.hex_bytes.specs.Hex.{fill}
use Rattle.line_cut.specs.Cut.{Fills}
use Rattle.line_cut.specs.Stream.{Progress, Streams}

-- a text in the first of the lent places is no longer than these
fill_within : (text lent out : List ℕ) → out ≡ fill text lent → length text ≤ length out
fill_within text lent out e = rw (e, length-append text (drop (length text) lent)) (omega arith)

pub filled_within : {S : Type 0} {p : Progress S} {used count filled : ℕ} {kept lent out : List ℕ}
    → Streams p used count filled kept lent out → filled ≤ length out
filled_within {S} {p} {used} {count} {filled} {kept} {lent} {out} h =
    rw h.filled_is (fill_within p.written lent out h.out_is)

pub last_within : {lent text : List ℕ} {count : ℕ} {out : List ℕ} → Fills lent text count out → count ≤ length out
last_within {lent} {text} {count} {out} h = rw h.count_is (fill_within text lent out h.out_is)
