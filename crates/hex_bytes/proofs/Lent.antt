-- The places from one on, lent on as a part and handed back: what the whole then holds. Assumes nothing.
use mathlib.Core.Path.{◌≡◌, sym}
use mathlib.Core.List.{List, [], ◌++◌, append-nil, append_assoc}
use Prim.Native.Nat.{ℕ, ◌+◌, ◌-◌, ◌≤◌}
use native.Mathlib.Omega.{arith}
use lib.ListN.{length, take, drop, length-drop, take-append-drop, drop_of_length-le}
use lib.Seq.{sets, sets-eq, take_all, drop-drop}
use borrow.Rule.Slice.PartMut.{put_mid}

abbrev pub from : List ℕ → ℕ → List ℕ
from out at = take (length out - at) (drop at out)

abbrev pub back : List ℕ → ℕ → List ℕ → List ℕ
back out at places = take at out ++ (places ++ drop (length out - at) (drop at out))

from-drop : (out : List ℕ) (at : ℕ) → from out at ≡ drop at out
from-drop out at = take_all (length out - at) (drop at out) (rw (length-drop at out) (omega arith))

pub from-length : (out : List ℕ) (at : ℕ) → length (from out at) ≡ length out - at
from-length out at = rw (from-drop out at) (length-drop at out)

pub back-same : (out : List ℕ) (at : ℕ) → back out at (from out at) ≡ out
back-same out at = rw (take-append-drop (length out - at) (drop at out)) (take-append-drop at out)

pub back-reply : (out reply : List ℕ) (at : ℕ) → at + length reply ≤ length out
    → back out at (reply ++ drop (length reply) (from out at)) ≡ sets out at reply
back-reply out reply at h =
    let none : drop (length out - at) (drop at out) ≡ [] =
    drop_of_length-le (drop at out) {i = length out - at} (rw (length-drop at out) (omega arith)) in
    rw (
      none,
      from-drop out at,
      append-nil (reply ++ drop (length reply) (drop at out)),
      drop-drop (length reply) at out,
      sets-eq reply out at h,
    )
    (sym (append_assoc (take at out) reply _))

-- a part lent from one place on, with other characters in it
pub mid-sets : (out part text : List ℕ) (at k : ℕ) → part ≡ text → k ≡ length text → at + k ≤ length out
    → put_mid at k out part ≡ sets out at text
mid-sets out part text at k e l h =
    let fits : at + length text ≤ length out = omega arith in
    rw (e, l, drop-drop (length text) at out, sets-eq text out at fits) (sym (append_assoc (take at out) text _))
