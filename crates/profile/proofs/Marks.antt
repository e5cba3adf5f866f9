-- What a mark changes of `check_with_timing` and `check_with_timing_full`: the cause of a no, and nothing else. What
-- `check` leaves of count and cause holds of them too. Assumes nothing.
use mathlib.Core.Path.{◌≡◌, refl, ap}
use mathlib.Core.Bool.{Bool, true, false, cond, not, ◌&&◌}
use Prim.Native.Nat.{ℕ, ◌≤◌}
use native.Mathlib.Omega.{arith}
use lib.Dec.{leb→le}
use lib.Ieee.{Float, lt}
use Rattle.float.specs.Ops.{◌⊕◌, #1e-12}
use Rattle.float.specs.Helpers.{abs_of}
use Rattle.labels.specs.declared.ReachedLimits.{ReachedLimits}
use Rattle.labels.specs.declared.ControlSigns.{ControlSigns}
use Rattle.labels.specs.declared.causes.Cause.{Cause}
use Rattle.labels.specs.declared.causes.Cause.TheVariants.{NoRoot}
use Rattle.labels.specs.Causes.{cause_number_of, is_yes, counted_of}
use Rattle.profile.specs.declared.Profile.{Profile}
use Rattle.profile.specs.declared.Checked.{Checked}
use Rattle.profile.specs.Parts.{noted, rust_of}
use Rattle.profile.specs.Check.{check_of}
use Rattle.profile.specs.Timing.{marked_by, timing_of, timing_full_of}
use Rattle.profile.proofs.Causes.{one_call_more, yes_is_cause, a_call_has_a_cause, cause_anew, apart}

-- ---- a verdict with its mark
-- the verdict and the Rust's record are as they were
pub mark_apart : (marked : Bool) (c : Checked) → rust_of (marked_by marked c) ≡ rust_of c
mark_apart marked c = refl

pub without_mark : (c : Checked) → marked_by false c ≡ c
without_mark c = refl

-- a yes stays as it was, whatever the mark; a no has the cause 13 by it
pub yes_stays : (marked : Bool) (c : Checked) → c.ok ≡ true → marked_by marked c ≡ c
yes_stays true c h = rw h
yes_stays false c h = refl

pub no_is_marked : (c : Checked) → c.ok ≡ false → (marked_by true c).profile.cause ≡ NoRoot
no_is_marked c h = rw h

-- ---- `check_with_timing`
abbrev given : (marked ok : Bool) → Cause → Cause
given marked ok c = cond (marked && not ok) NoRoot c

given_verdict : (marked ok : Bool) (c : Cause) → ok ≡ is_yes c → ok ≡ is_yes (given marked ok c)
given_verdict true true c h = h
given_verdict true false c h = refl
given_verdict false ok c h = h

given_cause : (marked ok : Bool) (c : Cause) → cause_number_of c ≤ 11 → cause_number_of (given marked ok c) ≡ 12 → ⊥
given_cause true true c h e = omega arith
given_cause true false c h e = omega arith
given_cause false ok c h e = omega arith

module _ (signs : ControlSigns) (limits : ReachedLimits) (jf v_max v_min a_max a_min : Float) (marked : Bool)
    (q : Profile) where
  abbrev checked : Checked
  checked = check_of signs limits false jf v_max v_min a_max a_min q

  pub timing_calls : (timing_of signs limits jf v_max v_min a_max a_min marked q).profile.calls ≡ counted_of q.calls
  unfolding timing_of
  timing_calls = one_call_more signs limits false jf v_max v_min a_max a_min q

  -- the verdict is yes exactly where the cause is
  pub timing_verdict : (timing_of signs limits jf v_max v_min a_max a_min marked q).ok
      ≡ is_yes (timing_of signs limits jf v_max v_min a_max a_min marked q).profile.cause
  unfolding timing_of
  timing_verdict =
      given_verdict marked checked.ok checked.profile.cause
      (yes_is_cause signs limits false jf v_max v_min a_max a_min q)

  -- the cause after a call is not 12
  pub timing_cause : cause_number_of (timing_of signs limits jf v_max v_min a_max a_min marked q).profile.cause ≡ 12 → ⊥
  unfolding timing_of
  timing_cause =
      given_cause marked checked.ok checked.profile.cause
      (leb→le _ 11 (a_call_has_a_cause signs limits false jf v_max v_min a_max a_min q))

  -- a marked call that says no has the cause 13, one without a mark has one from 0 to 11
  pub timing_marked : marked ≡ true → (timing_of signs limits jf v_max v_min a_max a_min marked q).ok ≡ false
      → (timing_of signs limits jf v_max v_min a_max a_min marked q).profile.cause ≡ NoRoot
  unfolding timing_of
  timing_marked e h = rw (e, h)

  pub timing_unmarked : marked ≡ false
      → cause_number_of (timing_of signs limits jf v_max v_min a_max a_min marked q).profile.cause ≤ 11
  unfolding timing_of
  timing_unmarked e = rw e (leb→le _ 11 (a_call_has_a_cause signs limits false jf v_max v_min a_max a_min q))

  -- whatever count and cause were, the cause is the same, and so are the verdict and the Rust's record
  pub timing_anew : (k : ℕ) (c : Cause)
      → (timing_of signs limits jf v_max v_min a_max a_min marked (noted k c q)).profile.cause
      ≡ (timing_of signs limits jf v_max v_min a_max a_min marked q).profile.cause
  unfolding timing_of
  timing_anew k c =
      given_anew (ap (λ (r : Checked). r.ok) (apart signs limits false jf v_max v_min a_max a_min q k c))
      (cause_anew signs limits false jf v_max v_min a_max a_min q k c)
    where
      given_anew : {b b' : Bool} {c c' : Cause} → b ≡ b' → c ≡ c' → given marked b c ≡ given marked b' c'
      given_anew e h = rw (e, h)

  pub timing_apart : (k : ℕ) (c : Cause)
      → rust_of (timing_of signs limits jf v_max v_min a_max a_min marked (noted k c q))
      ≡ rust_of (timing_of signs limits jf v_max v_min a_max a_min marked q)
  unfolding timing_of
  timing_apart = apart signs limits false jf v_max v_min a_max a_min q

  -- ---- `check_with_timing_full`: the count of an attempt that the jerk keeps from `check` does not rise, and its
  -- cause is 13 where it is marked, else the one before
  pub kept-from_check : (j_max : Float) → lt (abs_of jf) (abs_of j_max ⊕ #1e-12) ≡ false
      → timing_full_of signs limits jf v_max v_min a_max a_min j_max marked q
      ≡ record { ok = false; profile = noted q.calls (cond marked NoRoot q.cause) q }
  unfolding timing_full_of
  kept-from_check j_max h = rw h (by marked)
    where
      by : (m : Bool) → marked_by m (record { ok = false; profile = q })
          ≡ record { ok = false; profile = noted q.calls (cond m NoRoot q.cause) q }
      by true = refl
      by false = refl
