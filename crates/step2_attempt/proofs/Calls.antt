-- Trials in turn, and what they leave of count and cause: the count is that of the trials that called `check`, the
-- verdict is yes exactly where the cause is, the last call alone gives the cause, where none called the profile is as
-- it came; and neither is looked at by the verdict and the Rust's record. Assumes nothing.
use mathlib.Core.Path.{◌≡◌, refl, sym, ap, ◌∙◌}
use mathlib.Core.Bool.{Bool, true, false, cond, true≢false}
use mathlib.Core.List.{List, [], ◌∷◌}
use Prim.Native.Nat.{ℕ, suc, ◌+◌, ◌≤◌, ◌<◌}
use native.Mathlib.Nat.{add-zero}
use native.Mathlib.Omega.{arith}
use lib.Dec.{lit≤}
use lib.ListN.{length}
use borrow.Author.Tests.{lt-ltb}
use Rattle.labels.specs.declared.causes.Cause.{Cause}
use Rattle.labels.specs.declared.causes.Cause.TheVariants.{NoCall}
use Rattle.labels.specs.Causes.{cause_number_of, is_yes}
use Rattle.row.specs.Row.{with_times}
use Rattle.profile.specs.declared.Profile.{Profile}
use Rattle.profile.specs.declared.Checked.{Checked}
use Rattle.profile.specs.Parts.{changed, noted, record_of, rust_of}
use Rattle.profile.proofs.Marks.{timing_calls, timing_verdict, timing_cause, timing_anew, timing_apart}
use Rattle.step2_solver.specs.declared.Limits.{Limits}
use Rattle.step2_solver.specs.declared.Trial.{Trial}
use Rattle.step2_attempt.specs.Attempt.{seven_of, nothing, or_else, attempt_of, try_of, tried_of, calls_of}

-- ---- the count
module _ (l : Limits) (k : Trial) (q : Profile) where
  abbrev timed : Profile
  timed = changed (with_times (seven_of k.times)) q

  counts : (b : Bool) → q.calls < 255 → (cond b (attempt_of l k q) (nothing q)).profile.calls ≡ q.calls + cond b 1 0
  unfolding attempt_of
  counts true h = timing_calls _ _ _ _ _ _ _ _ timed ∙ rw (lt-ltb q.calls 255 h)
  counts false h = sym (add-zero q.calls)

  try_calls : q.calls < 255 → (try_of l k q).profile.calls ≡ q.calls + cond k.made 1 0
  unfolding try_of
  try_calls h = counts k.made h

either_calls : (b : Bool) (x : Profile) (f : Profile → Checked) (g : ℕ) (n m : ℕ) → x.calls ≡ n + m
    → (f x).profile.calls ≡ x.calls + g
    → (or_else (record { ok = b; profile = x }) f).profile.calls ≡ n + (m + cond b 0 g)
either_calls true x f g n m e h = rw (add-zero m) e
either_calls false x f g n m e h = h ∙ omega arith

pub calls_are : (l : Limits) (ks : List Trial) (q : Profile) → q.calls + length ks ≤ 255
    → (tried_of l ks q).profile.calls ≡ q.calls + calls_of l ks q
unfolding tried_of
calls_are l [] q h = sym (add-zero q.calls)
calls_are l (k ∷ ks) q h =
    let c = try_of l k q in
    let e = try_calls l k q (omega arith) in
    either_calls c.ok c.profile (tried_of l ks) (calls_of l ks c.profile) q.calls (cond k.made 1 0) e
    (calls_are l ks c.profile (room k.made e))
  where
    room : (b : Bool) → (try_of l k q).profile.calls ≡ q.calls + cond b 1 0
        → (try_of l k q).profile.calls + length ks ≤ 255
    room true e = omega arith
    room false e = omega arith

-- no more calls than trials
pub calls_few : (l : Limits) (ks : List Trial) (q : Profile) → calls_of l ks q ≤ length ks
calls_few l [] q = lit≤ tt
calls_few l (k ∷ ks) q = by k.made (try_of l k q).ok (calls_few l ks (try_of l k q).profile)
  where
    by : (a b : Bool) {n m : ℕ} → n ≤ m → cond a 1 0 + cond b 0 n ≤ suc m
    by true true h = omega arith
    by true false h = omega arith
    by false true h = omega arith
    by false false h = omega arith

-- none of them called: the profile is as it came, and so has the cause 12 where it had it
pub none_called : (l : Limits) (ks : List Trial) (q : Profile) → calls_of l ks q ≡ 0 → (tried_of l ks q).profile ≡ q
unfolding tried_of
none_called l [] q h = refl
none_called l (k ∷ ks) q h = by k.made refl h (none_called l ks q)
  where
    by : (b : Bool) → k.made ≡ b
        → cond b 1 0 + cond (try_of l k q).ok 0 (calls_of l ks (try_of l k q).profile) ≡ 0
        → (calls_of l ks q ≡ 0 → (tried_of l ks q).profile ≡ q) → (or_else (try_of l k q) (tried_of l ks)).profile ≡ q
    by true e n rest = absurd (omega arith)
    by false e n rest =
        let is : try_of l k q ≡ nothing q = unfold try_of in rw e in
        let m : 0 + calls_of l ks q ≡ 0 = rw is at n in
        rw is (rest (omega arith))

-- ---- the cause
try_cause : (l : Limits) (k : Trial) (q : Profile) → is_yes q.cause ≡ false
    → (try_of l k q).ok ≡ is_yes (try_of l k q).profile.cause
unfolding try_of
try_cause l k q h = by k.made
  where
    by : (b : Bool) → (cond b (attempt_of l k q) (nothing q)).ok
        ≡ is_yes (cond b (attempt_of l k q) (nothing q)).profile.cause
    by true = unfold attempt_of in timing_verdict _ _ _ _ _ _ _ _ (timed l k q)
    by false = sym h

pub verdict_is_cause : (l : Limits) (ks : List Trial) (q : Profile) → is_yes q.cause ≡ false
    → (tried_of l ks q).ok ≡ is_yes (tried_of l ks q).profile.cause
unfolding tried_of
verdict_is_cause l [] q h = sym h
verdict_is_cause l (k ∷ ks) q h =
    let c = try_of l k q in by c.ok c.profile (try_cause l k q h) (verdict_is_cause l ks c.profile)
  where
    by : (b : Bool) (x : Profile) → b ≡ is_yes x.cause
        → (is_yes x.cause ≡ false → (tried_of l ks x).ok ≡ is_yes (tried_of l ks x).profile.cause)
        → (or_else (record { ok = b; profile = x }) (tried_of l ks)).ok
        ≡ is_yes (or_else (record { ok = b; profile = x }) (tried_of l ks)).profile.cause
    by true x e rest = e
    by false x e rest = rest (sym e)

-- the last call counts: the cause before it, a mark's too, is not looked at
pub last_counts : (l : Limits) (k : Trial) (q : Profile) (n : ℕ) (c : Cause) → k.made ≡ true
    → (try_of l k (noted n c q)).profile.cause ≡ (try_of l k q).profile.cause
unfolding try_of attempt_of
last_counts l k q n c e = rw e (timing_anew _ _ _ _ _ _ _ _ (timed l k q) n c)

-- a call leaves a cause that is not 12, and no trial after it puts 12 back
abbrev Called : Profile → Type 0
Called q = cause_number_of q.cause ≡ 12 → ⊥

module _ (l : Limits) (k : Trial) (q : Profile) where
  try_called : k.made ≡ true → Called (try_of l k q).profile
  unfolding try_of attempt_of
  try_called e = rw e (timing_cause _ _ _ _ _ _ _ _ (timed l k q))

  try_keeps : Called q → Called (try_of l k q).profile
  unfolding try_of
  try_keeps h = by k.made refl
    where
      by : (b : Bool) → k.made ≡ b → Called (cond b (attempt_of l k q) (nothing q)).profile
      by true e = unfold attempt_of in timing_cause _ _ _ _ _ _ _ _ (timed l k q)
      by false e = h

or_called : (b : Bool) (x : Profile) (f : Profile → Checked) → Called x → (Called x → Called (f x).profile)
    → Called (or_else (record { ok = b; profile = x }) f).profile
or_called true x f h k = h
or_called false x f h k = k h

tried_keeps : (l : Limits) (ks : List Trial) (q : Profile) → Called q → Called (tried_of l ks q).profile
unfolding tried_of
tried_keeps l [] q h = h
tried_keeps l (k ∷ ks) q h =
    let c = try_of l k q in
    or_called c.ok c.profile (tried_of l ks) (try_keeps l k q h) (tried_keeps l ks c.profile)

pub called : (l : Limits) (ks : List Trial) (q : Profile) → (calls_of l ks q ≡ 0 → ⊥)
    → cause_number_of (tried_of l ks q).profile.cause ≡ 12 → ⊥
unfolding tried_of
called l [] q h = absurd (h refl)
called l (k ∷ ks) q h =
    let c = try_of l k q in
    by k.made refl h
    (λ made. or_called c.ok c.profile (tried_of l ks) (try_called l k q made) (tried_keeps l ks c.profile))
    (called l ks q)
  where
    by : (b : Bool) → k.made ≡ b
        → (cond b 1 0 + cond (try_of l k q).ok 0 (calls_of l ks (try_of l k q).profile) ≡ 0 → ⊥)
        → (k.made ≡ true → Called (or_else (try_of l k q) (tried_of l ks)).profile)
        → ((calls_of l ks q ≡ 0 → ⊥) → Called (tried_of l ks q).profile)
        → Called (or_else (try_of l k q) (tried_of l ks)).profile
    by true e n first rest = first e
    by false e n first rest =
        let is : try_of l k q ≡ nothing q = unfold try_of in rw e in
        let m : 0 + calls_of l ks q ≡ 0 → ⊥ = rw is at n in
        rw is (rest (λ z. m (omega arith)))

-- ---- demand 2 leaves both out
abbrev Alike : (Profile → Checked) → Type 0
Alike f = (x y : Profile) → record_of x ≡ record_of y → rust_of (f x) ≡ rust_of (f y)

try_apart : (l : Limits) (k : Trial) → Alike (try_of l k)
unfolding try_of
try_apart l k x y e = by k.made
  where
    one : (q : Profile) → rust_of (attempt_of l k (record_of q)) ≡ rust_of (attempt_of l k q)
    one q = unfold attempt_of in timing_apart _ _ _ _ _ _ _ _ (timed l k q) 0 NoCall

    by : (b : Bool) → rust_of (cond b (attempt_of l k x) (nothing x)) ≡ rust_of (cond b (attempt_of l k y) (nothing y))
    by true = sym (one x) ∙ ap (λ (r : Profile). rust_of (attempt_of l k r)) e ∙ one y
    by false = ap (λ (r : Profile). record { ok = false; profile = r }) e

-- whatever count and cause a profile has, the trials give it the same verdict and leave it the same record
pub tried_apart : (l : Limits) (ks : List Trial) (x y : Profile) → record_of x ≡ record_of y
    → rust_of (tried_of l ks x) ≡ rust_of (tried_of l ks y)
unfolding tried_of
tried_apart l [] x y e = ap (λ (r : Profile). record { ok = false; profile = r }) e
tried_apart l (k ∷ ks) x y e =
    let c = try_of l k x in let d = try_of l k y in let same = try_apart l k x y e in
    by c.ok d.ok c.profile d.profile (ap (λ (r : Checked). r.ok) same)
    (ap (λ (r : Checked). r.profile) same) (tried_apart l ks c.profile d.profile)
  where
    by : (a b : Bool) (u v : Profile) → a ≡ b → record_of u ≡ record_of v
        → (record_of u ≡ record_of v → rust_of (tried_of l ks u) ≡ rust_of (tried_of l ks v))
        → rust_of (or_else (record { ok = a; profile = u }) (tried_of l ks))
        ≡ rust_of (or_else (record { ok = b; profile = v }) (tried_of l ks))
    by true true u v h r rest = ap (λ (z : Profile). record { ok = true; profile = z }) r
    by true false u v h r rest = absurd (true≢false h)
    by false true u v h r rest = absurd (true≢false (sym h))
    by false false u v h r rest = rest r
