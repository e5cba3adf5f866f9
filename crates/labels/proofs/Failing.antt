-- A row of tests: none fails exactly where the cause is Yes; and the laws of two rows one after the other. Assumes
-- nothing.
use mathlib.Core.Path.{◌≡◌, refl, sym}
use mathlib.Core.Bool.{Bool, true, false, cond, ◌&&◌, true≢false}
use mathlib.Core.List.{List, [], ◌∷◌, ◌++◌}
use Rattle.labels.specs.Causes.{is_yes, Test, none_fails, cause_of}

-- no test of the row puts its no down to Yes
abbrev pub Named : List Test → Type 0
Named [] = Unit {0}
Named (x ∷ xs) = (is_yes x.cause ≡ false) × Named xs

pub none_fails_lem : (xs : List Test) → Named xs → none_fails xs ≡ is_yes (cause_of xs)
none_fails_lem [] h = refl
none_fails_lem (x ∷ xs) h = by x.passed h.0 (none_fails_lem xs h.1)
  where
    by : (b : Bool) → is_yes x.cause ≡ false → none_fails xs ≡ is_yes (cause_of xs)
        → b && none_fails xs ≡ is_yes (cond b (cause_of xs) x.cause)
    by true e h = h
    by false e h = rw e

-- ---- one row after the other
pub both_pass : (xs ys : List Test) → none_fails (xs ++ ys) ≡ none_fails xs && none_fails ys
both_pass [] ys = refl
both_pass (x ∷ xs) ys = by x.passed (both_pass xs ys)
  where
    by : (b : Bool) → none_fails (xs ++ ys) ≡ none_fails xs && none_fails ys
        → b && none_fails (xs ++ ys) ≡ (b && none_fails xs) && none_fails ys
    by true e = e
    by false e = refl

pub earlier : (xs ys : List Test) → none_fails xs ≡ false → cause_of (xs ++ ys) ≡ cause_of xs
earlier [] ys h = absurd (true≢false h)
earlier (x ∷ xs) ys h = by x.passed h (earlier xs ys)
  where
    by : (b : Bool) → b && none_fails xs ≡ false → (none_fails xs ≡ false → cause_of (xs ++ ys) ≡ cause_of xs)
        → cond b (cause_of (xs ++ ys)) x.cause ≡ cond b (cause_of xs) x.cause
    by true e h = h e
    by false e h = refl

pub later : (xs ys : List Test) → none_fails xs ≡ true → cause_of (xs ++ ys) ≡ cause_of ys
later [] ys h = refl
later (x ∷ xs) ys h = by x.passed h (later xs ys)
  where
    by : (b : Bool) → b && none_fails xs ≡ true → (none_fails xs ≡ true → cause_of (xs ++ ys) ≡ cause_of ys)
        → cond b (cause_of (xs ++ ys)) x.cause ≡ cause_of ys
    by true e h = h e
    by false e h = absurd (true≢false (sym e))

pub each_passes : (x : Test) (xs : List Test) → none_fails (x ∷ xs) ≡ true → (x.passed ≡ true) × (none_fails xs ≡ true)
each_passes x xs h = by x.passed h
  where
    by : (b : Bool) → b && none_fails xs ≡ true → (b ≡ true) × (none_fails xs ≡ true)
    by true h = (refl, h)
    by false h = absurd (true≢false (sym h))

pub both_rows : (xs ys : List Test) → none_fails (xs ++ ys) ≡ true → (none_fails xs ≡ true) × (none_fails ys ≡ true)
both_rows [] ys h = (refl, h)
both_rows (x ∷ xs) ys h =
    let e = each_passes x (xs ++ ys) h in
    let r = both_rows xs ys e.1 in
    (rw e.0 r.0, r.1)
