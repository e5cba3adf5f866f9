-- Trials made in turn: one after the other, and a list after a list. Assumes nothing.
use mathlib.Core.Bool.{Bool, true, false}
use mathlib.Core.List.{List, [], ◌∷◌, ◌++◌}
use mathlib.Core.Path.{◌≡◌, refl, ap, fun_ext, ◌∙◌}
use Rattle.profile.specs.declared.Profile.{Profile}
use Rattle.profile.specs.declared.Checked.{Checked}
use Rattle.step2_solver.specs.declared.Limits.{Limits}
use Rattle.step2_solver.specs.declared.Trial.{Trial}
use Rattle.step2_attempt.specs.Attempt.{nothing, or_else, try_of, tried_of}

assoc : (b : Bool) (x : Profile) (f g : Profile → Checked)
    → or_else (or_else (record { ok = b; profile = x }) f) g
    ≡ or_else (record { ok = b; profile = x }) (λ q. or_else (f q) g)
assoc true x f g = refl
assoc false x f g = refl

in_turn : (l : Limits) (xs ys : List Trial) (q : Profile)
    → or_else (tried_of l xs q) (tried_of l ys) ≡ tried_of l (xs ++ ys) q
unfolding tried_of
in_turn l [] ys q = refl
in_turn l (k ∷ xs) ys q =
    let c = try_of l k q in
    assoc c.ok c.profile (tried_of l xs) (tried_of l ys)
    ∙ ap (λ (f : Profile → Checked). or_else c f) (fun_ext (in_turn l xs ys))

-- the first ones get a yes; or a no, and the others go on with the record that it left
pub first_yes : (l : Limits) (xs ys : List Trial) (q : Profile) {c : Checked}
    → c ≡ tried_of l xs q → c.ok ≡ true → c ≡ tried_of l (xs ++ ys) q
first_yes l xs ys q e y = rw (← in_turn l xs ys q, ← e, y)

pub first_no_lem : (l : Limits) (xs ys : List Trial) (q : Profile) {c d : Checked}
    → c ≡ tried_of l xs q → c.ok ≡ false → d ≡ tried_of l ys c.profile → d ≡ tried_of l (xs ++ ys) q
first_no_lem l xs ys q e y h = rw (← in_turn l xs ys q, ← e, y) h

-- the same for one trial, k' as it was worked out; and for the last one
module _ (l : Limits) (ks : List Trial) (q : Profile) {k k' : Trial} {c : Checked} (is : k' ≡ k)
    (tries : c ≡ try_of l k' q) where
  pub yes! : c.ok ≡ true → c ≡ tried_of l (k ∷ ks) q
  unfolding tried_of
  yes! y = rw (← is, ← tries, y)

  pub no! : {d : Checked} → c.ok ≡ false → d ≡ tried_of l ks c.profile → d ≡ tried_of l (k ∷ ks) q
  unfolding tried_of
  no! y h = rw (← is, ← tries, y) h

pub last : (l : Limits) (q : Profile) {k k' : Trial} {c : Checked} → k' ≡ k → c ≡ try_of l k' q
    → c ≡ tried_of l (k ∷ []) q
unfolding tried_of
last l q {k} {k'} {c} is tries = rw (← is, ← tries) (by c.ok c.profile)
  where
    by : (b : Bool) (x : Profile) → record { ok = b; profile = x } ≡ or_else (record { ok = b; profile = x }) nothing
    by true x = refl
    by false x = refl
