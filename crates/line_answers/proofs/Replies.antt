-- Assumes nothing. The ways out of a reply, over any questions: a number, and the places as they came;
-- or the reply in the first of them.
use mathlib.Core.Path.{◌≡◌, refl, ap, sym, ◌∙◌}
use mathlib.Core.Bool.{Bool, false}
use mathlib.Core.List.{List, ◌∷◌, ◌++◌}
use Prim.Native.Nat.{ℕ}
use borrow.Author.Tests.{ne_eqb}
use Rattle.std.specs.Prelude.{Option, Some, None, Result, Ok, Err, IsErr, IsErrAnd, ok_or}
use Rattle.std.specs.Result.{result_ok}
use Rattle.line_kinds.specs.declared.refusals.Refusal.{Refusal}
use Rattle.hex_bytes.specs.Hex.{hex_of, fill}
use Rattle.line_questions.specs.Questions.{Question, ask, AllYes}
use Rattle.line_questions.proofs.Asked.{stops, none}
use Rattle.line_answers.specs.FrameAnswer.{replied_of}

module _ (bytes lent : List ℕ) where
  -- the first were answered yes, and the next gets a no
  pub refused : (first : List Question) (n : ℕ) (rest : List Question) {b : Bool} → AllYes first → b ≡ false
      → (n ≡ 0 → ⊥)
      → record { number = n; places = lent } ≡ replied_of (first ++ (ask n b ∷ rest)) bytes lent
  unfolding replied_of
  refused first n rest h e z = rw (stops first n rest h e, ne_eqb n 0 z)

  -- none got a no
  pub replied : (qs : List Question) → AllYes qs → (reply : List ℕ) → reply ≡ fill (hex_of bytes) lent
      → record { number = 0; places = reply } ≡ replied_of qs bytes lent
  unfolding replied_of
  replied qs h reply e = rw (none qs h, e)

-- ---- where a `?` of an `ok_or` goes on, and where it stops
pub went_on : {X : Type 0} {o : Option X} {r : Result X Refusal} {x : X} → o ≡ result_ok r → r ≡ Ok x → Some x ≡ o
went_on k h = sym (k ∙ ap result_ok h)

unmade : {X : Type 0} {e f : Refusal} (o : Option X) → Err f ≡ ok_or o e → (None ≡ o) × (f ≡ e)
unmade None h = (refl, cc)
unmade (Some x) h = cc

pub stopped : {X T : Type 0} {o : Option X} {e f : Refusal} {r : Result X Refusal} (s : Result T Refusal)
    → r ≡ ok_or o e → r ≡ Err f → IsErr s × IsErrAnd s (λ g. g ≡ f) → (None ≡ o) × (s ≡ Err e)
stopped (Ok x) k h l = absurd l.1
stopped (Err g) k h l = let u = unmade _ (sym h ∙ k) in (u.0, rw (l.1 ∙ u.1))
