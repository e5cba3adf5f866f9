-- A line that ends, in a block or where the input ends. Assumes nothing.
use mathlib.Core.Path.{◌≡◌, refl, ◌∙◌}
use mathlib.Core.List.{List, [], ◌∷◌, append-nil}
use Prim.Native.Nat.{ℕ, ◌+◌, ◌<◌, min}
use native.Mathlib.Omega.{arith}
use lib.ListN.{length, take}
use lib.Seq.{length-take-le}
use Rattle.hex_bytes.proofs.Turns.{sets-fill}
use Rattle.line_cut.specs.Cut.{Fills, Put}
use Rattle.line_cut.specs.Stream.{kept_most}
use Rattle.line_cut.proofs.Keeping.{held}
use Rattle.line_stream.specs.Output.{answer_most, line_output, line_way, last_output}
use Rattle.line_stream.proofs.Answers.{output_most}

pub put_same : (out : List ℕ) (at : ℕ) (line line' : List ℕ) (r : ℕ) (out' : List ℕ) → line ≡ line'
    → Put out at (line_output line) r out' → Put out at (line_output line') r out'
put_same out at line line' r out' e p = rw e at p

last_one : (line : List ℕ) → 0 < length line → last_output line ≡ line_output line
last_one [] h = absurd (none h)
  where
    none : 0 < 0 → ⊥
    none h = omega arith
last_one (c ∷ line) h = append-nil (line_output (c ∷ line))

module _ (kept : List ℕ) (count n : ℕ) (e : n ≡ min count (kept_most line_way)) where
  pub none-held : n ≡ 0 → (out : List ℕ) → Fills out (last_output (take count kept)) 0 out
  none-held z out = let c : count ≡ 0 = omega arith in rw c (record { count_is = refl; out_is = refl })

  pub one_held : length kept ≡ kept_most line_way → (n ≡ 0 → ⊥) → (out : List ℕ) (r : ℕ) (out' : List ℕ)
      → length out ≡ answer_most
      → Put out 0 (line_output (take n kept)) r out' → Fills out (last_output (take count kept)) r out'
  one_held whole z out r out' w p =
      let k : 0 < length (take n kept) = rw (length-take-le n kept (omega arith)) (omega (arith, z)) in
      rw (← held kept count n (rw whole e), last_one (take n kept) k)
      (record {
        count_is = p.end_is ∙ nought (length (line_output (take n kept)));
        out_is = p.out_is ∙ sets-fill (line_output (take n kept)) out (rw w (output_most (take n kept)));
      })
    where
      nought : (n : ℕ) → 0 + n ≡ n
      nought n = omega arith
