-- `root54` is the whole part of the root, by `proofs/Halves.antt`: one less where the division left too little.
-- Assumes nothing.
use mathlib.Core.Path.{sym}
use native.Mathlib.Nat.{add-sub_of_le}
use Rattle.sqrt.proofs.Halves.{halves, less}
use Rattle.sqrt.proofs.integer.root54.Goals as goal

pub returns-then-t-c : goal.returns-then-t-c
returns-then-t-c c =
    less _ _ _ _ _ (sym (add-sub_of_le c.root27-h.ensures.under))
    (halves c.args.a c.root27-h.result c.requires c.root27-h.ensures) c.if-t-c.true
