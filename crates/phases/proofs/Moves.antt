-- The phases made in a row are those of its times and jerks. Assumes nothing.
use mathlib.Core.Path.{◌≡◌, refl, ap, sym, ◌∙◌}
use mathlib.Core.Bool.{Bool, true, false}
use mathlib.Core.List.{List, [], ◌∷◌}
use Prim.Native.Nat.{ℕ, ◌+◌, ◌-◌, ◌<◌}
use native.Mathlib.Nat.{zero-add}
use native.Mathlib.Omega.{arith}
use lib.ListN.{length, get_or, set, length-set}
use lib.Seq.{get_or-set_same, get_or-set_other}
use lib.Ieee.{Float, nan}
use Rattle.row.specs.Row.{Nodes, Numbers, part, numbers_in, with_nodes}
use Rattle.row.proofs.Rows.{part_at, in_a, in_v, in_p}
use Rattle.limits.specs.declared.Band.{Band}
use Rattle.phases.specs.declared.phase.Next.{Next}
use Rattle.phases.specs.declared.replacing.Replacing.{Replacing}
use Rattle.phases.specs.Run.{Step, no!, run}
use Rattle.phases.specs.Phase.{next_of, node_of, phase_of}
use Rattle.phases.specs.Moved.{moved_of}
use Rattle.phases.proofs.Runs.{seen, runs, turn, halt}

-- a node stored after phase i
abbrev node_in : List Float → ℕ → Next → List Float
node_in x i r = set (set (set x (38 + i) r.p) (30 + i) r.v) (22 + i) r.a

node_seen : (x : List Float) (i : ℕ) (r : Next) → i < 7
    → numbers_in (node_in x i r)
    ≡ with_nodes (record {
      a = set (part 21 8 x) (i + 1) r.a;
      v = set (part 29 8 x) (i + 1) r.v;
      p = set (part 37 8 x) (i + 1) r.p;
    })
    (numbers_in x)
node_seen x i r h =
    in_a (r.a ∷ []) (set (set x (38 + i) r.p) (30 + i) r.v) (22 + i) (i + 1) (omega arith) (omega arith)
    ∙ ap (λ (m : Numbers).
    with_nodes (record { a = set m.nodes.a (i + 1) r.a; v = m.nodes.v; p = m.nodes.p }) m)
    (in_v (r.v ∷ []) (set x (38 + i) r.p) (30 + i) (i + 1) (omega arith) (omega arith))
    ∙ ap (λ (m : Numbers). with_nodes (record {
      a = set m.nodes.a (i + 1) r.a;
      v = set m.nodes.v (i + 1) r.v;
      p = m.nodes.p;
    }) m)
    (in_p (r.p ∷ []) x (38 + i) (i + 1) (omega arith) (omega arith))

module _ (w : Replacing) (b : Band) where
  -- what `nodes` does to a row, and the same on numbers
  abbrev pub row-phase : ℕ → List Float → Step (List Float)
  row-phase i x =
      let r =
      next_of w.tests w.set_limits w.a_max w.a_min b i (get_or x i nan) (get_or x (14 + i) nan) (get_or x (37 + i) nan)
      (get_or x (29 + i) nan) (get_or x (21 + i) nan) in
      record { ok = r.ok; left = node_in x i r }

  on_numbers : ℕ → Numbers → Step Numbers
  on_numbers i n =
      seen (λ (q : Nodes). with_nodes q n) (phase_of w.tests w.set_limits w.a_max w.a_min b n.t n.j i n.nodes)

  step_seen : (i : ℕ) (x : List Float) → i < 7 → seen numbers_in (row-phase i x) ≡ on_numbers i (numbers_in x)
  unfolding on_numbers phase_of node_of
  step_seen i x h =
      rw (part_at 0 7 i x h, zero-add i, part_at 14 7 i x h, part_at 37 8 i x (omega arith))
      (rw (part_at 29 8 i x (omega arith), part_at 21 8 i x (omega arith))
      (rw (node_seen x i (next_of w.tests w.set_limits w.a_max w.a_min b i (get_or x i nan) (get_or x (14 + i) nan)
      (get_or x (37 + i) nan) (get_or x (29 + i) nan) (get_or x (21 + i) nan)) h)))

  pub moved : (x : List Float) {y : Step (List Float)} → y ≡ run row-phase 7 0 x
      → seen numbers_in y ≡ moved_of w.tests w.set_limits w.a_max w.a_min b (numbers_in x)
  unfolding moved_of
  moved x e =
      rw e
      (runs numbers_in row-phase on_numbers 7 step_seen 7 0 x (omega arith)
      ∙ sym (runs (λ (q : Nodes). with_nodes q n) (phase_of w.tests w.set_limits w.a_max w.a_min b n.t n.j) on_numbers 7
      (λ i q h. beside i q) 7 0 n.nodes (omega arith)))
    where
      n : Numbers
      n = numbers_in x

      beside : (i : ℕ) (q : Nodes)
          → seen (λ (q : Nodes). with_nodes q n) (phase_of w.tests w.set_limits w.a_max w.a_min b n.t n.j i q)
          ≡ on_numbers i (with_nodes q n)
      beside i q = unfold on_numbers in refl

-- ---- the loop keeps the numbers of a node: they are entry i of the row
pub record Held (x : List Float) (i : ℕ) (p0 v0 a0 : Float) : Type 0 where
  pub row : length x ≡ 48
  pub at_p : p0 ≡ get_or x (37 + i) nan
  pub at_v : v0 ≡ get_or x (29 + i) nan
  pub at_a : a0 ≡ get_or x (21 + i) nan

pub held : (x : List Float) (i : ℕ) (r : Next) → length x ≡ 48 → i < 7
    → Held (node_in x i r) (i + 1) r.p r.v r.a
held x i r e h =
    record {
      row = long;
      at_p = sym (other y (22 + i) (37 + (i + 1)) r.a (omega arith)
          ∙ other (set x (38 + i) r.p) (30 + i) (37 + (i + 1)) r.v (omega arith)
          ∙ same x (38 + i) (37 + (i + 1)) r.p (omega arith) (omega (arith, e)));
      at_v = sym (other y (22 + i) (29 + (i + 1)) r.a (omega arith)
          ∙ same (set x (38 + i) r.p) (30 + i) (29 + (i + 1)) r.v (omega arith)
          (omega (arith, e, length-set x (38 + i) r.p)));
      at_a = sym (same y (22 + i) (21 + (i + 1)) r.a (omega arith) (omega (arith, e, short)));
    }
  where
    y : List Float
    y = set (set x (38 + i) r.p) (30 + i) r.v

    short : length y ≡ length x
    short = length-set (set x (38 + i) r.p) (30 + i) r.v ∙ length-set x (38 + i) r.p

    long : length (node_in x i r) ≡ 48
    long = length-set y (22 + i) r.a ∙ short ∙ e

    other : (l : List Float) (j k : ℕ) (z : Float) → j < k → get_or (set l j z) k nan ≡ get_or l k nan
    other l j k z h = get_or-set_other l j k z nan (λ e. omega arith)

    same : (l : List Float) (j k : ℕ) (z : Float) → k ≡ j → j < length l → get_or (set l j z) k nan ≡ z
    same l j k z e h = ap (λ (n : ℕ). get_or (set l j z) n nan) e ∙ get_or-set_same l j z nan h

module _ (w : Replacing) (b : Band) (x : List Float) (i : ℕ) {p0 v0 a0 : Float}
    (h : Held x i p0 v0 a0) {r : Next}
    (e : r ≡ next_of w.tests w.set_limits w.a_max w.a_min b i (get_or x i nan) (get_or x (14 + i) nan) p0 v0 a0)
    (more : i < 7) where
  abbrev one : ℕ → List Float → Step (List Float)
  one = row-phase w b

  stepped : record { ok = r.ok; left = node_in x i r } ≡ one i x
  stepped = rw (e, h.at_p, h.at_v, h.at_a)

  pub stops : r.ok ≡ false → no! (node_in x i r) ≡ run one (7 - i) i x
  stops k = said_no r.ok k (halt one 7 i x (record { ok = r.ok; left = node_in x i r }) stepped more k)
    where
      said_no : (o : Bool) → o ≡ false → record { ok = o; left = node_in x i r } ≡ run one (7 - i) i x
          → no! (node_in x i r) ≡ run one (7 - i) i x
      said_no o k e = rw k at e

  pub goes : r.ok ≡ true → run one (7 - (i + 1)) (i + 1) (node_in x i r) ≡ run one (7 - i) i x
  goes k = turn one 7 i x (record { ok = r.ok; left = node_in x i r }) stepped more k
