-- A row after numbers are stored in it, from place m on: the part that they stand in holds them, the others are as they
-- were. Assumes nothing.
use mathlib.Core.Path.{◌≡◌, refl, ap, sym, ◌∙◌}
use mathlib.Core.List.{List, [], ◌∷◌, append-nil}
use Prim.Native.Nat.{ℕ, suc, ◌+◌, ◌-◌, ◌≤◌, ◌<◌}
use native.Mathlib.Omega.{arith}
use lib.ListN.{length, get_or, take, drop, set, length-drop, drop_of_length-le}
use lib.Seq.{sets, sets-eq, get_or-take, get_or-drop, get_or-set_other, take-set-lt, take-set-le, drop-set-add}
use lib.Seq.{drop-set-lt}
use lib.Seq.{length-take-le, length-sets}
use lib.Ieee.{Float, nan}
use Rattle.row.specs.Row.{Numbers, part, goal_in, numbers_in, with_times, with_sums, with_jerks, with_nodes}

pub part_at : (k n i : ℕ) (x : List Float) → i < n → get_or (part k n x) i nan ≡ get_or x (k + i) nan
unfolding part
part_at k n i x h = get_or-take n (drop k x) i nan h ∙ get_or-drop k x i nan

pub part_long : (k n : ℕ) (x : List Float) → k + n ≤ length x → length (part k n x) ≡ n
unfolding part
part_long k n x h = length-take-le n (drop k x) (simp length-drop (omega arith))

-- as many numbers as there are places
pub filled : (l vs : List Float) → length vs ≡ length l → sets l 0 vs ≡ vs
filled l vs e =
    sets-eq vs l 0 (omega arith) ∙ rw (drop_of_length-le l {i = 0 + length vs} (omega arith), append-nil vs)

-- ---- a part of a row after stores in it, before it, after it
module _ (k n : ℕ) where
  in_it : (vs x : List Float) (m i : ℕ) → m ≡ k + i → i + length vs ≤ n
      → part k n (sets x m vs) ≡ sets (part k n x) i vs
  in_it [] x m i e h = refl
  in_it (v ∷ vs) x m i e h =
      in_it vs (set x m v) (suc m) (suc i) (omega arith) (omega arith)
      ∙ ap (λ (l : List Float). sets l (suc i) vs) (one (omega arith))
    where
      one : i < n → part k n (set x m v) ≡ set (part k n x) i v
      one h =
          unfold part in
          ap (λ (j : ℕ). take n (drop k (set x j v))) e
          ∙ ap (take n) (drop-set-add k x i v)
          ∙ take-set-lt n (drop k x) i v h

  below : (vs x : List Float) (m : ℕ) → m + length vs ≤ k → part k n (sets x m vs) ≡ part k n x
  below [] x m h = refl
  below (v ∷ vs) x m h = below vs (set x m v) (suc m) (omega arith) ∙ one (omega arith)
    where
      one : m < k → part k n (set x m v) ≡ part k n x
      one h = unfold part in ap (take n) (drop-set-lt k x m v h)

  above : (vs x : List Float) (m : ℕ) → k + n ≤ m → part k n (sets x m vs) ≡ part k n x
  above [] x m h = refl
  above (v ∷ vs) x m h = above vs (set x m v) (suc m) (omega arith) ∙ one
    where
      from_k : m ≡ k + (m - k)
      from_k = omega arith

      one : part k n (set x m v) ≡ part k n x
      one =
          unfold part in
          ap (λ (j : ℕ). take n (drop k (set x j v))) from_k
          ∙ ap (take n) (drop-set-add k x (m - k) v)
          ∙ take-set-le n (drop k x) (m - k) v (omega arith)

goal-kept : (vs x : List Float) (m : ℕ) → m + length vs ≤ 45 → goal_in (sets x m vs) ≡ goal_in x
goal-kept [] x m h = refl
goal-kept (v ∷ vs) x m h =
    goal-kept vs (set x m v) (suc m) (omega arith)
    ∙ rw (other 45 (omega arith), other 46 (omega arith), other 47 (omega arith))
  where
    other : (i : ℕ) → m < i → get_or (set x m v) i nan ≡ get_or x i nan
    other i h = get_or-set_other x m i v nan (λ e. omega arith)

-- ---- the numbers of a row after stores in one of its parts, from its place i on
module _ (vs x : List Float) (m i : ℕ) where
  pub in_times : m ≡ 0 + i → i + length vs ≤ 7
      → numbers_in (sets x m vs) ≡ with_times (sets (part 0 7 x) i vs) (numbers_in x)
  in_times e h =
      rw (in_it 0 7 vs x m i e h, below 7 7 vs x m (omega arith), below 14 7 vs x m (omega arith))
      (rw (below 21 8 vs x m (omega arith), below 29 8 vs x m (omega arith), below 37 8 vs x m (omega arith))
      (rw (goal-kept vs x m (omega arith))))

  pub in_sums : m ≡ 7 + i → i + length vs ≤ 7
      → numbers_in (sets x m vs) ≡ with_sums (sets (part 7 7 x) i vs) (numbers_in x)
  in_sums e h =
      rw (above 0 7 vs x m (omega arith), in_it 7 7 vs x m i e h, below 14 7 vs x m (omega arith))
      (rw (below 21 8 vs x m (omega arith), below 29 8 vs x m (omega arith), below 37 8 vs x m (omega arith))
      (rw (goal-kept vs x m (omega arith))))

  pub in_jerks : m ≡ 14 + i → i + length vs ≤ 7
      → numbers_in (sets x m vs) ≡ with_jerks (sets (part 14 7 x) i vs) (numbers_in x)
  in_jerks e h =
      rw (above 0 7 vs x m (omega arith), above 7 7 vs x m (omega arith), in_it 14 7 vs x m i e h)
      (rw (below 21 8 vs x m (omega arith), below 29 8 vs x m (omega arith), below 37 8 vs x m (omega arith))
      (rw (goal-kept vs x m (omega arith))))

  pub in_a : m ≡ 21 + i → i + length vs ≤ 8
      → numbers_in (sets x m vs)
      ≡ with_nodes (record { a = sets (part 21 8 x) i vs; v = part 29 8 x; p = part 37 8 x }) (numbers_in x)
  in_a e h =
      rw (above 0 7 vs x m (omega arith), above 7 7 vs x m (omega arith), above 14 7 vs x m (omega arith))
      (rw (in_it 21 8 vs x m i e h, below 29 8 vs x m (omega arith), below 37 8 vs x m (omega arith))
      (rw (goal-kept vs x m (omega arith))))

  pub in_v : m ≡ 29 + i → i + length vs ≤ 8
      → numbers_in (sets x m vs)
      ≡ with_nodes (record { a = part 21 8 x; v = sets (part 29 8 x) i vs; p = part 37 8 x }) (numbers_in x)
  in_v e h =
      rw (above 0 7 vs x m (omega arith), above 7 7 vs x m (omega arith), above 14 7 vs x m (omega arith))
      (rw (above 21 8 vs x m (omega arith), in_it 29 8 vs x m i e h, below 37 8 vs x m (omega arith))
      (rw (goal-kept vs x m (omega arith))))

  pub in_p : m ≡ 37 + i → i + length vs ≤ 8
      → numbers_in (sets x m vs)
      ≡ with_nodes (record { a = part 21 8 x; v = part 29 8 x; p = sets (part 37 8 x) i vs }) (numbers_in x)
  in_p e h =
      rw (above 0 7 vs x m (omega arith), above 7 7 vs x m (omega arith), above 14 7 vs x m (omega arith))
      (rw (above 21 8 vs x m (omega arith), above 29 8 vs x m (omega arith), in_it 37 8 vs x m i e h)
      (rw (goal-kept vs x m (omega arith))))

-- ---- a whole part stored
module _ (x vs : List Float) (row : length x ≡ 48) where
  all7 : (k : ℕ) → k + 7 ≤ 48 → length vs ≡ 7 → sets (part k 7 x) 0 vs ≡ vs
  all7 k h n = filled (part k 7 x) vs (n ∙ sym (part_long k 7 x (omega arith)))

  all8 : (k : ℕ) → k + 8 ≤ 48 → length vs ≡ 8 → sets (part k 8 x) 0 vs ≡ vs
  all8 k h n = filled (part k 8 x) vs (n ∙ sym (part_long k 8 x (omega arith)))

  pub put_times : {y : List Float} → length vs ≡ 7 → y ≡ sets x 0 vs → numbers_in y ≡ with_times vs (numbers_in x)
  put_times n e = rw e (in_times vs x 0 0 refl (omega arith) ∙ rw (all7 0 (omega arith) n))

  pub put_sums : {y : List Float} → length vs ≡ 7 → y ≡ sets x 7 vs → numbers_in y ≡ with_sums vs (numbers_in x)
  put_sums n e = rw e (in_sums vs x 7 0 refl (omega arith) ∙ rw (all7 7 (omega arith) n))

  pub put_jerks : {y : List Float} → length vs ≡ 7 → y ≡ sets x 14 vs → numbers_in y ≡ with_jerks vs (numbers_in x)
  put_jerks n e = rw e (in_jerks vs x 14 0 refl (omega arith) ∙ rw (all7 14 (omega arith) n))

  put_a : {y : List Float} → length vs ≡ 8 → y ≡ sets x 21 vs
      → numbers_in y ≡ with_nodes (record { a = vs; v = part 29 8 x; p = part 37 8 x }) (numbers_in x)
  put_a n e = rw e (in_a vs x 21 0 refl (omega arith) ∙ rw (all8 21 (omega arith) n))

  put_v : {y : List Float} → length vs ≡ 8 → y ≡ sets x 29 vs
      → numbers_in y ≡ with_nodes (record { a = part 21 8 x; v = vs; p = part 37 8 x }) (numbers_in x)
  put_v n e = rw e (in_v vs x 29 0 refl (omega arith) ∙ rw (all8 29 (omega arith) n))

  put_p : {y : List Float} → length vs ≡ 8 → y ≡ sets x 37 vs
      → numbers_in y ≡ with_nodes (record { a = part 21 8 x; v = part 29 8 x; p = vs }) (numbers_in x)
  put_p n e = rw e (in_p vs x 37 0 refl (omega arith) ∙ rw (all8 37 (omega arith) n))

module _ (x a v p y z w : List Float) (n : length x ≡ 48) (na : length a ≡ 8) (nv : length v ≡ 8)
    (np : length p ≡ 8) (ey : y ≡ sets x 21 a) (ez : z ≡ sets y 29 v) (ew : w ≡ sets z 37 p) where
  pub put_nodes : numbers_in w ≡ with_nodes (record { a = a; v = v; p = p }) (numbers_in x)
  put_nodes =
      put_p z p nz np ew
      ∙ ap (λ (m : Numbers). with_nodes (record { a = m.nodes.a; v = m.nodes.v; p = p }) m) (put_v y v ny nv ez)
      ∙ ap (λ (m : Numbers). with_nodes (record { a = m.nodes.a; v = v; p = p }) m) (put_a x a n na ey)
    where
      ny : length y ≡ 48
      ny = ap length ey ∙ length-sets x 21 a ∙ n

      nz : length z ≡ 48
      nz = ap length ez ∙ length-sets y 29 v ∙ ny
