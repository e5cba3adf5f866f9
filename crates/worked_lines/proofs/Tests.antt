-- What is to be computed of a worked line, as one test of the line, its answer and a trial; and that a yes of the test
-- tells it. Assumes nothing.
use mathlib.Core.Path.{◌≡◌, refl}
use mathlib.Core.Bool.{Bool, true, false, ◌&&◌}
use mathlib.Core.List.{List, [], ◌∷◌}
use Prim.Native.Nat.{ℕ, zero, suc, ◌+◌, ◌*◌}
use lib.Dec.{T, eqb, leb, eqb→eq, lit≤}
use lib.ListN.{get_or}
use lib.Ieee.Fits.{and_l, and_r}
use Rattle.labels.specs.Labels.{label_number_of, signs_number_of}
use Rattle.rounding.specs.Exact.{D, Size}
use Rattle.rounding.specs.Value.{unit, val}
use Rattle.profile_arrives.proofs.Steps.{by_seven}
use Rattle.step2_solver.specs.declared.Trial.{Trial}
use Rattle.step2_attempt.specs.Attempt.{seven_of}
use Rattle.line_reply.specs.Reply.{numbers_bytes}
use Rattle.line_answers.specs.FrameAnswer.{Answer}
use Rattle.line_arrives.specs.LineArrives.{byte_in, move_in, jerk_in, duration, SaysYes, Sizes}
use Rattle.worked_lines.specs.Attempts.{times_bytes}

-- every test of a list says yes
abbrev pub all : List Bool → Bool
all [] = true
all (b ∷ bs) = b && all bs

pub each : (bs : List Bool) → T (all bs) → (i : ℕ) → T (get_or bs i true)
each [] h i = tt
each (b ∷ bs) h zero = and_l b (all bs) h
each (b ∷ bs) h (suc i) = each bs (and_r b (all bs) h) i

abbrev all_equal : List ℕ → List ℕ → Bool
all_equal [] [] = true
all_equal [] (y ∷ ys) = false
all_equal (x ∷ xs) [] = false
all_equal (x ∷ xs) (y ∷ ys) = eqb x y && all_equal xs ys

equal : (xs ys : List ℕ) → T (all_equal xs ys) → xs ≡ ys
equal [] [] h = refl
equal [] (y ∷ ys) h = absurd h
equal (x ∷ xs) [] h = absurd h
equal (x ∷ xs) (y ∷ ys) h =
    rw (eqb→eq x y (and_l (eqb x y) (all_equal xs ys) h), equal xs ys (and_r (eqb x y) (all_equal xs ys) h))

-- |a| ≤ e
abbrev sized : D → ℕ → Bool
sized a e = leb a.p (a.n + e) && leb a.n (a.p + e)

size : (a : D) (e : ℕ) → T (sized a e) → Size a e
size a e h =
    record {
      over = lit≤ (and_l (leb a.p (a.n + e)) (leb a.n (a.p + e)) h);
      under = lit≤ (and_r (leb a.p (a.n + e)) (leb a.n (a.p + e)) h);
    }

-- ---- the test: the answer and the trial stand in it many times, and are computed once
module _ (line : List ℕ) (answer : Answer) (k : Trial) where
  abbrev reply : List ℕ
  reply = answer.places

  abbrev jerk_sized : ℕ → Bool
  jerk_sized i = sized (val (jerk_in reply i)) (64 * unit)

  abbrev tests : List Bool
  tests =
      eqb answer.number 0
      ∷ eqb (byte_in reply 0) 1
      ∷ k.made
      ∷ eqb (byte_in reply 1) (label_number_of k.label)
      ∷ eqb (byte_in reply 3) (signs_number_of k.signs)
      ∷ all_equal (times_bytes reply) (numbers_bytes (seven_of k.times))
      ∷ sized (val (move_in line).p0) (8 * unit)
      ∷ sized (val (move_in line).v0) (8 * unit)
      ∷ sized (val (move_in line).a0) (8 * unit)
      ∷ leb ((duration reply).p + 0) (8 * unit + (duration reply).n)
      ∷ jerk_sized 0
      ∷ jerk_sized 1
      ∷ jerk_sized 2
      ∷ jerk_sized 3
      ∷ jerk_sized 4
      ∷ jerk_sized 5
      ∷ jerk_sized 6
      ∷ []

  abbrev pub passes : Bool
  passes = all tests

  module _ (h : T passes) where
    pub number_0 : answer.number ≡ 0
    number_0 = eqb→eq answer.number 0 (each tests h 0)

    pub says_yes : SaysYes reply
    says_yes = eqb→eq (byte_in reply 0) 1 (each tests h 1)

    pub is_made : T k.made
    is_made = each tests h 2

    pub label_is : byte_in reply 1 ≡ label_number_of k.label
    label_is = eqb→eq (byte_in reply 1) (label_number_of k.label) (each tests h 3)

    pub signs_are : byte_in reply 3 ≡ signs_number_of k.signs
    signs_are = eqb→eq (byte_in reply 3) (signs_number_of k.signs) (each tests h 4)

    pub times_are : times_bytes reply ≡ numbers_bytes (seven_of k.times)
    times_are = equal (times_bytes reply) (numbers_bytes (seven_of k.times)) (each tests h 5)

    jerk-size : (i : ℕ) → T (jerk_sized i) → Size (val (jerk_in reply i)) (64 * unit)
    jerk-size i = size (val (jerk_in reply i)) (64 * unit)

    pub sizes_met : Sizes line reply
    sizes_met =
        record {
          position = size (val (move_in line).p0) (8 * unit) (each tests h 6);
          velocity = size (val (move_in line).v0) (8 * unit) (each tests h 7);
          acceleration = size (val (move_in line).a0) (8 * unit) (each tests h 8);
          total = lit≤ (each tests h 9);
          jerks =
              by_seven (λ (i : ℕ). Size (val (jerk_in reply i)) (64 * unit)) (jerk-size 0 (each tests h 10))
              (jerk-size 1 (each tests h 11)) (jerk-size 2 (each tests h 12)) (jerk-size 3 (each tests h 13))
              (jerk-size 4 (each tests h 14)) (jerk-size 5 (each tests h 15)) (jerk-size 6 (each tests h 16));
        }
