-- Assumes nothing. Demand 3 at the line: where the answer to a line that asks a shape is 0 and the reply
-- says yes, the reply's times and jerks carry the exact motion from the line's start to its goal, in its
-- duration and within its limits.
use mathlib.Core.Path.{◌≡◌, sym, ap, ◌∙◌, subst}
use mathlib.Core.Bool.{true}
use mathlib.Core.List.{List, ◌++◌}
use Prim.Native.Nat.{ℕ, ◌+◌, ◌*◌, ◌<◌}
use Rattle.profile.specs.declared.Profile.{Profile}
use Rattle.rounding.specs.Value.{Finite}
use Rattle.profile_arrives.specs.Reply.{time, jerk, Within}
use Rattle.profile_arrives.proofs.Facts.{yes_finite, held-jerk}
use Rattle.profile_arrives.specs.Arrives.{Fraction, Distances}
use Rattle.step2_solver.specs.declared.Move.{Move}
use Rattle.step2_solver.specs.New.{solver_of, limits_of}
use Rattle.position_third_step2.specs.Shape.{fresh}
use Rattle.step2_arrives.specs.Moves.{Arrival}
use Rattle.step2_arrives.proofs.Made.{Made}
use Rattle.step2_arrives.proofs.Arrives.{made_yes, made_starts, attempt_arrives, attempt_arrives_closely}
use Rattle.step2_arrives.proofs.Shapes.{shape_made}
use Rattle.step2_arrives.proofs.Lines.{fresh-starts}
use Rattle.hex_bytes.specs.Hex.{bytes_of}
use Rattle.line_frame.specs.Frame.{byte_at, number_at}
use Rattle.line_frame.specs.Numbers.{first_answer_of, second_answer_of}
use Rattle.line_reply.specs.Reply.{reply_bytes_of}
use Rattle.position_third_step2.proofs.Keeps.{Lengths, shape_keeps}
use Rattle.line_questions.specs.Questions.{quartics_at}
use Rattle.line_places.proofs.Replies.{fresh_lengths}
use Rattle.lines.specs.Answer.{answer_of}
use Rattle.line_arrives.specs.LineArrives.{AsksShape, move_in, SaysYes, time_in, jerk_in, Sizes, LineArrives}
use Rattle.line_arrives.specs.LineArrives.{Demand3, Closely}
use Rattle.line_arrives.proofs.Rows.{verdict_back, time-back, jerk-back}
use Rattle.line_arrives.proofs.Agreeing.{Agree}
use Rattle.line_arrives.proofs.Carried.{within, line-arrives}
use Rattle.line_arrives.proofs.Answered.{answer-fits, shaped, numbers_are, rest, bytes_are}

module _ {m : Move} {q : Profile} (d : Made m q) where
  all_finite_lem : (i : ℕ) → i < 7 → Finite (time q i) × Finite (jerk q i)
  all_finite_lem i l = let w = yes_finite (made_yes d) i l in (w.t_finite, w.j_finite)

module _ (line lent : List ℕ) (none : (answer_of line lent).number ≡ 0) (k : AsksShape line)
    (says : SaysYes (answer_of line lent).places) where
  abbrev reply : List ℕ
  reply = (answer_of line lent).places

  -- the record that the shape left, and the bytes after its own
  abbrev q : Profile
  q = (shaped k.shape line).profile

  abbrev beyond : List ℕ
  beyond = rest line lent none k

  read : bytes_of reply ≡ reply_bytes_of (shaped k.shape line) ++ beyond
  read = bytes_are line lent none k

  accepted : (shaped k.shape line).ok ≡ true
  accepted = verdict_back (shaped k.shape line) beyond (subst (λ (b : List ℕ). byte_at b 0 ≡ 1) read says)

  made : Made (move_in line) q
  made =
      let at = byte_at (bytes_of line) in
      let n = numbers_are line lent none k in
      shape_made k.shape (first_answer_of at) (second_answer_of at) (answer-fits at 97) (answer-fits at 122) n
      (fresh (move_in line)) (fresh-starts n) accepted

  lengths : Lengths q
  lengths =
      let at = byte_at (bytes_of line) in
      let m = move_in line in
      (shape_keeps k.shape (solver_of m) (limits_of m) (quartics_at k.shape at) (first_answer_of at)
      (second_answer_of at)
      (fresh m) (fresh_lengths m.p0 m.v0 m.a0 m.pf m.vf m.af)
      ).lengths

  times_agree : Agree 7 (time q) (time_in reply)
  times_agree i l =
      sym (ap (λ (b : List ℕ). number_at (byte_at b) (4 + 8 * i)) read
      ∙ time-back (shaped k.shape line) beyond i (subst (λ (n : ℕ). i < n) (sym lengths.seven_t) l)
      ((made_starts made).held.held_t i l))

  jerks_agree : Agree 7 (jerk q) (jerk_in reply)
  jerks_agree i l =
      sym (ap (λ (b : List ℕ). number_at (byte_at b) (116 + 8 * i)) read
      ∙ jerk-back (shaped k.shape line) beyond lengths.seven_t lengths.seven_t_sum i
      (subst (λ (n : ℕ). i < n) (sym lengths.seven_j) l) (held-jerk (made_yes made) made.held_jf i l))

  -- one way for both distances
  carried : {w : Distances} {f : Fraction} → Arrival w f (move_in line) q → LineArrives w f line reply
  carried = line-arrives line reply (made_starts made) times_agree jerks_agree (numbers_are line lent none k)
      (all_finite_lem made)

  sized : Sizes line reply → Within q
  sized = within line reply (made_starts made) times_agree jerks_agree

-- demand 3
pub yes_arrives : (line lent : List ℕ) → (answer_of line lent).number ≡ 0 → AsksShape line
    → SaysYes (answer_of line lent).places → Sizes line (answer_of line lent).places
    → Demand3 line (answer_of line lent).places
yes_arrives line lent none asks says sizes =
    carried line lent none asks says
    (attempt_arrives (made line lent none asks says) (sized line lent none asks says sizes)
    (numbers_are line lent none asks))

-- the same by the distances that are proved
pub yes_arrives_closely : (line lent : List ℕ) → (answer_of line lent).number ≡ 0 → AsksShape line
    → SaysYes (answer_of line lent).places → Sizes line (answer_of line lent).places
    → Closely line (answer_of line lent).places
yes_arrives_closely line lent none asks says sizes =
    carried line lent none asks says
    (attempt_arrives_closely (made line lent none asks says) (sized line lent none asks says sizes)
    (numbers_are line lent none asks))
