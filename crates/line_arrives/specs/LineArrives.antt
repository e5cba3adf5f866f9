-- Definitions only. Demand 3 over the characters of a line and of its reply:
-- which numbers they hold, the exact motion by these, and what it is to arrive.
-- The motion and the distances are those of crates/rounding/specs/Motion.antt and
-- crates/profile_arrives/specs/Arrives.antt, in whole numbers.
use Rattle.std.specs.Prelude.{◌≡◌, Bool, false, cond, List, ℕ, suc, ◌+◌, ◌*◌, ◌^◌, ◌≤◌, ◌<◌, Float, Some}
use Rattle.rounding.specs.Exact.{D, Size, Below, signed}
use Rattle.rounding.specs.Value.{unit, val, Finite}
use Rattle.rounding.specs.Motion.{Moving, per_a, per_v, per_p, state, motion, lasts}
use Rattle.profile_arrives.specs.Reply.{upper, lower}
use Rattle.profile_arrives.specs.Arrives.{Fraction, ◌over◌, Distances, At, Between, demanded, proved}
use Rattle.step2_solver.specs.declared.Move.{Move}
use Rattle.step2_solver.specs.declared.Shape.{Shape}
use Rattle.step2_arrives.specs.Moves.{MoveNumbers, Close, in_time}
use Rattle.step2_times.specs.Facts.{roundings, residual}
use Rattle.hex_bytes.specs.Hex.{bytes_of}
use Rattle.line_kinds.specs.declared.Asks.TheVariants.{OfShape, OfCauses}
use Rattle.line_kinds.specs.Kinds.{row_of, asks_of}
use Rattle.line_frame.specs.Frame.{byte_at, number_at}
use Rattle.line_frame.specs.Numbers.{move_of}

-- byte i that characters stand for, two a byte; and the f64 whose bits are the eight bytes from byte i on
abbrev pub byte_in : List ℕ → ℕ → ℕ
byte_in characters i = byte_at (bytes_of characters) i

abbrev pub number_in : List ℕ → ℕ → Float
number_in characters i = number_at (byte_at (bytes_of characters)) i

-- ---- the line: what its kind asks, and its twelve numbers
-- kinds 01 to 05 and 08; and 11 to 15, with count and cause
pub record AsksShape (line : List ℕ) : Type 0 where
  pub shape : Shape
  pub causes : Bool
  pub asked : asks_of (row_of (byte_in line 0)) ≡ Some (cond causes (OfCauses shape) (OfShape shape))

abbrev pub move_in : List ℕ → Move
move_in line = move_of (byte_at (bytes_of line))

-- ---- the reply: verdict, label, direction, signs; then t, t_sum and j, seven each
abbrev pub SaysYes : List ℕ → Type 0
SaysYes reply = byte_in reply 0 ≡ 1

abbrev pub time_in : List ℕ → ℕ → Float
time_in reply i = number_in reply (4 + 8 * i)

abbrev pub jerk_in : List ℕ → ℕ → Float
jerk_in reply i = number_in reply (116 + 8 * i)

-- The exact motion from the line's p0, v0 and a0 by the reply's times and jerks, and by nothing else:
-- its state after phase i.
abbrev pub state_after : List ℕ → List ℕ → ℕ → Moving
state_after line reply i =
    let m = move_in line in motion (time_in reply) (jerk_in reply) (state m.p0 m.v0 m.a0) (suc i)

-- how long it lasts: the exact sum of the seven times
abbrev pub duration : List ℕ → D
duration reply = lasts (time_in reply) 7

-- ---- the demand's sizes: start at most 8, total time at most 8, jerks at most 64
pub record Sizes (line reply : List ℕ) : Type 0 where
  pub position : Size (val (move_in line).p0) (8 * unit)
  pub velocity : Size (val (move_in line).v0) (8 * unit)
  pub acceleration : Size (val (move_in line).a0) (8 * unit)
  pub total : Below (duration reply) (signed false (8 * unit))
  pub jerks : (i : ℕ) → i < 7 → Size (val (jerk_in reply i)) (64 * unit)

-- ---- what it is to arrive
-- the velocity and the acceleration X between the limits of the move, within f
abbrev pub VelocityKept : Fraction → Move → D → Type 0
VelocityKept f m X =
    Between f per_v (lower m.v_max m.v_max m.v_min) X (upper m.v_max m.v_max m.v_min)

abbrev pub AccelerationKept : Fraction → Move → D → Type 0
AccelerationKept f m X =
    Between f per_a (lower m.v_max m.a_max m.a_min) X (upper m.v_max m.a_max m.a_min)

-- `val` takes a NaN and an infinity for 0; the first two fields say that there is none.
pub record LineArrives (w : Distances) (s : Fraction) (line reply : List ℕ) : Type 0 where
  pub numbers : MoveNumbers (move_in line)
  pub phases_finite : (i : ℕ) → i < 7 → Finite (time_in reply i) × Finite (jerk_in reply i)
  pub position : At w.position per_p (state_after line reply 6).p (move_in line).pf
  pub velocity : At w.velocity per_v (state_after line reply 6).v (move_in line).vf
  pub acceleration : At w.acceleration per_a (state_after line reply 6).a (move_in line).af
  pub lasting : Close s (duration reply) (move_in line).tf
  pub velocity_limits : (i : ℕ) → 2 ≤ i → i ≤ 5
      → VelocityKept w.velocity_limit (move_in line) (state_after line reply i).v
  pub acceleration_0 : AccelerationKept w.acceleration_limit (move_in line) (state_after line reply 0).a
  pub acceleration_2 : AccelerationKept w.acceleration_limit (move_in line) (state_after line reply 2).a
  pub acceleration_4 : AccelerationKept w.acceleration_limit (move_in line) (state_after line reply 4).a

-- demand 3: 2e-8 of the position and the velocity, 2e-10 of the acceleration,
-- 1e-8 and 1e-10 of the limits, 1e-10 seconds
abbrev pub Demand3 : List ℕ → List ℕ → Type 0
Demand3 line reply = LineArrives demanded in_time line reply

-- what is proved: `check`'s own tolerances and the rounding errors
abbrev pub Closely : List ℕ → List ℕ → Type 0
Closely line reply = LineArrives (proved residual) (roundings over 2 ^ 53) line reply
