-- `check` and every shape leave seven times, sums and jerks, eight accelerations, velocities and positions, and a count
-- of one byte, where there were as many: after a no as after a yes. Assumes nothing.
use mathlib.Core.Path.{◌≡◌, refl, sym, ◌∙◌, subst}
use mathlib.Core.Bool.{Bool, true, false, cond}
use mathlib.Core.List.{List, [], ◌∷◌}
use Prim.Native.Nat.{ℕ, zero, suc, ◌+◌, ◌<◌}
use native.Mathlib.Omega.{arith}
use lib.Dec.{T, ltb, ltb→lt, lit≤}
use lib.ListN.{length, get_or, set, length-set}
use lib.Ieee.{Float, nan, lt}
use Rattle.float.specs.Ops.{◌⊕◌, #0}
use Rattle.labels.specs.declared.ReachedLimits.{ReachedLimits}
use Rattle.labels.specs.declared.ControlSigns.{ControlSigns}
use Rattle.profile.specs.declared.Profile.{Profile}
use Rattle.profile.specs.declared.Checked.{Checked}
use Rattle.labels.specs.declared.tests.Tests.{Tests}
use Rattle.limits.specs.declared.Band.{Band}
use Rattle.row.specs.Row.{Nodes, Numbers}
use Rattle.labels.specs.declared.Labels.{Labels}
use Rattle.phases.specs.Run.{Step, run, yes!, no! }
use Rattle.labels.specs.Tests.{tests_of}
use Rattle.jerks.specs.Jerks.{jerks_of}
use Rattle.labels.specs.Causes.{counted_of}
use Rattle.phases.specs.Times.{step_of_sums, sums_of}
use Rattle.limits.specs.Limits.{band_of}
use Rattle.phases.specs.Phase.{node_of, phase_of}
use Rattle.profile.specs.Parts.{profile_of, nodes_of}
use Rattle.profile.specs.Check.{check_of}
use Rattle.profile.specs.Timing.{marked_by, timing_of}
use Rattle.profile.proofs.Left.{leaves}
use Rattle.roots.specs.declared.RootAnswer.{RootAnswer}
use Rattle.step2_solver.specs.declared.PositionThirdOrderStep2.{PositionThirdOrderStep2}
use Rattle.step2_solver.specs.declared.Limits.{Limits}
use Rattle.step2_solver.specs.declared.Shape.{Shape}
use Rattle.step2_solver.specs.declared.Trial.{Trial}
use Rattle.step2_quartics.specs.declared.Quartics.{Quartics}
use Rattle.step2_attempt.specs.Attempt.{attempt_of, try_of, tried_of}
use Rattle.position_third_step2.specs.Shape.{attempts_of, shape_of}

-- ---- what every step keeps, a run keeps
run_keeps : {X : Type 0} (P : X → Type 0) (f : ℕ → X → Step X) → ((i : ℕ) (x : X) → P x → P (f i x).left)
    → (k i : ℕ) (x : X) → P x → P (run f k i x).left
unfolding run
run_keeps P f h zero i x p = p
run_keeps {X} P f h (suc k) i x p =
    either (f i x).ok (run f k (i + 1) (f i x).left) (run_keeps P f h k (i + 1) (f i x).left (h i x p))
  where
    either : (b : Bool) (r : Step X) → P r.left → P (cond b r (f i x)).left
    either true r e = e
    either false r e = h i x p

-- ---- the sums of `check`: each step stores into the array
abbrev Seven : List Float → Type 0
Seven s = length s ≡ 7

sum_step : (t : List Float) (i : ℕ) (s : List Float) → Seven s → Seven (step_of_sums t i s).left
unfolding step_of_sums
sum_step t i s h = stored (lt (get_or t (i + 1) nan) #0) (get_or s i nan ⊕ get_or t (i + 1) nan)
  where
    stored : (b : Bool) (x : Float) → Seven (cond b (no! s) (yes! (set s (i + 1) x))).left
    stored true x = h
    stored false x = length-set s (i + 1) x ∙ h

sums : (t s : List Float) → Seven s → Seven (sums_of t s).left
unfolding sums_of
sums t s h = either (lt (get_or t 0 nan) #0)
  where
    either : (b : Bool) → Seven (cond b (no! s) (run (step_of_sums t) 6 0 (set s 0 (get_or t 0 nan)))).left
    either true = h
    either false =
        run_keeps Seven (step_of_sums t) (sum_step t) 6 0 (set s 0 (get_or t 0 nan))
        (length-set s 0 (get_or t 0 nan) ∙ h)

jerks : (signs : ControlSigns) (t : List Float) (jf : Float) → Seven (jerks_of signs t jf)
unfolding jerks_of
jerks signs t jf = refl

-- ---- its phases: each stores into the three arrays
record Eight (n : Nodes) : Type 0 where
  of_a : length n.a ≡ 8
  of_v : length n.v ≡ 8
  of_p : length n.p ≡ 8

module _ (m : Tests) (set_limits : Bool) (a_max a_min : Float) (b : Band) (t j : List Float) where
  phase : (i : ℕ) (n : Nodes) → Eight n → Eight (phase_of m set_limits a_max a_min b t j i n).left
  unfolding phase_of node_of
  phase i n h =
      record {
        of_a = length-set n.a (i + 1) _ ∙ h.of_a;
        of_v = length-set n.v (i + 1) _ ∙ h.of_v;
        of_p = length-set n.p (i + 1) _ ∙ h.of_p;
      }

  phases : (n : Nodes) → Eight n → Eight (run (phase_of m set_limits a_max a_min b t j) 7 0 n).left
  phases n h = run_keeps Eight (phase_of m set_limits a_max a_min b t j) phase 7 0 n h

-- ---- the record that `check` is handed, and that it leaves
pub record Lengths (q : Profile) : Type 0 where
  pub seven_t : length q.t ≡ 7
  pub seven_t_sum : length q.t_sum ≡ 7
  pub seven_j : length q.j ≡ 7
  pub eight_a : length q.a ≡ 8
  pub eight_v : length q.v ≡ 8
  pub eight_p : length q.p ≡ 8
  pub byte_calls : q.calls < 256

pub record Leaves (c : Checked) : Type 0 where
  pub lengths : Lengths c.profile

abbrev pub Keeps : (Profile → Checked) → Type 0
Keeps f = (q : Profile) → Lengths q → Leaves (f q)

nodes : {q : Profile} → Lengths q → Eight (nodes_of q)
nodes h = record { of_a = h.eight_a; of_v = h.eight_v; of_p = h.eight_p }

parts : {n : Numbers} {l : Labels} → Seven n.t → Seven n.t_sum → Seven n.j → Eight n.nodes
    → l.calls < 256 → Lengths (profile_of n l)
parts ht hs hj hn hc =
    record {
      seven_t = ht;
      seven_t_sum = hs;
      seven_j = hj;
      eight_a = hn.of_a;
      eight_v = hn.of_v;
      eight_p = hn.of_p;
      byte_calls = hc;
    }

-- the count is a byte
byte : (n : ℕ) → counted_of n < 256
byte n = by (ltb n 255) refl
  where
    by : (b : Bool) → ltb n 255 ≡ b → cond b (n + 1) 255 < 256
    by true h = let l = ltb→lt n 255 (subst T (sym h) tt) in omega arith
    by false h = lit≤ tt

keeps_cond : (b : Bool) {c d : Checked} → Leaves c → Leaves d → Leaves (cond b c d)
keeps_cond true h k = h
keeps_cond false h k = k

pub check_keeps : (signs : ControlSigns) (limits : ReachedLimits) (set_limits : Bool)
    (jf v_max v_min a_max a_min : Float)
    → Keeps (check_of signs limits set_limits jf v_max v_min a_max a_min)
check_keeps signs limits set_limits jf v_max v_min a_max a_min q h =
    let hs = sums q.t q.t_sum h.seven_t_sum in
    let hj = jerks signs q.t jf in
    let hn = phases (tests_of limits) set_limits a_max a_min (band_of v_max v_max v_min) q.t (jerks_of signs q.t jf)
    (nodes_of q) (nodes h) in
    let k = byte q.calls in
    record {
      lengths =
          leaves signs limits set_limits jf v_max v_min a_max a_min q (λ (z : Profile). Lengths z)
          (parts h.seven_t hs h.seven_j (nodes h) k) (parts h.seven_t hs hj hn k)
          (parts h.seven_t hs hj hn k);
    }

mark_keeps : (marked : Bool) (c : Checked) → Leaves c → Leaves (marked_by marked c)
mark_keeps marked c h =
    let w = h.lengths in
    record { lengths = parts w.seven_t w.seven_t_sum w.seven_j (nodes w) w.byte_calls }

-- ---- a trial, and trials in turn, whatever they try
try_keeps : (l : Limits) (k : Trial) → Keeps (try_of l k)
unfolding try_of attempt_of timing_of
try_keeps l k q h =
    keeps_cond k.made
    (mark_keeps k.marked _
    (check_keeps k.signs k.label false k.jf l.v_max l.v_min l.a_max l.a_min _
    (parts refl h.seven_t_sum h.seven_j (nodes h) h.byte_calls)))
    (record { lengths = h })

pub tried_keeps : (l : Limits) (ks : List Trial) → Keeps (tried_of l ks)
unfolding tried_of
tried_keeps l [] q h = record { lengths = h }
tried_keeps l (k ∷ ks) q h =
    let c = try_keeps l k q h in
    keeps_cond (try_of l k q).ok c (tried_keeps l ks (try_of l k q).profile c.lengths)

-- ---- every shape
pub shape_keeps : (shape : Shape) (s : PositionThirdOrderStep2) (l : Limits) (q : Quartics) (first second : RootAnswer)
    → Keeps (shape_of shape s l q first second)
shape_keeps shape s l q first second = tried_keeps l (attempts_of shape s l q first second)
