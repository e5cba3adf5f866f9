-- A profile's numbers in one row of 48: t, t_sum, j (seven each), a, v, p (eight each), pf, vf, af. Definitions only.
use Rattle.std.specs.Prelude.{List, [], ◌∷◌, ℕ, get_or, take, drop, Float}
use Rattle.std.specs.Float.{nan}
use Rattle.float.specs.Ops.{#0}

-- the recorded accelerations, velocities and positions, eight each: entry i is where phase i begins
pub record Nodes : Type 0 where
  pub a : List Float
  pub v : List Float
  pub p : List Float

pub record Goal : Type 0 where
  pub pf : Float
  pub vf : Float
  pub af : Float

pub record Numbers : Type 0 where
  pub t : List Float
  pub t_sum : List Float
  pub j : List Float
  pub nodes : Nodes
  pub goal : Goal

-- n numbers of a row, from place k on
unfoldable pub part : ℕ → ℕ → List Float → List Float
part k n x = take n (drop k x)

abbrev pub goal_in : List Float → Goal
goal_in x = record { pf = get_or x 45 nan; vf = get_or x 46 nan; af = get_or x 47 nan }

abbrev pub numbers_in : List Float → Numbers
numbers_in x =
    record {
      t = part 0 7 x;
      t_sum = part 7 7 x;
      j = part 14 7 x;
      nodes = record { a = part 21 8 x; v = part 29 8 x; p = part 37 8 x };
      goal = goal_in x;
    }

abbrev pub with_times : List Float → Numbers → Numbers
with_times t n = record { t = t; t_sum = n.t_sum; j = n.j; nodes = n.nodes; goal = n.goal }

abbrev pub with_sums : List Float → Numbers → Numbers
with_sums s n = record { t = n.t; t_sum = s; j = n.j; nodes = n.nodes; goal = n.goal }

abbrev pub with_jerks : List Float → Numbers → Numbers
with_jerks j n = record { t = n.t; t_sum = n.t_sum; j = j; nodes = n.nodes; goal = n.goal }

abbrev pub with_nodes : Nodes → Numbers → Numbers
with_nodes m n = record { t = n.t; t_sum = n.t_sum; j = n.j; nodes = m; goal = n.goal }

abbrev pub with_goal : Goal → Numbers → Numbers
with_goal g n = record { t = n.t; t_sum = n.t_sum; j = n.j; nodes = n.nodes; goal = g }

abbrev zeros7 : List Float
zeros7 = #0 ∷ #0 ∷ #0 ∷ #0 ∷ #0 ∷ #0 ∷ #0 ∷ []

-- all zeros but for where a move begins and where it is to end
abbrev pub start_of : Float → Float → Float → Float → Float → Float → Numbers
start_of p0 v0 a0 pf vf af =
    record {
      t = zeros7;
      t_sum = zeros7;
      j = zeros7;
      nodes = record { a = a0 ∷ zeros7; v = v0 ∷ zeros7; p = p0 ∷ zeros7 };
      goal = record { pf = pf; vf = vf; af = af };
    }
