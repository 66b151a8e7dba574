-- The tables' early(u, v, d), by the minutes at which the hubs are reached.
use Rattle.std.specs.Prelude.{ℕ, ◌≤◌, ◌<◌, ◌≡◌, ◌⊎◌, ◌≢◌}
use Rattle.std.proofs.Math.Option.{Option}
use Rattle.kinds.specs.Limits.{unreached}
use Rattle.journeys.specs.Tables.{Tables, outs, ins, Entry, Sketch}
use Rattle.journeys.specs.Journey.{Within}
use Rattle.verdict.specs.declared.Soonest.{Soonest}

-- some out-label of u with hub h leaves at or after d and arrives at e
pub record OutBy (T : Tables) (u h d e : ℕ) : Type 0 where
  pub number : ℕ
  pub dep : ℕ
  pub pivot : Option ℕ
  pub label : Entry T outs number u h dep e pivot
  pub after : d ≤ dep

-- R has for each hub the least minute at which one can be there, leaving u at or after d by one of the out-labels of u below `to`;
-- at u itself one is at d
pub record Reached (T : Tables) (u d to : ℕ) (R : ℕ → ℕ) : Type 0 where
  pub own : R u ≡ d
  pub low : {j h c a : ℕ} {p : Option ℕ} → Entry T outs j u h c a p → j < to → d ≤ c → R h ≤ a
  pub real : (h : ℕ) → h ≢ u → h < T.stops → R h < unreached → OutBy T u h d (R h)
  pub most : (h : ℕ) → h < T.stops → R h ≤ unreached

-- some in-label of v arrives at e and leaves its hub when that is reached
pub record InBy (T : Tables) (R : ℕ → ℕ) (v e : ℕ) : Type 0 where
  pub number : ℕ
  pub hub : ℕ
  pub dep : ℕ
  pub pivot : Option ℕ
  pub label : Entry T ins number v hub dep e pivot
  pub met : R hub ≤ dep

-- e is the least minute at which one can be at v: by an out-label to v itself, or by one of the in-labels of v below `to`
pub record Arrival (T : Tables) (R : ℕ → ℕ) (v to e : ℕ) : Type 0 where
  pub own : e ≤ R v
  pub low : {j h c a : ℕ} {p : Option ℕ} → Entry T ins j v h c a p → j < to → R h ≤ c → e ≤ a
  pub real : (e ≡ R v) ⊎ InBy T R v e

-- the same by two ways to reach the hubs
pub record Arrivals (T : Tables) (near far : ℕ → ℕ) (v to : ℕ) (s : Soonest) : Type 0 where
  pub by_near : Arrival T near v to s.near
  pub by_far : Arrival T far v to s.far

-- e is the arrival of the tables' early(u, v, d), or the mark where there is none
pub record Early (T : Tables) (u v d e : ℕ) : Type 0 where
  pub low : {c a : ℕ} → Sketch T u v c a → d ≤ c → e ≤ a
  pub real : e < unreached → Within (Sketch T u v) d e
  pub most : e ≤ unreached
