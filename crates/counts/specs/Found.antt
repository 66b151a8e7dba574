-- Whether a scan has found a label: what the code decides from a stop's cell and from the scan before it.
use Rattle.std.specs.Prelude.{ℕ, suc, ◌+◌, ◌≤◌, ◌<◌, ◌≡◌, List, ◌≢◌, Bool, true, false, cond, eqb, leb, ltb}
use Rattle.kinds.specs.Limits.{no_pivot, last_minute, unreached}
use Rattle.journeys.specs.Service.{Service}
use Rattle.journeys.specs.Journey.{Journey, Within}
use Rattle.scan.specs.Events.{InForce}
use Rattle.scan.specs.Ordered.{read}
use Rattle.scan.specs.Lists.{cells_of}
use Rattle.scan.specs.declared.Cell.{Cell}
use Rattle.counts.specs.Labels.{LabelsFrom}

-- A scan from u at minute d has found a label to v: c is v's cell, and `later` the earliest minute of those who leave u after d. The pair is
-- undominated where these arrive later; and then the lowest stop between must not be above both u and v.
unfoldable pub found : ℕ → ℕ → Cell → ℕ → Bool
found u v c later = cond (eqb u v) false (cond (leb later c.at) false (cond (ltb c.via u) (leb v c.via) true))

-- 1 where it has
unfoldable pub one_found : ℕ → ℕ → Cell → ℕ → ℕ
one_found u v c later = cond (found u v c later) 1 0

-- "The pivot is none if some run from u to v has exactly that pair; otherwise it is the highest-ranking stop strictly between"
unfoldable pub pivot_found : Cell → ℕ
pivot_found c = cond (eqb c.changes 0) no_pivot c.via

-- the tally after a scan whose cells these are: the arrivals that it has found, and one more label to each stop to which it has found one
abbrev pub arrivals_after : List ℕ → ℕ → ℕ
arrivals_after cells v = (cells_of cells v).at

abbrev pub counts_after : ℕ → List ℕ → List ℕ → List ℕ → ℕ → ℕ
counts_after u cells later counts v = read counts v + one_found u v (cells_of cells v) (read later v)

-- `later` holds the earliest arrivals of those who leave u at minute m or later
pub record LaterBy (S : Service) (u m : ℕ) (later : ℕ → ℕ) : Type 0 where
  pub most : (v : ℕ) → v < S.stops → later v ≤ unreached
  pub low : (v e b : ℕ) → Journey S u v e b → m ≤ e → later v ≤ b
  pub real : (v : ℕ) → v < S.stops → v ≢ u → later v < unreached → Within (Journey S u v) m (later v)

-- no ride leaves u after minute d and before minute m
pub record Gap (S : Service) (u d m : ℕ) : Type 0 where
  pub none : (i : ℕ) → InForce S i → (S.ride i).from ≡ u → d < (S.ride i).dep → m ≤ (S.ride i).dep

-- What is known of stop u once its departures at minute m and later have been scanned: the earliest arrivals of those who leave then, and how
-- many labels to each stop leave then.
pub record Tallied (S : Service) (u m : ℕ) (later count : ℕ → ℕ) : Type 0 where
  pub high : m ≤ suc last_minute
  pub arrivals : LaterBy S u m later
  pub counts : (v : ℕ) → v < S.stops → LabelsFrom S u v m (count v)
