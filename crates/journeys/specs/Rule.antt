-- The label rule.
use Rattle.std.specs.Prelude.{ℕ, ◌<◌, ◌≢◌, ◌↔◌}
use Rattle.std.proofs.Math.Option.{Option, none, some}
use Rattle.journeys.specs.Service.{Service, RideAt}
use Rattle.journeys.specs.Journey.{Journey, Visits, Between, Undominated}
use Rattle.journeys.specs.Tables.{Tables, outs, ins, Entry}

-- "The pivot is none if some run from u to v has exactly that pair; otherwise it is the highest-ranking stop strictly between the ends on any
-- journey with that pair."
pub data Pivot (S : Service) (u v d a : ℕ) : Option ℕ → Type 0 where
  by_run : (i : ℕ) → RideAt S i u v d a → Pivot S u v d a none
  by_stop : (w : ℕ) → ((i : ℕ) → ¬ (RideAt S i u v d a)) → Between S u w v d a → ((x : ℕ) → x < w → ¬ (Between S u x v d a)) → Pivot S u v d a (some w)

-- "For u and v different, an undominated pair has a label exactly when no journey with that pair visits a stop that ranks above both u and v."
pub record Rule (S : Service) (u v d a : ℕ) (p : Option ℕ) : Type 0 where
  pub apart : u ≢ v
  pub best : Undominated (Journey S u v) d a
  pub none_above : (w : ℕ) → w < u → w < v → ¬ (Visits S u w v d a)
  pub pivot : Pivot S u v d a p

-- tables whose labels are exactly those of the rule: "If v has the lower stop number, the label is an out-label of u with hub v; else an
-- in-label of v with hub u."
pub record ByRule (S : Service) (T : Tables) : Type 0 where
  pub out_rule : (u v d a : ℕ) (p : Option ℕ) → ((k : ℕ) × Entry T outs k u v d a p) ↔ ((v < u) × Rule S u v d a p)
  pub in_rule : (u v d a : ℕ) (p : Option ℕ) → ((k : ℕ) × Entry T ins k v u d a p) ↔ ((u < v) × Rule S u v d a p)
