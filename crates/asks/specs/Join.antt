-- What the join is given: good tables and the bounds of the two sets.
use Rattle.std.specs.Prelude.{ℕ, ◌≤◌, ◌<◌, ◌≡◌, List, cond, eqb, Option}
use Rattle.journeys.specs.declared.Criterion.{Criterion}
use Rattle.kinds.specs.declared.Label.{Label}
use Rattle.journeys.specs.Tables.{outs, ins}
use Rattle.tables.specs.File.{tables_of, label_at}
use Rattle.loops.specs.First.{FirstAt}
use Rattle.label_sets.specs.Seek.{Past}
use Rattle.label_sets.specs.Sets.{SetAt}
use Rattle.asks.specs.Found.{FoundIn, taken}
use Rattle.asks.specs.Candidates.{leaving_then, FromOuts, Candidate, PartnersFrom}
use Rattle.asks.specs.declared.Journey.{Journey}

-- the out-labels of u and the in-labels of v, by their bounds
pub record Sets (b : List ℕ) (n u v outFrom outTo inFrom inTo : ℕ) : Type 0 where
  pub out_set : SetAt b n outs u outFrom outTo
  pub in_set : SetAt b n ins v inFrom inTo

-- out-label k of u, read as l, and where its partner stands
pub record OutTurn (b : List ℕ) (u outTo inFrom inTo k : ℕ) (l : Label) (m : ℕ) : Type 0 where
  pub low : (tables_of b).start outs u ≤ k
  pub high : k < outTo
  pub read : l ≡ label_at b k
  pub partner : FirstAt (Past (tables_of b) l.hub (leaving_then l.arr)) inFrom inTo m

-- where the search for partners stands, past out-label k
pub record Place (b : List ℕ) (u v inTo k j : ℕ) : Type 0 where
  pub behind : PartnersFrom (tables_of b) u v k j
  pub within : j ≤ inTo

-- the out-labels up to k are done: what was found among them, and where the search for partners stands
pub record OutsDone (b : List ℕ) (u v : ℕ) (c : Criterion) (outFrom outTo inTo : ℕ) (best : Option Journey) (next k : ℕ) : Type 0 where
  pub low : outFrom ≤ k
  pub high : k ≤ outTo
  pub found : FoundIn (FromOuts (tables_of b) u v k) c best
  pub place : Place b u v inTo k next

-- and the in-labels up to k
pub record InsDone (b : List ℕ) (u v : ℕ) (c : Criterion) (inTo : ℕ) (best : Option Journey) (k : ℕ) : Type 0 where
  pub low : (tables_of b).start ins v ≤ k
  pub high : k ≤ inTo
  pub found : FoundIn (Candidate (tables_of b) u v k) c best

-- what in-label l gives
unfoldable pub in_turn : Criterion → ℕ → Label → Option Journey → Option Journey
in_turn c u l best = cond (eqb l.hub u) (taken c l.dep l.arr best) best
