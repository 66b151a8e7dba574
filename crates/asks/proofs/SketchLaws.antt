-- What is found among all candidates is found among the sketches.
use Rattle.std.specs.Prelude.{ℕ, ◌<◌, Option}
use Rattle.journeys.specs.declared.Criterion.{Criterion}
use Rattle.journeys.specs.Tables.{ins, Tables, GoodTables, Sketch}
use Rattle.asks.specs.Found.{FoundIn}
use Rattle.asks.proofs.FoundLaws.{found_over}
use Rattle.asks.specs.Candidates.{Candidate}
use Rattle.asks.proofs.CandidateLaws.{cand_sketch, sketch_cand}
use Rattle.asks.specs.declared.Journey.{Journey}

module _ {T : Tables} (G : GoodTables T) {u v : ℕ} (ou : u < T.stops) (ov : v < T.stops) where
  -- so what is found among all candidates is found among the sketches
  pub found_sketch : (c : Criterion) (best : Option Journey) → FoundIn (Candidate T u v (T.end ins v)) c best → FoundIn (Sketch T u v) c best
  found_sketch c best = found_over (Candidate T u v (T.end ins v)) (Sketch T u v) c (cand_sketch G ou ov) (sketch_cand G ou ov) best
