-- What is found when all labels of both sets were looked at is the best sketch.
use Rattle.std.specs.Prelude.{ℕ, List, Option}
use Rattle.tables.specs.File.{tables_of}
use Rattle.journeys.specs.declared.Criterion.{Criterion}
use Rattle.journeys.specs.Tables.{Sketch}
use Rattle.asks.specs.Found.{FoundIn}
use Rattle.asks.specs.Join.{Sets, InsDone}
use Rattle.asks.proofs.SketchLaws.{found_sketch}
use Rattle.asks.proofs.JoinLaws.{good, from_stop, to_stop}
use Rattle.asks.specs.declared.Journey.{Journey}

module _ {b : List ℕ} {n u v outFrom outTo inFrom inTo : ℕ} (S : Sets b n u v outFrom outTo inFrom inTo) (c : Criterion) where
  -- and that is the best sketch
  pub ins_found : {best : Option Journey} → InsDone b u v c inTo best inTo → FoundIn (Sketch (tables_of b) u v) c best
  ins_found {best} I = found_sketch (good S) (from_stop S) (to_stop S) c best (rw S.in_set.end I.found)
