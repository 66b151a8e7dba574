-- What a label that is read says of the tables.
use Rattle.std.specs.Prelude.{ℕ, ◌≡◌}
use Rattle.kinds.specs.declared.Label.{Label}
use Rattle.journeys.specs.Tables.{Tables}
use Rattle.tables.specs.File.{pivot_of}

-- label k of the tables is read as l
pub record ReadsAs (T : Tables) (k : ℕ) (l : Label) : Type 0 where
  pub hub : T.hub k ≡ l.hub
  pub dep : T.dep k ≡ l.dep
  pub arr : T.arr k ≡ l.arr
  pub pivot : T.pivot k ≡ pivot_of l.pivot
