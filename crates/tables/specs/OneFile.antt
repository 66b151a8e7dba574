-- What makes two files one: the same labels.
use Rattle.std.specs.Prelude.{ℕ, ◌+◌, ◌<◌, ◌≡◌, List, ◌↔◌}
use Rattle.std.proofs.Math.Option.{Option}
use Rattle.journeys.specs.Tables.{Side, Tables, Entry}
use Rattle.tables.specs.File.{count_of, start_of, label_at}

-- each label of the one tables stands in the other, at whatever number
abbrev pub SameLabels : Tables → Tables → Type 0
SameLabels T U = (side : Side) (s h d a : ℕ) (p : Option ℕ) → ((k : ℕ) × Entry T side k s h d a p) ↔ ((k : ℕ) × Entry U side k s h d a p)

-- a set has the same labels in both files, in the same order
pub record SameSet (b c : List ℕ) (set : ℕ) : Type 0 where
  pub count : count_of b set ≡ count_of c set
  pub label : (i : ℕ) → i < count_of b set → label_at b (start_of b set + i) ≡ label_at c (start_of c set + i)
