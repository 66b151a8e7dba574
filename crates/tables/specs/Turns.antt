-- What the inner functions of the judge say, in terms of Judged.antt.
use Rattle.std.specs.Prelude.{ℕ, ◌+◌, ◌-◌, ◌<◌, ◌≡◌, List}
use Rattle.std.proofs.Math.Option.{none}
use Rattle.loops.specs.FirstOf.{first_of}
use Rattle.kinds.specs.Limits.{no_pivot}
use Rattle.kinds.specs.declared.Label.{Label}
use Rattle.tables.specs.File.{start_of, label_at}
use Rattle.tables.specs.Judged.{bad_label}

-- a label by that which the next one has to follow; its pivot does not count
abbrev pub last_of : ℕ → ℕ → ℕ → Label
last_of h d a = record { hub = h; dep = d; arr = a; pivot = no_pivot }

-- the first i labels of a set were good, and the last of them says hub h, departure d, arrival a
pub record GoodTo (b : List ℕ) (set i h d a : ℕ) : Type 0 where
  pub clear : first_of (bad_label b set) i ≡ none
  pub hub : 0 < i → h ≡ (label_at b (start_of b set + i - 1)).hub
  pub dep : 0 < i → d ≡ (label_at b (start_of b set + i - 1)).dep
  pub arr : 0 < i → a ≡ (label_at b (start_of b set + i - 1)).arr
