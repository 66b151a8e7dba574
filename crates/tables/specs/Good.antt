-- What good tables promise of their bytes: what the functions that read them ask, and what those above can count on.
use Rattle.std.specs.Prelude.{ℕ, ◌+◌, ◌*◌, ◌-◌, ◌≤◌, ◌<◌, ◌≡◌, List, length, get_or}
use Rattle.kinds.specs.Limits.{most_stops, most_labels}
use Rattle.kinds.specs.Kinds.{GoodLabel}
use Rattle.kinds.specs.declared.Label.{Label}
use Rattle.tables.specs.Format.{format_mark, header_bytes, entry_bytes}
use Rattle.tables.specs.File.{stops_of, owner_of, count_of, start_of, labels_of, place_of, label_at}

-- the bytes have n stops, and room for their contents
pub record Contents (b : List ℕ) (n : ℕ) : Type 0 where
  pub stops : stops_of b ≡ n
  pub few : n ≤ most_stops
  pub fits : header_bytes + entry_bytes * n ≤ length b

-- and for just the labels that the contents say
pub record Room (b : List ℕ) (n : ℕ) : Type 0 where
  pub contents : Contents b n
  pub few_labels : labels_of b ≤ most_labels
  pub exact : length b ≡ place_of n (labels_of b)

abbrev pub LabelGood : ℕ → ℕ → Label → Type 0
LabelGood n owner l = GoodLabel n owner l.hub l.dep l.arr l.pivot

-- label l comes after label m in one set
pub data After (m l : Label) : Type 0 where
  higher : m.hub < l.hub → After m l
  later : m.hub ≡ l.hub → m.dep < l.dep → m.arr < l.arr → After m l

-- label i of a set is good
pub record GoodEntry (b : List ℕ) (n set i : ℕ) : Type 0 where
  pub alone : LabelGood n (owner_of set) (label_at b (start_of b set + i))
  pub after : 0 < i → After (label_at b (start_of b set + i - 1)) (label_at b (start_of b set + i))

pub record GoodFile (b : List ℕ) (n : ℕ) : Type 0 where
  pub mark : get_or b 0 0 ≡ format_mark
  pub some : 1 ≤ n
  pub room : Room b n
  pub labels : (set i : ℕ) → set < 2 * n → i < count_of b set → GoodEntry b n set i
