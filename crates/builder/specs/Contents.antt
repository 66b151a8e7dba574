-- The contents written set by set.
use Rattle.std.specs.Prelude.{ℕ, ◌≤◌, ◌≡◌, List, length}
use Rattle.loops.specs.Fold.{fold_to}
use Rattle.kinds.specs.Limits.{most_labels}
use Rattle.tables.specs.File.{place_of}
use Rattle.tables.specs.Write.{put_count}
use Rattle.scan.specs.Ordered.{read}
use Rattle.counts.specs.Sets.{SetsTo}

-- there are k labels, not too many, whose sets' counts stand in the list; the bytes are just as many as the file of n stops needs
pub record Sized (n k : ℕ) (c : ℕ → ℕ → ℕ) (sets b : List ℕ) : Type 0 where
  pub few : k ≤ most_labels
  pub counts : SetsTo c n n sets
  pub long : length b ≡ place_of n k

-- the counts of the sets below k
unfoldable pub contents_to : List ℕ → List ℕ → ℕ → List ℕ
contents_to b sets k = fold_to (λ s x. put_count x s (read sets s)) k b
