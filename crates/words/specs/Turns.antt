-- What the loop over a stretch keeps at each turn.
use Rattle.std.specs.Prelude.{ℕ, ◌≤◌, ◌≡◌, List}
use Rattle.words.specs.Words.{seek}

-- the byte x is sought from k on, and what is found there is found from a on
pub record Seeking (x : ℕ) (s : List ℕ) (a e k : ℕ) : Type 0 where
  pub rest : seek x s a e ≡ seek x s k e
  pub low : a ≤ k
  pub high : k ≤ e
