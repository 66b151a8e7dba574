-- The loop that copies bytes into a lent buffer.
use Rattle.std.specs.Prelude.{ℕ, ◌≤◌, ◌≡◌, List, length, take}
use Rattle.loops.specs.Put.{put_from}

-- the first k of the bytes xs have been written
pub record Copying (l : List ℕ) (i : ℕ) (xs m : List ℕ) (k : ℕ) : Type 0 where
  pub is : m ≡ put_from l i (take k xs)
  pub high : k ≤ length xs
