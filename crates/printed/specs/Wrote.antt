-- Bytes written into a lent buffer.
use Rattle.std.specs.Prelude.{ℕ, ◌+◌, ◌≡◌, List, length}
use Rattle.loops.specs.Put.{put_from}

-- The buffer held l and holds m: the bytes xs stand in it from place i on, all else is as it was, and r is the place after them.
pub record Wrote (l : List ℕ) (i : ℕ) (xs m : List ℕ) (r : ℕ) : Type 0 where
  pub is : m ≡ put_from l i xs
  pub end : r ≡ i + length xs
