-- The plain search for a stop with a code, from the last stop down.
use Rattle.std.specs.Prelude.{ℕ, ◌≤◌, ◌≡◌, List}
use Rattle.lookup.specs.Lookup.{stop_in, stop_named}

-- k stops are still to be looked at, and what they give is the answer
pub record Scanning (s codes : List ℕ) (stops : ℕ) (t : List ℕ) (a n k : ℕ) : Type 0 where
  pub high : k ≤ stops
  pub rest : stop_named s codes stops t a n ≡ stop_in s codes t a n stops k
