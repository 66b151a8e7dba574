-- Numbers put into a list, one after the other.
use Rattle.std.specs.Prelude.{ℕ, ◌+◌, List, [], ◌∷◌, set}

-- the list with these numbers from place i on
abbrev pub put_from : List ℕ → ℕ → List ℕ → List ℕ
put_from l i [] = l
put_from l i (v ∷ vs) = put_from (set l i v) (i + 1) vs
