-- The numbers of the example day, as the reader leaves them.
use Rattle.std.specs.Prelude.{ℕ, List, [], ◌∷◌}

-- six runs, five of them, and four codes: where each starts and how long it is
unfoldable pub six_runs : List ℕ
six_runs =
    1 ∷ 0 ∷ 480 ∷ 500 ∷ 11 ∷ 0 ∷ 2 ∷ 500 ∷ 530 ∷ 12 ∷ 0 ∷ 2 ∷ 510 ∷ 525 ∷ 13 ∷ 3 ∷ 1 ∷ 540 ∷ 560 ∷ 14 ∷ 1 ∷ 2 ∷ 490 ∷ 540 ∷ 15 ∷ 0 ∷ 3 ∷ 505 ∷ 520 ∷ 16 ∷ []

unfoldable pub five_runs : List ℕ
five_runs =
    1 ∷ 0 ∷ 480 ∷ 500 ∷ 11 ∷ 0 ∷ 2 ∷ 500 ∷ 530 ∷ 12 ∷ 3 ∷ 1 ∷ 540 ∷ 560 ∷ 14 ∷ 1 ∷ 2 ∷ 490 ∷ 540 ∷ 15 ∷ 0 ∷ 3 ∷ 505 ∷ 520 ∷ 16 ∷ []

unfoldable pub four_codes : List ℕ
four_codes = 17 ∷ 3 ∷ 26 ∷ 4 ∷ 36 ∷ 6 ∷ 48 ∷ 6 ∷ []
