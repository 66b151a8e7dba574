-- The best pair found so far among a set of pairs, and taking one pair more.
use Rattle.std.specs.Prelude.{ℕ, ◌+◌, ◌≡◌, ◌⊎◌, Bool, true, false, cond, ltb, leb, eqb, None, Option, Some}
use Rattle.journeys.specs.declared.Criterion.{Criterion}
use Rattle.journeys.specs.declared.Criterion.TheVariants.{Early, Late, Short}
use Rattle.journeys.specs.Criteria.{Best, Nothing}
use Rattle.asks.specs.declared.Journey.{Journey}

-- what was found is the best of P, or P has nothing that fits
abbrev pub FoundIn : (ℕ → ℕ → Type 0) → Criterion → Option Journey → Type 0
FoundIn P c (Some j) = Best P c j.dep j.arr
FoundIn P c None = Nothing P c

-- the set with one pair more
abbrev pub Plus : (ℕ → ℕ → Type 0) → ℕ → ℕ → ℕ → ℕ → Type 0
Plus P d a e b = P e b ⊎ ((e ≡ d) × (b ≡ a))

-- the tests of a criterion: does a pair fit, is (d, a) better than (e, b)
unfoldable pub fits_b : Criterion → ℕ → ℕ → Bool
fits_b (Early t) d a = leb t d
fits_b (Late t) d a = leb a t
fits_b (Short t t2) d a = cond (leb t d) (leb a t2) false

-- x comes before y, or they are the same and the tie is won
unfoldable pub ahead_b : ℕ → ℕ → Bool → Bool
ahead_b x y tie = cond (ltb x y) true (cond (eqb x y) tie false)

abbrev pub better_b : Criterion → ℕ → ℕ → ℕ → ℕ → Bool
better_b (Early t) d a e b = ahead_b a b (ltb e d)
better_b (Late t) d a e b = ahead_b e d (ltb a b)
better_b (Short t t2) d a e b = ahead_b (a + e) (b + d) (ltb d e)

-- one pair more
abbrev pub pair : ℕ → ℕ → Option Journey
pair d a = Some (record { dep = d; arr = a })

abbrev pub against : Criterion → ℕ → ℕ → Option Journey → Option Journey
against c d a (Some j) = cond (better_b c d a j.dep j.arr) (pair d a) (Some j)
against c d a None = pair d a

unfoldable pub taken : Criterion → ℕ → ℕ → Option Journey → Option Journey
taken c d a best = cond (fits_b c d a) (against c d a best) best
