-- The cases A to J as one list under one claim.
use Rattle.std.specs.Prelude.{◌≡◌, List, [], ◌∷◌, ℕ}
use Rattle.journeys.specs.declared.Criterion.{Criterion}
use Rattle.journeys.specs.declared.Criterion.TheVariants.{Early, Late, Short}
use Rattle.journeys.specs.Service.{Service}
use Rattle.journeys.specs.Journey.{Journey, RidesOf}
use Rattle.journeys.specs.Criteria.{Best, Nothing}

-- what comes back: a pair and the rides of a journey that has it; a pair, two such rides and the minute at which they are "joined"; or nothing
pub data Reply : Type 0 where
  at : ℕ → ℕ → List ℕ → Reply
  joined : ℕ → ℕ → ℕ → ℕ → ℕ → Reply
  nothing : Reply

pub record Case : Type 0 where
  pub service : Service
  pub from : ℕ
  pub to : ℕ
  pub criterion : Criterion
  pub reply : Reply

-- "joined at minute m": the first ride arrives then, and the second leaves then
abbrev pub Says : Service → ℕ → ℕ → Criterion → Reply → Type 0
Says S u v c (at d a l) = Best (Journey S u v) c d a × RidesOf S u v d a l
Says S u v c (joined d a i k m) = Best (Journey S u v) c d a × RidesOf S u v d a (i ∷ k ∷ []) × ((S.ride i).arr ≡ m) × ((S.ride k).dep ≡ m)
Says S u v c nothing = Nothing (Journey S u v) c

abbrev pub Holds : List Case → Type 0
Holds [] = Unit {0}
Holds (c ∷ l) = Says c.service c.from c.to c.criterion c.reply × Holds l

abbrev pub on_day : Service → ℕ → ℕ → Criterion → Reply → Case
on_day S u v c r = record { service = S; from = u; to = v; criterion = c; reply = r }

-- "Proved cases on T" (A) to (J), in order; `day` is T, `less` is "T without run 2". HUB is stop 0, MOOR 1, QUAY-N 2, QUAY-S 3.
abbrev pub cases_ato_j : Service → Service → List Case
cases_ato_j day less =
    on_day day 1 2 (Early 480) (at 480 525 (0 ∷ 2 ∷ [])) ∷ on_day day 1 2 (Early 481) (at 490 540 (4 ∷ [])) ∷
    on_day day 1 2 (Late 540) (at 490 540 (4 ∷ [])) ∷ on_day day 1 2 (Late 539) (at 480 525 (0 ∷ 2 ∷ [])) ∷
    on_day day 1 2 (Late 524) nothing ∷ on_day day 1 2 (Short 480 540) (at 480 525 (0 ∷ 2 ∷ [])) ∷
    on_day day 0 1 (Early 505) (at 505 560 (5 ∷ 3 ∷ [])) ∷ on_day day 0 1 (Early 506) nothing ∷
    on_day day 0 2 (Early 500) (at 510 525 (2 ∷ [])) ∷ on_day less 1 2 (Early 480) (joined 480 530 0 1 500) ∷ []
