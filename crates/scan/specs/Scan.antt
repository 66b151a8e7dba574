-- One scan from stop u and minute d: what each event does to what is kept of the stops and of the rides.
use Rattle.std.specs.Prelude.{ℕ, ◌%◌, min, cond, eqb, ltb}
use Rattle.loops.specs.Fold.{fold_to}
use Rattle.kinds.specs.Limits.{no_pivot, unreached}
use Rattle.journeys.specs.declared.Ride.{Ride}
use Rattle.scan.specs.Events.{slot_of}
use Rattle.scan.specs.declared.Cell.{Cell}

-- what stands for a ride that cannot be boarded, in the place of the lowest stop between; no stop's number, and not `no_pivot`, which stands
-- where nothing is between
abbrev pub not_boarded : ℕ
not_boarded = 65534

-- f, with v at x
unfoldable pub update : {A : Type 0} → (ℕ → A) → ℕ → A → ℕ → A
update f x v y = cond (eqb y x) v (f y)

-- What is kept: of each ride the lowest stop strictly between u and its end on any journey that ends with it, and of each stop a cell.
pub record Kept : Type 0 where
  pub lows : ℕ → ℕ
  pub cells : ℕ → Cell

-- a ride that leaves stop x, of which c is kept
unfoldable pub boarded : ℕ → ℕ → Cell → ℕ
boarded u x c = cond (eqb x u) no_pivot (cond (eqb c.at unreached) not_boarded (min c.low x))

-- a ride arrives at minute m, with the lowest stop l between: at its stop, of which c is kept
abbrev pub changes_with : ℕ → Cell → ℕ
changes_with l c = cond (eqb l no_pivot) 0 c.changes

unfoldable pub landed : ℕ → ℕ → Cell → Cell
landed m l c =
    cond (ltb c.at m) (record { at = c.at; low = min c.low l; via = c.via; changes = c.changes })
    (record { at = m; low = min c.low l; via = min c.via l; changes = changes_with l c })

unfoldable pub departs : Ride → ℕ → ℕ → Kept → Kept
departs r u i k = record { lows = update k.lows i (boarded u r.from (k.cells r.from)); cells = k.cells }

unfoldable pub arrives : Ride → ℕ → Kept → Kept
arrives r i k =
    cond (eqb (k.lows i) not_boarded) k
    (record { lows = k.lows; cells = update k.cells r.to (landed r.arr (k.lows i) (k.cells r.to)) })

-- event e
unfoldable pub happens : (ℕ → Ride) → ℕ → ℕ → Kept → Kept
happens ride u e k = cond (eqb (e % 2) 0) (arrives (ride (slot_of e)) (slot_of e) k) (departs (ride (slot_of e)) u (slot_of e) k)

-- every stop unreached but u, which is reached at d; no ride boarded
abbrev pub fresh_cell : ℕ → Cell
fresh_cell m = record { at = m; low = no_pivot; via = no_pivot; changes = no_pivot }

unfoldable pub fresh : ℕ → ℕ → Kept
fresh u d = record { lows = λ i. not_boarded; cells = update (λ x. fresh_cell unreached) u (fresh_cell d) }

-- the events from place `start` up to, not including, place k
unfoldable pub scanned_to : (ℕ → Ride) → (ℕ → ℕ) → ℕ → ℕ → ℕ → ℕ → Kept
scanned_to ride event u d start k = fold_to (λ p x. cond (ltb p start) x (happens ride u (event p) x)) k (fresh u d)
