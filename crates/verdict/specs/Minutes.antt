-- The minutes at which the hubs are reached, as they stand in the working room, and what one label more makes of them and of an arrival.
use Rattle.std.specs.Prelude.{ℕ, ◌+◌, ◌≤◌, ◌<◌, ◌≡◌, List, cond, length, get_or, set, ltb, leb}
use Rattle.kinds.specs.Limits.{most_stops, unreached}
use Rattle.kinds.specs.declared.Label.{Label}
use Rattle.journeys.specs.Tables.{Side, outs, ins}
use Rattle.tables.specs.File.{tables_of}
use Rattle.label_sets.specs.Starts.{starts_room}
use Rattle.verdict.specs.declared.Soonest.{Soonest}
use Rattle.verdict.specs.Early.{Reached, Arrivals}

-- ---- where they stand

-- hub by hub, from one place of the room on
abbrev pub minutes : List ℕ → ℕ → ℕ → ℕ
minutes room at h = get_or room (at + h) 0

-- those of leaving a ride's start behind the starts of the sets, those of leaving its end behind them
abbrev pub far_at : ℕ
far_at = starts_room + most_stops

abbrev pub both_room : ℕ
both_room = far_at + most_stops

abbrev pub near : List ℕ → ℕ → ℕ
near room = minutes room starts_room

abbrev pub far : List ℕ → ℕ → ℕ
far room = minutes room far_at

abbrev pub hub_minutes : List ℕ → ℕ → Soonest
hub_minutes room h = record { near = near room h; far = far room h }

-- as long as before, and the same in front of a place
pub record SameBefore (place : ℕ) (before after : List ℕ) : Type 0 where
  pub long : length after ≡ length before
  pub same : (p : ℕ) → p < place → get_or after p 0 ≡ get_or before p 0

-- and from there up to `to` no hub is reached
pub record Cleared (at to : ℕ) (before after : List ℕ) : Type 0 where
  pub kept : SameBefore at before after
  pub clear : (p : ℕ) → at ≤ p → p < to → get_or after p 0 ≡ unreached

-- ---- one label more

-- a label l, for one who can be where it leaves at m
unfoldable pub sooner_of : ℕ → ℕ → Label → ℕ
sooner_of e m l = cond (ltb l.dep m) e (cond (leb e l.arr) e l.arr)

-- an out-label l of a stop that one leaves at d
unfoldable pub relaxed : ℕ → ℕ → Label → List ℕ → List ℕ
relaxed at d l room = cond (ltb l.dep d) room (set room (at + l.hub) (sooner_of (minutes room at l.hub) d l))

-- an in-label l whose hub is reached at m
abbrev pub WithIn : Soonest → Soonest → Label → Soonest → Type 0
WithIn s m l r = (r.near ≡ sooner_of s.near m.near l) × (r.far ≡ sooner_of s.far m.far l)

-- ---- the turns

-- a walk along a set, whose owner is o and which ends at `end`, has come to label k
pub record WalkTo (b : List ℕ) (side : Side) (o end k : ℕ) : Type 0 where
  pub low : (tables_of b).start side o ≤ k
  pub high : k ≤ end
  pub is_end : end ≡ (tables_of b).end side o

-- the out-labels of u below k have been taken in, from a room that was `before`
pub record TakenOuts (b : List ℕ) (n u d at end : ℕ) (before room : List ℕ) (k : ℕ) : Type 0 where
  pub walk : WalkTo b outs u end k
  pub long : at + n ≤ length room
  pub kept : SameBefore at before room
  pub reached : Reached (tables_of b) u d k (minutes room at)

-- the in-labels of v below k have been taken in
pub record TakenIns (b : List ℕ) (R Q : ℕ → ℕ) (v end : ℕ) (s : Soonest) (k : ℕ) : Type 0 where
  pub walk : WalkTo b ins v end k
  pub soonest : Arrivals (tables_of b) R Q v k s
