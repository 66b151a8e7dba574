-- Which asks are permitted, in the demands' words: "every ask between two different stops, at permitted times"; and which are refused, and why.
use Rattle.std.specs.Prelude.{ℕ, ◌≤◌, ◌<◌, ◌≡◌, ◌⊎◌, Err, Ok, Result}
use Rattle.kinds.specs.Limits.{last_minute}
use Rattle.kinds.specs.Refusals.{refusal}
use Rattle.journeys.specs.declared.Criterion.{Criterion}
use Rattle.journeys.specs.declared.Criterion.TheVariants.{Early, Late, Short}
use Rattle.asks.specs.declared.Wanted.{Wanted}
use Rattle.asks.specs.declared.Wanted.TheVariants as wanted
use Rattle.asks.specs.Asks.{TwoStops}
use Rattle.kinds.specs.declared.Reason.TheVariants as reason
use Rattle.asks.specs.declared.Asked.{Asked}
use Rattle.kinds.specs.declared.Refusal.{Refusal}

-- early(u, v, t), late(u, v, t), short(u, v, t, t2): the minutes are those of the ask
abbrev pub criterion_of : Wanted → Criterion
criterion_of (wanted.Early t) = Early t
criterion_of (wanted.Late t) = Late t
criterion_of (wanted.Short t t2) = Short t t2

-- "Minutes 0 to 2,879"
abbrev pub InRange : Wanted → Type 0
InRange (wanted.Early t) = t ≤ last_minute
InRange (wanted.Late t) = t ≤ last_minute
InRange (wanted.Short t t2) = (t ≤ last_minute) × (t2 ≤ last_minute)

-- 14: "ask minute over 2,879"
abbrev pub OutOfRange : Wanted → Type 0
OutOfRange (wanted.Early t) = last_minute < t
OutOfRange (wanted.Late t) = last_minute < t
OutOfRange (wanted.Short t t2) = (last_minute < t) ⊎ (last_minute < t2)

-- 15: "t > t2"
abbrev pub Crossed : Wanted → Type 0
Crossed (wanted.Early t) = ⊥
Crossed (wanted.Late t) = ⊥
Crossed (wanted.Short t t2) = t2 < t

-- an ask that demands 2 and 3 speak of
pub record Permitted (n from to : ℕ) (w : Wanted) : Type 0 where
  pub stops : TwoStops n from to
  pub in_range : InRange w
  pub in_order : ¬ (Crossed w)

-- What becomes of an ask: a permitted one is that of its own stops and minutes; "12, 13, 14, 15" are given exactly for these reasons, in this order.
pub data AskIs (n from to : ℕ) (w : Wanted) (x : Result Asked Refusal) : Type 0 where
  permitted : Permitted n from to w → x ≡ Ok (record { from = from; to = to; criterion = criterion_of w }) → AskIs n from to w x
  no_stop : (n ≤ from) ⊎ (n ≤ to) → x ≡ Err (refusal reason.StopHigh 0) → AskIs n from to w x
  equal_stops : from < n → from ≡ to → x ≡ Err (refusal reason.SameStop 0) → AskIs n from to w x
  beyond_range : TwoStops n from to → OutOfRange w → x ≡ Err (refusal reason.MinuteHigh 0) → AskIs n from to w x
  crossed : TwoStops n from to → InRange w → Crossed w → x ≡ Err (refusal reason.MinutesCrossed 0) → AskIs n from to w x
