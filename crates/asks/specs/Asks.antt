-- The three asks over a tables file: what is refused, and what is answered.
use Rattle.std.specs.Prelude.{ℕ, ◌<◌, ◌≡◌, List, ◌≢◌, cond, ltb, eqb, Err, None, Ok, Option, Result, Some}
use Rattle.kinds.specs.Refusals.{refusal}
use Rattle.kinds.specs.Kinds.{stop_of, minute_of}
use Rattle.journeys.specs.declared.Criterion.{Criterion}
use Rattle.journeys.specs.declared.Criterion.TheVariants.{Early, Late, Short}
use Rattle.journeys.specs.Criteria.{Best, Nothing}
use Rattle.journeys.specs.Tables.{Tables, Sketch}
use Rattle.tables.specs.Judged.{judged_tables}
use Rattle.asks.specs.declared.Wanted.{Wanted}
use Rattle.asks.specs.declared.Wanted.TheVariants as wanted
use Rattle.asks.specs.declared.Asked.{Asked}
use Rattle.kinds.specs.declared.Reason.TheVariants as reason
use Rattle.kinds.specs.declared.Stop.{Stop}
use Rattle.asks.specs.declared.Journey.{Journey}
use Rattle.kinds.specs.declared.Refusal.{Refusal}
use Rattle.kinds.specs.declared.Reason.{Reason}
use Rattle.kinds.specs.declared.Minute.{Minute}

-- 14 "ask minute over 2,879"
abbrev pub minute_read : Option Minute → Result ℕ Reason
minute_read (Some m) = Ok m.0
minute_read None = Err reason.MinuteHigh

abbrev pub if_minute : Result ℕ Reason → (ℕ → Result Criterion Reason) → Result Criterion Reason
if_minute (Ok m) f = f m
if_minute (Err why) f = Err why

-- and then 15 "t > t2"
unfoldable pub minutes_read : Wanted → Result Criterion Reason
minutes_read (wanted.Early t) = if_minute (minute_read (minute_of t)) (λ m. Ok (Early m))
minutes_read (wanted.Late t) = if_minute (minute_read (minute_of t)) (λ m. Ok (Late m))
minutes_read (wanted.Short t t2) =
    if_minute (minute_read (minute_of t)) (λ m. if_minute (minute_read (minute_of t2)) (λ m2. cond (ltb m2 m) (Err reason.MinutesCrossed) (Ok (Short m m2))))

-- 12 "stop not below n", 13 "same stop twice", and those of the minutes
abbrev pub if_stop : Option Stop → (ℕ → Result Asked Refusal) → Result Asked Refusal
if_stop (Some s) f = f s.0
if_stop None f = Err (refusal reason.StopHigh 0)

abbrev pub if_minutes : Result Criterion Reason → (Criterion → Result Asked Refusal) → Result Asked Refusal
if_minutes (Ok c) f = f c
if_minutes (Err why) f = Err (refusal why 0)

unfoldable pub ask_read : ℕ → ℕ → ℕ → Wanted → Result Asked Refusal
ask_read n from to w =
    if_stop (stop_of from n) (λ u. if_stop (stop_of to n) (λ v.
    cond (eqb u v) (Err (refusal reason.SameStop 0)) (if_minutes (minutes_read w) (λ c. Ok (record { from = u; to = v; criterion = c })))))

-- "Asks: 9, 10, 11, 12, 13, 14, 15, 16": the tables' refusals first
abbrev pub if_tables : Result ℕ Refusal → (ℕ → Result Asked Refusal) → Result Asked Refusal
if_tables (Ok n) f = f n
if_tables (Err r) f = Err r

unfoldable pub asked : List ℕ → ℕ → ℕ → Wanted → Result Asked Refusal
asked b from to w = if_tables (judged_tables b) (λ n. ask_read n from to w)

-- the best of the pairs P by the criterion, or 16 and none of them fits
abbrev pub Gets : (ℕ → ℕ → Type 0) → Criterion → Result Journey Refusal → Type 0
Gets P c (Ok j) = Best P c j.dep j.arr
Gets P c (Err r) = (r ≡ refusal reason.NoJourney 0) × Nothing P c

-- an ask that is in order gets the best of the pairs between its stops; what is out of order is refused
abbrev pub AnswersBy : (ℕ → ℕ → ℕ → ℕ → Type 0) → Result Asked Refusal → Result Journey Refusal → Type 0
AnswersBy P (Err r) x = x ≡ Err r
AnswersBy P (Ok q) x = Gets (P q.from q.to) q.criterion x

-- "The answer over the tables is the best sketch by the rules above", or 16 where there is none
abbrev pub Answers : Tables → Result Asked Refusal → Result Journey Refusal → Type 0
Answers T q x = AnswersBy (Sketch T) q x

-- "two different stops" of n
pub record TwoStops (n from to : ℕ) : Type 0 where
  pub from_stop : from < n
  pub to_stop : to < n
  pub apart : from ≢ to

-- an ask that is in order has such stops
abbrev pub GoodAsk : ℕ → Asked → Type 0
GoodAsk n q = TwoStops n q.from q.to
