-- What is looked up in the sets: a label by its ends and one of its minutes; the two labels that meet at a pivot.
use Rattle.std.specs.Prelude as std
use Rattle.std.specs.Prelude.{ℕ, min, ◌≤◌, ◌<◌, ◌≡◌, List, None, Some}
use Rattle.std.proofs.Math.Option.{Option}
use Rattle.kinds.specs.Limits.{no_pivot}
use Rattle.kinds.specs.declared.Label as kinds
use Rattle.journeys.specs.Service.{Service, RideAt}
use Rattle.journeys.specs.Tables.{Side, Tables, Entry, LabelAt, Label, LabelWith}
use Rattle.journeys.specs.Check.{Halves}
use Rattle.tables.specs.File.{pivot_of, tables_of}
use Rattle.tables.specs.Good.{GoodFile}
use Rattle.label_sets.specs.declared.Moment.{Moment}
use Rattle.label_sets.specs.declared.Span.{Span}
use Rattle.label_sets.specs.declared.Meeting.{Meeting}
use Rattle.label_sets.specs.Seek.{Exactly}

-- the set of the owner s on this side lies between these bounds
pub record SetAt (b : List ℕ) (n : ℕ) (side : Side) (s from to : ℕ) : Type 0 where
  pub file : GoodFile b n
  pub owner : s < n
  pub start : (tables_of b).start side s ≡ from
  pub end : (tables_of b).end side s ≡ to

-- label k, one of the owner s on this side with this hub and this moment, or that there is none
pub record FoundInSet (T : Tables) (side : Side) (s h : ℕ) (m : Moment) (k : ℕ) (l : kinds.Label) : Type 0 where
  pub entry : Entry T side k s h l.dep l.arr (pivot_of l.pivot)
  pub hub : l.hub ≡ h
  pub says : Exactly m l.dep l.arr

abbrev pub SoughtIn : Tables → Side → ℕ → ℕ → Moment → std.Option (ℕ × kinds.Label) → Type 0
SoughtIn T side s hub m (Some (k, l)) = FoundInSet T side s hub m k l
SoughtIn T side s hub m None = (k d a : ℕ) (p : Option ℕ) → Entry T side k s hub d a p → ¬ (Exactly m d a)

-- "the label u to p that leaves at the same minute", "the label p to v that arrives at the same minute", or that there is none.
-- (Its hub is the end with the lower number.)
pub record FoundLabel (T : Tables) (u v : ℕ) (m : Moment) (k : ℕ) (l : kinds.Label) : Type 0 where
  pub label : LabelAt T k u v l.dep l.arr (pivot_of l.pivot)
  pub hub : l.hub ≡ min u v
  pub says : Exactly m l.dep l.arr

abbrev pub SoughtAs : Tables → ℕ → ℕ → Moment → std.Option (ℕ × kinds.Label) → Type 0
SoughtAs T u v m (Some (k, l)) = FoundLabel T u v m k l
SoughtAs T u v m None = ¬ (LabelWith T u v (Exactly m))

-- the span's stops are stops, and so is its pivot if it has one
pub record SpanIn (n : ℕ) (s : Span) : Type 0 where
  pub from_stop : s.from < n
  pub to_stop : s.to < n
  pub pivot_stop : (s.pivot ≡ no_pivot → ⊥) → s.pivot < n

-- "the label u to p that leaves at the same minute, then the label p to v that arrives at the same minute, the first arriving no later than
-- the second leaves", or that they are not there
pub record MeetAt (T : Tables) (s : Span) (h : Meeting) : Type 0 where
  pub first : Label T s.from s.pivot s.dep h.mid (pivot_of h.first)
  pub second : Label T s.pivot s.to h.start s.arr (pivot_of h.second)
  pub meets : h.mid ≤ h.start

abbrev pub PartedAs : Tables → Span → std.Option Meeting → Type 0
PartedAs T s (Some h) = MeetAt T s h
PartedAs T s None = ¬ (Halves T s.from s.pivot s.to s.dep s.arr)

-- "with its ends and minutes": the ride at slot i is in force and has those of the span
abbrev pub SpanRide : Service → Span → ℕ → Type 0
SpanRide S s i = RideAt S i s.from s.to s.dep s.arr
