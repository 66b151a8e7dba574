-- What each constructor of src/lib.rt answers.
use Rattle.std.specs.Prelude.{ℕ, ◌+◌, ◌≤◌, ◌<◌, ◌≡◌, List, ◌⊎◌, Bool, false, cond, length, ltb, leb, eqb, Err, None, Ok, Option, Result, Some}
use Rattle.kinds.specs.Limits.{most_stops, most_runs, no_pivot, last_minute, most_trip, most_code, least_code_byte, most_code_byte}
use Rattle.kinds.specs.Refusals.{number_of}
use Rattle.kinds.specs.declared.Code.{Code}
use Rattle.kinds.specs.declared.Reason.TheVariants as reason
use Rattle.kinds.specs.declared.Stop.{Stop}
use Rattle.kinds.specs.declared.Label.{Label}
use Rattle.kinds.specs.declared.Run.{Run}
use Rattle.kinds.specs.declared.Reason.{Reason}
use Rattle.kinds.specs.declared.Trip.{Trip}
use Rattle.kinds.specs.declared.Minute.{Minute}

-- "a stop count of 0 or over 255" is refused
unfoldable pub is_stop_count : ℕ → Bool
is_stop_count n = cond (eqb n 0) false (leb n most_stops)

-- a stop's number is below the stop count
unfoldable pub stop_of : ℕ → ℕ → Option Stop
stop_of n count = cond (ltb n count) (Some (record { 0 = n })) None

unfoldable pub minute_of : ℕ → Option Minute
minute_of n = cond (leb n last_minute) (Some (record { 0 = n })) None

unfoldable pub trip_of : ℕ → Option Trip
trip_of n = cond (eqb n 0) None (cond (leb n most_trip) (Some (record { 0 = n })) None)

-- "a run count over 4,096" is refused
unfoldable pub is_run_count : ℕ → Bool
is_run_count n = leb n most_runs

-- "by run 5, 6, 7": a stop unknown; "A run needs FROM and TO different and DEP < ARR"; "a value out of range 7".
-- (A departure before an arrival that is in range is in range.)
unfoldable pub run_of : ℕ → ℕ → ℕ → ℕ → ℕ → ℕ → Result Run Reason
run_of stops from to dep arr t =
    cond (leb stops from) (Err reason.StopUnknown)
    (cond (leb stops to) (Err reason.StopUnknown)
    (cond (eqb from to) (Err reason.OwnStop)
    (cond (leb arr dep) (Err reason.OutOfRange)
    (cond (ltb last_minute arr) (Err reason.OutOfRange)
    (cond (eqb t 0) (Err reason.OutOfRange)
    (cond (ltb most_trip t) (Err reason.OutOfRange)
    (Ok (record { from = from; to = to; dep = dep; arr = arr; trip = t }))))))))

-- a run is good, or refused by 5, 6 or 7
abbrev pub RunRefusal : Result Run Reason → Type 0
RunRefusal (Ok r) = Unit
RunRefusal (Err n) = (number_of reason.StopUnknown ≤ number_of n) × (number_of n ≤ number_of reason.OutOfRange)

-- "A good label, by stop numbers: hub less than owner; departure < arrival ≤ 2,879; pivot [none], or more than the hub, less than n and not the owner."
unfoldable pub label_of : ℕ → ℕ → ℕ → ℕ → ℕ → ℕ → Option Label
label_of stops owner hub dep arr pivot =
    cond (leb owner hub) None
    (cond (leb arr dep) None
    (cond (ltb last_minute arr) None
    (cond (eqb pivot no_pivot) good
    (cond (leb pivot hub) None
    (cond (leb stops pivot) None
    (cond (eqb pivot owner) None good))))))
  where
    good : Option Label
    good = Some (record { hub = hub; dep = dep; arr = arr; pivot = pivot })

-- "each byte 33 to 126"
unfoldable pub is_code_byte : ℕ → Bool
is_code_byte b = cond (ltb b least_code_byte) false (leb b most_code_byte)

-- "Codes 1 to 64 bytes"
unfoldable pub is_code_length : ℕ → Bool
is_code_length n = cond (eqb n 0) false (leb n most_code)

-- the code stands in the text s, and is no longer than a code may be
pub record CodeIn (s : List ℕ) (c : Code) : Type 0 where
  pub within : c.start + c.length ≤ length s
  pub short : c.length ≤ most_code

-- the five numbers of a good run
pub record GoodRun (stops from to dep arr trip : ℕ) : Type 0 where
  pub from_stop : from < stops
  pub to_stop : to < stops
  pub apart : from ≡ to → ⊥
  pub later : dep < arr
  pub last : arr ≤ last_minute
  pub trip_least : 0 < trip
  pub trip_most : trip ≤ most_trip

-- a pivot is none, or "more than the hub, less than n and not the owner"
pub record GoodPivot (stops owner hub pivot : ℕ) : Type 0 where
  pub above : hub < pivot
  pub below : pivot < stops
  pub other : pivot ≡ owner → ⊥

pub record GoodLabel (stops owner hub dep arr pivot : ℕ) : Type 0 where
  pub low : hub < owner
  pub later : dep < arr
  pub last : arr ≤ last_minute
  pub pivoted : (pivot ≡ no_pivot) ⊎ GoodPivot stops owner hub pivot
