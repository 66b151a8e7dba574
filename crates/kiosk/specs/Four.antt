-- The four numbers that C gets: [0, ..] on success, [number, place, stop, 0] on a refusal.
use Rattle.std.specs.Prelude.{ℕ, List, [], ◌∷◌, Err, Ok, Result}
use Rattle.kinds.specs.Refusals.{number_of}
use Rattle.kinds.specs.declared.Refusal.{Refusal}
use Rattle.builder.specs.declared.Built.{Built}
use Rattle.asks.specs.declared.Journey.{Journey}
use Rattle.rides.specs.declared.Listed.{Listed}
use Rattle.reader.specs.declared.Counts.{Counts}

-- what a success tells, or the refusal
abbrev pub four : {T : Type 0} → (T → List ℕ) → Result T Refusal → List ℕ
four told (Ok x) = told x
four told (Err r) = number_of r.reason ∷ r.place ∷ r.stop ∷ 0 ∷ []

-- [0, dep, arr, 0]
abbrev pub told_ask : Journey → List ℕ
told_ask j = 0 ∷ j.dep ∷ j.arr ∷ 0 ∷ []

-- [0, stops, runs, 0]
abbrev pub told_read : Counts → List ℕ
told_read c = 0 ∷ c.stops ∷ c.runs ∷ 0 ∷ []

-- [0, 0, 0, 0]
abbrev pub told_check : Unit {0} → List ℕ
told_check _ = 0 ∷ 0 ∷ 0 ∷ 0 ∷ []

-- [0, dep, arr, rides]
abbrev pub told_rides : Listed → List ℕ
told_rides j = 0 ∷ j.dep ∷ j.arr ∷ j.rides ∷ []

-- [0, length, labels, 0]
abbrev pub told_build : Built → List ℕ
told_build b = 0 ∷ b.length ∷ b.labels ∷ 0 ∷ []

-- the answers of each call
abbrev pub four_ask : Result Journey Refusal → List ℕ
four_ask x = four told_ask x

abbrev pub four_read : Result Counts Refusal → List ℕ
four_read x = four told_read x

abbrev pub four_check : Result Unit Refusal → List ℕ
four_check x = four told_check x

abbrev pub four_rides : Result Listed Refusal → List ℕ
four_rides x = four told_rides x

abbrev pub four_build : Result Built Refusal → List ℕ
four_build x = four told_build x
