-- "Numbers given back": the number of each reason, with what is refused and its place.
use Rattle.std.specs.Prelude.{ℕ, List, [], ◌∷◌}
use Rattle.kinds.specs.declared.Reason.{Reason}
use Rattle.kinds.specs.declared.Reason.TheVariants as reason
use Rattle.kinds.specs.declared.Refusal.{Refusal}

abbrev pub number_of : Reason → ℕ
-- first line wrong; place: line 1
number_of reason.FirstLine = 1
-- line shape; place: line
number_of reason.LineShape = 2
-- stop code bad; place: line
number_of reason.CodeBad = 3
-- code repeated; place: line
number_of reason.CodeRepeated = 4
-- stop unknown; place: line, or run for given numbers
number_of reason.StopUnknown = 5
-- run to its own stop; place: line, or run
number_of reason.OwnStop = 6
-- number out of range, or DEP ≥ ARR; place: line, or run
number_of reason.OutOfRange = 7
-- more than a limit; place: line, or 0
number_of reason.OverLimit = 8
-- tables: shorter than 2 bytes, byte 0 not 1, or n = 0; place 0
number_of reason.NoTables = 9
-- tables: contents cut short, over 8,192 labels, or length differs; place 0
number_of reason.TablesLength = 10
-- label not good; place: first label
number_of reason.LabelBad = 11
-- stop not below n; place 0
number_of reason.StopHigh = 12
-- same stop twice; place 0
number_of reason.SameStop = 13
-- ask minute over 2,879; place 0
number_of reason.MinuteHigh = 14
-- t > t2; place 0
number_of reason.MinutesCrossed = 15
-- no journey; place 0
number_of reason.NoJourney = 16
-- lent room too short; place 0
number_of reason.RoomShort = 17
-- rides missing; place 0
number_of reason.RidesMissing = 18
-- label unsupported; place: label
number_of reason.Unsupported = 19
-- gap; places: run, stop
number_of reason.Gap = 20
-- stop counts differ; place 0
number_of reason.StopsDiffer = 21
-- more than 8,192 labels by the rule; place 0
number_of reason.LabelsOver = 22

abbrev pub all_numbers : List ℕ
all_numbers = 1 ∷ 2 ∷ 3 ∷ 4 ∷ 5 ∷ 6 ∷ 7 ∷ 8 ∷ 9 ∷ 10 ∷ 11 ∷ 12 ∷ 13 ∷ 14 ∷ 15 ∷ 16 ∷ 17 ∷ 18 ∷ 19 ∷ 20 ∷ 21 ∷ 22 ∷ []

-- "A refusal carries number and place only"
abbrev pub refusal : Reason → ℕ → Refusal
refusal r p = record { reason = r; place = p; stop = 0 }
