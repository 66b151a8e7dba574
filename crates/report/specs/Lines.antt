-- The other lines that the programs for people print.
use Rattle.std.specs.Prelude.{ℕ, List, [], ◌∷◌, ◌++◌, Bool, true, false, None, Option, Some}
use Prim.Native.String.{String}
use Rattle.kinds.specs.Kinds.{CodeIn}
use Rattle.kinds.specs.declared.Code.{Code}
use Rattle.words.specs.Bytes.{bytes}
use Rattle.words.specs.Words.{space}
use Rattle.printed.specs.Printed.{decimal, code_of}
use Rattle.report.specs.Texts.{counted, named, saying}

-- "accepted"
unfoldable pub accepted_line : List ℕ
accepted_line = saying (bytes "accepted" ∷ [])

-- where one changes, if the label has a pivot
abbrev pub change_of : List ℕ → Option Code → List ℕ
change_of s None = []
change_of s (Some c) = named ", change at" s c

-- its code stands in the text
abbrev pub ChangeIn : List ℕ → Option Code → Type 0
ChangeIn s None = Unit
ChangeIn s (Some c) = CodeIn s c

-- when a label leaves, and when it arrives
abbrev pub times_words : ℕ → ℕ → List ℕ
times_words dep arr = counted ", leaves" dep ++ counted ", arrives" arr

-- "label 1: HUB to MOOR, leaves 505, arrives 560, change at QUAY-S"
unfoldable pub label_line : List ℕ → ℕ → Code → Code → ℕ → ℕ → Option Code → List ℕ
label_line s k from to dep arr change =
    saying (counted "label" k ∷ named ":" s from ∷ named " to" s to ∷ times_words dep arr ∷ change_of s change ∷ [])

-- a label's pivot by its number, if it has one
abbrev pub pivot_words : Option ℕ → List ℕ
pivot_words None = bytes ", no pivot"
pivot_words (Some p) = counted ", pivot" p

-- in which of its owner's two sets a label stands
abbrev pub set_words : Bool → String
set_words true = ": an out-label of stop"
set_words false = ": an in-label of stop"

-- "label 0: an out-label of stop 1, hub 9, leaves 480, arrives 500, no pivot": by its numbers, which where it is not good need not be stops and minutes
unfoldable pub entry_line : ℕ → Bool → ℕ → ℕ → ℕ → ℕ → Option ℕ → List ℕ
entry_line k out owner hub dep arr p =
    saying (counted "label" k ∷ counted (set_words out) owner ∷ counted ", hub" hub ∷ times_words dep arr ∷ pivot_words p ∷ [])

-- a run's two minutes and its trip, as the timetable has them
abbrev pub minutes_and_trip : ℕ → ℕ → ℕ → List ℕ
minutes_and_trip dep arr trip = (space ∷ decimal dep) ++ ((space ∷ decimal arr) ++ (space ∷ decimal trip))

-- "run 4: MOOR QUAY-N 490 540 15": as the timetable has it
unfoldable pub numbered_run : List ℕ → ℕ → Code → Code → ℕ → ℕ → ℕ → List ℕ
numbered_run s i from to dep arr trip =
    saying (counted "run" i ∷ named ":" s from ∷ (space ∷ code_of s to) ∷ minutes_and_trip dep arr trip ∷ [])

-- "stop 2: QUAY-N"
unfoldable pub numbered_stop : List ℕ → ℕ → Code → List ℕ
numbered_stop s j c = saying (counted "stop" j ∷ named ":" s c ∷ [])

-- "written: 4 stops, 6 runs, 6 labels, 54 bytes"
unfoldable pub written_line : ℕ → ℕ → ℕ → ℕ → List ℕ
written_line stops runs labels long =
    saying (counted "written:" stops ∷ counted " stops," runs ∷ counted " runs," labels ∷ counted " labels," long ∷ bytes " bytes" ∷ [])

-- "day.txt has more than 1048576 bytes"
unfoldable pub more_line : List ℕ → ℕ → List ℕ
more_line name most = saying (name ∷ counted " has more than" most ∷ bytes " bytes" ∷ [])

-- room for any line, but for a file's name in it
abbrev pub report_room : ℕ
report_room = 280
