use Prim.Native.Nat.{◌-◌}
use lib.ListN.{length}
use Rattle.reader.specs.Reading.{lines_of, Reading}
use Rattle.reader.proofs.read_lines.Given as goal

abbrev pub invariant-loop-from : goal.invariant-loop-from
invariant-loop-from l = Reading l.text (lines_of l.text l.from (length l.initial.runs) (length l.initial.codes)) (length l.initial.runs)
    (length l.initial.codes) l.at l.line l.stops l.count l.runs l.codes l.slots

abbrev pub decreases-loop-from : goal.decreases-loop-from
decreases-loop-from l = length l.text - l.at
