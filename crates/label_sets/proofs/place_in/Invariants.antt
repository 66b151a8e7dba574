use Rattle.std.proofs.Common.{◌-◌}
use Rattle.loops.specs.Halved.{Halved}
use Rattle.tables.specs.File.{tables_of}
use Rattle.label_sets.specs.Seek.{Past}
use Rattle.label_sets.proofs.place_in.Given as goal

abbrev pub invariant-loop-low : goal.invariant-loop-low
invariant-loop-low l = Halved (Past (tables_of l.file.bytes.now) l.hub l.m) l.from l.to l.low l.high

abbrev pub decreases-loop-low : goal.decreases-loop-low
decreases-loop-low l = l.high - l.low
