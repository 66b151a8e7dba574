use Rattle.loops.specs.First.{Passed}
use Rattle.tables.specs.File.{tables_of}
use Rattle.label_sets.specs.Seek.{Past}
use Rattle.label_sets.proofs.seek.Given as goal

abbrev pub invariant-loop-k : goal.invariant-loop-k
invariant-loop-k l = Passed (Past (tables_of l.file.bytes.now) l.hub l.m) l.from l.k
