use Rattle.tables.specs.Turns.{GoodTo}
use Rattle.tables.proofs.File.judge_set.Given as goal

abbrev pub invariant-loop-i : goal.invariant-loop-i
invariant-loop-i l = GoodTo l.self.bytes.now l.set l.i l.hub l.dep l.arr
