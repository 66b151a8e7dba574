use Rattle.report.specs.TextLines.{SeekingLine}
use Rattle.report.proofs.line_from.Given as goal

abbrev pub invariant-loop : goal.invariant-loop
invariant-loop l = SeekingLine l.s l.n l.from l.counter
