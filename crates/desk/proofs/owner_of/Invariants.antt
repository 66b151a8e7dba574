use Prim.Native.Nat.{◌≤◌}
use Rattle.journeys.specs.Tables.{outs}
use Rattle.tables.specs.File.{tables_of}
use Rattle.desk.proofs.owner_of.Given as goal

abbrev pub invariant-loop-s : goal.invariant-loop-s
invariant-loop-s l = (tables_of l.file.bytes.now).start outs l.s ≤ l.k
