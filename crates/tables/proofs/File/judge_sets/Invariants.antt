use Rattle.std.proofs.Common.{◌≡◌}
use Rattle.std.proofs.Math.Option.{none}
use Rattle.loops.specs.FirstOf.{first_of}
use Rattle.tables.specs.File.{start_of}
use Rattle.tables.specs.Judged.{bad_in_set}
use Rattle.tables.proofs.File.judge_sets.Given as goal

abbrev pub invariant-loop-set : goal.invariant-loop-set
invariant-loop-set l = record { next : l.start ≡ start_of l.self.bytes.now l.set; clear : first_of (bad_in_set l.self.bytes.now) l.set ≡ none }
