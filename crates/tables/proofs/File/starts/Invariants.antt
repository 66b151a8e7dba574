use Rattle.std.proofs.Common.{◌≡◌}
use Rattle.loops.specs.Filled.{filled}
use Rattle.tables.specs.File.{start_of}
use Rattle.tables.proofs.File.starts.Given as goal

-- the starts of the sets before `set` are written, and `start` is the next one
abbrev pub invariant-loop-set : goal.invariant-loop-set
invariant-loop-set l = record { next : l.start ≡ start_of l.self.bytes.now l.set; is : l.room ≡ filled (start_of l.self.bytes.now) l.set l.initial.room }
