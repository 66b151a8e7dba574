use Prim.Native.Nat.{◌-◌}
use Rattle.lookup.specs.Scanning.{Scanning}
use Rattle.lookup.proofs.Known.scan.Given as goal

abbrev pub invariant-loop-k : goal.invariant-loop-k
invariant-loop-k l = Scanning l.self.text.now l.self.codes.now l.self.stops l.code.text.now l.code.from (l.code.to - l.code.from) l.k
