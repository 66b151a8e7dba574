use Prim.Native.Nat.{◌-◌}
use Rattle.lookup.specs.Index.{Finding}
use Rattle.lookup.proofs.Known.walk.Given as goal

abbrev pub invariant-loop : goal.invariant-loop
invariant-loop l = Finding l.self.text.now l.self.codes.now l.slots l.code.text.now l.code.from (l.code.to - l.code.from) l.m l.x l.counter
