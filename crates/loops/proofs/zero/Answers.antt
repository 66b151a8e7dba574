use Rattle.std.proofs.Common.{arith}
use Rattle.loops.specs.MadeLaws.{made_none, made_more, made_all}
use Rattle.loops.proofs.zero.Goals as goal

pub loop-i-init : goal.loop-i-init
loop-i-init g c = made_none _ _

pub loop-i-preserved : goal.loop-i-preserved
loop-i-preserved g c = rw c.zero.ensures (made_more c.loop-i.invariant (omega arith))

pub returns : goal.returns
returns g c = made_all c.loop-i.invariant (omega arith)
