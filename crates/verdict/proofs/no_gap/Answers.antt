use Rattle.verdict.specs.GapLaws.{tells_here, tells_on}
use Rattle.verdict.proofs.no_gap.Goals as goal

pub returns-then-v-ride-2 : goal.returns-then-v-ride-2
returns-then-v-ride-2 c = tells_here c.requires.compared c.requires.v_lt_n c.if-v-ride.false c.arrivals-soonest.ensures c.if-v-ride-2.true

pub returns-else-v-ride-2 : goal.returns-else-v-ride-2
returns-else-v-ride-2 c = tells_on c.requires.compared c.requires.v_lt_n c.if-v-ride.false c.arrivals-soonest.ensures c.if-v-ride-2.false
