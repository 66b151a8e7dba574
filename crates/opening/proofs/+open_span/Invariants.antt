use Rattle.std.proofs.Common.{◌-◌}
use Rattle.opening.proofs.+open_span.Given as goal

-- the label's duration
abbrev pub decreases-open_span : goal.decreases-open_span
decreases-open_span l = l.s.now.arr - l.s.now.dep
