use Rattle.std.proofs.Common.{◌≡◌, ◌≤◌, length}
use Rattle.printed.specs.Printed.{longest_line}
use Rattle.journey_lines.specs.Turns.{left}
use Rattle.journey_lines.specs.Along.{Along}
use Rattle.sending.proofs.print.Given as goal

abbrev pub invariant-loop-line : goal.invariant-loop-line
invariant-loop-line l = record {
  along : Along l.fn.input l.fn.runs l.fn.codes l.fn.tables l.fn.list l.initial.stage l.list l.stage l.written.bytes;
  room : longest_line ≤ length l.out;
  listed : length l.list ≡ length l.initial.list;
  lent : length l.out ≡ length l.initial.out;
}

abbrev pub decreases-loop-line : goal.decreases-loop-line
decreases-loop-line l = left (length l.fn.input) l.stage
