use Rattle.std.proofs.Common.{◌≡◌, ◌*◌, ◌≤◌}
use Rattle.tables.specs.File.{start_of}
use Rattle.tables.proofs.start_of.Given as goal

abbrev pub invariant-loop-j : goal.invariant-loop-j
invariant-loop-j l = record { are : l.start ≡ start_of l.bytes l.j; few : l.start ≤ 65535 * l.j }
