use Prim.Native.Nat.{ℕ, ◌+◌}
use mathlib.Core.Path.{sym}
use lib.ListN.{length-replicate}
use Rattle.tables.specs.File.{file_room}
use Rattle.desk.proofs.tables_room.Goals as goal

-- The length by a law: the list itself is never written out.

pub returns : goal.returns
returns c = sym (length-replicate {0} {A = ℕ} (file_room + 1) 0)
