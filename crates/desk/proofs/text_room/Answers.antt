use Prim.Native.Nat.{ℕ, ◌+◌}
use mathlib.Core.Path.{sym}
use lib.ListN.{length-replicate}
use Rattle.kinds.specs.Limits.{most_text}
use Rattle.desk.proofs.text_room.Goals as goal

-- The length by a law: the list itself is never written out.

pub returns : goal.returns
returns c = sym (length-replicate {0} {A = ℕ} (most_text + 1) 0)
