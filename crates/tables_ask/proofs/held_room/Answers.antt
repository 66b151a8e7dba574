-- The length by a law: the list itself is never written out.
use Rattle.std.proofs.Common.{ℕ, sym}
use Rattle.std.proofs.lemmas.List.{length-replicate}
use Rattle.tables_ask.specs.Held.{held_room}
use Rattle.tables_ask.proofs.held_room.Goals as goal

pub returns : goal.returns
returns c = sym (length-replicate {A = ℕ} held_room 0)
