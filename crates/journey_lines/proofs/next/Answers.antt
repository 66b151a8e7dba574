use Rattle.journey_lines.proofs.next.Goals as goal

pub returns-in-Asks : goal.returns-in-Asks
returns-in-Asks c = rw c.in-Asks.is c.turn_step.ensures
