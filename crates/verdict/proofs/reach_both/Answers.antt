use Rattle.verdict.specs.GapLaws.{both_reached}
use Rattle.verdict.proofs.reach_both.Goals as goal

pub returns : goal.returns
returns c = both_reached c.requires.started c.requires.ride_in c.requires.both_room_in_bounds c.reach.ensures.reached c.reach.ensures.same_before
    c.reach-2.ensures.reached c.reach-2.ensures.same_before
