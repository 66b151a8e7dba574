use Rattle.std.proofs.Common.{sym}
use Rattle.both.specs.BothLaws.{both_good}
use Rattle.rides.proofs.judge.Goals as goal

pub judge_ask-requires : goal.judge_ask-requires
judge_ask-requires c = (both_good _ _ _ _ _ (sym c.in_ok-n.ensures)).0.file.room.contents.few
