use Rattle.std.proofs.Common.{rules, arith}
use Rattle.label_sets.specs.SetsLaws.{set_at, past_end, there, not_there}
use Rattle.label_sets.specs.StartsLaws.{started_of, started_bounds}
use Rattle.label_sets.proofs.LabelSets.find_in.Goals as goal

pub place_in-k-requires : goal.place_in-k-requires
place_in-k-requires c =
    started_bounds (started_of c.requires.good c.args.self.long c.args.self.are) c.requires.set_lt c.start_at.ensures c.start_at-to.ensures

pub label_at-l-requires : goal.label_at-l-requires
label_at-l-requires c =
    let B = started_bounds (started_of c.requires.good c.args.self.long c.args.self.are) c.requires.set_lt c.start_at.ensures
    c.start_at-to.ensures in
    omega (arith, B.1, c.if-to-k.false)

pub overflow_cast-result : goal.overflow_cast-result
overflow_cast-result c =
    let B = started_bounds (started_of c.requires.good c.args.self.long c.args.self.are) c.requires.set_lt c.start_at.ensures
    c.start_at-to.ensures in
    omega (arith, B.1, c.if-to-k.false, c.requires.good.room.few_labels)

pub returns-then-to-k : goal.returns-then-to-k
returns-then-to-k c = λ side s lt e.
    let A = set_at (started_of c.requires.good c.args.self.long c.args.self.are) side s _ _ _ lt e c.start_at.ensures c.start_at-to.ensures in
    past_end c.args.m A (c.place_in-k.ensures side s A) c.if-to-k.true

pub returns-then-not-is_at : goal.returns-then-not-is_at
returns-then-not-is_at c = λ side s lt e.
    let A = set_at (started_of c.requires.good c.args.self.long c.args.self.are) side s _ _ _ lt e c.start_at.ensures c.start_at-to.ensures in
    not_there c.args.m A (c.place_in-k.ensures side s A) c.label_at-l.result c.label_at-l.ensures c.is_at.ensures (search rules)

pub returns : goal.returns
returns c = λ side s lt e.
    let A = set_at (started_of c.requires.good c.args.self.long c.args.self.are) side s _ _ _ lt e c.start_at.ensures c.start_at-to.ensures in
    there c.args.m A (c.place_in-k.ensures side s A) c.label_at-l.result c.label_at-l.ensures c.is_at.ensures c.if-to-k.false (search rules)
