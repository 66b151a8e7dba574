use Rattle.rides.specs.PreparedLaws.{rides_fit, prepared, beside}
use mathlib.Core.Path.{refl}
use Rattle.rides.proofs.prepare.Goals as goal

pub index-requires : goal.index-requires
index-requires c = rides_fit c.args.work.now _ c.requires.both_good c.requires.work_room_in_bounds c.starts.ensures

pub returns : goal.returns
returns c = record {
  ground = prepared c.args.work.now _ c.requires.both_good c.requires.work_room_in_bounds c.starts.ensures _ c.index.ensures.same_from refl
      c.index.ensures.indexed;
  beside = beside c.args.work.now _ c.requires.both_good c.requires.work_room_in_bounds c.starts.ensures _ c.index.ensures.same_from refl;
}
