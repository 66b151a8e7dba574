use mathlib.Core.Path.{◌∙◌, sym, ap}
use lib.ListN.{length}
use lib.Seq.{length-take-le}
use Rattle.loops.specs.ZeroLaws.{zeros_is}
use Rattle.askline.specs.InputLaws.{timetable_within}
use Rattle.journey_lines.specs.InputLaws.{input_long, input_held}
use Rattle.journey_lines.proofs.read_input.Goals as goal
use Rattle.std.specs.Prelude.{Err}

pub returns-then-input-gt-INPUT_MOST : goal.returns-then-input-gt-INPUT_MOST
returns-then-input-gt-INPUT_MOST c =
    let e = input_long c.args.input.now (length c.args.runs.now) (length c.args.codes.now) c.if-input-gt-INPUT_MOST.true in record {
      value = rw e (ap Err c.new.ensures);
      runs_after = rw e (c.zero.ensures ∙ zeros_is _);
      codes_after = rw e (c.zero-then-input-gt-INPUT_MOST.ensures ∙ zeros_is _);
    }

pub slice_bounds-read-end : goal.slice_bounds-read-end
slice_bounds-read-end c = sym (length-take-le c.timetable_end-end.result c.args.input.now (rw c.timetable_end-end.ensures (timetable_within c.args.input.now)))

pub returns : goal.returns
returns c = let e = input_held c.args.input.now (length c.args.runs.now) (length c.args.codes.now) c.if-input-gt-INPUT_MOST.false in record {
  value = rw (e, ← c.timetable_end-end.ensures) c.read.ensures.value;
  runs_after = rw (e, ← c.timetable_end-end.ensures) c.read.ensures.runs_after;
  codes_after = rw (e, ← c.timetable_end-end.ensures) c.read.ensures.codes_after;
}
