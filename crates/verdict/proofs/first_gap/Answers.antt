use mathlib.Core.Path.{refl, sym, ◌∙◌}
use native.Mathlib.Omega.{arith}
use Rattle.timetable.proofs.SlotsLaws.{service_slots, read_ride, read_none}
use Rattle.verdict.specs.GapLaws.{ride_in, searched_idle, no_gaps, stops_begin, stops_more, stops_end, stops_fail}
use Rattle.verdict.proofs.first_gap.Goals as goal

pub search-preserved-in_default : goal.search-preserved-in_default
search-preserved-in_default c =
    record {
      none_yet = c.search.invariant.none_yet;
      searched = searched_idle c.search.invariant.searched refl
          (omega (arith, service_slots c.args.day.given c.args.day.runs.now, c.slots-i-end.ensures.value, c.search-test.true))
          (read_none c.requires.both_good.numbers _ (sym c.ride_at.ensures ∙ c.in_default.is));
    }

pub reach_both-requires-clause-ride_in : goal.reach_both-requires-clause-ride_in
reach_both-requires-clause-ride_in c =
    let R = read_ride c.requires.both_good.numbers _ (omega (arith, c.slots-i-end.ensures.value, c.search-test.true)) (sym c.ride_at.ensures ∙ c.in-Some.is) in
    ride_in c.requires.both_good R

pub loop-v-init : goal.loop-v-init
loop-v-init c =
    let R = read_ride c.requires.both_good.numbers _ (omega (arith, c.slots-i-end.ensures.value, c.search-test.true)) (sym c.ride_at.ensures ∙ c.in-Some.is) in
    record {
      none_yet = c.search.invariant.none_yet;
      stops = stops_begin c.search.invariant.searched R c.reach_both.auto.room c.reach_both.ensures;
    }

pub loop-v-preserved : goal.loop-v-preserved
loop-v-preserved c = record {
  none_yet = c.loop-v.invariant.none_yet;
  stops = stops_more c.loop-v.invariant.stops c.loop-v-test.true c.no_gap.ensures c.if-not-no_gap.false;
}

pub search-preserved : goal.search-preserved
search-preserved c = record { none_yet = c.loop-v.invariant.none_yet; searched = stops_end c.loop-v.invariant.stops refl c.loop-v-test.false }

pub returns-after-search : goal.returns-after-search
returns-after-search c =
    rw c.search.invariant.none_yet
    (no_gaps c.search.invariant.searched
    (omega (arith, service_slots c.args.day.given c.args.day.runs.now, c.slots-i-end.ensures.value, c.search-test.false)))

pub returns-then-not-no_gap : goal.returns-then-not-no_gap
returns-then-not-no_gap c = stops_fail c.loop-v.invariant.stops c.loop-v-test.true c.no_gap.ensures c.if-not-no_gap.true
