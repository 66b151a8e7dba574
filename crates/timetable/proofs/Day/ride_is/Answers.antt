use Rattle.std.specs.Prelude.{ℕ, ◌≡◌, None, Option, Some}
use Rattle.std.proofs.Common.{sym, arith, rules}
use Rattle.std.proofs.lemmas.Grind.{common_steps}
use Rattle.std.specs.Option.{option_eq}
use Rattle.loops.specs.Tells.{Tells}
use Rattle.journeys.specs.declared.Ride.{Ride}
use Rattle.journeys.specs.Service.{RideAt}
use Rattle.journeys.specs.contracts.RidePartialEq.TheImpl.{eq-value}
use Rattle.loops.specs.TellsLaws.{tells_as, tells_no}
use Rattle.timetable.specs.Slots.{service_of, slot_at, IsRide}
use Rattle.timetable.proofs.SlotsLaws.{read_ride, read_none, ride_is, is_ride}
use Rattle.timetable.proofs.Day.ride_is.Goals as goal

-- a ride is the one of these ends and minutes exactly where it equals it
told : (r q : Ride) → Tells (IsRide r q.from q.to q.dep q.arr) (eq-value.it r q)
told r q = record {
  holds = λ e. record { goes = search rules; ends = search rules; leaves = search rules; arrives = search rules };
  fails = λ e s. grind (arith, common_steps);
}

pub returns : goal.returns
returns c = rw c.eq.ensures (at c.ride_at.result c.ride_at.ensures)
  where
    at : (o : Option Ride) → o ≡ slot_at (service_of c.args.self.given c.args.self.runs.now) c.args.slot →
        Tells (RideAt (service_of c.args.self.given c.args.self.runs.now) c.args.slot c.args.ride.from c.args.ride.to c.args.ride.dep c.args.ride.arr)
        (option_eq eq-value.it o (Some c.args.ride))
    at None e = tells_no (read_none c.args.self.good _ (sym e) _ _ _ _)
    at (Some r) e = let R = read_ride c.args.self.good _ c.requires (sym e) in tells_as (is_ride R, ride_is R) (told r _)
