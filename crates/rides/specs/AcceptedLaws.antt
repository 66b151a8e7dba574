-- Over tables that the check accepts, an ask with rides speaks of the timetable's journeys; over any good tables the rides are a journey with
-- the answered pair, and a list of 2,879 numbers is never too short.
use Rattle.std.specs.Prelude.{ℕ, ◌-◌, ◌≤◌, ◌≡◌, refl, List, ◌++◌, ◌≢◌, length, replicate, Err, Ok, Result}
use Rattle.std.proofs.Common.{sym, ap, ◌∙◌, arith}
use Rattle.kinds.specs.Limits.{last_minute}
use Rattle.kinds.specs.Refusals.{number_of, refusal}
use Rattle.kinds.specs.declared.Refusal.{Refusal}
use Rattle.journeys.specs.Service.{Service, GoodService}
use Rattle.journeys.specs.Journey.{Journey}
use Rattle.journeys.specs.Tables.{Tables, GoodTables}
use Rattle.journeys.specs.Check.{AllSupported, Accepted}
use Rattle.journeys.proofs.AcceptedLaws.{accepted_best, accepted_nothing}
use Rattle.journeys.proofs.CriteriaLaws.{best_one, best_not_nothing}
use Rattle.journeys.proofs.RidesLaws.{chosen_journey, chosen_all, rides_few}
use Rattle.tables.specs.File.{tables_of}
use Rattle.tables.specs.TablesLaws.{good_stops, good_tables}
use Rattle.timetable.specs.declared.Given.{Given}
use Rattle.timetable.specs.Slots.{listed, service_of}
use Rattle.timetable.proofs.SlotsLaws.{good_service}
use Rattle.both.specs.BothLaws.{both_stops}
use Rattle.asks.specs.declared.Wanted.{Wanted}
use Rattle.asks.specs.declared.Asked.{Asked}
use Rattle.rides.specs.declared.Listed.{Listed}
use Rattle.rides.specs.Lists.{rides_asked, ListedAs, RefusedAs, without_journey, missing, short, Lists}
use Rattle.rides.specs.ListsLaws.{asked_good, few_rides, one_list, same_listed}
use Rattle.rides.specs.Accepted as truly
use Rattle.rides.specs.Accepted.{GetsRides, TrulyListed, TrulyRefused, TrulyLists}
use Rattle.kinds.specs.declared.Reason.TheVariants as reason

module _ {S : Service} {T : Tables} (q : Asked) where
  -- no list of rides passes 2,879
  pub room_enough : GoodTables T → {room : ℕ} {r : Refusal} → last_minute ≤ room → RefusedAs S T q room r → r ≢ refusal reason.RoomShort 0
  room_enough G h (without_journey e n) f = omega (arith, ap (λ (x : Refusal). number_of x.reason) (sym e ∙ f))
  room_enough G h (missing e d a B n) f = omega (arith, ap (λ (x : Refusal). number_of x.reason) (sym e ∙ f))
  room_enough G h (short e d a B l C lt) f = omega (arith, few_rides S T q G B C)

  -- over supported tables 18 never comes
  pub never_missing : GoodService S → GoodTables T → AllSupported S T → {room : ℕ} {r : Refusal} → RefusedAs S T q room r → r ≢ refusal reason.RidesMissing 0
  never_missing D G sup (without_journey e n) f = omega (arith, ap (λ (x : Refusal). number_of x.reason) (sym e ∙ f))
  never_missing D G sup (missing e d a B n) f = let c = chosen_all D G sup q.from q.to d a B.has in n c.0 c.1
  never_missing D G sup (short e d a B l C lt) f = omega (arith, ap (λ (x : Refusal). number_of x.reason) (sym e ∙ f))

module _ {S : Service} (D : GoodService S) {T : Tables} (G : GoodTables T) (same : T.stops ≡ S.stops) (ok : Accepted S T) (q : Asked)
    (apart : q.from ≢ q.to) where
  truly_listed : {before after : List ℕ} {j : Listed} → ListedAs S T q before after j → TrulyListed S T q before after j
  truly_listed {j = j} L = record {
    listed = record {
      best = (accepted_best D G same ok apart q.criterion j.dep j.arr).0 L.best;
      rides = L.rides;
      way = chosen_journey L.chosen;
      count = L.count;
      fits = L.fits;
      holds = L.holds;
    };
    chosen = L.chosen;
  }

  truly_refused : {room : ℕ} {r : Refusal} → RefusedAs S T q room r → TrulyRefused S T q room r
  truly_refused (without_journey e n) = truly.without_journey e ((accepted_nothing D G same ok apart q.criterion).0 n)
  truly_refused (missing e d a B n) = let c = chosen_all D G ok.supported q.from q.to d a B.has in absurd (n c.0 c.1)
  truly_refused (short e d a B l C lt) = truly.short e d a ((accepted_best D G same ok apart q.criterion d a).0 B) l C lt

  pub truly_lists : (before after : List ℕ) (x : Result Listed Refusal) → Lists S T (Ok q) before after x → TrulyLists S T q before after x
  truly_lists before after (Ok j) L = truly_listed L
  truly_lists before after (Err r) L = (truly_refused L.0, L.1)

-- the same from the bytes and the numbers, for an ask that is not refused
pub accepted_lists : (b : List ℕ) (given : Given) (runs : List ℕ) (lent from to : ℕ) (w : Wanted) (q : Asked) (before after : List ℕ)
    (x : Result Listed Refusal) →
    Accepted (service_of given runs) (tables_of b) → rides_asked b given runs lent from to w ≡ Ok q →
    Lists (service_of given runs) (tables_of b) (Ok q) before after x → TrulyLists (service_of given runs) (tables_of b) q before after x
accepted_lists b given runs lent from to w q before after x ok e L =
    let A = asked_good b given runs lent from to w q e _ refl in
    let B = A.both in
    truly_lists (good_service B.numbers) (good_tables B.file) (good_stops B.file ∙ sym (both_stops B)) ok q A.good.apart before after x L

-- a list of 2,879 numbers is long enough for every journey: then 17 is not given
pub long_list : {S : Service} → GoodService S → (T : Tables) (q : Asked) (before after : List ℕ) (x : Result Listed Refusal) → last_minute ≤ length before →
    TrulyLists S T q before after x → GetsRides S q.from q.to q.criterion before after x
long_list D T q before after (Ok j) h L = L.listed
long_list D T q before after (Err r) h (truly.without_journey e n, z) = (e, n, z)
long_list D T q before after (Err r) h (truly.short e d a B l C lt, z) = absurd (omega (arith, rides_few D (chosen_journey C)))

-- no second answer and no second list are the timetable's
module _ (S : Service) {T : Tables} (G : GoodTables T) (q : Asked) where
  truly_listed_one : (before x y : List ℕ) (j k : Listed) → TrulyListed S T q before x j → TrulyListed S T q before y k → (j ≡ k) × (x ≡ y)
  truly_listed_one before x y j k f g =
      let s = best_one q.criterion f.listed.best g.listed.best in
      let e = one_list G q (Journey S q.from q.to) f.listed.best g.listed.best f.chosen g.chosen in (
        same_listed s.0 s.1 (f.listed.count ∙ ap length e ∙ sym g.listed.count),
        f.listed.holds ∙ ap (λ l. listed l ++ replicate (length before - length l) 0) e ∙ sym g.listed.holds,
      )

  not_both : (before after : List ℕ) (j : Listed) (r : Refusal) → TrulyListed S T q before after j → ¬ (TrulyRefused S T q (length before) r)
  not_both before after j r f (truly.without_journey e n) = best_not_nothing q.criterion f.listed.best n
  not_both before after j r f (truly.short e d a B l C lt) =
      omega (arith, f.listed.fits, ap length (one_list G q (Journey S q.from q.to) f.listed.best B f.chosen C))

  refused_one : (room : ℕ) (r s : Refusal) → TrulyRefused S T q room r → TrulyRefused S T q room s → r ≡ s
  refused_one room r s (truly.without_journey e n) (truly.without_journey f m) = e ∙ sym f
  refused_one room r s (truly.without_journey e n) (truly.short f d a B l C lt) = absurd (best_not_nothing q.criterion B n)
  refused_one room r s (truly.short e d a B l C lt) (truly.without_journey f m) = absurd (best_not_nothing q.criterion B m)
  refused_one room r s (truly.short e d a B l C lt) (truly.short f d' a' B' m C' lt') = e ∙ sym f

  pub truly_one : (before m n : List ℕ) (x y : Result Listed Refusal) → TrulyLists S T q before m x → TrulyLists S T q before n y → (x ≡ y) × (m ≡ n)
  truly_one before m n (Ok j) (Ok k) f g = let s = truly_listed_one before m n j k f g in (ap Ok s.0, s.1)
  truly_one before m n (Ok j) (Err r) f g = absurd (not_both before m j r f g.0)
  truly_one before m n (Err r) (Ok k) f g = absurd (not_both before n k r g f.0)
  truly_one before m n (Err r) (Err s) f g = (ap Err (refused_one (length before) r s f.0 g.0), f.1 ∙ sym g.1)
