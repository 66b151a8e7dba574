-- What was judged good together.
use Rattle.std.specs.Prelude.{ℕ, ◌≤◌, ◌≡◌, refl, List, eqb, Err, Ok, Result}
use Rattle.std.proofs.Common.{sym, ◌∙◌, eqb-true, eq-eqb}
use Rattle.loops.specs.ChainLaws.{stays}
use Rattle.tables.specs.GoodLaws as file
use Rattle.tables.specs.Judged.{judged_tables}
use Rattle.timetable.specs.declared.Given.{Given}
use Rattle.timetable.specs.Numbers.{judged_of, GoodNumbers}
use Rattle.timetable.proofs.NumbersLaws as timetable
use Rattle.timetable.specs.Slots.{service_of}
use Rattle.timetable.proofs.SlotsLaws.{service_stops}
use Rattle.both.specs.Both.{judged_both, work_room, BothGood}
use Rattle.kinds.specs.declared.Refusal.{Refusal}

by_both : (t : Result ℕ Refusal) (j : Result Unit Refusal) (stops n : ℕ) → judged_both t j stops ≡ Ok n → (t ≡ Ok n) × (j ≡ Ok tt) × (n ≡ stops)
by_both (Err x) j stops n e = cc
by_both (Ok m) (Err x) stops n e = cc
by_both (Ok m) (Ok _) stops n e =
    let z = stays (eqb m stops) e (λ x. cc) in
    let f = z.1 in
    let g = eqb-true m stops z.0 in
    let h : m ≡ n = cc in
    (f, refl, sym h ∙ g)

module _ (b : List ℕ) (given : Given) (list : List ℕ) (lent : ℕ) where
  -- what is judged good together is good, and the working room is enough
  pub both_good : (n : ℕ) → judged_both (judged_tables b) (judged_of given list lent work_room) given.stops ≡ Ok n →
      BothGood b n given list × (work_room ≤ lent)
  both_good n e =
      let z = by_both (judged_tables b) (judged_of given list lent work_room) given.stops n e in
      let g = timetable.judged_good given list lent work_room z.1 in
      (record { same = z.2; file = file.judged_good b n z.0; numbers = g.0 }, g.1)

  -- and what is good is judged good
  pub judged_both_lem : judged_tables b ≡ Ok given.stops → GoodNumbers given list → work_room ≤ lent →
      judged_both (judged_tables b) (judged_of given list lent work_room) given.stops ≡ Ok given.stops
  judged_both_lem e g h = rw (e, timetable.numbers_judged given list lent work_room g h, eq-eqb given.stops given.stops refl) refl

-- the service has as many stops as the tables
pub both_stops : {b : List ℕ} {n : ℕ} {given : Given} {list : List ℕ} → BothGood b n given list → (service_of given list).stops ≡ n
both_stops {given = given} {list} B = service_stops given list ∙ sym B.same
