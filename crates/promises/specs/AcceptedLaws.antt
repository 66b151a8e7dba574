-- What is judged good and accepted serves the timetable, whoever made it; and the check, and then the ask.
use Rattle.std.specs.Prelude.{ℕ, ◌≤◌, ◌≡◌, refl, List, ◌≢◌, Err, Ok, Result}
use Rattle.std.proofs.Common.{sym, subst, ◌∙◌}
use Rattle.loops.specs.Zero.{zeros}
use Rattle.loops.specs.ZeroLaws.{length-zeros, zeros_as}
use Rattle.kinds.specs.declared.Refusal.{Refusal}
use Rattle.journeys.specs.Service.{Service, GoodService}
use Rattle.journeys.specs.Tables.{Tables, GoodTables}
use Rattle.journeys.specs.Check as the
use Rattle.journeys.proofs.AcceptedLaws.{accepted_best, accepted_nothing}
use Rattle.tables.specs.File.{tables_of}
use Rattle.tables.specs.Judged.{judged_tables}
use Rattle.tables.specs.GoodLaws.{judged_good, good_judged}
use Rattle.tables.specs.TablesLaws.{good_tables, good_stops}
use Rattle.timetable.specs.declared.Given.{Given}
use Rattle.timetable.specs.Numbers.{GoodNumbers}
use Rattle.timetable.specs.Slots.{service_of}
use Rattle.timetable.proofs.SlotsLaws.{good_service, service_stops}
use Rattle.asks.specs.declared.Asked.{Asked}
use Rattle.asks.specs.declared.Wanted.{Wanted}
use Rattle.asks.specs.Asks.{ask_read, asked, Answers}
use Rattle.asks.proofs.AskLaws.{ask_good, asked_of}
use Rattle.both.specs.Both.{work_room}
use Rattle.both.specs.BothLaws.{judged_both_lem}
use Rattle.verdict.specs.Verdict.{CheckedAs, Answered, Checked}
use Rattle.verdict.specs.VerdictLaws.{accepted_tables, accepts}
use Rattle.rides.specs.Lists.{rides_asked, Lists}
use Rattle.rides.specs.ListsLaws.{rides_asked_of}
use Rattle.rides.specs.AcceptedLaws.{truly_lists}
use Rattle.promises.specs.Calls.{TimetableAnswers, CheckedAsk, TimetableLists, CheckedRides, Serves}
use Rattle.asks.specs.declared.Journey.{Journey}
use Rattle.rides.specs.declared.Listed.{Listed}

-- over accepted tables what the asks answer is the timetable's
module _ {S : Service} (G : GoodService S) {T : Tables} (good : GoodTables T) (same : T.stops ≡ S.stops) (ok : the.Accepted S T) where
  truly : (k : Result Asked Refusal) (x : Result Journey Refusal) → ((q : Asked) → k ≡ Ok q → q.from ≢ q.to) → Answers T k x → TimetableAnswers S k x
  truly (Err r) x apart f = f
  truly (Ok q) (Ok j) apart f = (accepted_best G good same ok (apart q refl) q.criterion j.dep j.arr).0 f
  truly (Ok q) (Err r) apart f = (f.0, (accepted_nothing G good same ok (apart q refl) q.criterion).0 f.1)

  lists_truly : (k : Result Asked Refusal) → ((q : Asked) → k ≡ Ok q → q.from ≢ q.to) → (before after : List ℕ) (x : Result Listed Refusal) →
      Lists S T k before after x →
      TimetableLists S T k before after x
  lists_truly (Err r) apart before after x f = f
  lists_truly (Ok q) apart before after x f = truly_lists G good same ok q (apart q refl) before after x f

-- a file that is judged good, for good numbers of the same stop count
module _ {given : Given} {list : List ℕ} (b : List ℕ) (g : GoodNumbers given list) (e : judged_tables b ≡ Ok given.stops) where
  pub outcome : {lent : ℕ} {r : Result Unit Refusal} → work_room ≤ lent → Checked b given list lent r → CheckedAs (service_of given list) (tables_of b) r
  outcome {lent} {r} h c = subst (λ k. Answered k (service_of given list) (tables_of b) r) (judged_both_lem b given list lent e g h) c

  pub serves : the.Accepted (service_of given list) (tables_of b) → Serves given list b
  serves ok =
      let file = judged_good b given.stops e in
      let same = good_stops file ∙ sym (service_stops given list) in
      record {
        accepted = λ lent h r c. (accepts (outcome h c)).1 ok;
        asks = λ from to w x f.
            truly (good_service g) (good_tables file) same ok (ask_read given.stops from to w) x (λ q k. (ask_good given.stops from to w q k).apart)
            (subst (λ k. Answers (tables_of b) k x) (asked_of b given.stops from to w e) f);
        rides = λ lent from to w before after x h f.
            lists_truly (good_service g) (good_tables file) same ok (ask_read given.stops from to w)
            (λ q k. (ask_good given.stops from to w q k).apart) before after x
            (subst (λ k. Lists (service_of given list) (tables_of b) k before after x) (rides_asked_of b given list lent from to w e g h) f);
      }

-- Demand 3 of a file: what the check accepts serves, whoever made it
pub accepted_serves : (b : List ℕ) (given : Given) (list : List ℕ) (lent : ℕ) → Checked b given list lent (Ok tt) → Serves given list b
accepted_serves b given list lent c =
    let a = accepted_tables b given list lent c refl in
    serves b a.numbers (good_judged b given.stops a.file) a.accepted

-- ---- the check, and then the ask

module _ (b : List ℕ) (given : Given) (list : List ℕ) (lent from to : ℕ) (w : Wanted) {v : Result Unit Refusal} (c : Checked b given list lent v) where
  pub after_accepted : v ≡ (Ok tt) → (x : Result Journey Refusal) → Answers (tables_of b) (asked b from to w) x → CheckedAsk b given list lent from to w x
  after_accepted e x f =
      let d = subst (Checked b given list lent) e c in
      record { verdict = (Ok tt); checked = d; answer = (accepted_serves b given list lent d).asks from to w x f }

  pub after_refused : {r : Refusal} → v ≡ Err r → CheckedAsk b given list lent from to w (Err r)
  after_refused {r} e = record { verdict = Err r; checked = subst (Checked b given list lent) e c; answer = refl }

  -- the room that the check leaves is all zeros, and as long as it was
  pub rides_accepted : (before : List ℕ) → v ≡ (Ok tt) → {m : ℕ} → m ≡ lent → (after : List ℕ) (x : Result Listed Refusal) →
      Lists (service_of given list) (tables_of b) (rides_asked b given list m from to w) before after x → CheckedRides b given list lent from to w before
      after x
  rides_accepted before e {m} q after x f =
      let d = subst (Checked b given list lent) e c in
      record {
        verdict = (Ok tt);
        checked = d;
        answer = (accepted_serves b given list lent d).rides lent from to w before after x (accepted_tables b given list lent d refl).room
            (subst (λ k. Lists (service_of given list) (tables_of b) (rides_asked b given list k from to w) before after x) q f);
      }

  pub rides_refused : (before : List ℕ) {r : Refusal} → v ≡ Err r → {after : List ℕ} → after ≡ zeros before →
      CheckedRides b given list lent from to w before after (Err r)
  rides_refused before {r} e z = record { verdict = Err r; checked = subst (Checked b given list lent) e c; answer = (refl, z) }

pub zeros_again : (l : List ℕ) → zeros (zeros l) ≡ zeros l
zeros_again l = zeros_as (zeros l) l refl (length-zeros (zeros l) ∙ length-zeros l)
