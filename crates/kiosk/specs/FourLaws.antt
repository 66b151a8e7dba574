-- No second answer meets a contract of the C boundary: the answer of the call below it is one, so its four numbers are.
use Rattle.std.specs.Prelude.{ℕ, ◌≡◌, List, Result}
use Rattle.std.proofs.Common.{ap, sym, ◌∙◌}
use Rattle.journeys.specs.Tables.{Tables, Sketch}
use Rattle.tables.specs.File.{tables_of, AreBytes}
use Rattle.timetable.specs.declared.Given.{Given}
use Rattle.timetable.specs.Slots.{service_of}
use Rattle.asks.specs.declared.Wanted.{Wanted}
use Rattle.asks.specs.Asks.{Answers}
use Rattle.asks.proofs.AskLaws.{answers_one}
use Rattle.verdict.specs.Verdict.{Checked}
use Rattle.verdict.specs.VerdictLaws.{checked_one}
use Rattle.rides.specs.Lists.{Lists, rides_asked}
use Rattle.rides.specs.ListsLaws.{lists_one}
use Rattle.builder.specs.Build.{BuildOf}
use Rattle.builder.specs.BuildLaws.{build_one}
use Rattle.kiosk.specs.Four.{four_ask, four_check, four_rides, four_build}
use Rattle.builder.specs.declared.Built.{Built}
use Rattle.kinds.specs.declared.Refusal.{Refusal}
use Rattle.asks.specs.declared.Journey.{Journey}
use Rattle.rides.specs.declared.Listed.{Listed}
use Rattle.asks.specs.declared.Asked.{Asked}

-- kiosk_early, kiosk_late, kiosk_short
pub four_ask_one : (T : Tables) (q : Result Asked Refusal) {m n : List ℕ} →
    ((x : Result Journey Refusal) × Answers T q x × (m ≡ four_ask x)) → ((y : Result Journey Refusal) × Answers T q y × (n ≡ four_ask y)) → m ≡ n
four_ask_one T q (x, f, e) (y, g, h) = e ∙ ap four_ask (answers_one (Sketch T) q x y f g) ∙ sym h

-- kiosk_check
pub four_check_one : (b : List ℕ) (given : Given) (runs : List ℕ) (lent : ℕ) {m n : List ℕ} →
    ((x : Result Unit Refusal) × Checked b given runs lent x × (m ≡ four_check x)) →
    ((y : Result Unit Refusal) × Checked b given runs lent y × (n ≡ four_check y)) → m ≡ n
four_check_one b given runs lent (x, f, e) (y, g, h) = e ∙ ap four_check (checked_one b given runs lent f g) ∙ sym h

-- kiosk_early_rides, kiosk_late_rides, kiosk_short_rides: the four numbers and the list
pub four_rides_one : (b : List ℕ) (given : Given) (runs : List ℕ) (lent from to : ℕ) (w : Wanted) (before k l : List ℕ) {m n : List ℕ} →
    ((x : Result Listed Refusal) × Lists (service_of given runs) (tables_of b) (rides_asked b given runs lent from to w) before k x × (m ≡ four_rides x)) →
    ((y : Result Listed Refusal) × Lists (service_of given runs) (tables_of b) (rides_asked b given runs lent from to w) before l y × (n ≡ four_rides y)) →
    (m ≡ n) ×
    (k ≡ l)
four_rides_one b given runs lent from to w before k l (x, f, e) (y, g, h) =
    let z = lists_one b given runs lent from to w before k l x y f g in
    (e ∙ ap four_rides z.0 ∙ sym h, z.1)

-- kiosk_build: the four numbers and the tables, which are bytes
pub four_build_one : {given : Given} {runs : List ℕ} {work lent : ℕ} {s t m n : List ℕ} → AreBytes s → AreBytes t →
    ((x : Result Built Refusal) × BuildOf given runs work lent x s × (m ≡ four_build x)) →
    ((y : Result Built Refusal) × BuildOf given runs work lent y t × (n ≡ four_build y)) →
    (m ≡ n) × (s ≡ t)
four_build_one p q (x, f, e) (y, g, h) =
    let z = build_one p q f g in
    (e ∙ ap four_build z.0 ∙ sym h, z.1)
