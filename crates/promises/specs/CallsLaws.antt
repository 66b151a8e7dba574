-- Demands 2 and 3 as contracts determine the answer: no second one is the timetable's.
use Rattle.std.specs.Prelude.{ℕ, ◌≡◌, refl, List, take, Err, Ok, Result}
use Rattle.std.proofs.Common.{sym, ap₂, subst, subst₂, ◌∙◌}
use Rattle.journeys.specs.Service.{Service}
use Rattle.journeys.specs.Journey.{Journey}
use Rattle.journeys.specs.Tables.{Tables, GoodTables}
use Rattle.asks.specs.declared.Wanted.{Wanted}
use Rattle.asks.specs.Asks.{ask_read}
use Rattle.asks.proofs.AskLaws.{answers_one}
use Rattle.timetable.specs.declared.Given.{Given}
use Rattle.timetable.specs.Slots.{service_of}
use Rattle.tables.specs.File.{tables_of}
use Rattle.tables.specs.GoodLaws.{judged_good}
use Rattle.tables.specs.TablesLaws.{good_tables}
use Rattle.verdict.specs.Verdict.{Checked}
use Rattle.verdict.specs.VerdictLaws.{checked_one, accepted_tables}
use Rattle.builder.specs.Build.{BuildOf}
use Rattle.builder.specs.BuildLaws.{build_one}
use Rattle.rides.specs.AcceptedLaws.{truly_one}
use Rattle.promises.specs.Calls.{AfterCheck, CheckedAsk, TimetableLists, AfterCheckLists, CheckedRides, AfterBuild, left_by, BuiltAsk, AfterBuildLists}
use Rattle.promises.specs.Calls.{left_by_rides, BuiltRides}
use Rattle.promises.specs.BuiltLaws.{rule_judged, build_wrote}
use Rattle.builder.specs.declared.Built.{Built}
use Rattle.kinds.specs.declared.Refusal.{Refusal}
use Rattle.asks.specs.declared.Journey as pair
use Rattle.rides.specs.declared.Listed.{Listed}
use Rattle.asks.specs.declared.Asked.{Asked}

after_one : (v : Result Unit Refusal) (S : Service) (q : Result Asked Refusal) (x y : Result pair.Journey Refusal) → AfterCheck v S q x → AfterCheck v S q y →
    x ≡ y
after_one (Ok tt) S q x y f g = answers_one (Journey S) q x y f g
after_one (Err r) S q x y f g = f ∙ sym g

-- checked_ask has one answer
pub checked_ask_one : (b : List ℕ) (given : Given) (list : List ℕ) (lent from to : ℕ) (w : Wanted) (x y : Result pair.Journey Refusal) →
    CheckedAsk b given list lent from to w x → CheckedAsk b given list lent from to w y → x ≡ y
checked_ask_one b given list lent from to w x y f g =
    let same : f.verdict ≡ g.verdict = checked_one b given list lent f.checked g.checked in
    after_one g.verdict (service_of given list) (ask_read given.stops from to w) x y
    (subst (λ v. AfterCheck v (service_of given list) (ask_read given.stops from to w) x) same f.answer) g.answer

built_after_one : (b : Result Built Refusal) (S : Service) (q : Result Asked Refusal) (x y : Result pair.Journey Refusal) → AfterBuild b S q x →
    AfterBuild b S q y → x ≡ y
built_after_one (Ok b) S q x y f g = answers_one (Journey S) q x y f g
built_after_one (Err r) S q x y f g = f ∙ sym g

-- built_ask has one answer and leaves one file
pub built_ask_one : (given : Given) (list : List ℕ) (work lent from to : ℕ) (w : Wanted) (s t : List ℕ) (x y : Result pair.Journey Refusal) →
    BuiltAsk given list work lent from to w s x → BuiltAsk given list work lent from to w t y → (x ≡ y) × (s ≡ t)
built_ask_one given list work lent from to w s t x y f g =
    let same = build_one f.are g.are f.built g.built in
    let one : x ≡ y =
    built_after_one g.answer (service_of given list) (ask_read given.stops from to w) x y
    (subst (λ b. AfterBuild b (service_of given list) (ask_read given.stops from to w) x) same.0 f.asked) g.asked in
    (one, f.left ∙ ap₂ left_by one same.1 ∙ sym g.left)

-- ---- with rides: one answer, one list

lists_one : (S : Service) {T : Tables} (k : Result Asked Refusal) → GoodTables T → (before m n : List ℕ) (x y : Result Listed Refusal) →
    TimetableLists S T k before m x →
    TimetableLists S T k before n y → (x ≡ y) × (m ≡ n)
lists_one S (Err r) G before m n x y f g = (f.0 ∙ sym g.0, f.1 ∙ sym g.1)
lists_one S (Ok q) G before m n x y f g = truly_one S G q before m n x y f g

pub checked_rides_one : (b : List ℕ) (given : Given) (list : List ℕ) (lent from to : ℕ) (w : Wanted) (before m n : List ℕ) (x y : Result Listed Refusal) →
    CheckedRides b given list lent from to w before m x → CheckedRides b given list lent from to w before n y → (x ≡ y) × (m ≡ n)
checked_rides_one b given list lent from to w before m n x y f g =
    go g.verdict g.checked (subst (λ v. AfterCheckLists v (service_of given list) (tables_of b) (ask_read given.stops from to w) before m x)
    (checked_one b given list lent f.checked g.checked) f.answer) g.answer
  where
    go : (v : Result Unit Refusal) → Checked b given list lent v →
        AfterCheckLists v (service_of given list) (tables_of b) (ask_read given.stops from to w) before m x →
        AfterCheckLists v (service_of given list) (tables_of b) (ask_read given.stops from to w) before n y → (x ≡ y) × (m ≡ n)
    go (Ok tt) c f g = lists_one (service_of given list) (ask_read given.stops from to w)
        (good_tables (accepted_tables b given list lent c refl).file) before m n x y f g
    go (Err r) c f g = (f.0 ∙ sym g.0, f.1 ∙ sym g.1)

pub built_rides_one : (given : Given) (list : List ℕ) (work lent from to : ℕ) (w : Wanted) (s t before m n : List ℕ) (x y : Result Listed Refusal) →
    BuiltRides given list work lent from to w s before m x → BuiltRides given list work lent from to w t before n y → (x ≡ y) × (s ≡ t) × (m ≡ n)
built_rides_one given list work lent from to w s t before m n x y f g =
    let same = build_one f.are g.are f.built g.built in
    let one = go g.answer g.built (subst₂ (λ a c. AfterBuildLists a (service_of given list) c (ask_read given.stops from to w) before m x) same.0
    same.1 f.asked) g.asked in
    (one.0, f.left ∙ ap₂ left_by_rides one.0 same.1 ∙ sym g.left, one.1)
  where
    go : (a : Result Built Refusal) → BuildOf given list work lent a g.bytes →
        AfterBuildLists a (service_of given list) g.bytes (ask_read given.stops from to w) before m x →
        AfterBuildLists a (service_of given list) g.bytes (ask_read given.stops from to w) before n y → (x ≡ y) × (m ≡ n)
    go (Ok wrote) b h k =
        let o = build_wrote given list work lent wrote.length wrote.labels g.bytes b in
        lists_one (service_of given list) (ask_read given.stops from to w)
        (good_tables (judged_good (take wrote.length g.bytes) given.stops (rule_judged o.numbers o.rule))) before m n x y h k
    go (Err r) b h k = (h.0 ∙ sym k.0, h.1 ∙ sym k.1)
