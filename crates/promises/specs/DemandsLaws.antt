-- Demands 2 and 3, each with its own hypotheses and its own conclusion. Nothing is assumed of an ask but that it is permitted.
use Rattle.std.specs.Prelude.{ℕ, ◌-◌, ◌≤◌, ◌≡◌, refl, List, ◌++◌, replicate, Err, Ok, Result}
use Rattle.std.proofs.Common.{sym, ap, subst, ◌∙◌, arith}
use Rattle.kinds.specs.declared.Refusal.{Refusal}
use Rattle.journeys.proofs.AcceptedLaws.{unsupported_real, gap_real}
use Rattle.tables.specs.File.{file_room, tables_of}
use Rattle.tables.specs.Judged.{judged_tables}
use Rattle.tables.specs.GoodLaws.{judged_good}
use Rattle.tables.specs.TablesLaws.{good_tables}
use Rattle.timetable.specs.declared.Given.{Given}
use Rattle.timetable.specs.Numbers.{GoodNumbers}
use Rattle.timetable.specs.Slots.{service_of}
use Rattle.timetable.proofs.NumbersLaws.{numbers_judged}
use Rattle.timetable.proofs.SlotsLaws.{good_service, service_stops}
use Rattle.asks.specs.Permitted.{criterion_of}
use Rattle.asks.proofs.PermittedLaws.{ask_permitted}
use Rattle.both.specs.Both.{work_room}
use Rattle.verdict.specs.Verdict.{CheckedAs, unsupported_at, gap_at, all_well, Checked}
use Rattle.verdict.specs.VerdictLaws.{accepted_tables}
use Rattle.rides.specs.AcceptedLaws.{long_list}
use Rattle.builder.specs.Build.{build_room, RuleFile, BuiltOf, over, short, built, BuildOf, refused, good, success}
use Rattle.promises.specs.Demands.{BestAsked, Builds, the_rule, too_many, RealFault, no_support, missed}
use Rattle.promises.specs.Calls.{TimetableAnswers, TimetableLists, Serves}
use Rattle.promises.specs.AcceptedLaws.{outcome, accepted_serves}
use Rattle.promises.specs.BuiltLaws.{file_serves}
use Rattle.builder.specs.declared.Built.{Built}

-- over a file that serves, every permitted ask gets the best
pub serves_best : {given : Given} {runs file : List ℕ} → GoodNumbers given runs → Serves given runs file → BestAsked given runs file
serves_best {given} {runs} {file} g s = record {
  asks = λ from to w p x f. subst (λ k. TimetableAnswers (service_of given runs) k x) (ask_permitted given.stops from to w p) (s.asks from to w x f);
  rides = λ from to w p lent h before after long x f.
      long_list (good_service g) (tables_of file) (record { from = from; to = to; criterion = criterion_of w }) before after x long
      (subst (λ k. TimetableLists (service_of given runs) (tables_of file) k before after x) (ask_permitted given.stops from to w p)
      (s.rides lent from to w before after x h f));
}

-- Demand 2. "Our builder writes exactly the tables of the label rule; over them early, late and short equal the best among all journeys, "no journey" exactly
-- when
-- there is none, and the listed rides are such a journey": a valid timetable, the working room, and room for the greatest file
pub demand_2 : (given : Given) (runs : List ℕ) → GoodNumbers given runs → (work lent : ℕ) → build_room ≤ work → file_room ≤ lent →
    (answer : Result Built Refusal) (tables : List ℕ) →
    BuildOf given runs work lent answer tables → Builds given runs lent answer tables
demand_2 given runs g work lent h room answer tables (refused r j a t) =
    let e = sym j ∙ numbers_judged given runs work build_room g h in
    let z : ◌≡◌ {A = ℕ} 0 1 = cc in
    absurd (omega arith)
demand_2 given runs g work lent h room answer tables (good j b) = from_built b
  where
    from_built : BuiltOf (service_of given runs) lent answer tables → Builds given runs lent answer tables
    from_built (over k R m a t) = too_many k R m a t
    from_built (short k R m l a t) = absurd (omega (arith, g.few, service_stops given runs))
    from_built (built k file R m l F e a t) =
        the_rule file k F R (serves_best g (file_serves g F)) (a ∙ ap (λ n. success n k) (sym e))
        (t ∙ ap (λ (n : ℕ). file ++ replicate (lent - n) 0) (sym e))

-- Demand 3. "If the check accepts tables, whoever made them, every ask gets the timetable's best"
pub demand_3 : (b : List ℕ) (given : Given) (runs : List ℕ) (lent : ℕ) → Checked b given runs lent (Ok tt) → BestAsked given runs b
demand_3 b given runs lent c = serves_best (accepted_tables b given runs lent c refl).numbers (accepted_serves b given runs lent c)

-- "the rule's own tables are always accepted"
pub demand_3_rule : (b : List ℕ) (given : Given) (runs : List ℕ) (lent : ℕ) → GoodNumbers given runs → RuleFile (service_of given runs) b → work_room ≤ lent →
    (r : Result Unit Refusal) → Checked b given runs lent r → r ≡ (Ok tt)
demand_3_rule b given runs lent g F h r c = (file_serves g F).accepted lent h r c

-- "refusals 19 and 20 name a real fault": a valid timetable, well-formed tables of its stop count, the working room, and a refusal
pub demand_3_fault : (b : List ℕ) (given : Given) (runs : List ℕ) (lent : ℕ) → GoodNumbers given runs → judged_tables b ≡ Ok given.stops →
    work_room ≤ lent →
    (r : Refusal) → Checked b given runs lent (Err r) → RealFault (service_of given runs) (tables_of b) r
demand_3_fault b given runs lent g e h r c = from_outcome (outcome b g e h c)
  where
    same : {x y : Refusal} → ◌≡◌ {A = Result Unit Refusal} (Err x) (Err y) → x ≡ y
    same f = cc

    from_outcome : CheckedAs (service_of given runs) (tables_of b) (Err r) → RealFault (service_of given runs) (tables_of b) r
    from_outcome (unsupported_at k u f) = no_support k (unsupported_real (good_service g) (good_tables (judged_good b given.stops e)) u.fault) (same f)
    from_outcome (gap_at i v u f) = missed i v (gap_real (good_tables (judged_good b given.stops e)) u.supported u.fault) (same f)
    from_outcome (all_well a f) = absurd cc
