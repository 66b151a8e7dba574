-- What the builder writes serves the timetable; and the build, and then the ask.
use Rattle.std.specs.Prelude.{ℕ, ◌-◌, ◌≡◌, refl, true, false, List, ◌++◌, length, take, replicate, Err, Ok, Result}
use Rattle.std.specs.Result.{is_err}
use Rattle.std.proofs.Common.{sym, ap, subst, ◌∙◌, arith}
use Rattle.std.proofs.lemmas.List.{length-replicate}
use Rattle.std.proofs.Math.Seq.{take-append_seam}
use Rattle.loops.specs.ZeroLaws.{zeros_is}
use Rattle.loops.specs.Zero.{zeros}
use Rattle.kinds.specs.declared.Refusal.{Refusal}
use Rattle.journeys.proofs.RuleLaws.{by_rule_accepted}
use Rattle.tables.specs.File.{place_of, tables_of, AreBytes}
use Rattle.tables.specs.Judged.{judged_tables}
use Rattle.tables.specs.GoodLaws.{judged_good}
use Rattle.tables.specs.TablesLaws.{good_tables}
use Rattle.timetable.specs.declared.Given.{Given}
use Rattle.timetable.specs.Numbers.{GoodNumbers}
use Rattle.timetable.specs.Slots.{service_of}
use Rattle.timetable.proofs.NumbersLaws as numbers
use Rattle.timetable.proofs.SlotsLaws.{good_service, service_stops}
use Rattle.asks.specs.declared.Wanted.{Wanted}
use Rattle.asks.specs.Asks.{asked, Answers}
use Rattle.builder.specs.Build.{build_room, RuleFile, BuiltOf, over, short, built, BuildOf, refused, good, success}
use Rattle.rides.specs.Lists.{rides_asked, Lists}
use Rattle.promises.specs.Calls.{Serves, left_by, BuiltAsk, left_by_rides, BuiltRides}
use Rattle.promises.specs.AcceptedLaws.{serves}
use Rattle.promises.specs.Built.{BuildWrote}
use Rattle.builder.specs.declared.Built.{Built}
use Rattle.asks.specs.declared.Journey.{Journey}
use Rattle.rides.specs.declared.Listed.{Listed}

-- Demand 2 of the rule's file
module _ {given : Given} {list file : List ℕ} (g : GoodNumbers given list) (F : RuleFile (service_of given list) file) where
  pub rule_judged : judged_tables file ≡ Ok given.stops
  rule_judged = F.good ∙ ap Ok (service_stops given list)

  pub file_serves : Serves given list file
  file_serves = serves file g rule_judged (by_rule_accepted (good_service g) F.rule (good_tables (judged_good file given.stops rule_judged)))

same_built : {x y : Built} → ◌≡◌ {A = Result Built Refusal} (Ok x) (Ok y) → x ≡ y
same_built e = cc

built_length : {l k m n : ℕ} → success l k ≡ success m n → (l ≡ m) × (k ≡ n)
built_length e = let s = same_built e in (ap (λ (b : Built). b.length) s, ap (λ (b : Built). b.labels) s)

pub build_wrote : (given : Given) (list : List ℕ) (work lent long labels : ℕ) (bytes : List ℕ) →
    BuildOf given list work lent (success long labels) bytes → BuildWrote given list work lent long labels bytes
build_wrote given list work lent long labels bytes (refused r j a t) = absurd cc
build_wrote given list work lent long labels bytes (good j b) = from_built b
  where
    from_built : BuiltOf (service_of given list) lent (success long labels) bytes → BuildWrote given list work lent long labels bytes
    from_built (over k R h a t) = absurd cc
    from_built (short k R h l a t) = absurd cc
    from_built (built k file R few h F l a t) =
        let e : long ≡ length file = (built_length a).0 ∙ sym l in
        let n = numbers.judged_good given list work build_room j in
        record {
          numbers = n.0;
          room = n.1;
          fits = omega (arith, l);
          few = omega (arith, (built_length a).1);
          rule = subst (RuleFile (service_of given list)) (sym (ap (λ (b : List ℕ). take long b) t ∙
              ap (λ (n : ℕ). take n (file ++ replicate (lent - place_of (service_of given list).stops k) 0)) e ∙ take-append_seam file _)) F;
        }

-- Demand 2: whatever the builder writes serves every ask
pub build_serves : (given : Given) (list : List ℕ) (work lent long labels : ℕ) (bytes : List ℕ) →
    BuildOf given list work lent (success long labels) bytes → Serves given list (take long bytes)
build_serves given list work lent long labels bytes b = let o = build_wrote given list work lent long labels bytes b in file_serves o.numbers o.rule

-- ---- the build, and then the ask
module _ (given : Given) (list : List ℕ) (work lent : ℕ) {a : Result Built Refusal} {bytes : List ℕ} (b : BuildOf given list work lent a bytes) where
  pub wrote : {long labels : ℕ} → a ≡ success long labels → BuildWrote given list work lent long labels bytes
  wrote {long} {labels} e = build_wrote given list work lent long labels bytes (subst (λ x. BuildOf given list work lent x bytes) e b)

  module _ (are : AreBytes bytes) (from to : ℕ) (w : Wanted) {tables : List ℕ} where
    pub asked_built : {long labels : ℕ} → a ≡ success long labels → {y x : Result Journey Refusal} → y ≡ x →
        Answers (tables_of (take long bytes)) (asked (take long bytes) from to w) y →
        tables ≡ left_by x bytes → BuiltAsk given list work lent from to w tables x
    asked_built {long} {labels} e {y} {x} s f z =
        let d = subst (λ y. BuildOf given list work lent y bytes) e b in
        let g = subst (Answers (tables_of (take long bytes)) (asked (take long bytes) from to w)) s f in
        record {
          answer = success long labels;
          bytes = bytes;
          are = are;
          built = d;
          asked = (build_serves given list work lent long labels bytes d).asks from to w x g;
          left = z;
        }

    pub asked_refused : {r : Refusal} → a ≡ Err r → tables ≡ zeros bytes → BuiltAsk given list work lent from to w tables (Err r)
    asked_refused {r} e z =
        record { answer = Err r; bytes = bytes; are = are; built = subst (λ y. BuildOf given list work lent y bytes) e b; asked = refl; left = z }

    -- the room that the builder leaves is as long as it was
    pub rides_built : {long labels : ℕ} → a ≡ success long labels → {m : ℕ} → m ≡ work → (before after : List ℕ) {y x : Result Listed Refusal} → y ≡ x →
        Lists (service_of given list) (tables_of (take long bytes)) (rides_asked (take long bytes) given list m from to w) before after y →
        tables ≡ left_by_rides x bytes → BuiltRides given list work lent from to w tables before after x
    rides_built {long} {labels} e {m} q before after {y} {x} s f z =
        let d = subst (λ y. BuildOf given list work lent y bytes) e b in
        let g = subst (Lists (service_of given list) (tables_of (take long bytes)) (rides_asked (take long bytes) given list m from to w) before after) s f in
        record {
          answer = success long labels;
          bytes = bytes;
          are = are;
          built = d;
          asked = (build_serves given list work lent long labels bytes d).rides m from to w before after x (omega (arith, (wrote e).room)) g;
          left = z;
        }

    pub rides_refused : {r : Refusal} → a ≡ Err r → {before after : List ℕ} → after ≡ zeros before → tables ≡ zeros bytes →
        BuiltRides given list work lent from to w tables before after (Err r)
    rides_refused {r} e z y =
        record { answer = Err r; bytes = bytes; are = are; built = subst (λ y. BuildOf given list work lent y bytes) e b; asked = (refl, z); left = y }

-- a build that is refused leaves zeros
all_zero : (n : ℕ) {l : List ℕ} → l ≡ replicate n 0 → l ≡ zeros l
all_zero n {l} e = e ∙ ap (λ (k : ℕ). replicate k 0) (sym (ap length e ∙ length-replicate n 0)) ∙ sym (zeros_is l)

pub refused_zero : {given : Given} {list : List ℕ} {work lent : ℕ} {a : Result Built Refusal} {bytes : List ℕ} {r : Refusal} →
    BuildOf given list work lent a bytes →
    a ≡ Err r →
    bytes ≡ zeros bytes
refused_zero {lent = lent} (refused q j a t) e = all_zero lent t
refused_zero {lent = lent} (good j (over k R h a t)) e = all_zero lent t
refused_zero {lent = lent} (good j (short k R h l a t)) e = all_zero lent t
refused_zero (good j (built k file R few h F l a t)) e = absurd cc

-- what is left of the tables where the ask is refused, and where it is answered
pub left_refused : (x : Result Journey Refusal) (bytes : List ℕ) → is_err x ≡ true → zeros bytes ≡ left_by x bytes
left_refused (Err r) bytes e = refl
left_refused (Ok j) bytes e = absurd cc

pub left_answered : (x : Result Journey Refusal) (bytes : List ℕ) → is_err x ≡ false → bytes ≡ left_by x bytes
left_answered (Ok j) bytes e = refl
left_answered (Err r) bytes e = absurd cc

pub rides_left_refused : (x : Result Listed Refusal) (bytes : List ℕ) → is_err x ≡ true → zeros bytes ≡ left_by_rides x bytes
rides_left_refused (Err r) bytes e = refl
rides_left_refused (Ok j) bytes e = absurd cc

pub rides_left_answered : (x : Result Listed Refusal) (bytes : List ℕ) → is_err x ≡ false → bytes ≡ left_by_rides x bytes
rides_left_answered (Ok j) bytes e = refl
rides_left_answered (Err r) bytes e = absurd cc
