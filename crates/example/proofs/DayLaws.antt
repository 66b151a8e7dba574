-- The example day: what is read of its text, the cases A to J, and its tables.
use Rattle.std.specs.Prelude.{ℕ, zero, suc, ◌+◌, ◌*◌, ◌-◌, ◌≤◌, ◌<◌, ◌≡◌, refl, true, List, [], ◌∷◌, ◌++◌, length, get_or, replicate, ltb, Ok, Result}
use Rattle.std.proofs.Common.{sym, ap, subst, subst₂, ◌∙◌, arith, length-append, ltb→lt, le-leb}
use Rattle.std.proofs.Math.Path.{fun_ext}
use Rattle.std.proofs.Math.Option.{none}
use Rattle.std.proofs.Math.Decide.{dec_lt}
use Rattle.std.proofs.Math.ListN.{get_or-eq_default}
use Rattle.kinds.specs.Limits.{run_numbers, runs_room}
use Rattle.kinds.specs.Kinds.{is_code_byte, is_code_length, run_of, is_stop_count, is_run_count, label_of}
use Rattle.loops.specs.Every.{all_b, same_b}
use Rattle.loops.specs.FirstOf.{first_of}
use Rattle.loops.specs.Fold.{fold_to}
use Rattle.words.specs.Words.{seek_in, seek, begins_b, is_word_b, is_digit, is_number, value_of, number_at, is_code}
use Rattle.lookup.specs.Lookup.{has_code, stop_in, stop_named}
use Rattle.lines.specs.Lines.{numbers_at, fields_at, read_stop_line, run_fields, read_run_line, line_of}
use Rattle.reader.specs.Text.{ReadOutcome, whole, put_run, read_from, read_text, runs_of}
use Rattle.journeys.specs.Service.{Service, GoodService}
use Rattle.journeys.specs.Rule.{ByRule}
use Rattle.journeys.specs.Count.{sum_pairs, RuleCount}
use Rattle.journeys.proofs.CountTestLaws.{rule_count_of}
use Rattle.journeys.specs.CountTests.{manyb, first_with, many_with, is_withb, amongb, withb, many_for, countsb}
use Rattle.journeys.proofs.RuleTestLaws.{by_rule_of}
use Rattle.journeys.specs.RuleTests.{undominatedb, viab, some_viab, some_rideb, labelledb, pivotb, ruleb, sideb, setb, heldb, pairb, soundb, fullb}
use Rattle.journeys.proofs.TestLaws.{all_of, good_of}
use Rattle.journeys.specs.Tests.{allb, anyb, goodb, rideb, startb, reachb, withinb}
use Rattle.timetable.specs.Numbers.{given_of, read_run, refused_run, judged_of}
use Rattle.timetable.specs.Slots.{slots_of, slot_run, service_of}
use Rattle.tables.specs.File.{start_of, label_at, tables_of, AreBytes}
use Rattle.tables.specs.Judged.{follows, good_label, bad_label, judged_contents, judged_tables}
use Rattle.tables.specs.GoodLaws.{judged_good}
use Rattle.tables.specs.TablesLaws.{good_tables}
use Rattle.builder.specs.Build.{build_room, RuleFile, BuiltOf, built, BuildOf, good, success}
use Rattle.builder.specs.BuildLaws.{build_one}
use Rattle.example.specs.Day.{day_text, text_without2, read_whole, in_force_of, stop_called, example_day, day_numbers, without_run2, day_tables}
use Rattle.example.specs.Cases.{Holds, cases_ato_j}
use Rattle.example.proofs.CasesLaws.{cases_of}
use Rattle.example.specs.CaseTests.{ridesb, freeb, bestb, noneb, saysb, casesb}
use Rattle.example.specs.DayNumbers.{six_runs, five_runs, four_codes}
use Rattle.builder.specs.declared.Built.{Built}
use Rattle.kinds.specs.declared.Refusal.{Refusal}

-- ---- what is read

six_read : ReadOutcome
six_read = whole (record { line = 12; stops = 4; runs = 6; codes = four_codes ++ replicate 502 0; numbers = six_runs ++ replicate 20450 0 })

five_read : ReadOutcome
five_read = whole (record { line = 11; stops = 4; runs = 5; codes = four_codes ++ replicate 502 0; numbers = five_runs ++ replicate 20455 0 })

-- zeros after the numbers are as no numbers
zeros_after : (l : List ℕ) (n k : ℕ) → get_or (l ++ replicate n 0) k 0 ≡ get_or l k 0
zeros_after [] zero k = refl
zeros_after [] (suc n) zero = refl
zeros_after [] (suc n) (suc k) = zeros_after [] n k
zeros_after (x ∷ l) n zero = refl
zeros_after (x ∷ l) n (suc k) = zeros_after l n k

-- a service, by what stands at each place of its numbers
service_by : ℕ → ℕ → (ℕ → ℕ) → Service
service_by stops count at = record {
  stops = stops;
  slots = count;
  in_force = λ i. true;
  ride = λ i. record { from = at (run_numbers * i); to = at (run_numbers * i + 1); dep = at (run_numbers * i + 2); arr = at (run_numbers * i + 3) };
}

same_service : (stops count : ℕ) (l : List ℕ) (n : ℕ) → service_of (given_of stops count) (l ++ replicate n 0) ≡ service_of (given_of stops count) l
unfolding service_of slots_of slot_run service_by
same_service stops count l n = ap (service_by stops count) (fun_ext (zeros_after l n))

-- T and T without run 2, by computing
both_read : (read_whole day_text ≡ six_read) × (read_whole text_without2 ≡ five_read)
unfolding read_text read_from line_of read_run_line run_fields read_stop_line fields_at numbers_at stop_named
    stop_in has_code is_code number_at value_of is_number is_digit is_word_b begins_b
    seek seek_in same_b all_b put_run is_code_byte is_code_length run_of six_read five_read six_runs five_runs four_codes
both_read = (refl, refl)

-- the reader's answer to T: 4 stops and 6 runs, these numbers and codes, and zeros
pub day_read : read_whole day_text ≡ whole (record {
  line = 12;
  stops = 4;
  runs = 6;
  codes = four_codes ++ replicate 502 0;
  numbers = six_runs ++ replicate 20450 0;
})
unfolding six_read
day_read = both_read.0

pub stops_called : (stop_called "HUB" ≡ 0) × (stop_called "MOOR" ≡ 1) × (stop_called "QUAY-N" ≡ 2) × (stop_called "QUAY-S" ≡ 3)
unfolding stop_named stop_in has_code same_b all_b four_codes service_of slots_of slot_run
stops_called = rw day_read (refl, refl, refl, refl)

day_is : example_day ≡ service_of (given_of 4 6) six_runs
unfolding six_read
day_is = ap in_force_of both_read.0 ∙ same_service 4 6 six_runs 20450

without2_is : without_run2 ≡ service_of (given_of 4 5) five_runs
unfolding five_read
without2_is = ap in_force_of both_read.1 ∙ same_service 4 5 five_runs 20455

-- "Proved cases on T"
pub cases_hold : Holds (cases_ato_j example_day without_run2)
unfolding casesb goodb saysb noneb bestb freeb ridesb rideb allb withinb reachb anyb startb service_of slots_of slot_run six_runs five_runs
cases_hold = subst₂ (λ (S R : Service). Holds (cases_ato_j S R)) (sym day_is) (sym without2_is)
    (cases_of (cases_ato_j (service_of (given_of 4 6) six_runs) (service_of (given_of 4 5) five_runs)) tt)

-- ---- its tables

tables_judged : judged_tables day_tables ≡ Ok 4
unfolding judged_tables judged_contents bad_label good_label follows label_of is_stop_count start_of label_at first_of
tables_judged = refl

day_good : GoodService (service_of (given_of 4 6) six_runs)
unfolding goodb allb service_of slots_of slot_run six_runs
day_good = good_of (service_of (given_of 4 6) six_runs) tt

by_rule : ByRule (service_of (given_of 4 6) six_runs) (tables_of day_tables)
unfolding soundb fullb pairb heldb setb sideb ruleb pivotb labelledb some_rideb some_viab viab undominatedb
    rideb allb anyb withinb reachb startb service_of slots_of slot_run six_runs tables_of start_of label_at
by_rule = by_rule_of day_good (tables_of day_tables) tt tt

rule_file : RuleFile (service_of (given_of 4 6) six_runs) day_tables
unfolding service_of slots_of slot_run
rule_file = record { good = tables_judged; rule = by_rule }

-- "Its tables": the rule's file of T
pub day_tables_lem : RuleFile example_day day_tables
day_tables_lem = subst (λ (S : Service). RuleFile S day_tables) (sym day_is) rule_file

-- ---- what is built of its numbers

rule_count : RuleCount (service_of (given_of 4 6) six_runs) 6
unfolding sum_pairs fold_to many_for countsb withb amongb is_withb many_with first_with manyb allb service_of slots_of slot_run tables_of start_of label_at
rule_count = rule_count_of by_rule (good_tables (judged_good day_tables 4 tables_judged)) refl tt

are_bytes : AreBytes day_tables
unfolding allb
are_bytes i = go (dec_lt i 54)
  where
    go : Dec (i < 54) → get_or day_tables i 0 < 256
    go (yes h) = ltb→lt (get_or day_tables i 0) 256 (all_of 54 (λ k. ltb (get_or day_tables k 0) 256) tt i h)
    go (no h) = omega (arith, get_or-eq_default day_tables 0 {n = i} (omega arith))

numbers_are : day_numbers ≡ six_runs ++ replicate 20450 0
numbers_are = ap (λ (o : ReadOutcome). runs_of o runs_room) day_read

long : 30 ≤ length (six_runs ++ replicate 20450 0)
unfolding six_runs
long = omega (arith, length-append six_runs (replicate 20450 0))

none_refused : first_of (refused_run 4 (six_runs ++ replicate 20450 0)) 6 ≡ none
unfolding first_of read_run run_of six_runs
none_refused = refl

good_numbers : (l : List ℕ) (work : ℕ) → 30 ≤ length l → build_room ≤ work → first_of (refused_run 4 l) 6 ≡ none →
    judged_of (given_of 4 6) l work build_room ≡ (Ok tt)
unfolding judged_of is_stop_count is_run_count
good_numbers l work h k e = rw (le-leb 30 (length l) h, le-leb build_room work k, e)

built_of : (lent : ℕ) → 54 ≤ lent → BuiltOf (service_of (given_of 4 6) six_runs) lent (success 54 6) (day_tables ++ replicate (lent - 54) 0)
unfolding service_of slots_of slot_run
built_of lent h = built 6 day_tables rule_count (omega arith) h rule_file refl refl refl

-- any build of T's numbers, where there is room, gives these 54 bytes and tells of 6 labels; zeros follow
pub day_built : {work lent : ℕ} {answer : Result Built Refusal} {tables : List ℕ} → build_room ≤ work → 54 ≤ lent → AreBytes tables →
    BuildOf (given_of 4 6) day_numbers work lent answer tables →
    (answer ≡ success 54 6) × (tables ≡ day_tables ++ replicate (lent - 54) 0)
day_built {work} {lent} {answer} {tables} w l x b =
    build_one x (λ i. subst (λ (y : ℕ). y < 256) (sym (zeros_after day_tables (lent - 54) i)) (are_bytes i))
    (subst (λ (r : List ℕ). BuildOf (given_of 4 6) r work lent answer tables) numbers_are b)
    (good (good_numbers _ work long w none_refused)
    (subst (λ (S : Service). BuiltOf S lent (success 54 6) (day_tables ++ replicate (lent - 54) 0)) (sym (same_service 4 6 six_runs 20450)) (built_of lent l)))
