-- The check has one answer, and accepts exactly what is to be accepted; and what its steps say of its answer.
use Rattle.std.specs.Prelude.{ℕ, ◌≤◌, ◌<◌, ◌≡◌, refl, ◌↔◌, List, Err, Ok, Result}
use Rattle.std.proofs.Common.{sym, ◌∙◌, arith}
use Rattle.std.proofs.Math.Path.{ap, subst}
use Rattle.std.proofs.Math.Option.{Option}
use Rattle.std.proofs.Math.Decide.{dec_lt}
use Rattle.loops.specs.Fails.{FailsAt}
use Rattle.kinds.specs.Refusals.{number_of, refusal}
use Rattle.journeys.specs.Service.{Service}
use Rattle.journeys.specs.Tables.{Tables, outs, ins, LabelAt, of_out, of_in}
use Rattle.journeys.specs.Check as the
use Rattle.journeys.specs.Check.{SupportedAt, AllSupported, NoGapAt, UnsupportedFirst, GapFirst}
use Rattle.tables.specs.File.{tables_of, labels_of}
use Rattle.tables.specs.Judged.{judged_tables}
use Rattle.tables.specs.Good.{GoodFile}
use Rattle.tables.specs.TablesLaws.{tables_stops, tables_within}
use Rattle.timetable.specs.declared.Given.{Given}
use Rattle.timetable.specs.Numbers.{judged_of}
use Rattle.timetable.specs.Slots.{slot_run, service_of}
use Rattle.both.specs.Both.{work_room, judged_both, BothGood}
use Rattle.both.specs.BothLaws.{both_good}
use Rattle.verdict.specs.Gaps.{FirstGap}
use Rattle.verdict.specs.Verdict.{gap_refusal, CheckedAs, unsupported_at, gap_at, all_well, GapAtRun, Answered, Checked, AcceptedTables}
use Rattle.kinds.specs.declared.Reason.TheVariants as reason
use Rattle.kinds.specs.declared.Refusal.{Refusal}

-- ---- one answer

-- two firsts of one kind are one
first_same : {P : ℕ → Type 0} {i j : ℕ} → ¬ (P i) → ((k : ℕ) → k < i → P k) → ¬ (P j) → ((k : ℕ) → k < j → P k) → i ≡ j
first_same {P} {i} {j} f before g until = go (dec_lt i j) (dec_lt j i)
  where
    go : Dec (i < j) → Dec (j < i) → i ≡ j
    go (yes l) d = absurd (f (until i l))
    go (no l) (yes m) = absurd (g (before j m))
    go (no l) (no m) = omega arith

module _ {S : Service} {T : Tables} where
  one_label : {k j : ℕ} → UnsupportedFirst S T k → UnsupportedFirst S T j → k ≡ j
  one_label x y = first_same x.fault x.before y.fault y.before

  one_slot : {i j v w : ℕ} → GapFirst S T i v → GapFirst S T j w → i ≡ j
  one_slot {v = v} {w} x y =
      first_same {P = λ k. (u : ℕ) → u < T.stops → NoGapAt S T k u} (λ f. x.fault (f v x.stop)) (λ k lt u s. x.runs_before k u lt s)
      (λ f. y.fault (f w y.stop)) (λ k lt u s. y.runs_before k u lt s)

  one_stop : {i v w : ℕ} → GapFirst S T i v → GapFirst S T i w → v ≡ w
  one_stop x y = first_same x.fault x.stops_before y.fault y.stops_before

  pub checked_as_one : {r s : Result Unit Refusal} → CheckedAs S T r → CheckedAs S T s → r ≡ s
  checked_as_one (unsupported_at k x e) (unsupported_at j y f) = e ∙ ap (λ z. Err (refusal reason.Unsupported z)) (one_label x y) ∙ sym f
  checked_as_one (unsupported_at k x e) (gap_at i v y f) = absurd (x.fault (y.supported k))
  checked_as_one (unsupported_at k x e) (all_well y f) = absurd (x.fault (y.supported k))
  checked_as_one (gap_at i v x e) (unsupported_at k y f) = absurd (y.fault (x.supported k))
  checked_as_one (gap_at i v x e) (gap_at j w y f) =
      let p = one_slot x y in
      let q = one_stop (subst (λ z. GapFirst S T z v) p x) y in
      e ∙ ap (λ z. Err (gap_refusal (slot_run z) v)) p ∙ ap (λ z. Err (gap_refusal (slot_run j) z)) q ∙ sym f
  checked_as_one (gap_at i v x e) (all_well y f) = absurd (x.fault (y.no_gaps i v x.stop))
  checked_as_one (all_well x e) (unsupported_at k y f) = absurd (y.fault (x.supported k))
  checked_as_one (all_well x e) (gap_at i v y f) = absurd (y.fault (x.no_gaps i v y.stop))
  checked_as_one (all_well x e) (all_well y f) = e ∙ sym f

answered_one : (j : Result ℕ Refusal) (S : Service) (T : Tables) {r s : Result Unit Refusal} → Answered j S T r → Answered j S T s → r ≡ s
answered_one (Err x) S T e f = e ∙ sym f
answered_one (Ok n) S T x y = checked_as_one x y

-- no second answer
pub checked_one : (b : List ℕ) (given : Given) (list : List ℕ) (lent : ℕ) {r s : Result Unit Refusal} → Checked b given list lent r →
    Checked b given list lent s → r ≡ s
checked_one b given list lent x y =
    answered_one (judged_both (judged_tables b) (judged_of given list lent work_room) given.stops) (service_of given list) (tables_of b) x y

-- ---- each answer is given exactly when its reason holds

number_told : Result Unit Refusal → ℕ
number_told (Ok tt) = 0
number_told (Err x) = number_of x.reason

place_told : Result Unit Refusal → ℕ
place_told (Ok tt) = 0
place_told (Err x) = x.place

stop_told : Result Unit Refusal → ℕ
stop_told (Ok tt) = 0
stop_told (Err x) = x.stop

module _ {S : Service} {T : Tables} {r : Result Unit Refusal} (o : CheckedAs S T r) where
  pub accepts : (r ≡ Ok tt) ↔ the.Accepted S T
  accepts = (λ e. to e o, λ a. checked_as_one o (all_well a refl))
    where
      to : r ≡ Ok tt → CheckedAs S T r → the.Accepted S T
      to e (unsupported_at k x f) = absurd cc
      to e (gap_at i v x f) = absurd cc
      to e (all_well x f) = x

  pub refuses_label : (k : ℕ) → (r ≡ Err (refusal reason.Unsupported k)) ↔ UnsupportedFirst S T k
  unfolding number_told place_told
  refuses_label k = (λ e. to e o, λ x. checked_as_one o (unsupported_at k x refl))
    where
      to : r ≡ Err (refusal reason.Unsupported k) → CheckedAs S T r → UnsupportedFirst S T k
      to e (unsupported_at j x f) = subst (UnsupportedFirst S T) (ap place_told (sym f ∙ e)) x
      to e (gap_at i v x f) = absurd (omega (arith, ap number_told (sym f ∙ e)))
      to e (all_well x f) = absurd (omega (arith, ap number_told (sym f ∙ e)))

  pub refuses_gap : (run v : ℕ) → (r ≡ Err (gap_refusal run v)) ↔ GapAtRun S T run v
  unfolding number_told place_told stop_told
  refuses_gap run v = (λ e. to e o, λ x. checked_as_one o (gap_at x.slot v x.first (ap (λ z. Err (gap_refusal z v)) (sym x.stands))))
    where
      to : r ≡ Err (gap_refusal run v) → CheckedAs S T r → GapAtRun S T run v
      to e (unsupported_at j x f) = absurd (omega (arith, ap number_told (sym f ∙ e)))
      to e (gap_at j w x f) = record { slot = j; stands = ap place_told (sym f ∙ e); first = subst (GapFirst S T j) (ap stop_told (sym f ∙ e)) x }
      to e (all_well x f) = absurd (omega (arith, ap number_told (sym f ∙ e)))

-- ---- what was judged good

pub accepted_tables : (b : List ℕ) (given : Given) (list : List ℕ) (lent : ℕ) {r : Result Unit Refusal} → Checked b given list lent r → r ≡ Ok tt →
    AcceptedTables b given list lent
accepted_tables b given list lent {r} c e =
    go (judged_both (judged_tables b) (judged_of given list lent work_room) given.stops) (λ n q. both_good b given list lent n q) c
  where
    go : (j : Result ℕ Refusal) → ((n : ℕ) → j ≡ Ok n → BothGood b n given list × (work_room ≤ lent)) →
        Answered j (service_of given list) (tables_of b) r → AcceptedTables b given list lent
    go (Err x) g f = absurd cc
    go (Ok n) g o =
        let h = g n refl in
        record { file = subst (GoodFile b) h.0.same h.0.file; numbers = h.0.numbers; room = h.1; accepted = (accepts o).0 e }

-- ---- the labels

label_within : {b : List ℕ} {n : ℕ} (g : GoodFile b n) {k u v d a : ℕ} {p : Option ℕ} → LabelAt (tables_of b) k u v d a p → k < labels_of b
label_within {b} g {u = u} (of_out x) = omega (arith, x.high, tables_within g outs u (omega (arith, x.owner, tables_stops b, g.room.contents.stops)))
label_within {b} g {v = v} (of_in x) = omega (arith, x.high, tables_within g ins v (omega (arith, x.owner, tables_stops b, g.room.contents.stops)))

module _ {S : Service} {b : List ℕ} {n k : ℕ} (g : GoodFile b n) (f : FailsAt (SupportedAt S (tables_of b)) 0 (labels_of b) k) where
  pub all_supported : labels_of b ≤ k → AllSupported S (tables_of b)
  all_supported le j u v d a p l = f.held.each j (omega arith) (omega (arith, label_within g l)) u v d a p l

  pub first_unsupported : k < labels_of b → UnsupportedFirst S (tables_of b) k
  first_unsupported lt = record { fault = f.here lt; before = λ j l. f.held.each j (omega arith) l }

pub gap_first : {S : Service} {T : Tables} {i v : ℕ} → AllSupported S T → FirstGap S T i v → GapFirst S T i v
gap_first s f = record { supported = s; stop = f.stop; fault = f.fault; runs_before = f.runs_before; stops_before = f.stops_before }
