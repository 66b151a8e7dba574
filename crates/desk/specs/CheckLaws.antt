-- What a refusal of the check says of its places: 11 names a label of tables that are not good, 19 one of good tables, 20 a run of the timetable and a stop.
use Rattle.std.specs.Prelude.{ℕ, ◌<◌, ◌≡◌, refl, List, Bool, true, false, cond, eqb, Err, Ok, Result}
use Rattle.std.proofs.Common.{ap, ap₂, subst, ◌∙◌, inl, inr, arith}
use Rattle.std.proofs.Math.Option.{Option}
use Rattle.std.proofs.Math.Decide.{dec_lt}
use Rattle.loops.specs.ChainLaws.{either}
use Rattle.kinds.specs.Refusals.{number_of, refusal}
use Rattle.kinds.specs.declared.Reason.{Reason}
use Rattle.kinds.specs.declared.Refusal.{Refusal}
use Rattle.journeys.specs.Service.{Service}
use Rattle.journeys.specs.Tables.{outs, ins, Tables, LabelAt, of_out, of_in}
use Rattle.journeys.specs.Check.{UnsupportedFirst, GapFirst}
use Rattle.tables.specs.File.{labels_of, tables_of}
use Rattle.tables.specs.Judged.{judged_tables}
use Rattle.tables.specs.Good.{GoodFile}
use Rattle.tables.specs.Refused.{TablesRefusal, IfRefused}
use Rattle.tables.specs.FileLaws.{set_within}
use Rattle.tables.specs.RefusalLaws.{judged-refusal, judged_bad}
use Rattle.tables.specs.TablesLaws.{good_stops, tables_within}
use Rattle.timetable.specs.declared.Given.{Given}
use Rattle.timetable.specs.Numbers.{judged_of, NumbersRefusal}
use Rattle.timetable.proofs.NumbersLaws.{numbers_refusal}
use Rattle.timetable.specs.Slots.{slots_of, slot_run, service_of}
use Rattle.timetable.proofs.SlotsLaws.{service_slots, slot_run_below}
use Rattle.both.specs.Both.{work_room, judged_both}
use Rattle.verdict.specs.Verdict.{CheckedAs, unsupported_at, gap_at, all_well, gap_refusal, Answered, Checked}
use Rattle.both.specs.BothLaws.{both_good}
use Rattle.desk.specs.Spelled.{BadPlace}
use Rattle.desk.specs.Places.{Neither, Other, NeitherIn, NeitherOf, Places}
use Rattle.kinds.specs.declared.Reason.TheVariants as reason

-- ---- what is refused before tables and timetable are compared is neither 19 nor 20

low : {n : Reason} → number_of n < number_of reason.Unsupported → Neither n
low lt = record { no_label = λ e. omega (arith, ap number_of e); no_gap = λ e. omega (arith, ap number_of e) }

other : {n : Reason} → number_of n < number_of reason.Unsupported → (n ≡ reason.LabelBad → ⊥) → Other n
other lt ne = record { neither = low lt; no_bad = ne }

neither_tables : (b : List ℕ) → NeitherIn (judged_tables b)
neither_tables b = go (judged_tables b) (judged-refusal b)
  where
    go : (t : Result ℕ Refusal) → IfRefused t → NeitherIn t
    go (Ok n) x = tt
    go (Err r) x = low (omega (arith, x.most))

neither_numbers : (given : Given) (list : List ℕ) (lent needed : ℕ) → NeitherOf (judged_of given list lent needed)
neither_numbers given list lent needed = go (judged_of given list lent needed) (numbers_refusal given list lent needed)
  where
    go : (j : Result Unit Refusal) → NumbersRefusal j → NeitherOf j
    go (Ok tt) x = tt
    go (Err r) (inl h) = other (omega arith) (λ e. omega (arith, ap number_of e))
    go (Err r) (inr h) = other (omega (arith, ap number_of h)) (λ e. cc)

neither_both : (t : Result ℕ Refusal) (j : Result Unit Refusal) (stops : ℕ) → NeitherIn t → NeitherOf j → NeitherIn (judged_both t j stops)
neither_both (Err x) j stops p q = p
neither_both (Ok n) (Err x) stops p q = q.neither
neither_both (Ok n) (Ok tt) stops p q =
    either NeitherIn (eqb n stops) tt (record { no_label = λ e. cc; no_gap = λ e. cc })

-- ---- 11 is a refusal of the tables' bytes, and names a label

both_bad : (t : Result ℕ Refusal) (j : Result Unit Refusal) (stops : ℕ) → NeitherOf j → (x : Refusal) → judged_both t j stops ≡ Err x →
    x.reason ≡ reason.LabelBad → t ≡ Err x
both_bad (Err y) j stops q x e h = e
both_bad (Ok n) (Err y) stops q x e h = let f : y ≡ x = cc in absurd (q.no_bad (ap (λ (z : Refusal). z.reason) f ∙ h))
both_bad (Ok n) (Ok tt) stops q x e h = go (eqb n stops) e
  where
    go : (c : Bool) → cond c (Ok n) (Err (refusal reason.StopsDiffer 0)) ≡ Err x → Ok n ≡ Err x
    go true f = f
    go false f = let g : refusal reason.StopsDiffer 0 ≡ x = cc in let r = ap (λ (z : Refusal). z.reason) g ∙ h in cc

bad_place : (b : List ℕ) (r : Refusal) → judged_tables b ≡ Err r → r.reason ≡ reason.LabelBad → BadPlace b r.place
bad_place b r e h =
    let refused : TablesRefusal r = rw e at (judged-refusal b) in
    let same : r ≡ refusal reason.LabelBad r.place = ap₂ (λ (n : Reason) (s : ℕ). record { reason = n; place = r.place; stop = s }) h refused.one_place in
    let z = judged_bad b r.place (e ∙ ap Err same) in
    record { room = z.0; label = omega (arith, z.1.is, z.1.within, set_within z.0.contents z.1.real) }

-- ---- where the places stand

label_within : {b : List ℕ} {n : ℕ} (g : GoodFile b n) {k u v d a : ℕ} {p : Option ℕ} → LabelAt (tables_of b) k u v d a p → k < labels_of b
label_within g {u = u} (of_out x) = omega (arith, x.high, tables_within g outs u (omega (arith, x.owner, good_stops g)))
label_within g {v = v} (of_in x) = omega (arith, x.high, tables_within g ins v (omega (arith, x.owner, good_stops g)))

unsupported_label : {S : Service} {b : List ℕ} {n k : ℕ} → GoodFile b n → UnsupportedFirst S (tables_of b) k → k < labels_of b
unsupported_label {S} {b} {n} {k} g x = go (dec_lt k (labels_of b))
  where
    go : Dec (k < labels_of b) → k < labels_of b
    go (yes lt) = lt
    go (no ge) = absurd (x.fault (λ u v d a p l. absurd (ge (label_within g l))))

-- a gap is at a slot, and so at a run
gap_slot : (given : Given) (list : List ℕ) {T : Tables} {i v : ℕ} → GapFirst (service_of given list) T i v → i < slots_of given
gap_slot given list {T} {i} {v} x = go (dec_lt i (slots_of given))
  where
    go : Dec (i < slots_of given) → i < slots_of given
    go (yes lt) = lt
    go (no ge) = absurd (x.fault (λ u y d a r ne. absurd (ge (omega (arith, r.below, service_slots given list)))))

module _ (b : List ℕ) (given : Given) (list : List ℕ) (r : Refusal) where
  compared : GoodFile b given.stops → CheckedAs (service_of given list) (tables_of b) (Err r) → Places b given r
  compared g (unsupported_at k x e) =
      let f : r ≡ refusal reason.Unsupported k = cc in
      rw f (record {
        bad = λ h. cc;
        file = λ h. g;
        label = λ h. unsupported_label g x;
        run = λ h. cc;
        stop = λ h. cc;
      })
  compared g (gap_at i v x e) =
      let f : r ≡ gap_refusal (slot_run i) v = cc in
      rw f (record {
        bad = λ h. cc;
        file = λ h. cc;
        label = λ h. cc;
        run = λ h. slot_run_below given i (gap_slot given list x);
        stop = λ h. omega (arith, x.stop, good_stops g);
      })
  compared g (all_well x e) = absurd cc

  not_compared : Neither r.reason → (r.reason ≡ reason.LabelBad → judged_tables b ≡ Err r) → Places b given r
  not_compared n w = record {
    bad = λ h. bad_place b r (w h) h;
    file = λ h. absurd (n.no_label h);
    label = λ h. absurd (n.no_label h);
    run = λ h. absurd (n.no_gap h);
    stop = λ h. absurd (n.no_gap h);
  }

  answered : (j : Result ℕ Refusal) → NeitherIn j → ((n : ℕ) → j ≡ Ok n → GoodFile b given.stops) →
      ((x : Refusal) → j ≡ Err x → x.reason ≡ reason.LabelBad → judged_tables b ≡ Err x) → Answered j (service_of given list) (tables_of b) (Err r) →
      Places b given r
  answered (Err x) n g w e =
      let f : x ≡ r = cc in
      not_compared (subst (λ (y : Refusal). Neither y.reason) f n)
      (subst (λ (y : Refusal). y.reason ≡ reason.LabelBad → judged_tables b ≡ Err y) f (w x refl))
  answered (Ok m) n g w o = compared (g m refl) o

pub checked_places : (b : List ℕ) (given : Given) (list : List ℕ) (lent : ℕ) (r : Refusal) → Checked b given list lent (Err r) → Places b given r
checked_places b given list lent r c =
    answered b given list r (judged_both (judged_tables b) (judged_of given list lent work_room) given.stops)
    (neither_both (judged_tables b) (judged_of given list lent work_room) given.stops (neither_tables b) (neither_numbers given list lent work_room))
    (λ n e. let g = (both_good b given list lent n e).0 in subst (GoodFile b) g.same g.file)
    (both_bad (judged_tables b) (judged_of given list lent work_room) given.stops (neither_numbers given list lent work_room)) c
