-- The turns of the loops that judge the labels.
use Rattle.std.specs.Prelude.{ℕ, zero, suc, ◌+◌, ◌*◌, ◌-◌, ◌≤◌, ◌<◌, ◌≡◌, refl, List, Bool, true, false, length, Err, Ok}
use Rattle.std.proofs.Math.Path.{ap}
use Rattle.std.proofs.Common.{sym, ◌∙◌, arith}
use Rattle.std.proofs.Math.Option.{Option, none, some}
use borrow.Author.Tests.{le-leb, lt-leb, eq-eqb, ne_eqb}
use Rattle.loops.specs.FirstOf.{first_of}
use Rattle.loops.specs.FirstOfLaws.{first_of_none, first_of_more, first_of_here}
use Rattle.kinds.specs.Limits.{most_labels}
use Rattle.kinds.specs.Refusals.{refusal}
use Rattle.kinds.specs.declared.Label.{Label}
use Rattle.kinds.specs.declared.Refusal.{Refusal}
use Rattle.tables.specs.Format.{header_bytes, entry_bytes}
use Rattle.tables.specs.Turns.{last_of, GoodTo}
use Rattle.tables.specs.File.{stops_of, owner_of, count_of, start_of, labels_of, place_of, label_at}
use Rattle.tables.specs.FileLaws.{set_within}
use Rattle.tables.specs.Judged.{follows, good_label, bad_label, bad_in_set, first_bad, unless_bad, judged_contents}
use Rattle.kinds.specs.declared.Reason.TheVariants as reason

module _ {A : Type 0} (x : A) where
  pub read_good : (o : Option ℕ) (y : A) → unless_bad o x ≡ Ok y → o ≡ none
  read_good none y e = refl
  read_good (some k) y e = cc

  pub read_bad : (o : Option ℕ) (r : Refusal) → unless_bad o x ≡ Err r → (k : ℕ) × (o ≡ some k) × (r ≡ refusal reason.LabelBad k)
  read_bad none r e = cc
  read_bad (some k) r e = (k, refl, cc)

  -- a turn of the loop over the sets
  module _ (b : List ℕ) (set : ℕ) where
    pub sets_more : (y : A) → first_of (bad_in_set b) set ≡ none → unless_bad (bad_in_set b set) x ≡ Ok y → first_of (bad_in_set b) (set + 1) ≡ none
    sets_more y clear e = first_of_more _ set clear (read_good _ y e)

    pub bad_set : (r : Refusal) → set < 2 * stops_of b → first_of (bad_in_set b) set ≡ none → unless_bad (bad_in_set b set) x ≡ Err r →
        unless_bad (first_bad b) x ≡ Err r
    bad_set r lt clear e = let k = read_bad _ r e in ap (λ o. unless_bad o x) (first_of_here _ (2 * stops_of b) set lt clear k.1) ∙ ap Err (sym k.2)

pub good_to_none : {b : List ℕ} {set h d a : ℕ} → GoodTo b set 0 h d a
good_to_none =
    record { clear = first_of_none _; hub = λ lt. absurd (omega arith); dep = λ lt. absurd (omega arith); arr = λ lt. absurd (omega arith) }

-- what the loop holds does for the label before
same : {b : List ℕ} {set h d a : ℕ} (i : ℕ) → GoodTo b set i h d a →
    good_label (stops_of b) (owner_of set) i (label_at b (start_of b set + i - 1)) (label_at b (start_of b set + i)) ≡
    good_label (stops_of b) (owner_of set) i (last_of h d a) (label_at b (start_of b set + i))
unfolding good_label follows
same zero p = refl
same (suc i) p = rw (p.hub (omega arith), p.dep (omega arith), p.arr (omega arith))

-- a turn of the loop, by what the code holds: the stop count, the set's start, the label that was read, and how it was judged
module _ {b : List ℕ} {set i h d a n start : ℕ} {l : Label} {good : Bool} (p : GoodTo b set i h d a) (en : stops_of b ≡ n) (es : start ≡ start_of b set)
    (el : l ≡ label_at b (start + i)) (eg : good ≡ good_label n (owner_of set) i (last_of h d a) l) where
  judged : good_label (stops_of b) (owner_of set) i (label_at b (start_of b set + i - 1)) (label_at b (start_of b set + i)) ≡ good
  judged = same i p ∙ rw (← es, ← el, en) (sym eg)

  this : l ≡ label_at b (start_of b set + (i + 1) - 1)
  this = el ∙ ap (label_at b) (omega (arith, es))

  pub good_to_more : good ≡ true → GoodTo b set (i + 1) l.hub l.dep l.arr
  unfolding bad_label
  good_to_more e =
      record {
        clear = first_of_more _ i p.clear (rw (judged, e));
        hub = λ lt. ap (λ (x : Label). x.hub) this;
        dep = λ lt. ap (λ (x : Label). x.dep) this;
        arr = λ lt. ap (λ (x : Label). x.arr) this;
      }

  pub good_to_bad : (count : ℕ) → i < count → good ≡ false → first_of (bad_label b set) count ≡ some (start + i)
  unfolding bad_label
  good_to_bad count lt e = first_of_here _ count i lt p.clear (rw (judged, e, es))

  pub bad_here : {A : Type 0} (x : A) {r : Refusal} {count : ℕ} → count ≡ count_of b set → i < count → good ≡ false →
      r ≡ refusal reason.LabelBad (start + i) → Err r ≡ unless_bad (bad_in_set b set) x
  bad_here x {count = count} c lt e f = rw (← c, good_to_bad count lt e, f)

-- what the loops over the labels and over the sets go by
pub ruleset label_turns = (first_of_none, good_to_more, bad_here)

pub ruleset set_turns = (set_within, first_of_none, sets_more, bad_set)

-- the tests behind the header, one after the other
module _ (b : List ℕ) where
  pub cut_short : length b < header_bytes + entry_bytes * stops_of b → judged_contents b ≡ Err (refusal reason.TablesLength 0)
  unfolding judged_contents
  cut_short lt = rw (lt-leb _ _ lt)

  module _ (fits : header_bytes + entry_bytes * stops_of b ≤ length b) where
    pub over_limit_lem : most_labels < labels_of b → judged_contents b ≡ Err (refusal reason.TablesLength 0)
    unfolding judged_contents
    over_limit_lem lt = rw (le-leb _ _ fits, lt-leb _ _ lt)

    module _ (few : labels_of b ≤ most_labels) where
      pub length_differs : (length b ≡ place_of (stops_of b) (labels_of b) → ⊥) → judged_contents b ≡ Err (refusal reason.TablesLength 0)
      unfolding judged_contents
      length_differs ne = rw (le-leb _ _ fits, le-leb _ _ few, ne_eqb _ _ ne)

      pub by_labels : {o : Option ℕ} → length b ≡ place_of (stops_of b) (labels_of b) → first_bad b ≡ o → judged_contents b ≡ unless_bad o (stops_of b)
      unfolding judged_contents
      by_labels e f = rw (le-leb _ _ fits, le-leb _ _ few, eq-eqb _ _ e, f)
