-- Good tables: a label is judged good exactly when it is, labels of one set rise, and the file's tables are good tables.
use Rattle.std.specs.Prelude as std
use Rattle.std.specs.Prelude.{ℕ, zero, suc, ◌+◌, ◌*◌, ◌-◌, ◌≤◌, ◌<◌, refl, List, Bool, true, false, cond, length, get_or, ltb, leb, eqb, None, Ok, Some}
use Rattle.std.proofs.Math.Path.{◌≡◌}
use Rattle.std.proofs.Common.{sym, subst, ◌∙◌, arith, lt-ltb, le-ltb, le-leb, eq-eqb, ne_eqb, ltb-true, ltb-false, leb-true, eqb-true}
use Rattle.std.proofs.Math.Option.{Option, none, some}
use Rattle.loops.specs.ChainLaws.{past, stays}
use Rattle.loops.specs.FirstOfLaws.{first_of_clear, first_of_all}
use Rattle.kinds.specs.Limits.{most_labels}
use Rattle.kinds.specs.Kinds.{label_of, is_stop_count}
use Rattle.kinds.specs.KindsLaws.{count_is, stop_count, label_good, label_is}
use Rattle.kinds.specs.declared.Label.{Label}
use Rattle.tables.specs.Format.{format_mark, header_bytes, entry_bytes}
use Rattle.tables.specs.File.{stops_of, owner_of, count_of, start_of, labels_of, place_of, label_at}
use Rattle.tables.specs.Judged.{follows, is_good, good_label, bad_label, bad_in_set, first_bad, unless_bad, judged_contents, judged_tables}
use Rattle.tables.specs.Good.{After, higher, later, LabelGood, GoodEntry, GoodFile}

-- ---- one label

read_is_good : (x : std.Option Label) → is_good x ≡ true → (l : Label) × (x ≡ Some l)
read_is_good (Some l) e = (l, refl)
read_is_good None e = cc

alone_good : (n owner : ℕ) (l : Label) → is_good (label_of n owner l.hub l.dep l.arr l.pivot) ≡ true → LabelGood n owner l
alone_good n owner l e = let z = read_is_good _ e in (label_good _ _ _ _ _ _ z.0 z.1).0

good_alone : (n owner : ℕ) (l : Label) → LabelGood n owner l → is_good (label_of n owner l.hub l.dep l.arr l.pivot) ≡ true
good_alone n owner l g = rw (label_is n owner l.hub l.dep l.arr l.pivot g)

-- ---- one label after another

follows_after : (m l : Label) → follows m l ≡ true → After m l
unfolding follows
follows_after m l e =
    let z₁ = past (ltb l.hub m.hub) e (λ x. cc) in
    go (ltb m.hub l.hub) (ltb-true m.hub l.hub) (ltb-false m.hub l.hub) (ltb-false l.hub m.hub z₁.0) z₁.1
  where
    go : (b : Bool) → (b ≡ true → m.hub < l.hub) → (b ≡ false → l.hub ≤ m.hub) → m.hub ≤ l.hub →
        cond b true (cond (ltb m.dep l.dep) (ltb m.arr l.arr) false) ≡ true → After m l
    go true h k le f = higher (h refl)
    go false h k le f =
        let z₂ = stays (ltb m.dep l.dep) f (λ x. cc) in
        later (omega (arith, k refl)) (ltb-true _ _ z₂.0) (ltb-true _ _ z₂.1)

after_follows : (m l : Label) → After m l → follows m l ≡ true
unfolding follows
after_follows m l (higher h) = rw (le-ltb l.hub m.hub (omega arith), lt-ltb m.hub l.hub h)
after_follows m l (later e h k) =
    rw (le-ltb l.hub m.hub (omega arith), le-ltb m.hub l.hub (omega arith), lt-ltb m.dep l.dep h, lt-ltb m.arr l.arr k)

pub after_trans : (k m l : Label) → After k m → After m l → After k l
after_trans k m l (higher g) (higher h) = higher (omega arith)
after_trans k m l (higher g) (later e h i) = higher (omega arith)
after_trans k m l (later d e f) (higher h) = higher (omega arith)
after_trans k m l (later d e f) (later g h i) = later (d ∙ g) (omega arith) (omega arith)

pub after_irrefl : (l : Label) → ¬ (After l l)
after_irrefl l (higher h) = omega arith
after_irrefl l (later e h k) = omega arith

-- ---- a label of a set

good_says : (n owner i : ℕ) (m l : Label) → good_label n owner i m l ≡ true → LabelGood n owner l × (0 < i → After m l)
unfolding good_label
good_says n owner i m l e =
    let z = stays (is_good (label_of n owner l.hub l.dep l.arr l.pivot)) e (λ x. cc) in
    (alone_good n owner l z.0, λ lt. follows_after m l (rw (ne_eqb i 0 (λ h. omega arith)) at z.1))

says_good : (n owner i : ℕ) (m l : Label) → LabelGood n owner l → (0 < i → After m l) → good_label n owner i m l ≡ true
unfolding good_label
says_good n owner zero m l g h = rw (good_alone n owner l g)
says_good n owner (suc i) m l g h = rw (good_alone n owner l g, ne_eqb (suc i) 0 (λ e. omega arith), after_follows m l (h (omega arith)))

module _ (b : List ℕ) (set i : ℕ) where
  pub entry_good : bad_label b set i ≡ none → GoodEntry b (stops_of b) set i
  unfolding bad_label
  entry_good e =
      let t = stays (good_label (stops_of b) (owner_of set) i (label_at b (start_of b set + i - 1)) (label_at b (start_of b set + i))) e
      (λ x. cc) in
      let z = good_says (stops_of b) (owner_of set) i _ _ t.0 in
      record { alone = z.0; after = z.1 }

  pub good_entry : GoodEntry b (stops_of b) set i → bad_label b set i ≡ none
  unfolding bad_label
  good_entry g = rw (says_good (stops_of b) (owner_of set) i _ _ g.alone g.after)

-- ---- the file

by_good : (o : Option ℕ) (m n : ℕ) → unless_bad o m ≡ Ok n → (o ≡ none) × (m ≡ n)
by_good none m n e = (refl, cc)
by_good (some k) m n e = cc

-- every label of good tables is good, and they have just the room that they need
pub judged_good : (b : List ℕ) (n : ℕ) → judged_tables b ≡ Ok n → GoodFile b n
unfolding judged_tables judged_contents
judged_good b n e =
    let z₁ = stays (leb header_bytes (length b)) e (λ x. cc) in
    let z₂ = stays (eqb (get_or b 0 0) format_mark) z₁.1 (λ x. cc) in
    let z₃ = stays (is_stop_count (stops_of b)) z₂.1 (λ x. cc) in
    let z₄ = stays (leb (header_bytes + entry_bytes * stops_of b) (length b)) z₃.1 (λ x. cc) in
    let z₅ = stays (leb (labels_of b) most_labels) z₄.1 (λ x. cc) in
    let z₆ = stays (eqb (length b) (place_of (stops_of b) (labels_of b))) z₅.1 (λ x. cc) in
    let z₇ = by_good (first_bad b) (stops_of b) n z₆.1 in
    let s = stop_count (stops_of b) z₃.0 in
    subst (GoodFile b) z₇.1 (record {
      mark = eqb-true _ _ z₂.0;
      some = s.0;
      room = record {
        contents = record { stops = refl; few = s.1; fits = leb-true _ _ z₄.0 };
        few_labels = leb-true _ _ z₅.0;
        exact = eqb-true _ _ z₆.0;
      };
      labels = λ set i lt h.
          entry_good b set i (first_of_clear (bad_label b set) (count_of b set) i (first_of_clear (bad_in_set b) (2 * stops_of b) set z₇.0 lt) h);
    })

good_judged_own : (b : List ℕ) → GoodFile b (stops_of b) → judged_tables b ≡ Ok (stops_of b)
unfolding judged_tables judged_contents
good_judged_own b g =
    rw (
      le-leb header_bytes (length b) (omega arith),
      eq-eqb (get_or b 0 0) format_mark g.mark,
      count_is (stops_of b) g.some g.room.contents.few,
      le-leb (header_bytes + entry_bytes * stops_of b) (length b) g.room.contents.fits,
      le-leb (labels_of b) most_labels g.room.few_labels,
      eq-eqb (length b) (place_of (stops_of b) (labels_of b)) g.room.exact,
      first_of_all (bad_in_set b) (2 * stops_of b) (λ set lt. first_of_all (bad_label b set) (count_of b set)
          (λ i h. good_entry b set i (g.labels set i lt h))),
    )

-- and bytes that are so are judged good
pub good_judged : (b : List ℕ) (n : ℕ) → GoodFile b n → judged_tables b ≡ Ok n
good_judged b n g =
    let e = g.room.contents.stops in
    subst (λ (m : ℕ). judged_tables b ≡ Ok m) e (good_judged_own b (subst (GoodFile b) (sym e) g))
