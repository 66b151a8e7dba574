-- Tables are refused by 9, 10 or 11; and 11 names a label that there is, that is not good, and before which every label is good.
use Rattle.std.specs.Prelude.{ℕ, ◌+◌, ◌*◌, ◌<◌, ◌≡◌, refl, List, length, get_or, leb, eqb, Err, Ok, Result}
use Rattle.std.proofs.Common.{ap, subst, arith, leb-true, eqb-true}
use Rattle.std.proofs.Math.Option.{Option, none, some}
use Rattle.std.proofs.Math.Decide.{dec_lt}
use Rattle.loops.specs.ChainLaws.{either, past, stays}
use Rattle.loops.specs.FirstOfLaws.{first_of_clear, first_of_found}
use Rattle.loops.specs.FirstOf.{FoundAt}
use Rattle.kinds.specs.Limits.{most_labels}
use Rattle.kinds.specs.Refusals.{number_of, refusal}
use Rattle.kinds.specs.Kinds.{is_stop_count}
use Rattle.kinds.specs.KindsLaws.{stop_count}
use Rattle.tables.specs.Format.{format_mark, header_bytes, entry_bytes}
use Rattle.tables.specs.File.{stops_of, owner_of, count_of, start_of, labels_of, place_of}
use Rattle.tables.specs.Judged.{good_label, bad_label, bad_in_set, first_bad, unless_bad, judged_contents, judged_tables}
use Rattle.tables.specs.FileLaws.{start_rises, start_more}
use Rattle.tables.specs.Good.{Room}
use Rattle.tables.specs.Refused.{BadFirst, TablesRefusal, IfRefused}
use Rattle.tables.specs.GoodLaws.{entry_good, good_entry}
use Rattle.kinds.specs.declared.Reason.TheVariants as reason
use Rattle.kinds.specs.declared.Refusal.{Refusal}

-- ---- which refusals

refused_nine : TablesRefusal (refusal reason.NoTables 0)
refused_nine = record { least = omega arith; most = omega arith; one_place = refl }

refused_ten : TablesRefusal (refusal reason.TablesLength 0)
refused_ten = record { least = omega arith; most = omega arith; one_place = refl }

refused_bad : (o : Option ℕ) (n : ℕ) → IfRefused (unless_bad o n)
refused_bad none n = tt
refused_bad (some k) n = record { least = omega arith; most = omega arith; one_place = refl }

refused_contents : (b : List ℕ) → IfRefused (judged_contents b)
unfolding judged_contents
refused_contents b =
    either IfRefused (leb (header_bytes + entry_bytes * stops_of b) (length b))
    (either IfRefused (leb (labels_of b) most_labels)
    (either IfRefused (eqb (length b) (place_of (stops_of b) (labels_of b))) (refused_bad (first_bad b) (stops_of b)) refused_ten) refused_ten)
    refused_ten

pub judged-refusal : (b : List ℕ) → IfRefused (judged_tables b)
unfolding judged_tables
judged-refusal b =
    either IfRefused (leb header_bytes (length b))
    (either IfRefused (eqb (get_or b 0 0) format_mark)
    (either IfRefused (is_stop_count (stops_of b)) (refused_contents b) refused_nine) refused_nine) refused_nine

-- ---- the label that is not good

number_told : Result ℕ Refusal → ℕ
number_told (Ok n) = 0
number_told (Err r) = number_of r.reason

place_told : Result ℕ Refusal → ℕ
place_told (Ok n) = 0
place_told (Err r) = r.place

by_bad : (o : Option ℕ) (n k : ℕ) → unless_bad o n ≡ Err (refusal reason.LabelBad k) → o ≡ some k
unfolding place_told
by_bad none n k e = cc
by_bad (some m) n k e = ap some (ap place_told e)

-- the label that was found in a set
in_set : (b : List ℕ) (set k : ℕ) → FoundAt (bad_label b set) (count_of b set) k →
    (i : ℕ) × (i < count_of b set) × (k ≡ start_of b set + i) × (bad_label b set i ≡ none → ⊥) × ((j : ℕ) → j < i → bad_label b set j ≡ none)
unfolding bad_label
in_set b set k f =
    let z = past (good_label (stops_of b) (owner_of set) f.at _ _) f.has (λ x. cc) in
    let h = z.1 in
    (f.at, f.below, cc, λ x. cc, f.clear)

bad_first : (b : List ℕ) (k : ℕ) → first_bad b ≡ some k → BadFirst b (stops_of b) k
bad_first b k e = go (first_of_found (bad_in_set b) (2 * stops_of b) e)
  where
    go : FoundAt (bad_in_set b) (2 * stops_of b) k → BadFirst b (stops_of b) k
    go f =
        let x = in_set b f.at k (first_of_found (bad_label b f.at) (count_of b f.at) f.has) in
        record {
          set = f.at;
          i = x.0;
          real = f.below;
          within = x.1;
          is = x.2;
          fault = λ g. x.3 (good_entry b f.at x.0 g);
          before = λ t j lt h m. entry_good b t j (clear x t j h m (dec_lt t f.at) (dec_lt f.at t));
        }
      where
        clear : (x : (i : ℕ) × (i < count_of b f.at) × (k ≡ start_of b f.at + i) × (bad_label b f.at i ≡ none → ⊥) ×
            ((j : ℕ) → j < i → bad_label b f.at j ≡ none)) →
            (t j : ℕ) → j < count_of b t → start_of b t + j < k → Dec (t < f.at) → Dec (f.at < t) → bad_label b t j ≡ none
        clear x t j h m (yes lt) d = first_of_clear (bad_label b t) (count_of b t) j (f.clear t lt) h
        clear x t j h m (no ge) (yes gt) = absurd (omega (arith, start_more b f.at, start_rises b t (f.at + 1) (omega arith), x.1, x.2))
        clear x t j h m (no ge) (no le) =
            let s : f.at ≡ t = omega arith in
            subst (λ (y : ℕ). bad_label b y j ≡ none) s (x.4 j (omega (arith, ap (start_of b) s, x.2)))

pub judged_bad : (b : List ℕ) (k : ℕ) → judged_tables b ≡ Err (refusal reason.LabelBad k) → Room b (stops_of b) × BadFirst b (stops_of b) k
unfolding judged_tables judged_contents number_told
judged_bad b k e =
    let z₁ = stays (leb header_bytes (length b)) e (λ x. let y = ap number_told x in omega arith) in
    let z₂ = stays (eqb (get_or b 0 0) format_mark) z₁.1 (λ x. let y = ap number_told x in omega arith) in
    let z₃ = stays (is_stop_count (stops_of b)) z₂.1 (λ x. let y = ap number_told x in omega arith) in
    let z₄ = stays (leb (header_bytes + entry_bytes * stops_of b) (length b)) z₃.1 (λ x. let y = ap number_told x in omega arith) in
    let z₅ = stays (leb (labels_of b) most_labels) z₄.1 (λ x. let y = ap number_told x in omega arith) in
    let z₆ = stays (eqb (length b) (place_of (stops_of b) (labels_of b))) z₅.1 (λ x. let y = ap number_told x in omega arith) in
    let s = stop_count (stops_of b) z₃.0 in (
      record {
        contents = record { stops = refl; few = s.1; fits = leb-true _ _ z₄.0 };
        few_labels = leb-true _ _ z₅.0;
        exact = eqb-true _ _ z₆.0;
      },
      bad_first b k (by_bad (first_bad b) (stops_of b) k z₆.1),
    )
