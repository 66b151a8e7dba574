-- Laws of files that are longer than any may be: what they are refused by, their first two bytes say.
use Rattle.std.specs.Prelude.{ℕ, ◌+◌, ◌*◌, ◌≤◌, ◌<◌, ◌≡◌, refl, List, Bool, true, false, length, get_or, eqb, leb, Err, Result}
use Rattle.std.proofs.Common.{sym, ◌∙◌, arith, le-leb, ne_eqb, leb-true}
use Rattle.loops.specs.Unless.{unless}
use Rattle.kinds.specs.Limits.{most_labels}
use Rattle.kinds.specs.Refusals.{refusal}
use Rattle.kinds.specs.Kinds.{is_stop_count}
use Rattle.kinds.specs.KindsLaws.{stop_count}
use Rattle.tables.specs.Format.{format_mark, header_bytes, entry_bytes}
use Rattle.tables.specs.File.{stops_of, labels_of, place_of, file_room}
use Rattle.tables.specs.Judged.{judged_contents, judged_tables}
use Rattle.tables.specs.Refused.{long_tables}
use Rattle.kinds.specs.declared.Reason.TheVariants as reason
use Rattle.kinds.specs.declared.Refusal.{Refusal}

long_contents : (b : List ℕ) → is_stop_count (stops_of b) ≡ true → file_room < length b → judged_contents b ≡ Err (refusal reason.TablesLength 0)
unfolding judged_contents
long_contents b e h =
    let s = stop_count (stops_of b) e in
    rw (le-leb (header_bytes + entry_bytes * stops_of b) (length b) (omega (arith, s.1)))
    (go (leb (labels_of b) most_labels) _ (leb-true (labels_of b) most_labels))
  where
    go : (c : Bool) (rest : Result ℕ Refusal) → (c ≡ true → labels_of b ≤ most_labels) →
        unless c (Err (refusal reason.TablesLength 0))
        (unless (eqb (length b) (place_of (stops_of b) (labels_of b))) (Err (refusal reason.TablesLength 0)) rest) ≡ Err (refusal reason.TablesLength 0)
    go false rest f = refl
    go true rest f =
        let s = stop_count (stops_of b) e in
        rw (ne_eqb (length b) (place_of (stops_of b) (labels_of b)) (λ q. omega (arith, f refl, s.1)))

pub long_tables_lem : (b : List ℕ) → file_room < length b → judged_tables b ≡ long_tables b
unfolding judged_tables
long_tables_lem b h = rw (le-leb header_bytes (length b) (omega arith)) (go (is_stop_count (stops_of b)) refl)
  where
    go : (c : Bool) → is_stop_count (stops_of b) ≡ c →
        unless (eqb (get_or b 0 0) format_mark) (Err (refusal reason.NoTables 0))
        (unless (is_stop_count (stops_of b)) (Err (refusal reason.NoTables 0)) (judged_contents b)) ≡ long_tables b
    go true e = rw (long_contents b e h)
    go false e = rw e

-- so any two that begin alike are refused alike
pub long_alike : (b c : List ℕ) → file_room < length b → file_room < length c → get_or b 0 0 ≡ get_or c 0 0 → stops_of b ≡ stops_of c →
    judged_tables b ≡ judged_tables c
long_alike b c h g e f = long_tables_lem b h ∙ rw (e, f) (sym (long_tables_lem c g))
