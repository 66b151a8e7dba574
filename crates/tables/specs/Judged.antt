-- How the bytes of a tables file are judged: refusals 9, 10 and 11, or the stop count.
use Rattle.std.specs.Prelude as std
use Rattle.std.specs.Prelude.{ℕ, ◌+◌, ◌*◌, ◌-◌, List, Bool, true, false, cond, length, get_or, ltb, leb, eqb, Err, None, Ok, Result, Some}
use Rattle.std.proofs.Math.Option.{Option, none, some}
use Rattle.loops.specs.Unless.{unless}
use Rattle.loops.specs.FirstOf.{first_of}
use Rattle.kinds.specs.Limits.{most_labels}
use Rattle.kinds.specs.Refusals.{refusal}
use Rattle.kinds.specs.Kinds.{is_stop_count, label_of}
use Rattle.kinds.specs.declared.Label.{Label}
use Rattle.tables.specs.Format.{format_mark, header_bytes, entry_bytes}
use Rattle.tables.specs.File.{stops_of, owner_of, count_of, start_of, labels_of, place_of, label_at}
use Rattle.kinds.specs.declared.Reason.TheVariants as reason
use Rattle.kinds.specs.declared.Refusal.{Refusal}

-- "Within one set hubs never fall, and for one hub departures and arrivals both strictly rise": label l may come after label m
unfoldable pub follows : Label → Label → Bool
follows m l =
    cond (ltb l.hub m.hub) false
    (cond (ltb m.hub l.hub) true
    (cond (ltb m.dep l.dep) (ltb m.arr l.arr) false))

abbrev pub is_good : std.Option Label → Bool
is_good (Some l) = true
is_good None = false

-- label l, number i of its set, is good: by itself, and where it is not the first in how it follows the label m before it
unfoldable pub good_label : ℕ → ℕ → ℕ → Label → Label → Bool
good_label n owner i m l =
    cond (is_good (label_of n owner l.hub l.dep l.arr l.pivot)) (cond (eqb i 0) true (follows m l)) false

-- label i of a set, by its number, where it is not good; the first such label of a set; of all sets, in their order
unfoldable pub bad_label : List ℕ → ℕ → ℕ → Option ℕ
bad_label b set i =
    let k = start_of b set + i in
    unless (good_label (stops_of b) (owner_of set) i (label_at b (k - 1)) (label_at b k)) (some k) none

abbrev pub bad_in_set : List ℕ → ℕ → Option ℕ
bad_in_set b set = first_of (bad_label b set) (count_of b set)

abbrev pub first_bad : List ℕ → Option ℕ
first_bad b = first_of (bad_in_set b) (2 * stops_of b)

-- x, unless a label is bad
abbrev pub unless_bad : {A : Type 0} → Option ℕ → A → Result A Refusal
unless_bad none x = Ok x
unless_bad (some k) x = Err (refusal reason.LabelBad k)

-- 10: "contents cut short, over 8,192 labels, or length differs"; 11: "label not good", and the first such label is the place
unfoldable pub judged_contents : List ℕ → Result ℕ Refusal
judged_contents b =
    let n = stops_of b in
    unless (leb (header_bytes + entry_bytes * n) (length b)) (Err (refusal reason.TablesLength 0))
    (unless (leb (labels_of b) most_labels) (Err (refusal reason.TablesLength 0))
    (unless (eqb (length b) (place_of n (labels_of b))) (Err (refusal reason.TablesLength 0))
    (unless_bad (first_bad b) n)))

-- 9: "shorter than 2 bytes, byte 0 not 1, or n = 0" (a byte is a stop count unless it is 0)
unfoldable pub judged_tables : List ℕ → Result ℕ Refusal
judged_tables b =
    unless (leb header_bytes (length b)) (Err (refusal reason.NoTables 0))
    (unless (eqb (get_or b 0 0) format_mark) (Err (refusal reason.NoTables 0))
    (unless (is_stop_count (stops_of b)) (Err (refusal reason.NoTables 0))
    (judged_contents b)))
