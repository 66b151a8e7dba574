-- What is known of a line that was read.
use Rattle.std.specs.Prelude.{ℕ, ◌+◌, ◌-◌, ◌≤◌, ◌<◌, ◌≡◌, List, Bool, true, false, cond, eqb, Err, Ok, Result}
use Rattle.std.proofs.Math.Path.{refl}
use Rattle.std.proofs.Math.Bool.{not}
use Rattle.std.proofs.Common.{arith}
use Rattle.std.proofs.Math.ListN.{length}
use Rattle.std.proofs.Math.Dec.{ltb, leb}
use borrow.Author.Tests.{leb-false, ltb-true, ltb-false, not-false}
use Rattle.loops.specs.ChainLaws.{past}
use Rattle.kinds.specs.Limits.{most_stops, most_runs}
use Rattle.kinds.specs.Kinds.{run_of}
use Rattle.kinds.specs.KindsLaws.{run_good}
use Rattle.kinds.specs.declared.Code.{Code}
use Rattle.kinds.specs.declared.Run.{Run}
use Rattle.words.specs.Words.{space, seek, begins_b, is_word_b, is_code}
use Rattle.words.specs.WordsLaws.{seek_low, begins_long}
use Rattle.lookup.specs.Lookup.{stop_named}
use Rattle.lines.specs.Lines.{numbers_at, fielded, fields_at, read_stop_line, judged, run_fields, with_fields, read_run_line}
use Rattle.lines.specs.Lines.{run_word, stop_word, end_word, line_of, FieldsWithin}
use Rattle.lines.specs.Fine.{FineStop, FineRun, FineLine}
use Rattle.lines.specs.declared.Field.{Field}
use Rattle.lines.specs.declared.Fields.{Fields}
use Rattle.lines.specs.declared.Line.{Line}
use Rattle.lines.specs.declared.Line.TheVariants as line
use Rattle.kinds.specs.declared.Reason.{Reason}
use Rattle.lines.specs.declared.Numbers.{Numbers}

fielded_good : (from to : Field) (x : Result Numbers Reason) (f : Fields) → fielded from to x ≡ Ok f → (f.from ≡ from) × (f.to ≡ to)
fielded_good from to (Ok x) f h = (cc, cc)
fielded_good from to (Err n) f h = cc

pub fields_within : (s : List ℕ) (a e : ℕ) (f : Fields) → fields_at s a e ≡ Ok f → a ≤ e → e ≤ length s → FieldsWithin s f
unfolding fields_at
fields_within s a e f h low high =
    let first : ℕ = seek space s a e in
    let second : ℕ = seek space s (first + 1) e in
    let z₁ = past (leb e first) h (λ x. cc) in
    let z₂ = past (leb e second) z₁.1 (λ x. cc) in
    let g = fielded_good (record { at = a; end = first }) (record { at = first + 1; end = second }) (numbers_at s (second + 1) e) f z₂.1 in
    let before : first < e = leb-false e first z₁.0 in
    let before₂ : second < e = leb-false e second z₂.0 in
    rw (g.0, g.1)
    (record {
      from_low = seek_low space s a e;
      from_high = omega arith;
      to_low = seek_low space s (first + 1) e;
      to_high = omega arith;
    })

-- what holds of both answers of a test holds of its answer
either : (P : Result Line Reason → Type 0) (b : Bool) {x y : Result Line Reason} → (b ≡ true → P x) → (b ≡ false → P y) → P (cond b x y)
either P true f g = f refl
either P false f g = g refl

module _ (s codes : List ℕ) (stops runs e : ℕ) where
  judged_fine : (from to dep arr trip : ℕ) (x : Result Run Reason) → run_of stops from to dep arr trip ≡ x → FineLine s codes stops runs e (judged runs x)
  judged_fine from to dep arr trip (Err n) h = tt
  judged_fine from to dep arr trip (Ok r) h =
      let g = run_good stops from to dep arr trip r h in
      either (FineLine s codes stops runs e) (leb most_runs runs) (λ t. tt)
      (λ t. record { few = leb-false most_runs runs t; good = rw g.1 g.0 })

  fields_fine : (x : Result Fields Reason) → FineLine s codes stops runs e (with_fields x (run_fields s codes stops runs))
  unfolding run_fields
  fields_fine (Err n) = tt
  fields_fine (Ok f) = judged_fine _ _ _ _ _ _ refl

  run_fine : (a : ℕ) → FineLine s codes stops runs e (read_run_line s codes stops runs a e)
  unfolding read_run_line
  run_fine a = either (FineLine s codes stops runs e) (eqb stops 0) (λ t. tt) (λ t. fields_fine (fields_at s a e))

  stop_fine : (a : ℕ) → a ≤ e → FineLine s codes stops runs e (read_stop_line s codes stops runs a e)
  unfolding read_stop_line
  stop_fine a h =
      either (FineLine s codes stops runs e) (ltb 0 runs) (λ t. tt)
      (λ (t₁ : ltb 0 runs ≡ false). either (FineLine s codes stops runs e) (not (is_code s a (e - a))) (λ t. tt)
      (λ (t₂ : not (is_code s a (e - a)) ≡ false). either (FineLine s codes stops runs e) (ltb (stop_named s codes stops s a (e - a)) stops) (λ t. tt)
      (λ (t₃ : ltb (stop_named s codes stops s a (e - a)) stops ≡ false). either (FineLine s codes stops runs e) (leb most_stops stops) (λ t. tt)
      (λ (t₄ : leb most_stops stops ≡ false). (
        omega (arith, ltb-false 0 runs t₁),
        record { few = leb-false most_stops stops t₄; ends = omega arith; is_code_bytes = not-false _ t₂; new = ltb-false _ _ t₃ },
      )))))

  pub line_fine : (a : ℕ) → a ≤ e → FineLine s codes stops runs e (line_of s codes stops runs a e)
  unfolding line_of
  line_fine a h =
      either (FineLine s codes stops runs e) (begins_b s a e run_word) (λ t. run_fine (a + length run_word))
      (λ t. either (FineLine s codes stops runs e) (begins_b s a e stop_word)
      (λ (t₂ : begins_b s a e stop_word ≡ true). stop_fine (a + length stop_word) (omega (arith, begins_long s a e stop_word t₂)))
      (λ t₂. either (FineLine s codes stops runs e) (is_word_b s a e end_word)
      (λ t₃. either (FineLine s codes stops runs e) (ltb 0 stops) (λ t₄. ltb-true 0 stops t₄) (λ t₄. tt))
      (λ t₃. tt)))

  -- a stop line, a run line
  pub stop_known : (a : ℕ) (c : Code) → a ≤ e → line_of s codes stops runs a e ≡ Ok (line.Stop c) → FineStop s codes stops e c
  stop_known a c h l = (rw l at (line_fine a h)).1

  pub run_known : (a : ℕ) (r : Run) → a ≤ e → line_of s codes stops runs a e ≡ Ok (line.Run r) → FineRun stops runs r
  run_known a r h l = rw l at (line_fine a h)
