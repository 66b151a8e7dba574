-- Laws of the start: what the input is read as, and what is known of what was read and built.
use Rattle.std.specs.Prelude.{ℕ, ◌≤◌, ◌<◌, List, Bool, cond, take, ltb, Err, Ok, Result}
use Rattle.std.proofs.Math.Path.{◌≡◌, refl}
use Rattle.std.proofs.Common.{sym, ap, subst, subst₂, ◌∙◌, arith, lt-ltb, le-ltb, ltb-false}
use Rattle.std.proofs.Math.Bool.{true, false}
use Rattle.std.proofs.Math.ListN.{length}
use Rattle.kinds.specs.Limits.{most_input, runs_room}
use Rattle.timetable.specs.Numbers.{given_of, GoodNumbers}
use Rattle.reader.specs.declared.Counts.{Counts}
use Rattle.reader.specs.Text.{ReadOutcome, bad, read_text, answer_of, runs_of, codes_of, GoodRead}
use Rattle.reader.specs.TextLaws.{read_good}
use Rattle.askline.specs.Input.{timetable_end}
use Rattle.kinds.specs.declared.Refusal.{Refusal}
use Rattle.builder.specs.Build.{BuildOf, success}
use Rattle.journey_lines.specs.declared.Stage.TheVariants.{Refused, Asks}
use Rattle.journey_lines.specs.Output.{read_input, StartOf, unbuilt, built}
use Rattle.kinds.specs.declared.Reason.TheVariants as reason
use Rattle.builder.specs.declared.Built.{Built}

module _ (t : List ℕ) (runs codes : ℕ) where
  pub input_long : most_input < length t → read_input t runs codes ≡ bad reason.OverLimit 0
  unfolding read_input
  input_long h = rw (lt-ltb _ _ h) refl

  pub input_held : length t ≤ most_input → read_input t runs codes ≡ read_text (take (timetable_end t) t) runs codes
  unfolding read_input
  input_held h = rw (le-ltb _ _ h) refl

  -- an input that was read is one that the program holds
  pub read_held : (k : Counts) → answer_of (read_input t runs codes) ≡ Ok k → length t ≤ most_input
  unfolding read_input
  read_held k e = go (ltb most_input (length t)) (ltb-false most_input (length t)) e
    where
      go : (b : Bool) → (b ≡ false → length t ≤ most_input) →
          answer_of (cond b (bad reason.OverLimit 0) (read_text (take (timetable_end t) t) runs codes)) ≡ Ok k →
          length t ≤ most_input
      go true f g = cc
      go false f g = f refl

  -- and its numbers and codes are good
  pub input_good : (k : Counts) → answer_of (read_input t runs codes) ≡ Ok k →
      GoodRead (take (timetable_end t) t) runs codes k.stops k.runs (runs_of (read_input t runs codes) runs) (codes_of (read_input t runs codes) codes)
  input_good k e =
      let i = input_held (read_held k e) in
      subst (λ (o : ReadOutcome). GoodRead (take (timetable_end t) t) runs codes k.stops k.runs (runs_of o runs) (codes_of o codes)) (sym i)
      (read_good (take (timetable_end t) t) runs codes k (sym e ∙ ap answer_of i)).0

  -- they are those of a timetable
  pub input_numbers : runs_room ≤ runs → (k : Counts) → answer_of (read_input t runs codes) ≡ Ok k →
      GoodNumbers (given_of k.stops k.runs) (runs_of (read_input t runs codes) runs)
  input_numbers room k e =
      let g = input_good k e in
      record {
        some = (read_good (take (timetable_end t) t) runs codes k (sym e ∙ ap answer_of (input_held (read_held k e)))).1;
        few = g.few;
        few_runs = g.few_runs;
        long = omega (arith, g.few_runs, g.numbers_long);
        runs = g.good;
      }

-- the start, from what the reader and the builder answered
module _ (t : List ℕ) (runs codes : ℕ) {x : Result Counts Refusal} (e : x ≡ answer_of (read_input t runs codes)) where
  module _ (k : Counts) (f : x ≡ Ok k) {numbers : List ℕ}
      (g : numbers ≡ runs_of (read_input t runs codes) runs) {work lent : ℕ} {y : Result Built Refusal} {tables : List ℕ}
      (b : BuildOf (given_of k.stops k.runs) numbers work lent y tables) where
    pub start_unbuilt : (r : Refusal) → y ≡ Err r → StartOf t runs codes work lent tables (Refused r)
    start_unbuilt r h = unbuilt k r (sym e ∙ f) (subst₂ (λ l z. BuildOf (given_of k.stops k.runs) l work lent z tables) g h b) refl

    pub start_built : (n labels : ℕ) → y ≡ success n labels → (end : ℕ) → end ≡ timetable_end t →
        StartOf t runs codes work lent tables (Asks (record { given = given_of k.stops k.runs; text = end; tables = n })
        (record { at = end; ride = 0; rides = 0 }))
    start_built n labels h end i = built k n labels (sym e ∙ f) (subst₂ (λ l z. BuildOf (given_of k.stops k.runs) l work lent z tables) g h b) (rw i refl)
