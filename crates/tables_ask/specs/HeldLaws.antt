-- The asks that are read behind the text leave the text as it was read: they can be answered.
use Rattle.std.specs.Prelude.{ℕ, zero, suc, ◌+◌, ◌≤◌, ◌≡◌, refl, List, [], ◌∷◌, length, take, replicate}
use Rattle.std.proofs.Common.{ap, ◌∙◌, arith, length-take-le}
use Rattle.std.proofs.lemmas.List.{length-replicate}
use Rattle.kinds.specs.Limits.{most_text, most_input, runs_room, codes_room, last_minute}
use Rattle.reader.specs.declared.Counts.{Counts}
use Rattle.reader.specs.Text.{read_text, runs_of, codes_of, GoodRead}
use Rattle.both.specs.Both.{work_room}
use Rattle.desk.specs.Told.{Accepts}
use Rattle.journey_lines.specs.Steps.{Ready}
use Rattle.tables_ask.specs.Held.{sizes_of, AcceptedFor, first_turn}

-- the first n of the first m
take_fewer : (n m : ℕ) (l : List ℕ) → n ≤ m → take n (take m l) ≡ take n l
take_fewer zero m l le = refl
take_fewer (suc n) zero l le = absurd (omega arith)
take_fewer (suc n) (suc m) [] le = refl
take_fewer (suc n) (suc m) (x ∷ l) le = ap (λ (r : List ℕ). x ∷ r) (take_fewer n m l (omega arith))

-- what was accepted against the text, and read of it, stays so when the asks are read behind it
pub still_accepted : (held later : List ℕ) (n k : ℕ) {runs codes tables : List ℕ} {c : Counts} →
    Accepts (take n held) tables runs_room codes_room work_room c → runs ≡ runs_of (read_text (take n held) runs_room codes_room) runs_room →
    codes ≡ codes_of (read_text (take n held) runs_room codes_room) codes_room → take n later ≡ take n held →
    AcceptedFor (take (n + k) later) runs codes tables (sizes_of c.stops c.runs n (length tables))
still_accepted held later n k {runs} {codes} {tables} {c} a er ec same =
    let text : take n (take (n + k) later) ≡ take n held = take_fewer n (n + k) later (omega arith) ∙ same in
    record { accepts = rw text a; runs_are = rw text er; codes_are = rw text ec; all = refl }

-- The room held the text, n bytes, and nothing else was known of it; then k bytes were read behind the text, which stayed.
module _ (held later : List ℕ) (n k : ℕ) {runs codes : List ℕ} {stops count : ℕ} (g : GoodRead (take n held) runs_room codes_room stops count runs codes)
    (same : take n later ≡ take n held) (few : n ≤ most_text) (fewer : k ≤ most_input) (within : n + k ≤ length later) where
  pub can_answer : (tables : List ℕ) →
      Ready (take (n + k) later) runs codes tables (replicate last_minute 0) (sizes_of stops count n (length tables)) (first_turn n)
  can_answer tables =
      let long : length (take (n + k) later) ≡ n + k = length-take-le (n + k) later within in
      let text : take n (take (n + k) later) ≡ take n held = take_fewer n (n + k) later (omega arith) ∙ same in
      let r : GoodRead (take n (take (n + k) later)) (length runs) (length codes) stops count runs codes = rw (text, g.numbers_long, g.codes_long) g in
      record {
        short = omega (arith, long);
        text_in = omega (arith, long);
        tables_in = omega arith;
        roomy = omega (arith, g.numbers_long);
        read = r;
        listed = length-replicate {A = ℕ} last_minute 0;
        due = omega arith;
        ridden = λ i h. absurd (omega arith);
      }
