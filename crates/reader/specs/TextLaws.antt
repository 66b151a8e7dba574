-- What holds of every text that was read whole: its numbers are good numbers, its codes are codes and no two are one, and the rest of each room is zero.
use Prim.Native.Nat.{ℕ, zero, suc, ◌+◌, ◌*◌, ◌≤◌, ◌<◌}
use Rattle.std.proofs.Math.Path.{◌≡◌}
use Rattle.std.specs.Prelude.{refl, List, [], ◌∷◌, true, false, length, replicate, ltb, leb, Ok, Result, Err}
use Rattle.std.proofs.Common.{subst, ◌∙◌, arith, add-zero, lt-ltb, le-ltb, ltb-false, leb-false}
use Rattle.std.proofs.Math.Decide.{ℕ_discrete}
use Rattle.std.proofs.Math.ListN.{get_or}
use Rattle.std.proofs.lemmas.List.{length-replicate}
use Rattle.loops.specs.ChainLaws.{past, stays}
use Rattle.loops.specs.PutLaws.{put_length, put_before, put_after, put_at}
use Rattle.kinds.specs.Limits.{most_text, run_numbers, runs_room, codes_room}
use Rattle.kinds.specs.Kinds.{GoodRun}
use Rattle.kinds.specs.declared.Code.{Code}
use Rattle.kinds.specs.declared.Run.{Run}
use Rattle.words.specs.Words.{lf, begins_b, is_code}
use Rattle.words.specs.WordsLaws.{seek_low, seek_high, begins_long, code_short}
use Rattle.lookup.specs.Lookup.{code_start, code_length, Named, has_code, put_code}
use Rattle.lookup.specs.LookupLaws.{named_none, has_kept, code_length_lem, each_code, placed_more}
use Rattle.lines.specs.Lines.{line_of}
use Rattle.lines.specs.Fine.{FineStop, FineRun, FineLine}
use Rattle.lines.specs.LinesLaws.{line_fine}
use Rattle.kinds.specs.declared.Reason.{Reason}
use Rattle.lines.specs.declared.Line.{Line}
use Rattle.lines.specs.declared.Line.TheVariants as kind
use Rattle.reader.specs.declared.Counts.{Counts}
use Rattle.reader.specs.Text.{Sofar, ReadOutcome, whole, bad, numbers_of, put_run, one_stop_more, one_run_more, next}
use Rattle.reader.specs.Text.{line_end, read_from, first_word, start, read_text, answer_of, runs_of, codes_of, number_of_run, GoodAt, GoodRead}
use Rattle.reader.specs.Reading.{GoodSofar}
use Rattle.kinds.specs.declared.Reason.TheVariants as reason

module _ (l : List ℕ) (k : ℕ) (r : Run) where
  pub run_length : length (put_run l k r) ≡ length l
  unfolding put_run
  run_length = put_length l (run_numbers * k) (numbers_of r)

  -- what follows stays
  pub run_after : (j : ℕ) → run_numbers * k + run_numbers ≤ j → get_or (put_run l k r) j 0 ≡ get_or l j 0
  unfolding put_run
  run_after j h = put_after l (run_numbers * k) (numbers_of r) j h

  -- the run put in is good, and those before it are as good as they were
  pub run_good : {stops : ℕ} → run_numbers * k + run_numbers ≤ length l → GoodRun stops r.from r.to r.dep r.arr r.trip →
      ((i : ℕ) → i < k → GoodAt stops l i) → (i : ℕ) → i < k + 1 → GoodAt stops (put_run l k r) i
  unfolding put_run
  run_good {stops} h new old i b = go (ℕ_discrete i k)
    where
      put : (f : ℕ) → f < run_numbers → number_of_run (put_run l k r) k f ≡ get_or (numbers_of r) f 0
      put f lt = put_at l (run_numbers * k) (numbers_of r) f lt h

      kept : (f : ℕ) → f < run_numbers → i < k → number_of_run (put_run l k r) i f ≡ number_of_run l i f
      kept f lt before = put_before l (run_numbers * k) (numbers_of r) (run_numbers * i + f) (omega arith)

      go : Dec (i ≡ k) → GoodAt stops (put_run l k r) i
      go (yes e) =
          rw (e, rw add-zero at (put 0 (omega arith)), put 1 (omega arith), put 2 (omega arith), put 3 (omega arith), put 4 (omega arith)) new
      go (no e) =
          let o : i < k = omega arith in
          rw (rw add-zero at (kept 0 (omega arith) o), kept 1 (omega arith) o, kept 2 (omega arith) o, kept 3 (omega arith) o, kept 4 (omega arith) o)
          (old i o)

-- a list of zeros has zeros everywhere
zero_at : (n k : ℕ) → ◌≡◌ {A = ℕ} (get_or (replicate n 0) k 0) 0
zero_at zero k = refl
zero_at (suc n) zero = refl
zero_at (suc n) (suc k) = zero_at n k

kept_none : (s : List ℕ) (roomR roomC : ℕ) → GoodRead s roomR roomC 0 0 (replicate roomR 0) (replicate roomC 0)
kept_none s roomR roomC =
    record {
      few = omega arith;
      few_runs = omega arith;
      numbers_long = length-replicate {A = ℕ} roomR 0;
      codes_long = length-replicate {A = ℕ} roomC 0;
      good = λ i h. absurd (omega arith);
      placed = record { listed = omega arith; placed = λ j h. absurd (omega arith) };
      coded = λ j h. absurd (omega arith);
      apart = λ i j l h. absurd (omega arith);
      numbers_zero = λ k h. zero_at roomR k;
      codes_zero = λ k h. zero_at roomC k;
    }

module _ {s : List ℕ} {roomR roomC stops runs : ℕ} {numbers codes : List ℕ} (k : GoodRead s roomR roomC stops runs numbers codes) where
  kept_run : runs_room ≤ roomR → (r : Run) → FineRun stops runs r → GoodRead s roomR roomC stops (runs + 1) (put_run numbers runs r) codes
  kept_run room r f =
      record {
        few = k.few;
        few_runs = omega (arith, f.few);
        numbers_long = run_length numbers runs r ∙ k.numbers_long;
        codes_long = k.codes_long;
        good = run_good numbers runs r (omega (arith, f.few, k.numbers_long)) f.good k.good;
        placed = k.placed;
        coded = k.coded;
        apart = k.apart;
        numbers_zero = λ j h. run_after numbers runs r j (omega arith) ∙ k.numbers_zero j (omega arith);
        codes_zero = k.codes_zero;
      }

  kept_stop : codes_room ≤ roomC → (c : Code) (e : ℕ) → e ≤ length s → runs ≡ 0 → FineStop s codes stops e c →
      GoodRead s roomR roomC (stops + 1) runs numbers (put_code codes stops c.start c.length)
  kept_stop room c e within r f =
      record {
        few = omega (arith, f.few);
        few_runs = k.few_runs;
        numbers_long = k.numbers_long;
        codes_long = code_length_lem codes stops c.start c.length ∙ k.codes_long;
        good = λ i h. absurd (omega arith);
        placed = placed_more codes stops c.start c.length k.placed long (omega (arith, f.ends));
        coded = each_code codes stops c.start c.length (λ j a n. is_code s a n ≡ true) long f.is_code_bytes k.coded;
        apart = λ i j l h. each_code codes stops c.start c.length Apart long new old j h i l;
        numbers_zero = k.numbers_zero;
        codes_zero = λ j h. put_after codes (2 * stops) (c.start ∷ c.length ∷ []) j (omega arith) ∙ k.codes_zero j (omega arith);
      }
    where
      long : 2 * stops + 2 ≤ length codes
      long = omega (arith, f.few, k.codes_long)

      -- no stop before j has the code
      Apart : ℕ → ℕ → ℕ → Type 0
      Apart j a n = (i : ℕ) → i < j → has_code s (put_code codes stops c.start c.length) s a n i ≡ false

      new : Apart stops c.start c.length
      new i l = has_kept s codes s c.start c.length stops c.start c.length i l ∙ named_none s codes stops s c.start c.length f.new i l

      old : (j : ℕ) → j < stops → Apart j (code_start codes j) (code_length codes j)
      old j h i l = has_kept s codes s (code_start codes j) (code_length codes j) stops c.start c.length i (omega arith) ∙ k.apart i j l h

-- what one line leads to, and then all of them
module _ (s : List ℕ) (roomR roomC : ℕ) (roomy : runs_room ≤ roomR) (roomy-codes : codes_room ≤ roomC) where
  next_kept : (go : ℕ → Sofar → ReadOutcome) (e : ℕ) (b w : Sofar) (l : Result Line Reason) → e ≤ length s → GoodSofar s roomR roomC b →
      FineLine s b.codes b.stops b.runs e l →
      ((a : ℕ) (c : Sofar) → a ≤ length s → GoodSofar s roomR roomC c → go a c ≡ whole w → GoodSofar s roomR roomC w × (0 < w.stops)) →
      e < length s → next go s e b l ≡ whole w → GoodSofar s roomR roomC w × (0 < w.stops)
  next_kept go e b w (Ok (kind.Stop c)) h k f rec lt q = rec (e + 1) (one_stop_more b c) (omega arith) (kept_stop k roomy-codes c e h f.0 f.1) q
  next_kept go e b w (Ok (kind.Run r)) h k f rec lt q = rec (e + 1) (one_run_more b r) (omega arith) (kept_run k roomy r f) q
  next_kept go e b w (Ok kind.End) h k f rec lt q =
      let z = past (ltb (e + 1) (length s)) q (λ x. cc) in
      let same : b ≡ w = let g = z.1 in cc in
      subst (λ (x : Sofar). GoodSofar s roomR roomC x × (0 < x.stops)) same (k, f)
  next_kept go e b w (Err n) h k f rec lt q = cc

  from_kept : (f a : ℕ) (b w : Sofar) → a ≤ length s → GoodSofar s roomR roomC b → read_from f s a b ≡ whole w → GoodSofar s roomR roomC w × (0 < w.stops)
  unfolding read_from
  from_kept zero a b w h k q = cc
  from_kept (suc f) a b w h k q =
      let e : ℕ = line_end s a in
      let z = past (leb (length s) e) q (λ x. cc) in
      next_kept (read_from f s) e b w (line_of s b.codes b.stops b.runs a e) (seek_high lf s a (length s) h) k
      (line_fine s b.codes b.stops b.runs e a (seek_low lf s a (length s))) (λ a' c h' k' q'. from_kept f a' c w h' k' q')
      (leb-false (length s) e z.0) z.1

-- a text that is too long is refused by 8, whatever it holds
pub text_long : (s : List ℕ) (roomR roomC : ℕ) → runs_room ≤ roomR → codes_room ≤ roomC → most_text < length s →
    read_text s roomR roomC ≡ bad reason.OverLimit 0
unfolding read_text
text_long s roomR roomC h l m = rw (le-ltb roomR runs_room h, le-ltb roomC codes_room l, lt-ltb most_text (length s) m)

-- only with room enough is a text read, only one that is not too long, and only one that begins as it must
text_begun : (s : List ℕ) (roomR roomC : ℕ) (w : Sofar) → read_text s roomR roomC ≡ whole w →
    (runs_room ≤ roomR) × (codes_room ≤ roomC) × (length s ≤ most_text) × (length first_word ≤ length s) ×
    (read_from (length s) s (length first_word) (start roomR roomC) ≡ whole w)
unfolding read_text
text_begun s roomR roomC w q =
    let z₁ = past (ltb roomR runs_room) q (λ x. cc) in
    let z₂ = past (ltb roomC codes_room) z₁.1 (λ x. cc) in
    let z₃ = past (ltb most_text (length s)) z₂.1 (λ x. cc) in
    let z₄ = stays (begins_b s 0 (length s) first_word) z₃.1 (λ x. cc) in (
      ltb-false roomR runs_room z₁.0,
      ltb-false roomC codes_room z₂.0,
      ltb-false most_text (length s) z₃.0,
      omega (arith, begins_long s 0 (length s) first_word z₄.0),
      z₄.1,
    )

pub text_roomy : (s : List ℕ) (roomR roomC : ℕ) (w : Sofar) → read_text s roomR roomC ≡ whole w → runs_room ≤ roomR
text_roomy s roomR roomC w q = (text_begun s roomR roomC w q).0

pub text_short : (s : List ℕ) (roomR roomC : ℕ) (w : Sofar) → read_text s roomR roomC ≡ whole w → length s ≤ most_text
text_short s roomR roomC w q = (text_begun s roomR roomC w q).2

-- A text that was read whole: good numbers, codes that are codes and no two one, zeros beyond them.
pub text_good : (s : List ℕ) (roomR roomC : ℕ) (w : Sofar) → read_text s roomR roomC ≡ whole w → GoodSofar s roomR roomC w × (0 < w.stops)
text_good s roomR roomC w q =
    let b = text_begun s roomR roomC w q in
    from_kept s roomR roomC b.0 b.1 (length s) (length first_word) (start roomR roomC) w b.3 (kept_none s roomR roomC) b.4

-- the same of the answer and of what the two rooms hold
pub read_good : (s : List ℕ) (roomR roomC : ℕ) (k : Counts) → Ok k ≡ answer_of (read_text s roomR roomC) →
    GoodRead s roomR roomC k.stops k.runs (runs_of (read_text s roomR roomC) roomR) (codes_of (read_text s roomR roomC) roomC) × (0 < k.stops)
read_good s roomR roomC k e = go (read_text s roomR roomC) refl e
  where
    go : (o : ReadOutcome) → read_text s roomR roomC ≡ o → Ok k ≡ answer_of o →
        GoodRead s roomR roomC k.stops k.runs (runs_of o roomR) (codes_of o roomC) × (0 < k.stops)
    go (whole w) q f = let same : k ≡ record { stops = w.stops; runs = w.runs } = cc in rw same (text_good s roomR roomC w q)
    go (bad n p) q f = cc

-- each stop that was read has a code
pub named_all : {s : List ℕ} {roomR roomC stops runs : ℕ} {numbers codes : List ℕ} → GoodRead s roomR roomC stops runs numbers codes →
    (j : ℕ) → j < stops → Named s codes j
named_all {s} {codes = codes} g j h =
    record {
      listed = omega (arith, g.placed.listed);
      code = record { within = g.placed.placed j h; short = code_short s (code_start codes j) (code_length codes j) (g.coded j h) };
    }
