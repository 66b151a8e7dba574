-- Laws of the loop over the lines: what is still to be read gives the whole outcome.
use Rattle.std.specs.Prelude.{ℕ, zero, suc, ◌+◌, ◌-◌, ◌≤◌, ◌<◌, ◌≡◌, refl, List, Bool, true, false, cond, length, leb, Err, Ok, Result}
use Rattle.std.proofs.Common.{sym, ◌∙◌, arith, le-leb, leb-false, lt-ltb, le-ltb}
use Rattle.std.proofs.Math.ListN.{length-set}
use Rattle.std.proofs.lemmas.Bool.{lt-leb}
use Rattle.loops.specs.Zero.{zeros}
use Rattle.loops.specs.ZeroLaws.{zeros_is}
use Rattle.kinds.specs.declared.Refusal.{Refusal}
use Rattle.kinds.specs.declared.Code.{Code}
use Rattle.kinds.specs.declared.Run.{Run}
use Rattle.words.specs.Words.{lf}
use Rattle.words.specs.WordsLaws.{seek_end, seek_low}
use Rattle.lookup.specs.Lookup.{put_code}
use Rattle.lookup.specs.Index.{CodesIndexed}
use Rattle.lines.specs.Lines.{line_of}
use Rattle.lines.specs.LinesLaws.{run_known}
use Rattle.reader.specs.Text.{Sofar, ReadOutcome, whole, bad, put_run, one_stop_more, one_run_more, next, line_end, read_line, read_from}
use Rattle.reader.specs.Text.{answer_of, runs_of, codes_of}
use Rattle.reader.specs.declared.Counts.{Counts}
use Rattle.kinds.specs.declared.Reason.{Reason}
use Rattle.lines.specs.declared.Line.{Line}
use Rattle.lines.specs.declared.Line.TheVariants as kind
use Rattle.reader.specs.Reading.{lines_of, filled_for, Readable, Reading}
use Rattle.kinds.specs.declared.Reason.TheVariants as reason

pub reading_none : {s : List ℕ} {a : ℕ} {runs codes slots : List ℕ} → Readable s a runs codes slots →
    Reading s (lines_of s a (length runs) (length codes)) (length runs) (length codes) a 2 0 0 runs codes slots
unfolding lines_of
reading_none {s} {a} {runs} {codes} r =
    record {
      fuel = length s;
      rest = rw (← zeros_is runs, ← zeros_is codes, ← r.runs_zero, ← r.codes_zero);
      within = r.within;
      enough = omega arith;
      index = r.index;
      few = omega arith;
      lined = refl;
      runs_same = refl;
      codes_same = refl;
    }

-- one line, where the fuel lasts for the bytes that are left
opened : (f : ℕ) (s : List ℕ) (a : ℕ) (b : Sofar) → a ≤ length s → length s ≤ f + a → read_from f s a b ≡ read_line (read_from (f - 1) s) s a b
unfolding read_from
opened zero s a b h l = rw (seek_end lf s a (length s) (omega arith), le-leb (length s) a (omega arith))
opened (suc f) s a b h l = let e : suc f - 1 ≡ f = omega arith in rw e

-- more than the number of bytes that are left makes no difference
next_same : (go to : ℕ → Sofar → ReadOutcome) (s : List ℕ) (e : ℕ) (b : Sofar) (l : Result Line Reason) → ((c : Sofar) → go (e + 1) c ≡ to (e + 1) c) →
    next go s e b l ≡ next to s e b l
next_same go to s e b (Ok (kind.Stop c)) h = h (one_stop_more b c)
next_same go to s e b (Ok (kind.Run r)) h = h (one_run_more b r)
next_same go to s e b (Ok kind.End) h = refl
next_same go to s e b (Err n) h = refl

line_same : (go to : ℕ → Sofar → ReadOutcome) (s : List ℕ) (a : ℕ) (b : Sofar) →
    (line_end s a < length s → (c : Sofar) → go (line_end s a + 1) c ≡ to (line_end s a + 1) c) → read_line go s a b ≡ read_line to s a b
line_same go to s a b same = test (leb (length s) (line_end s a)) (leb-false (length s) (line_end s a))
  where
    l : Result Line Reason
    l = line_of s b.codes b.stops b.runs a (line_end s a)

    test : (t : Bool) → (t ≡ false → line_end s a < length s) →
        cond t (bad reason.LineShape b.line) (next go s (line_end s a) b l) ≡ cond t (bad reason.LineShape b.line) (next to s (line_end s a) b l)
    test true lt = refl
    test false lt = next_same go to s (line_end s a) b l (same (lt refl))

pub any_fuel : (f g : ℕ) (s : List ℕ) (a : ℕ) (b : Sofar) → a ≤ length s → length s ≤ f + a → length s ≤ g + a → read_from f s a b ≡ read_from g s a b
unfolding read_from
any_fuel zero g s a b h l m =
    sym (opened g s a b h m ∙ (rw (seek_end lf s a (length s) (omega arith), le-leb (length s) a (omega arith))))
any_fuel (suc f) g s a b h l m =
    let low = seek_low lf s a (length s) in
    line_same (read_from f s) (read_from (g - 1) s) s a b (λ lt c. any_fuel f (g - 1) s (line_end s a + 1) c (omega arith) (omega arith) (omega arith)) ∙
    sym (opened g s a b h m)

module _ {s : List ℕ} {o : ReadOutcome} {roomR roomC a line stops runs : ℕ} {numbers codes slots : List ℕ}
    (r : Reading s o roomR roomC a line stops runs numbers codes slots) (e : ℕ) (at : e ≡ line_end s a) where
  step : o ≡
      cond (leb (length s) e) (bad reason.LineShape line)
      (next (read_from (r.fuel - 1) s) s e (record { line = line; stops = stops; runs = runs; codes = codes; numbers = numbers })
      (line_of s codes stops runs a e))
  step = rw at (r.rest ∙ opened r.fuel s a _ r.within r.enough)

  pub reading_unfinished : length s ≤ e → o ≡ bad reason.LineShape line
  reading_unfinished h = step ∙ rw (le-leb _ _ h)

  module _ (h : e < length s) where
    pub reading_bad : (n : Reason) → line_of s codes stops runs a e ≡ Err n → o ≡ bad n line
    reading_bad n l = step ∙ rw (lt-leb _ _ h, l)

    pub reading_after : line_of s codes stops runs a e ≡ (Ok kind.End) → e + 1 < length s → o ≡ bad reason.LineShape (line + 1)
    reading_after l g = step ∙ rw (lt-leb _ _ h, l, lt-ltb _ _ g)

    pub reading_whole : line_of s codes stops runs a e ≡ (Ok kind.End) → length s ≤ e + 1 →
        o ≡ whole (record { line = line; stops = stops; runs = runs; codes = codes; numbers = numbers })
    reading_whole l g = step ∙ rw (lt-leb _ _ h, l, le-ltb _ _ g)

    pub reading_stop : (c : Code) (codes' slots' : List ℕ) → line_of s codes stops runs a e ≡ Ok (kind.Stop c) →
        codes' ≡ put_code codes stops c.start c.length → CodesIndexed s codes' (stops + 1) slots' →
        Reading s o roomR roomC (e + 1) (line + 1) (stops + 1) runs numbers codes' slots'
    reading_stop c codes' slots' l p x =
        record {
          fuel = r.fuel - 1;
          rest = rw p (step ∙ rw (lt-leb _ _ h, l));
          within = omega arith;
          enough = omega (arith, r.enough, r.within, at, seek_low lf s a (length s));
          index = x;
          few = r.few;
          lined = omega (arith, r.lined);
          runs_same = r.runs_same;
          codes_same = rw p (simp length-set r.codes_same);
        }

    pub reading_run : (k : Run) (numbers' : List ℕ) → line_of s codes stops runs a e ≡ Ok (kind.Run k) → numbers' ≡ put_run numbers runs k →
        Reading s o roomR roomC (e + 1) (line + 1) stops (runs + 1) numbers' codes slots
    unfolding put_run
    reading_run k numbers' l p =
        record {
          fuel = r.fuel - 1;
          rest = rw p (step ∙ rw (lt-leb _ _ h, l));
          within = omega arith;
          enough = omega (arith, r.enough, r.within, at, seek_low lf s a (length s));
          index = r.index;
          few = omega (arith, (run_known s codes stops runs e a k (omega (arith, at, seek_low lf s a (length s))) l).few);
          lined = omega (arith, r.lined);
          runs_same = rw p (simp length-set r.runs_same);
          codes_same = r.codes_same;
        }

-- what the turns of the loop are proved by
pub ruleset reading_turns = (reading_none, reading_stop, reading_run, run_known)

-- what the loop left is what the rooms hold in the end, once a refusal's are zeroed
module _ (o : ReadOutcome) (numbers codes : List ℕ) where
  pub filled_whole : (k : Counts) (n m : ℕ) → filled_for o numbers codes → Ok k ≡ answer_of o → (numbers ≡ runs_of o n) × (codes ≡ codes_of o m)
  filled_whole k n m = go o
    where
      go : (o : ReadOutcome) → filled_for o numbers codes → Ok k ≡ answer_of o → (numbers ≡ runs_of o n) × (codes ≡ codes_of o m)
      go (whole b) f e = f
      go (bad i p) f e = cc

  pub filled_refused : (k : Refusal) → Err k ≡ answer_of o → (zeros numbers ≡ runs_of o (length numbers)) × (zeros codes ≡ codes_of o (length codes))
  filled_refused k = go o
    where
      go : (o : ReadOutcome) → Err k ≡ answer_of o → (zeros numbers ≡ runs_of o (length numbers)) × (zeros codes ≡ codes_of o (length codes))
      go (whole b) e = cc
      go (bad i p) e = (zeros_is numbers, zeros_is codes)
