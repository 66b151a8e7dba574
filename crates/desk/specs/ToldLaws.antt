-- Laws of what is told: what the reader left, why the check refuses, and that nothing else can be told.
use Rattle.std.specs.Prelude.{ℕ, ◌≤◌, ◌≡◌, refl, List, ◌++◌, length, Err, Ok, Result}
use Rattle.std.proofs.Common.{ap, subst, ◌∙◌, arith}
use Rattle.kinds.specs.Limits.{runs_room, most_stops, most_text}
use Rattle.kinds.specs.Refusals.{refusal}
use Rattle.kinds.specs.declared.Reason.{Reason}
use Rattle.kinds.specs.declared.Refusal.{Refusal}
use Rattle.timetable.specs.Numbers.{given_of}
use Rattle.timetable.specs.declared.Given.{Given}
use Rattle.reader.specs.declared.Counts.{Counts}
use Rattle.reader.specs.Text.{Sofar, ReadOutcome, whole, bad, read_text, answer_of, runs_of, codes_of, GoodRead}
use Rattle.reader.specs.TextLaws.{text_good, text_roomy, text_short}
use Rattle.tables.specs.File.{tables_of, place_of}
use Rattle.verdict.specs.Verdict.{Checked}
use Rattle.builder.specs.Build.{BuiltOf, over, short, built, BuildOf, refused, good, success}
use Rattle.journeys.specs.Service.{Service}
use Rattle.printed.specs.Wrote.{Wrote}
use Rattle.report.specs.Words.{refusal_line}
use Rattle.report.specs.Lines.{accepted_line, written_line}
use Rattle.desk.specs.Spelled.{Spelled, Spellable}
use Rattle.desk.specs.CheckLaws.{checked_places}
use Rattle.desk.specs.SpelledLaws.{spellable}
use Rattle.desk.specs.Told as told
use Rattle.desk.specs.Told.{Refused, by_check, Accepts, AdmitOf, admits, refuses, CheckTold, ReadWhole}
use Rattle.builder.specs.declared.Built.{Built}

-- ---- what the reader left

module _ (s : List ℕ) (roomR roomC : ℕ) where
  pub read_whole : {k : Counts} {numbers codes : List ℕ} → Ok k ≡ answer_of (read_text s roomR roomC) → numbers ≡ runs_of (read_text s roomR roomC)
      roomR →
      codes ≡ codes_of (read_text s roomR roomC) roomC → ReadWhole s roomR roomC k numbers codes
  read_whole {k} {numbers} {codes} e n c = go (read_text s roomR roomC) refl e n c
    where
      go : (o : ReadOutcome) → read_text s roomR roomC ≡ o → Ok k ≡ answer_of o → numbers ≡ runs_of o roomR → codes ≡ codes_of o roomC →
          ReadWhole s roomR roomC k numbers codes
      go (whole w) q e n c = record { read = w; whole = q; counts = cc; numbers_are = n; codes_are = c }
      go (bad m p) q e n c = absurd cc

  -- a text that was refused
  pub read_bad : {x : Refusal} → Err x ≡ answer_of (read_text s roomR roomC) → (why : Reason) × (place : ℕ) × (read_text s roomR roomC ≡ bad why place) ×
      (x ≡ refusal why place)
  read_bad {x} e = go (read_text s roomR roomC) refl e
    where
      go : (o : ReadOutcome) → read_text s roomR roomC ≡ o → Err x ≡ answer_of o → (why : Reason) × (place : ℕ) ×
          (read_text s roomR roomC ≡ bad why place) × (x ≡ refusal why place)
      go (whole w) q e = absurd cc
      go (bad m p) q e = (m, p, q, cc)

  -- only with room enough is a text read
  pub read_roomy : (w : Sofar) → read_text s roomR roomC ≡ whole w → runs_room ≤ roomR
  read_roomy w q = text_roomy s roomR roomC w q

  -- and only a text that is not too long
  pub read_short : (w : Sofar) → read_text s roomR roomC ≡ whole w → length s ≤ most_text
  read_short w q = text_short s roomR roomC w q

-- ---- the check

module _ {s : List ℕ} {roomR roomC : ℕ} {k : Counts} {numbers codes : List ℕ} (g : ReadWhole s roomR roomC k numbers codes) where
  pub whole_few : k.stops ≤ most_stops
  whole_few = rw g.counts (text_good s roomR roomC g.read g.whole).0.few

  module _ (b : List ℕ) (lent : ℕ) (v : Result Unit Refusal) (c : Checked b (given_of k.stops k.runs) numbers lent v) where
    -- the check against what was read is the check against what the text means
    checked_whole : Checked b (given_of g.read.stops g.read.runs) g.read.numbers lent v
    checked_whole = rw (g.counts, g.numbers_are) at c

    pub whole_accepts : v ≡ Ok tt → Accepts s b roomR roomC lent k
    whole_accepts e =
        record {
          read = g.read;
          whole = g.whole;
          stops = ap (λ (x : Counts). x.stops) g.counts;
          runs = ap (λ (x : Counts). x.runs) g.counts;
          accepted = rw e at checked_whole;
        }

    pub whole_spellable : (x : Refusal) → v ≡ Err x → Spellable b s codes numbers k.stops x
    whole_spellable x e =
        rw (g.counts, g.numbers_are, g.codes_are)
        (spellable (read_roomy s roomR roomC g.read g.whole) (text_good s roomR roomC g.read g.whole).0
        (checked_places b (given_of g.read.stops g.read.runs) g.read.numbers lent x (rw e at checked_whole)))

    pub whole_refused : (x : Refusal) (ys : List ℕ) → v ≡ Err x → Spelled (tables_of b) s codes numbers k.stops x ys →
        Refused s b roomR roomC lent (refusal_line x ++ ys)
    whole_refused x ys e p = by_check g.read x ys g.whole (rw e at checked_whole) (rw (g.counts, g.numbers_are, g.codes_are) at p) refl

-- what the answer says of all that is told
module _ {s b : List ℕ} {roomR roomC lent : ℕ} {l m : List ℕ} {a : Result Counts ℕ} (t : AdmitOf s b roomR roomC lent l m a) where
  pub told_refused : {n : ℕ} → a ≡ Err n → (xs : List ℕ) × CheckTold s b roomR roomC lent xs × Wrote l 0 xs m n
  told_refused {n} e = go t
    where
      go : AdmitOf s b roomR roomC lent l m a → (xs : List ℕ) × CheckTold s b roomR roomC lent xs × Wrote l 0 xs m n
      go (admits k x f h) = absurd cc
      go (refuses xs i x f w) = let h : i ≡ n = cc in (xs, told.refused x, subst (Wrote l 0 xs m) h w)

  pub told_accepted : {k : Counts} → a ≡ Ok k → CheckTold s b roomR roomC lent accepted_line × (m ≡ l)
  told_accepted {k} e = go t
    where
      go : AdmitOf s b roomR roomC lent l m a → CheckTold s b roomR roomC lent accepted_line × (m ≡ l)
      go (admits i x f h) = (told.accepted i x refl, h)
      go (refuses xs i x f w) = absurd cc

  pub admitted_accepts : {k : Counts} → a ≡ Ok k → Accepts s b roomR roomC lent k
  admitted_accepts {k} e = go t
    where
      go : AdmitOf s b roomR roomC lent l m a → Accepts s b roomR roomC lent k
      go (admits i x f h) = let same : i ≡ k = cc in subst (Accepts s b roomR roomC lent) same x
      go (refuses xs i x f w) = absurd cc

  -- of accepted tables: the text was read, and what the two rooms hold is good
  pub admitted_read : {k : Counts} {numbers codes : List ℕ} → a ≡ Ok k → numbers ≡ runs_of (read_text s roomR roomC) roomR →
      codes ≡ codes_of (read_text s roomR roomC) roomC →
      GoodRead s roomR roomC k.stops k.runs numbers codes × (length s ≤ most_text) × (runs_room ≤ roomR)
  admitted_read {k} {numbers} {codes} e en ec = go t
    where
      go : AdmitOf s b roomR roomC lent l m a → GoodRead s roomR roomC k.stops k.runs numbers codes × (length s ≤ most_text) × (runs_room ≤ roomR)
      go (admits i x f h) =
          let same : i ≡ k = cc in
          let w = x.read in
          let q = x.whole in
          let g = (text_good s roomR roomC w q).0 in
          let r : numbers ≡ w.numbers = en ∙ ap (λ (o : ReadOutcome). runs_of o roomR) q in
          let c : codes ≡ w.codes = ec ∙ ap (λ (o : ReadOutcome). codes_of o roomC) q in
          (rw (← same, x.stops, x.runs, r, c) g, read_short s roomR roomC w q, read_roomy s roomR roomC w q)
      go (refuses xs i x f w) = absurd cc

-- ---- the build

-- tables that were built fit into what was lent
built_short : {S : Service} {lent : ℕ} {answer : Result Built Refusal} {tables : List ℕ} {long labels : ℕ} → BuiltOf S lent answer tables →
    answer ≡ success long labels → long ≤ lent
built_short (over k r l e t) f = absurd cc
built_short (short k r l h e t) f = absurd cc
built_short {S} {lent} {long = long} {labels} (built k file r l h q n e t) f =
    let m : ◌≡◌ {A = Built} (record { length = long; labels = labels }) (record { length = place_of S.stops k; labels = k }) = cc in
    omega (arith, ap (λ (x : Built). x.length) m)

pub build_short : {given : Given} {runs : List ℕ} {work lent : ℕ} {answer : Result Built Refusal} {tables : List ℕ} {long labels : ℕ} →
    BuildOf given runs work lent answer tables →
    answer ≡ success long labels → long ≤ lent
build_short (refused r j e t) f = absurd cc
build_short (good j x) f = built_short x f

-- the build of what was read is the build of what the text means
module _ {s : List ℕ} {roomR roomC : ℕ} {k : Counts} {numbers codes : List ℕ} (g : ReadWhole s roomR roomC k numbers codes) where
  pub whole_build : {work lent : ℕ} {answer x : Result Built Refusal} {tables : List ℕ} → BuildOf (given_of k.stops k.runs) numbers work lent answer tables →
      answer ≡ x →
      BuildOf (given_of g.read.stops g.read.runs) g.read.numbers work lent x tables
  whole_build b e = rw (g.counts, g.numbers_are, e) at b

  pub whole_written : (labels long : ℕ) → written_line k.stops k.runs labels long ≡ written_line g.read.stops g.read.runs labels long
  whole_written labels long = rw g.counts
