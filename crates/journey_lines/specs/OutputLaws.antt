-- Laws of the output: the program's start leads to it, its steps print it line by line, and it is one.
use Rattle.std.specs.Prelude.{ℕ, ◌+◌, ◌*◌, ◌≤◌, ◌<◌, ◌≡◌, refl, List, [], ◌++◌, length, take, replicate, None, Option, Result}
use Rattle.std.proofs.Common.{sym, ap, ap₂, subst, subst₂, ◌∙◌, append_assoc, arith, length-append, length-take-le}
use Rattle.kinds.specs.Limits.{runs_room, codes_room, last_minute}
use Rattle.timetable.specs.Numbers.{given_of}
use Rattle.tables.specs.File.{file_room, AreBytes}
use Rattle.reader.specs.declared.Counts.{Counts}
use Rattle.reader.specs.Text.{runs_of, codes_of, GoodRead}
use Rattle.builder.specs.Build.{build_room, BuildOf}
use Rattle.builder.specs.BuildLaws.{built_within, build_one}
use Rattle.askline.specs.Input.{timetable_end}
use Rattle.askline.specs.InputLaws.{timetable_within}
use Rattle.printed.specs.Printed.{longest_line}
use Rattle.answers.specs.Answers.{ride_lines}
use Rattle.answers.specs.AnswersLaws.{printed_one, lines_none}
use Rattle.journey_lines.specs.Output.{read_input, StartOf, unread, unbuilt, built, Held, LinePrints, LinesPrint, none, unfinished, line, TurnPrints}
use Rattle.journey_lines.specs.Output.{Prints, OutputOf}
use Rattle.journey_lines.specs.InputLaws.{read_held, input_good}
use Rattle.journey_lines.specs.Steps.{StepOf, Stands, printing}
use Rattle.journey_lines.specs.StepLaws.{left_most, few_bytes, some_bytes, step_stands, step_less, append_one, step_prints, step_first, step_over}
use Rattle.journey_lines.specs.Turns.{left, most_lines}
use Rattle.journey_lines.specs.declared.Turn.{Turn}
use Rattle.journey_lines.specs.declared.Stage.{Stage}
use Rattle.journey_lines.specs.declared.Stage.TheVariants.{Refused, Asks, Over}
use Rattle.journey_lines.specs.Along.{StartPrints, Along}
use Rattle.builder.specs.declared.Built.{Built}
use Rattle.kinds.specs.declared.Refusal.{Refusal}
use Rattle.journey_lines.specs.declared.Printed.{Printed}

-- ---- from the start to the steps

module _ (t : List ℕ) (roomR roomC : ℕ) {work lent : ℕ} (runs codes tables : List ℕ) (s : Stage) (S : StartOf t roomR roomC work lent tables s)
    (er : runs ≡ runs_of (read_input t roomR roomC) roomR) (ec : codes ≡ codes_of (read_input t roomR roomC) roomC) where
  -- a step can be made after the start
  pub start_stands : runs_room ≤ roomR → lent ≡ length tables → (list : List ℕ) → length list ≡ last_minute → Stands t runs codes tables list s
  start_stands room lt list ll = go S
    where
      go : StartOf t roomR roomC work lent tables s → Stands t runs codes tables list s
      go (unread r e f z) = subst (Stands t runs codes tables list) (sym f) tt
      go (unbuilt k r e b f) = subst (Stands t runs codes tables list) (sym f) tt
      go (built k n labels e b f) =
          let g : GoodRead (take (timetable_end t) t) roomR roomC k.stops k.runs runs codes = rw (er, ec) (input_good t roomR roomC k e) in
          subst (Stands t runs codes tables list) (sym f)
          (record {
            short = omega (arith, read_held t roomR roomC k e);
            text_in = timetable_within t;
            tables_in = omega (arith, built_within b);
            roomy = omega (arith, g.numbers_long);
            read = subst₂ (λ (i j : ℕ). GoodRead (take (timetable_end t) t) i j k.stops k.runs runs codes) (sym g.numbers_long) (sym g.codes_long) g;
            listed = ll;
            due = omega arith;
            ridden = λ i h. absurd (omega arith);
          })

-- at the first turn no rides are listed: nothing of the list is printed
first_turn_lem : {h : Held} {t list other : List ℕ} {a : ℕ} {xs : List ℕ} → TurnPrints h t list (record { at = a; ride = 0; rides = 0 }) xs →
    TurnPrints h t other (record { at = a; ride = 0; rides = 0 }) xs
first_turn_lem {h} {list = list} {other} P =
    let none : (l : List ℕ) → ride_lines h.text h.codes h.runs l 0 ≡ [] = lines_none h.text h.codes h.runs in
    let same = none list ∙ sym (none other) in
    record { left = P.left; rides = sym same ∙ P.rides ∙ ap (λ (l : List ℕ). l ++ P.left) same; rest = P.rest; lines = P.lines; is = P.is }

-- what the lines from there on print is all
pub first_lines : {h : Held} {t list : List ℕ} {a : ℕ} {xs : List ℕ} → TurnPrints h t list (record { at = a; ride = 0; rides = 0 }) xs →
    LinesPrint (LinePrints h t) t a xs
first_lines {h} {t} {list} {a} P =
    let none = lines_none h.text h.codes h.runs list in
    let left : [] ≡ P.left = sym none ∙ P.rides ∙ ap (λ (l : List ℕ). l ++ P.left) none in
    subst (LinesPrint (LinePrints h t) t a) (sym (P.is ∙ ap (λ (l : List ℕ). l ++ P.rest) (sym left))) P.lines

-- is the same whatever the list holds
start_list : {t tables : List ℕ} {s : Stage} (list other xs : List ℕ) → StartOf t runs_room codes_room build_room file_room tables s →
    StartPrints t tables list s xs → StartPrints t tables other s xs
start_list list other xs (unread r e f z) P = rw f (rw f at P)
start_list list other xs (unbuilt k r e b f) P = rw f (rw f at P)
start_list list other xs (built k n labels e b f) P = rw f (first_turn_lem (rw f at P))

-- and it is the output
module _ (t tables list : List ℕ) (s : Stage) (S : StartOf t runs_room codes_room build_room file_room tables s) (bytes : AreBytes tables) (xs : List ℕ) where
  pub start_output : StartPrints t tables list s xs → OutputOf t xs
  start_output P = record { tables = tables; bytes = bytes; stage = s; starts = S; prints = start_list list (replicate last_minute 0) xs S P }

-- ---- the steps, one after the other

pub along_none : (t runs codes tables list : List ℕ) (s : Stage) → Stands t runs codes tables list s → {total : ℕ} → total ≡ 0 →
    Along t runs codes tables list s list s total
along_none t runs codes tables list s R e =
    record {
      stands = R;
      done = [];
      count = e;
      rest = λ ys P. P;
      first_done = λ xs P. (xs, P, refl);
      bound = omega (arith, left_most t runs codes tables list s R);
    }

module _ (t runs codes tables before list out list' out' : List ℕ) (first s : Stage) {total : ℕ}
    (D : Along t runs codes tables before first list s total) {x : Option Printed}
    (S : StepOf t runs codes tables s list out list' out' x) where
  module _ (n : ℕ) (s' : Stage) (e : x ≡ printing n s') where
    -- the line is within the buffer
    pub along_bytes : n ≤ longest_line
    along_bytes = few_bytes t runs codes tables s list out list' out' S n s' e

    pub along_less : length list' ≡ length list → left (length t) s' < left (length t) s
    along_less same = step_less t runs codes tables list out list' out' s D.stands S same n s' e

    -- the number of bytes stays small
    pub along_total : length list' ≡ length list → total + n + longest_line * left (length t) s' ≤ longest_line * most_lines
    along_total same =
        omega (arith, D.bound, along_bytes, along_less same)

    pub along_more : length list' ≡ length list → longest_line ≤ length out → length out' ≡ length out → {more : ℕ} → total + n ≡ more →
        Along t runs codes tables before first list' s' more
    along_more same room as_long is =
        let few = along_bytes in
        record {
          stands = step_stands t runs codes tables list out list' out' s D.stands S same n s' e;
          done = D.done ++ take n out';
          count = rw length-append (omega (arith, D.count, length-take-le n out' (omega arith)));
          rest = λ ys P. subst (Prints t runs codes tables before first) (sym (append_assoc D.done (take n out') ys))
              (D.rest (take n out' ++ ys) (step_prints t runs codes tables list out list' out' s D.stands S room n s' e ys P));
          first_done = λ xs P.
              let f = D.first_done xs P in
              let g = step_first t runs codes tables list out list' out' s D.stands S room n s' e f.0 f.1 in
              (g.0, g.1, f.2 ∙ ap (λ (l : List ℕ). D.done ++ l) g.2 ∙ sym (append_assoc D.done (take n out') g.0));
          bound = omega (arith, along_total same);
        }

    -- so many bytes and this line, at least, are to be printed; and a line has bytes
    pub along_due : longest_line ≤ length out → length out' ≡ length out → (0 < n) ×
        ((xs : List ℕ) → Prints t runs codes tables before first xs → total + n ≤ length xs)
    along_due room as_long =
        let few = along_bytes in (
          some_bytes t runs codes tables s list out list' out' S n s' e,
          λ xs P.
              let f = D.first_done xs P in
              let g = step_first t runs codes tables list out list' out' s D.stands S room n s' e f.0 f.1 in
              let l : List ℕ = take n out' in
              omega (
                arith,
                D.count,
                ap length f.2,
                length-append D.done f.0,
                ap length g.2,
                length-append l g.0,
                length-take-le n out' (omega arith),
              ),
        )

  -- all that is to be printed was written
  pub along_all : x ≡ None → (xs : List ℕ) × Prints t runs codes tables before first xs × (total ≡ length xs)
  along_all e =
      (D.done ++ [], D.rest [] (step_over t runs codes tables list out list' out' s D.stands S e), rw length-append (omega (arith, D.count)))

-- ---- the output is one

lines_one : {P : ℕ → ℕ → List ℕ → Type 0} {t : List ℕ} {a : ℕ} {xs ys : List ℕ} → ((i e : ℕ) (l m : List ℕ) → P i e l → P i e m → l ≡ m) →
    LinesPrint P t a xs → LinesPrint P t a ys → xs ≡ ys
lines_one o (none p q) (none p' q') = q ∙ sym q'
lines_one o (none p q) (unfinished p' q') = let g = sym p ∙ p' in cc
lines_one o (none p q) (line e l m p' f r q') = let g = sym p ∙ p' in cc
lines_one o (unfinished p q) (none p' q') = let g = sym p ∙ p' in cc
lines_one o (unfinished p q) (unfinished p' q') = q ∙ sym q'
lines_one o (unfinished p q) (line e l m p' f r q') = let g = sym p ∙ p' in cc
lines_one o (line e l m p f r q) (none p' q') = let g = sym p ∙ p' in cc
lines_one o (line e l m p f r q) (unfinished p' q') = let g = sym p ∙ p' in cc
lines_one {P} {t} {a} o (line e l m p f r q) (line e' l' m' p' f' r' q') =
    let g = sym p' ∙ p in
    let i : e' ≡ e = cc in
    q ∙ ap₂ (λ (x y : List ℕ). x ++ y) (o a e l l' f (subst (λ (j : ℕ). P a j l') i f'))
    (lines_one o r (subst (λ (j : ℕ). LinesPrint P t (j + 1) m') i r')) ∙ sym q'

-- what holds of each line's print holds of all
pub lines_map : {P Q : ℕ → ℕ → List ℕ → Type 0} {t : List ℕ} {a : ℕ} {xs : List ℕ} → ((i e : ℕ) (l : List ℕ) → P i e l → Q i e l) → LinesPrint P t a xs →
    LinesPrint Q t a xs
lines_map f (none p q) = none p q
lines_map f (unfinished p q) = unfinished p q
lines_map f (line e l m p g r q) = line e l m p (f _ e l g) (lines_map f r) q

turn_one : {h : Held} {t list : List ℕ} {p : Turn} {xs ys : List ℕ} → TurnPrints h t list p xs → TurnPrints h t list p ys → xs ≡ ys
turn_one {h} {t} {list} {p} P Q =
    P.is ∙ ap₂ (λ (x y : List ℕ). x ++ y) (append_one (ride_lines h.text h.codes h.runs list p.ride) (sym P.rides ∙ Q.rides))
    (lines_one (λ i e l m. printed_one) P.lines Q.lines) ∙ sym Q.is

pub prints_one : (t runs codes tables list : List ℕ) (s : Stage) (xs ys : List ℕ) → Prints t runs codes tables list s xs →
    Prints t runs codes tables list s ys → xs ≡ ys
prints_one t runs codes tables list (Refused r) xs ys P Q = P ∙ sym Q
prints_one t runs codes tables list (Asks z p) xs ys P Q = turn_one P Q
prints_one t runs codes tables list Over xs ys P Q = P ∙ sym Q

same_build : {k c : Counts} → k ≡ c → {runs : List ℕ} {work lent : ℕ} {y : Result Built Refusal} {tables : List ℕ} →
    BuildOf (given_of k.stops k.runs) runs work lent y tables →
    BuildOf (given_of c.stops c.runs) runs work lent y tables
same_build e {runs} {work} {lent} {y} {tables} b = subst (λ (i : Counts). BuildOf (given_of i.stops i.runs) runs work lent y tables) e b

-- no second stage and no second tables meet the contract of the start
module _ {t : List ℕ} {roomR roomC work lent : ℕ} {tables other : List ℕ} {s r : Stage} where
  pub start_one : AreBytes tables → AreBytes other → StartOf t roomR roomC work lent tables s → StartOf t roomR roomC work lent other r → (s ≡ r) ×
      (tables ≡ other)
  start_one x y (unread q e f z) (unread q' e' f' z') = let g = sym e ∙ e' in let i : q ≡ q' = cc in (f ∙ ap Refused i ∙ sym f', z ∙ sym z')
  start_one x y (unread q e f z) (unbuilt k q' e' b f') = let g = sym e ∙ e' in cc
  start_one x y (unread q e f z) (built k n l e' b f') = let g = sym e ∙ e' in cc
  start_one x y (unbuilt k q e b f) (unread q' e' f' z') = let g = sym e ∙ e' in cc
  start_one x y (unbuilt k q e b f) (unbuilt k' q' e' b' f') =
      let g = sym e' ∙ e in
      let i : k' ≡ k = cc in
      let o = build_one x y b (same_build i b') in
      let h = o.0 in
      let j : q ≡ q' = cc in
      (f ∙ ap Refused j ∙ sym f', o.1)
  start_one x y (unbuilt k q e b f) (built k' n l e' b' f') =
      let g = sym e' ∙ e in
      let i : k' ≡ k = cc in
      let h = (build_one x y b (same_build i b')).0 in cc
  start_one x y (built k n l e b f) (unread q' e' f' z') = let g = sym e ∙ e' in cc
  start_one x y (built k n l e b f) (unbuilt k' q' e' b' f') =
      let g = sym e' ∙ e in
      let i : k' ≡ k = cc in
      let h = (build_one x y b (same_build i b')).0 in cc
  start_one x y (built k n l e b f) (built k' n' l' e' b' f') =
      let g = sym e' ∙ e in
      let i : k' ≡ k = cc in
      let o = build_one x y b (same_build i b') in
      let h = o.0 in
      let m : ◌≡◌ {A = Built} (record { length = n; labels = l }) (record { length = n'; labels = l' }) = cc in
      let j : n ≡ n' = ap (λ (x : Built). x.length) m in (
        f ∙ ap₂ (λ (c : Counts) (m : ℕ). Asks (record { given = given_of c.stops c.runs; text = timetable_end t; tables = m })
            (record { at = timetable_end t; ride = 0; rides = 0 })) (sym i) j ∙ sym f',
        o.1,
      )

-- the output is what is to be printed after the start
module _ (t tables list : List ℕ) (s : Stage) (S : StartOf t runs_room codes_room build_room file_room tables s) (bytes : AreBytes tables) (xs : List ℕ) where
  pub output_start : OutputOf t xs → StartPrints t tables list s xs
  output_start O =
      let e = start_one O.bytes bytes O.starts S in
      start_list (replicate last_minute 0) list xs S
      (subst₂ (λ (b : List ℕ) (r : Stage). StartPrints t b (replicate last_minute 0) r xs) e.1 e.0 O.prints)

-- no second output is one
pub output_one : {t xs ys : List ℕ} → OutputOf t xs → OutputOf t ys → xs ≡ ys
output_one {t} {xs} {ys} O P =
    prints_one t (runs_of (read_input t runs_room codes_room) runs_room) (codes_of (read_input t runs_room codes_room) codes_room) O.tables
    (replicate last_minute 0) O.stage xs ys O.prints
    (output_start t O.tables (replicate last_minute 0) O.stage O.starts O.bytes ys P)
