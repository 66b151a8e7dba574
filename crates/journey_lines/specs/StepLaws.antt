-- Laws of a step: where the next one may be made, what is left after it, and that line by line the steps print what is said in Output.antt.
use Rattle.kinds.specs.Refusals.{number_of}
use Rattle.std.specs.Prelude.{ℕ, zero, suc, ◌+◌, ◌-◌, ◌≤◌, ◌<◌, ◌≡◌, refl, List, [], ◌∷◌, ◌++◌, length, take, get_or, replicate}
use Rattle.std.specs.Prelude.{Err, None, Ok, Option, Result}
use Rattle.std.proofs.Common.{sym, ap, ap₂, subst, subst₂, ◌∙◌, append_assoc, append-nil, arith}
use Rattle.std.proofs.lemmas.List.{length-replicate}
use Rattle.kinds.specs.Limits.{last_minute}
use Rattle.timetable.specs.Numbers.{run_at}
use Rattle.both.specs.Both.{work_room}
use Rattle.askline.specs.declared.Piece.TheVariants as piece
use Rattle.askline.specs.AskLine.{ask_line}
use Rattle.askline.specs.Input.{piece_at}
use Rattle.askline.specs.InputLaws.{line_within}
use Rattle.printed.specs.Printed.{no_line, longest_line}
use Rattle.printed.specs.LineLaws.{at_some, ride_some, no_some, no_place_some}
use Rattle.printed.specs.WroteLaws.{wrote_first, wrote_one}
use Rattle.answers.specs.Answers.{LineGets, head_of, rides_in, ride_line_of, ride_lines, Ridden}
use Rattle.answers.specs.AnswersLaws.{gets_one, gets_lent, lines_none, lines_more, lines_on, printed_is, ridden_all}
use Rattle.journey_lines.specs.Output.{Held, held_of, LinePrints, LinesPrint, none, unfinished, line, TurnPrints, Prints}
use Rattle.journey_lines.specs.Steps as step
use Rattle.journey_lines.specs.Steps.{Writes, TurnStep, StepOf, Ready, Stands, printing}
use Rattle.journey_lines.specs.declared.Sizes.{Sizes}
use Rattle.journey_lines.specs.declared.Turn.{Turn}
use Rattle.journey_lines.specs.declared.Stage.{Stage}
use Rattle.journey_lines.specs.declared.Stage.TheVariants.{Refused, Asks, Over}
use Rattle.journey_lines.specs.Turns.{left, most_lines}
use Rattle.kinds.specs.declared.Reason.TheVariants as reason
use Rattle.rides.specs.declared.Listed.{Listed}
use Rattle.kinds.specs.declared.Refusal.{Refusal}
use Rattle.askline.specs.declared.Ask.{Ask}
use Rattle.kinds.specs.declared.Reason.{Reason}
use Rattle.journey_lines.specs.declared.Printed.{Printed}

-- two steps that are one have one number of bytes, and one stage follows
same_bytes : {n m : ℕ} {s r : Stage} → printing n s ≡ printing m r → (n ≡ m) × (s ≡ r)
same_bytes {n} {m} {s} {r} e =
    let f : ◌≡◌ {A = Printed} (record { bytes = n; after = s }) (record { bytes = m; after = r }) = cc in
    (ap (λ (x : Printed). x.bytes) f, ap (λ (x : Printed). x.after) f)

module _ {t runs codes tables list : List ℕ} {z : Sizes} {p : Turn} (R : Ready t runs codes tables list z p) where
  -- no more rides are listed than there is room for
  pub few_rides : p.rides ≤ last_minute
  few_rides = go p.rides R.ridden
    where
      go : (n : ℕ) → ((k : ℕ) → k < n → Ridden (take z.text t) codes runs list k) → n ≤ last_minute
      go zero f = omega arith
      go (suc n) f = omega (arith, (f n (omega arith)).within, R.listed)

  module _ {out list' out' : List ℕ} {x : Option Printed} (same : length list' ≡ length list) {n : ℕ} {s : Stage} (e : x ≡ printing n s) where
    turn_stands : TurnStep (held_of t runs codes tables z) t z p list out list' out' x → Stands t runs codes tables list' s
    turn_stands (step.ride lt l w) =
        subst (Stands t runs codes tables list') (same_bytes (sym w.is ∙ e)).1
        (record {
          short = R.short;
          text_in = R.text_in;
          tables_in = R.tables_in;
          roomy = R.roomy;
          read = R.read;
          listed = same ∙ R.listed;
          due = omega arith;
          ridden = rw l R.ridden;
        })
    turn_stands (step.line i y le at g w) =
        subst (Stands t runs codes tables list') (same_bytes (sym w.is ∙ e)).1
        (record {
          short = R.short;
          text_in = R.text_in;
          tables_in = R.tables_in;
          roomy = R.roomy;
          read = R.read;
          listed = same ∙ R.listed;
          due = omega arith;
          ridden = ridden_all z.given R.read R.roomy (take z.tables tables) work_room
              (ask_line (take z.text t) codes z.given.stops t p.at i) list list' y g;
        })
    turn_stands (step.unfinished le at l w) = subst (Stands t runs codes tables list') (same_bytes (sym w.is ∙ e)).1 tt
    turn_stands (step.none le at l o f) = let g = sym e ∙ f in cc

module _ (t runs codes tables list : List ℕ) where
  -- so many lines are left at most at any stage
  pub left_most : (s : Stage) → Stands t runs codes tables list s → left (length t) s ≤ most_lines
  left_most (Refused r) R = omega arith
  left_most (Asks z p) R = omega (arith, few_rides R, R.short)
  left_most Over R = omega arith

  module _ (out list' out' : List ℕ) {x : Option Printed} where
    -- a step can follow the step
    pub step_stands : (s : Stage) → Stands t runs codes tables list s → StepOf t runs codes tables s list out list' out' x → length list' ≡ length list →
        (n : ℕ) (s' : Stage) → x ≡ printing n s' → Stands t runs codes tables list' s'
    step_stands (Refused r) R S same n s' e = subst (Stands t runs codes tables list') (same_bytes (sym S.0.is ∙ e)).1 tt
    step_stands (Asks z p) R S same n s' e = turn_stands R same e S
    step_stands Over R S same n s' e = let g = sym e ∙ S.0 in cc

    -- and fewer lines are left
    pub step_less : (s : Stage) → Stands t runs codes tables list s → StepOf t runs codes tables s list out list' out' x → length list' ≡ length list →
        (n : ℕ) (s' : Stage) → x ≡ printing n s' → left (length t) s' < left (length t) s
    step_less (Refused r) R S same n s' e = subst (λ i. left (length t) i < 1) (same_bytes (sym S.0.is ∙ e)).1 (omega arith)
    step_less (Asks z p) R (step.ride lt l w) same n s' e =
        subst (λ i. left (length t) i < left (length t) (Asks z p)) (same_bytes (sym w.is ∙ e)).1 (omega arith)
    step_less (Asks z p) R (step.line i y le at g w) same n s' e =
        let h = line_within t p.at i at in
        let few = few_rides (turn_stands R same w.is (step.line i y le at g w)) in
        subst (λ i. left (length t) i < left (length t) (Asks z p)) (same_bytes (sym w.is ∙ e)).1 (omega (arith, h.0, h.1, few))
    step_less (Asks z p) R (step.unfinished le at l w) same n s' e =
        subst (λ i. left (length t) i < left (length t) (Asks z p)) (same_bytes (sym w.is ∙ e)).1 (omega arith)
    step_less (Asks z p) R (step.none le at l o f) same n s' e = let g = sym e ∙ f in cc
    step_less Over R S same n s' e = let g = sym e ∙ S.0 in cc

-- ---- line by line, the steps print what is said

pub append_one : (l : List ℕ) {xs ys : List ℕ} → l ++ xs ≡ l ++ ys → xs ≡ ys
append_one [] e = e
append_one (x ∷ l) e = append_one l cc

-- where the last line has no LF, "no 2" is all that is left
unfinished_is : {P : ℕ → ℕ → List ℕ → Type 0} {t : List ℕ} {a : ℕ} {xs : List ℕ} → piece_at t a ≡ piece.Unfinished →
    LinesPrint P t a xs → xs ≡ no_line (number_of reason.LineShape)
unfinished_is at (none at' is) = let j = sym at ∙ at' in cc
unfinished_is at (unfinished at' is) = is
unfinished_is at (line i ys zs at' f rest is) = let j = sym at ∙ at' in cc

-- the buffer's first bytes are the line
pub first_bytes : {out xs out' : List ℕ} {s : Stage} {x : Option Printed} → Writes out xs s out' x → longest_line ≤ length out → (n : ℕ) (s' : Stage) →
    x ≡ printing n s' → take n out' ≡ xs
first_bytes {xs = xs} {out' = out'} w h n s' e =
    let b = (same_bytes (sym w.is ∙ e)).0 in
    ap (λ (m : ℕ). take m out') (sym b) ∙ wrote_first w.wrote (omega (arith, w.wrote.end, w.short))

module _ {t runs codes tables list : List ℕ} {z : Sizes} {p : Turn} (R : Ready t runs codes tables list z p) where
  -- the turn's rides are all printed
  lines_only : p.rides ≤ p.ride → {xs : List ℕ} → LinesPrint (LinePrints (held_of t runs codes tables z) t) t p.at xs →
      TurnPrints (held_of t runs codes tables z) t list p xs
  lines_only le {xs} l =
      let e : p.rides ≡ p.ride = omega (arith, R.due) in
      record {
        left = [];
        rides = ap (ride_lines (held_of t runs codes tables z).text codes runs list) e ∙ sym (append-nil _);
        rest = xs;
        lines = l;
        is = refl;
      }

  -- the line of a ride, and then what follows it
  ride_more : {list' : List ℕ} → list' ≡ list → {ys : List ℕ} →
      TurnPrints (held_of t runs codes tables z) t list' (record { at = p.at; ride = p.ride + 1; rides = p.rides }) ys →
      TurnPrints (held_of t runs codes tables z) t list p (ride_line_of (held_of t runs codes tables z).text codes (run_at runs (get_or list p.ride 0)) ++ ys)
  ride_more l {ys} P =
      let Q : TurnPrints (held_of t runs codes tables z) t list (record { at = p.at; ride = p.ride + 1; rides = p.rides }) ys =
      subst (λ (m : List ℕ). TurnPrints (held_of t runs codes tables z) t m (record { at = p.at; ride = p.ride + 1; rides = p.rides }) ys) l P in
      let xs : List ℕ = ride_line_of (held_of t runs codes tables z).text codes (run_at runs (get_or list p.ride 0)) in
      record {
        left = xs ++ Q.left;
        rides = Q.rides ∙ ap (λ (l : List ℕ). l ++ Q.left) (lines_more (held_of t runs codes tables z).text codes runs list p.ride) ∙
            append_assoc (ride_lines (held_of t runs codes tables z).text codes runs list p.ride) xs Q.left;
        rest = Q.rest;
        lines = Q.lines;
        is = ap (λ (l : List ℕ). xs ++ l) Q.is ∙ sym (append_assoc xs Q.left Q.rest);
      }

  -- the first line of an answer, and then what follows it
  line_more : {list' : List ℕ} (i : ℕ) (y : Result Listed Refusal) → p.rides ≤ p.ride → piece_at t p.at ≡ piece.Line i →
      LineGets (held_of t runs codes tables z).tables (held_of t runs codes tables z).given (held_of t runs codes tables z).runs work_room
      (ask_line (held_of t runs codes tables z).text (held_of t runs codes tables z).codes (held_of t runs codes tables z).given.stops t
      p.at i) list list' y →
      {ys : List ℕ} → TurnPrints (held_of t runs codes tables z) t list' (record { at = i + 1; ride = 0; rides = rides_in y }) ys →
      TurnPrints (held_of t runs codes tables z) t list p (head_of y ++ ys)
  line_more {list'} i y le at g Q =
      let none = lines_none (held_of t runs codes tables z).text codes runs list' in
      lines_only le
      (line i (head_of y ++ Q.left) Q.rest at
      (record {
        answer = y;
        list = list';
        gets = gets_lent (held_of t runs codes tables z).tables (held_of t runs codes tables z).given (held_of t runs codes tables z).runs work_room
            (ask_line (held_of t runs codes tables z).text (held_of t runs codes tables z).codes (held_of t runs codes tables z).given.stops t
            p.at i) list (replicate last_minute 0) list' y
            (R.listed ∙ sym (length-replicate {A = ℕ} last_minute 0)) g;
        is = ap (λ (l : List ℕ). head_of y ++ l) (sym (Q.rides ∙ ap (λ (l : List ℕ). l ++ Q.left) none)) ∙
            sym (printed_is (held_of t runs codes tables z).text codes runs list' y);
      })
      Q.lines (ap (λ (l : List ℕ). head_of y ++ l) Q.is ∙ sym (append_assoc (head_of y) Q.left Q.rest)))

  module _ {out list' out' : List ℕ} {x : Option Printed} (room : longest_line ≤ length out) {n : ℕ} {s : Stage} (e : x ≡ printing n s) where
    turn_prints : TurnStep (held_of t runs codes tables z) t z p list out list' out' x → (ys : List ℕ) → Prints t runs codes tables list' s ys →
        TurnPrints (held_of t runs codes tables z) t list p (take n out' ++ ys)
    turn_prints (step.ride lt l w) ys P =
        let Q = subst (λ i. Prints t runs codes tables list' i ys) (sym (same_bytes (sym w.is ∙ e)).1) P in
        subst (λ (xs : List ℕ). TurnPrints (held_of t runs codes tables z) t list p (xs ++ ys)) (sym (first_bytes w room n s e)) (ride_more l Q)
    turn_prints (step.line i y le at g w) ys P =
        let Q = subst (λ i. Prints t runs codes tables list' i ys) (sym (same_bytes (sym w.is ∙ e)).1) P in
        subst (λ (xs : List ℕ). TurnPrints (held_of t runs codes tables z) t list p (xs ++ ys)) (sym (first_bytes w room n s e)) (line_more i y le at g Q)
    turn_prints (step.unfinished le at l w) ys P =
        let Q : ys ≡ [] = subst (λ i. Prints t runs codes tables list' i ys) (sym (same_bytes (sym w.is ∙ e)).1) P in
        let b = first_bytes w room n s e in
        lines_only le (unfinished at (ap (λ (l : List ℕ). take n out' ++ l) Q ∙ append-nil (take n out') ∙ b))
    turn_prints (step.none le at l o f) ys P = let g = sym e ∙ f in cc

  turn_over : {out list' out' : List ℕ} {x : Option Printed} → x ≡ None → TurnStep (held_of t runs codes tables z) t z p list out list' out' x →
      TurnPrints (held_of t runs codes tables z) t list p []
  turn_over e (step.ride lt l w) = let g = sym e ∙ w.is in cc
  turn_over e (step.line i y le at g w) = let g = sym e ∙ w.is in cc
  turn_over e (step.unfinished le at l w) = let g = sym e ∙ w.is in cc
  turn_over e (step.none le at l o f) = lines_only le (none at refl)

  -- The other way round: where the turn's rides are printed, the lines are left;
  lines_left : p.rides ≤ p.ride → {xs : List ℕ} → TurnPrints (held_of t runs codes tables z) t list p xs →
      LinesPrint (LinePrints (held_of t runs codes tables z) t) t p.at xs
  lines_left le {xs} P =
      let l = ride_lines (held_of t runs codes tables z).text codes runs list p.ride in
      let e : p.rides ≡ p.ride = omega (arith, R.due) in
      let f : [] ≡ P.left = append_one l (append-nil l ∙ ap (ride_lines (held_of t runs codes tables z).text codes runs list) (sym e) ∙ P.rides) in
      subst (LinesPrint (LinePrints (held_of t runs codes tables z) t) t p.at) (sym (P.is ∙ ap (λ (i : List ℕ). i ++ P.rest) (sym f))) P.lines

  -- the line of a ride comes first,
  ride_first : p.ride < p.rides → {list' : List ℕ} → list' ≡ list → {xs : List ℕ} → TurnPrints (held_of t runs codes tables z) t list p xs →
      (ys : List ℕ) × TurnPrints (held_of t runs codes tables z) t list' (record { at = p.at; ride = p.ride + 1; rides = p.rides }) ys ×
      (xs ≡ ride_line_of (held_of t runs codes tables z).text codes (run_at runs (get_or list p.ride 0)) ++ ys)
  ride_first lt l {xs} P =
      let m = lines_on (held_of t runs codes tables z).text codes runs list (p.rides - (p.ride + 1)) (p.ride + 1) in
      let e : p.rides - (p.ride + 1) + (p.ride + 1) ≡ p.rides = omega arith in
      let r = ride_line_of (held_of t runs codes tables z).text codes (run_at runs (get_or list p.ride 0)) in
      let a = ride_lines (held_of t runs codes tables z).text codes runs list in
      let g : a p.rides ≡ a (p.ride + 1) ++ m.0 = ap a (sym e) ∙ m.1 in
      let left : P.left ≡ r ++ m.0 =
      append_one (a p.ride) (sym P.rides ∙ g ∙
      ap (λ (i : List ℕ). i ++ m.0) (lines_more (held_of t runs codes tables z).text codes runs list p.ride) ∙
      append_assoc (a p.ride) r m.0) in (
        m.0 ++ P.rest,
        subst (λ (i : List ℕ). TurnPrints (held_of t runs codes tables z) t i (record { at = p.at; ride = p.ride + 1; rides = p.rides })
            (m.0 ++ P.rest)) (sym l)
            (record { left = m.0; rides = g; rest = P.rest; lines = P.lines; is = refl }),
        P.is ∙ ap (λ (i : List ℕ). i ++ P.rest) left ∙ append_assoc r m.0 P.rest,
      )

  -- and so does the first line of an answer.
  line_first : {list' : List ℕ} (i : ℕ) (y : Result Listed Refusal) → piece_at t p.at ≡ piece.Line i →
      LineGets (held_of t runs codes tables z).tables (held_of t runs codes tables z).given (held_of t runs codes tables z).runs work_room
      (ask_line (held_of t runs codes tables z).text (held_of t runs codes tables z).codes (held_of t runs codes tables z).given.stops t
      p.at i) list list' y →
      {xs : List ℕ} → LinesPrint (LinePrints (held_of t runs codes tables z) t) t p.at xs → (ys : List ℕ) ×
      TurnPrints (held_of t runs codes tables z) t list' (record { at = i + 1; ride = 0; rides = rides_in y }) ys × (xs ≡ head_of y ++ ys)
  line_first i y at g (none at' is) = let j = sym at ∙ at' in cc
  line_first i y at g (unfinished at' is) = let j = sym at ∙ at' in cc
  line_first {list'} i y at g (line i' ys zs at' f rest is) =
      let j = sym at' ∙ at in
      let e : i' ≡ i = cc in
      let read : ℕ → (Result Ask Reason) = ask_line (held_of t runs codes tables z).text (held_of t runs codes tables z).codes
      (held_of t runs codes tables z).given.stops t p.at in
      let o = gets_one (held_of t runs codes tables z).tables (held_of t runs codes tables z).given (held_of t runs codes tables z).runs work_room (read i)
      (replicate last_minute 0) f.list list' f.answer y
      (subst (λ (k : ℕ). LineGets (held_of t runs codes tables z).tables (held_of t runs codes tables z).given (held_of t runs codes tables z).runs work_room
      (read k) (replicate last_minute 0) f.list f.answer) e f.gets)
      (gets_lent (held_of t runs codes tables z).tables (held_of t runs codes tables z).given (held_of t runs codes tables z).runs work_room (read i) list
      (replicate last_minute 0) list' y (R.listed ∙ sym (length-replicate {A = ℕ} last_minute 0)) g) in
      let m = ride_lines (held_of t runs codes tables z).text codes runs list' (rides_in y) in (
        m ++ zs,
        record {
          left = m;
          rides = ap (λ (l : List ℕ). l ++ m) (sym (lines_none (held_of t runs codes tables z).text codes runs list'));
          rest = zs;
          lines = subst (λ (k : ℕ). LinesPrint (LinePrints (held_of t runs codes tables z) t) t (k + 1) zs) e rest;
          is = refl;
        },
        is ∙ ap (λ (l : List ℕ). l ++ zs) (f.is ∙ printed_is (held_of t runs codes tables z).text codes runs f.list f.answer ∙
            ap₂ (λ (l : List ℕ) (a : Result Listed Refusal). head_of a ++ ride_lines (held_of t runs codes tables z).text codes runs l (rides_in a)) o.1 o.0) ∙
            append_assoc (head_of y) m zs,
      )

  module _ {out list' out' : List ℕ} {x : Option Printed} (room : longest_line ≤ length out) {n : ℕ} {s : Stage} (e : x ≡ printing n s) where
    turn_first : TurnStep (held_of t runs codes tables z) t z p list out list' out' x → (xs : List ℕ) →
        TurnPrints (held_of t runs codes tables z) t list p xs → (ys : List ℕ) × Prints t runs codes tables list' s ys × (xs ≡ take n out' ++ ys)
    turn_first (step.ride lt l w) xs P =
        let f = ride_first lt l P in
        (f.0, subst (λ i. Prints t runs codes tables list' i f.0) (same_bytes (sym w.is ∙ e)).1 f.1, rw (first_bytes w room n s e) f.2)
    turn_first (step.line i y le at g w) xs P =
        let f = line_first i y at g (lines_left le P) in
        (f.0, subst (λ i. Prints t runs codes tables list' i f.0) (same_bytes (sym w.is ∙ e)).1 f.1, rw (first_bytes w room n s e) f.2)
    turn_first (step.unfinished le at l w) xs P = (
      [],
      subst (λ i. Prints t runs codes tables list' i []) (same_bytes (sym w.is ∙ e)).1 refl,
      unfinished_is at (lines_left le P) ∙ sym (first_bytes w room n s e) ∙ sym (append-nil (take n out')),
    )
    turn_first (step.none le at l o f) xs P = let g = sym e ∙ f in cc

module _ (t runs codes tables list out list' out' : List ℕ) {x : Option Printed} where
  -- what is to be printed at a stage is the line that the step wrote, and then what is to be printed after it
  pub step_prints : (s : Stage) → Stands t runs codes tables list s → StepOf t runs codes tables s list out list' out' x → longest_line ≤ length out →
      (n : ℕ) (s' : Stage) → x ≡ printing n s' → (ys : List ℕ) → Prints t runs codes tables list' s' ys → Prints t runs codes tables list s (take n out' ++ ys)
  step_prints (Refused r) R S room n s' e ys P =
      let Q : ys ≡ [] = subst (λ i. Prints t runs codes tables list' i ys) (sym (same_bytes (sym S.0.is ∙ e)).1) P in
      ap (λ (l : List ℕ). take n out' ++ l) Q ∙ append-nil (take n out') ∙ first_bytes S.0 room n s' e
  step_prints (Asks z p) R S room n s' e ys P = turn_prints R room e S ys P
  step_prints Over R S room n s' e ys P = let g = sym e ∙ S.0 in cc

  -- and nothing else is
  pub step_first : (s : Stage) → Stands t runs codes tables list s → StepOf t runs codes tables s list out list' out' x → longest_line ≤ length out →
      (n : ℕ) (s' : Stage) → x ≡ printing n s' → (xs : List ℕ) → Prints t runs codes tables list s xs → (ys : List ℕ) ×
      Prints t runs codes tables list' s' ys × (xs ≡ take n out' ++ ys)
  step_first (Refused r) R S room n s' e xs P = (
    [],
    subst (λ i. Prints t runs codes tables list' i []) (same_bytes (sym S.0.is ∙ e)).1 refl,
    P ∙ sym (first_bytes S.0 room n s' e) ∙ sym (append-nil (take n out')),
  )
  step_first (Asks z p) R S room n s' e xs P = turn_first R room e S xs P
  step_first Over R S room n s' e xs P = let g = sym e ∙ S.0 in cc

  -- and nothing where the step wrote no line
  pub step_over : (s : Stage) → Stands t runs codes tables list s → StepOf t runs codes tables s list out list' out' x → x ≡ None →
      Prints t runs codes tables list s []
  step_over (Refused r) R S e = let g = sym e ∙ S.0.is in cc
  step_over (Asks z p) R S e = turn_over R e S
  step_over Over R S e = refl

-- a line is no longer than the room for a line
pub few_bytes : (t runs codes tables : List ℕ) (s : Stage) (list out list' out' : List ℕ) {x : Option Printed} →
    StepOf t runs codes tables s list out list' out' x → (n : ℕ) (s' : Stage) → x ≡ printing n s' → n ≤ longest_line
few_bytes t runs codes tables (Refused r) list out list' out' S n s' e = omega (arith, S.0.short, (same_bytes (sym S.0.is ∙ e)).0)
few_bytes t runs codes tables (Asks z p) list out list' out' (step.ride lt l w) n s' e = omega (arith, w.short, (same_bytes (sym w.is ∙ e)).0)
few_bytes t runs codes tables (Asks z p) list out list' out' (step.line i y le at g w) n s' e = omega (arith, w.short, (same_bytes (sym w.is ∙ e)).0)
few_bytes t runs codes tables (Asks z p) list out list' out' (step.unfinished le at l w) n s' e = omega (arith, w.short, (same_bytes (sym w.is ∙ e)).0)
few_bytes t runs codes tables (Asks z p) list out list' out' (step.none le at l o f) n s' e = let g = sym e ∙ f in cc
few_bytes t runs codes tables Over list out list' out' S n s' e = let g = sym e ∙ S.0 in cc

-- and a line has bytes
head_some : (y : Result Listed Refusal) → 0 < length (head_of y)
head_some (Ok j) = at_some j.dep j.arr j.rides
head_some (Err r) = no_some (number_of r.reason)

writes_some : {out xs out' : List ℕ} {s : Stage} {x : Option Printed} → Writes out xs s out' x → 0 < length xs → (n : ℕ) (s' : Stage) →
    x ≡ printing n s' → 0 < n
writes_some w h n s' e = omega (arith, w.wrote.end, (same_bytes (sym w.is ∙ e)).0)

pub some_bytes : (t runs codes tables : List ℕ) (s : Stage) (list out list' out' : List ℕ) {x : Option Printed} →
    StepOf t runs codes tables s list out list' out' x → (n : ℕ) (s' : Stage) → x ≡ printing n s' → 0 < n
some_bytes t runs codes tables (Refused r) list out list' out' S n s' e = writes_some S.0 (no_place_some _ _) n s' e
some_bytes t runs codes tables (Asks z p) list out list' out' (step.ride lt l w) n s' e = writes_some w (ride_some _ _ _ _ _ _) n s' e
some_bytes t runs codes tables (Asks z p) list out list' out' (step.line i y le at g w) n s' e = writes_some w (head_some y) n s' e
some_bytes t runs codes tables (Asks z p) list out list' out' (step.unfinished le at l w) n s' e = writes_some w (no_some (number_of reason.LineShape)) n s' e
some_bytes t runs codes tables (Asks z p) list out list' out' (step.none le at l o f) n s' e = let g = sym e ∙ f in cc
some_bytes t runs codes tables Over list out list' out' S n s' e = let g = sym e ∙ S.0 in cc

-- ---- no second step, no second list and no second bytes meet the contract

writes_one : {out xs o o' : List ℕ} {s : Stage} {x y : Option Printed} → Writes out xs s o x → Writes out xs s o' y → (x ≡ y) × (o ≡ o')
writes_one {s = s} w v = let e = wrote_one w.wrote v.wrote in (w.is ∙ ap (λ (n : ℕ). printing n s) e.1 ∙ sym v.is, e.0)

turn_same : {h : Held} {t : List ℕ} {z : Sizes} {p : Turn} {list out l m o n : List ℕ} {x y : Option Printed} → TurnStep h t z p list out l o x →
    TurnStep h t z p list out m n y →
    (x ≡ y) × (l ≡ m) × (o ≡ n)
turn_same (step.ride lt l w) (step.ride lt' l' w') = let e = writes_one w w' in (e.0, l ∙ sym l', e.1)
turn_same (step.ride lt l w) (step.line i' q' le' at' g' w') = absurd (omega arith)
turn_same (step.ride lt l w) (step.unfinished le' at' l' w') = absurd (omega arith)
turn_same (step.ride lt l w) (step.none le' at' l' o' f') = absurd (omega arith)
turn_same (step.line i q le at g w) (step.ride lt' l' w') = absurd (omega arith)
turn_same {h} {t} {z} {p} {list} {out} {l} {m} {o} {n} {x} {y} (step.line i q le at g w) (step.line i' q' le' at' g' w') =
    let j = sym at' ∙ at in
    let e : i' ≡ i = cc in
    let read = ask_line h.text h.codes h.given.stops t p.at i in
    let b = gets_one h.tables h.given h.runs work_room read list l m q q' g
    (subst (λ (k : ℕ). LineGets h.tables h.given h.runs work_room (ask_line h.text h.codes h.given.stops t p.at k) list m q') e g') in
    let v = writes_one w
    (subst₂ (λ (k : ℕ) (a : Result Listed Refusal). Writes out (head_of a) (Asks z (record { at = k + 1; ride = 0; rides = rides_in a })) n y)
    e (sym b.0) w') in
    (v.0, b.1, v.1)
turn_same (step.line i q le at g w) (step.unfinished le' at' l' w') = let j = sym at ∙ at' in cc
turn_same (step.line i q le at g w) (step.none le' at' l' o' f') = let j = sym at ∙ at' in cc
turn_same (step.unfinished le at l w) (step.ride lt' l' w') = absurd (omega arith)
turn_same (step.unfinished le at l w) (step.line i' q' le' at' g' w') = let j = sym at ∙ at' in cc
turn_same (step.unfinished le at l w) (step.unfinished le' at' l' w') = let e = writes_one w w' in (e.0, l ∙ sym l', e.1)
turn_same (step.unfinished le at l w) (step.none le' at' l' o' f') = let j = sym at ∙ at' in cc
turn_same (step.none le at l o f) (step.ride lt' l' w') = absurd (omega arith)
turn_same (step.none le at l o f) (step.line i' q' le' at' g' w') = let j = sym at ∙ at' in cc
turn_same (step.none le at l o f) (step.unfinished le' at' l' w') = let j = sym at ∙ at' in cc
turn_same (step.none le at l o f) (step.none le' at' l' o' f') = (f ∙ sym f', l ∙ sym l', o ∙ sym o')

pub step_one : (t runs codes tables : List ℕ) (s : Stage) (list out l m o n : List ℕ) (x y : Option Printed) → StepOf t runs codes tables s list out l o x →
    StepOf t runs codes tables s list out m n y → (x ≡ y) × (l ≡ m) × (o ≡ n)
step_one t runs codes tables (Refused r) list out l m o n x y S T = let e = writes_one S.0 T.0 in (e.0, S.1 ∙ sym T.1, e.1)
step_one t runs codes tables (Asks z p) list out l m o n x y S T = turn_same S T
step_one t runs codes tables Over list out l m o n x y S T = (S.0 ∙ sym T.0, S.1 ∙ sym T.1, S.2 ∙ sym T.2)
