-- What the program prints is what is said of the timetable's journeys: over a file that serves the timetable, line by line.
use Rattle.std.specs.Prelude.{ℕ, ◌^◌, ◌≤◌, ◌<◌, ◌≡◌, refl, List, ◌++◌, ◌≢◌, length, replicate, Err, Ok, Result}
use Rattle.std.proofs.Common.{sym, ap, subst, ◌∙◌, inl, inr, arith}
use Rattle.std.proofs.lemmas.List.{length-replicate}
use Rattle.kinds.specs.Limits.{runs_room, codes_room, last_minute}
use Rattle.kinds.specs.Refusals.{number_of, refusal}
use Rattle.kinds.specs.declared.Refusal.{Refusal}
use Rattle.tables.specs.File.{file_room, tables_of}
use Rattle.timetable.specs.declared.Given.{Given}
use Rattle.timetable.specs.Numbers.{given_of, GoodNumbers}
use Rattle.timetable.specs.Slots.{listed, service_of}
use Rattle.timetable.proofs.SlotsLaws.{listed-length}
use Rattle.reader.specs.declared.Counts.{Counts}
use Rattle.reader.specs.Text.{answer_of, runs_of, codes_of}
use Rattle.asks.specs.Permitted as ask
use Rattle.asks.specs.Permitted.{criterion_of, Permitted, AskIs}
use Rattle.asks.proofs.PermittedLaws.{ask_is}
use Rattle.both.specs.Both.{work_room}
use Rattle.rides.specs.Accepted.{GetsRides}
use Rattle.builder.specs.Build.{build_room}
use Rattle.askline.specs.declared.Ask.{Ask}
use Rattle.askline.specs.AskLine.{ask_line}
use Rattle.askline.specs.Shapes.{ReadAs}
use Rattle.askline.specs.AskLineLaws.{line_read}
use Rattle.printed.specs.Printed.{most_digits, at_line, no_line}
use Rattle.printed.specs.LineLaws.{no_one, at_not_no}
use Rattle.answers.specs.Answers.{LineGets, ride_lines, printed_for, PrintedAsk}
use Rattle.answers.specs.AnswersLaws.{printed_listed, printed_refused}
use Rattle.journey_lines.specs.declared.Stage.{Stage}
use Rattle.journey_lines.specs.Output as output
use Rattle.journey_lines.specs.Output.{read_input, StartOf, refused_line, Prints, OutputOf}
use Rattle.journey_lines.specs.OutputLaws.{first_lines, lines_map}
use Rattle.journey_lines.specs.InputLaws.{input_numbers}
use Rattle.promises.specs.Calls.{TimetableLists, Serves}
use Rattle.promises.specs.BuiltLaws.{build_serves}
use Rattle.promises.specs.Demands as demands
use Rattle.promises.specs.Demands.{Builds}
use Rattle.promises.specs.DemandsLaws.{serves_best, demand_2}
use Rattle.promises.specs.Printed.{LineTells, ill_shaped, unknown, equal_stops, beyond_range, crossed, nothing, best, AskNumber, OutputTells, unread}
use Rattle.promises.specs.Printed.{too_many, asks}
use Rattle.kinds.specs.declared.Reason.TheVariants as reason
use Rattle.rides.specs.declared.Listed.{Listed}
use Rattle.kinds.specs.declared.Reason.{Reason}
use Rattle.asks.specs.declared.Asked.{Asked}

-- ---- one ask line

-- what is refused prints its number
says_no : (s codes runs after : List ℕ) {y : Result Listed Refusal} (n : Reason) → y ≡ Err (refusal n 0) →
    printed_for s codes runs after y ≡ no_line (number_of n)
says_no s codes runs after n e = ap (printed_for s codes runs after) e ∙ printed_refused s codes runs after (refusal n 0)

module _ (s codes : List ℕ) {given : Given} {runs file : List ℕ} (g : GoodNumbers given runs) (F : Serves given runs file) (lent : ℕ) (room : work_room ≤ lent)
    (before : List ℕ) (long : last_minute ≤ length before) where
  permitted_tells : (q : Ask) → Permitted given.stops q.from q.to q.wanted → (after : List ℕ) (y : Result Listed Refusal) →
      GetsRides (service_of given runs) q.from q.to (criterion_of q.wanted) before after y →
      LineTells s codes given runs (Ok q) (printed_for s codes runs after y)
  permitted_tells q p after (Ok j) B =
      best q refl p j.dep j.arr B.best B.rides B.way
      (ap (λ (l : List ℕ). printed_for s codes runs l (Ok j)) B.holds ∙
      printed_listed s codes runs (listed B.rides) _ j (B.count ∙ sym (listed-length B.rides)) ∙
      ap (λ (n : ℕ). at_line j.dep j.arr n ++ ride_lines s codes runs (listed B.rides) n) (listed-length B.rides))
  permitted_tells q p after (Err r) B = nothing q refl p B.1 (says_no s codes runs after reason.NoJourney (ap Err B.0))

  -- two known stops: 12 is not given
  asked_tells : (q : Ask) → (q.from < given.stops) × (q.to < given.stops) → {k : Result Asked Refusal} → AskIs given.stops q.from q.to q.wanted k →
      (after : List ℕ) (y : Result Listed Refusal) →
      (Permitted given.stops q.from q.to q.wanted → GetsRides (service_of given runs) q.from q.to (criterion_of q.wanted) before after y) →
      TimetableLists (service_of given runs) (tables_of file) k before after y → LineTells s codes given runs (Ok q) (printed_for s codes runs after y)
  asked_tells q known (ask.permitted p e) after y b f = permitted_tells q p after y (b p)
  asked_tells q known (ask.no_stop (inl h) e) after y b f = absurd (omega (arith, known.0))
  asked_tells q known (ask.no_stop (inr h) e) after y b f = absurd (omega (arith, known.1))
  asked_tells q known (ask.equal_stops h i e) after y b f =
      equal_stops q refl h i
      (says_no s codes runs after reason.SameStop (subst (λ i. TimetableLists (service_of given runs) (tables_of file) i before after y) e f).0)
  asked_tells q known (ask.beyond_range h o e) after y b f =
      beyond_range q refl h o (says_no s codes runs after reason.MinuteHigh
      (subst (λ i. TimetableLists (service_of given runs) (tables_of file) i before after y) e f).0)
  asked_tells q known (ask.crossed h r c e) after y b f =
      crossed q refl h r c (says_no s codes runs after reason.MinutesCrossed
      (subst (λ i. TimetableLists (service_of given runs) (tables_of file) i before after y) e f).0)

  read_tells : (x : Result Ask Reason) → ReadAs given.stops x → (after : List ℕ) (y : Result Listed Refusal) → LineGets file given runs lent x before after y →
      LineTells s codes given runs x (printed_for s codes runs after y)
  read_tells (Err n) (inl h) after y f = ill_shaped (ap Err h) (says_no s codes runs after n f.0 ∙ ap (λ (r : Reason). no_line (number_of r)) h)
  read_tells (Err n) (inr h) after y f = unknown (ap Err h) (says_no s codes runs after n f.0 ∙ ap (λ (r : Reason). no_line (number_of r)) h)
  read_tells (Ok q) h after y f =
      asked_tells q h (ask_is given.stops q.from q.to q.wanted) after y
      (λ p. (serves_best g F).rides q.from q.to q.wanted p lent room before after long y f)
      (F.rides lent q.from q.to q.wanted before after y room f)

  -- over a file that serves, with its rooms lent, every ask line tells the truth
  pub line_tells : (t : List ℕ) (a e : ℕ) (xs : List ℕ) → PrintedAsk s codes file given runs lent (ask_line s codes given.stops t a e) before xs →
      LineTells s codes given runs (ask_line s codes given.stops t a e) xs
  line_tells t a e xs P =
      subst (LineTells s codes given runs (ask_line s codes given.stops t a e)) (sym P.is)
      (read_tells (ask_line s codes given.stops t a e) (line_read s codes given.stops t a e) P.list P.answer P.gets)

-- ---- the numbers that are printed for an ask

other : (n : ℕ) → number_of reason.NoJourney < n → ¬ (AskNumber n)
other n h (inl e) = omega arith
other n h (inr (inl e)) = omega arith
other n h (inr (inr (inl e))) = omega arith
other n h (inr (inr (inr (inl e)))) = omega arith
other n h (inr (inr (inr (inr (inl e))))) = omega arith
other n h (inr (inr (inr (inr (inr e))))) = omega arith

module _ {s codes : List ℕ} {given : Given} {runs : List ℕ} {x : Result Ask Reason} {xs : List ℕ} where
  pub ask_numbers : LineTells s codes given runs x xs → (n : ℕ) → n < 10 ^ most_digits → xs ≡ no_line n → AskNumber n
  ask_numbers (ill_shaped e is) n h f = inl (no_one n (number_of reason.LineShape) h (omega arith) (sym f ∙ is))
  ask_numbers (unknown e is) n h f = inr (inl (no_one n (number_of reason.StopUnknown) h (omega arith) (sym f ∙ is)))
  ask_numbers (equal_stops q e k i is) n h f = inr (inr (inl (no_one n (number_of reason.SameStop) h (omega arith) (sym f ∙ is))))
  ask_numbers (beyond_range q e k o is) n h f = inr (inr (inr (inl (no_one n (number_of reason.MinuteHigh) h (omega arith) (sym f ∙ is)))))
  ask_numbers (crossed q e k r c is) n h f = inr (inr (inr (inr (inl (no_one n (number_of reason.MinutesCrossed) h (omega arith) (sym f ∙ is))))))
  ask_numbers (nothing q e p k is) n h f = inr (inr (inr (inr (inr (no_one n (number_of reason.NoJourney) h (omega arith) (sym f ∙ is))))))
  ask_numbers (best q e p d a B l w is) n h f = absurd (at_not_no d a (length l) _ n (sym is ∙ f))

  pub never_17_18 : LineTells s codes given runs x xs → (xs ≢ no_line (number_of reason.RoomShort)) × (xs ≢ no_line (number_of reason.RidesMissing))
  never_17_18 T = (
    λ f. other (number_of reason.RoomShort) (omega arith) (ask_numbers T (number_of reason.RoomShort) (omega arith) f),
    λ f. other (number_of reason.RidesMissing) (omega arith)
        (ask_numbers T (number_of reason.RidesMissing) (omega arith) f),
  )

-- ---- the whole output

-- what "journey" prints tells of the timetable's journeys
pub output_tells : (t xs : List ℕ) → OutputOf t xs → OutputTells t xs
output_tells t xs O = from_start O.tables O.stage O.starts O.prints
  where
    from_builds : (k : Counts) (r : Refusal) (tables : List ℕ) →
        Builds (given_of k.stops k.runs) (runs_of (read_input t runs_room codes_room) runs_room) file_room (Err r) tables →
        answer_of (read_input t runs_room codes_room) ≡ Ok k → xs ≡ refused_line r → OutputTells t xs
    from_builds k r tables (demands.the_rule file labels f c b a z) e P = absurd cc
    from_builds k r tables (demands.too_many labels c m a z) e P = let same : r ≡ refusal reason.LabelsOver 0 = cc in too_many k labels e c m
        (P ∙ ap refused_line same)

    from_start : (tables : List ℕ) (s : Stage) → StartOf t runs_room codes_room build_room file_room tables s →
        Prints t (runs_of (read_input t runs_room codes_room) runs_room) (codes_of (read_input t runs_room codes_room) codes_room) tables
        (replicate last_minute 0) s xs → OutputTells t xs
    from_start tables s (output.unread r e f z) P = unread r e (rw f at P)
    from_start tables s (output.unbuilt k r e b f) P =
        from_builds k r tables
        (demand_2 (given_of k.stops k.runs) _ (input_numbers t runs_room codes_room (omega arith) k e) build_room file_room (omega arith) (omega arith)
        (Err r) tables b) e (rw f at P)
    from_start tables s (output.built k n labels e b f) P =
        asks k e
        (lines_map (λ i j l Q. line_tells _ _ (input_numbers t runs_room codes_room (omega arith) k e)
        (build_serves (given_of k.stops k.runs) _ build_room file_room n labels tables b) work_room (omega arith)
        (replicate last_minute 0) (omega (arith, length-replicate {A = ℕ} last_minute 0)) t i j l Q) (first_lines (rw f at P)))
