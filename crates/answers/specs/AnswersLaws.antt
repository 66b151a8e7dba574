-- Laws of the answers: a line prints one text; what that is by the rides that are listed; and every listed ride can be printed.
use Rattle.kinds.specs.Refusals.{number_of}
use Prim.Native.Nat.{ℕ, zero, suc, ◌+◌, ◌-◌, ◌≤◌, ◌<◌}
use Rattle.std.specs.Prelude.{◌≡◌, List, [], ◌++◌, length, get_or, replicate, Err, Ok, Result}
use Rattle.std.proofs.Math.Path.{refl, ap}
use Rattle.std.proofs.Common.{sym, ap₂, ◌∙◌, append-nil, append_assoc, zero-add, length-append}
use native.Mathlib.Omega.{arith}
use Rattle.std.proofs.Math.ListN.{get_or-append}
use Rattle.loops.specs.ZeroLaws.{length-zeros, zeros_as}
use Rattle.kinds.specs.Limits.{runs_room}
use Rattle.kinds.specs.declared.Refusal.{Refusal}
use Rattle.journeys.proofs.JourneyLaws.{rides_below}
use Rattle.journeys.proofs.RidesLaws.{chosen_journey}
use Rattle.tables.specs.File.{tables_of}
use Rattle.timetable.specs.declared.Given.{Given}
use Rattle.timetable.specs.Numbers.{run_at, GoodRunAt}
use Rattle.timetable.specs.Slots.{slots_of, slot_run, listed, service_of}
use Rattle.timetable.proofs.SlotsLaws.{service_slots, slot_run_below, listed-length, listed_at}
use Rattle.reader.specs.Text.{GoodRead}
use Rattle.reader.specs.TextLaws.{named_all}
use Rattle.rides.specs.declared.Listed.{Listed}
use Rattle.rides.specs.Lists.{rides_asked, Lists}
use Rattle.rides.specs.ListsLaws.{lists_one, lists_lent}
use Rattle.printed.specs.Printed.{at_line, no_line}
use Rattle.answers.specs.Answers.{LineGets, head_of, rides_in, ride_line_of, ride_lines, printed_for, PrintedAsk, Ridden}
use Rattle.askline.specs.declared.Ask.{Ask}
use Rattle.kinds.specs.declared.Reason.{Reason}
use Rattle.asks.specs.declared.Asked.{Asked}

-- ---- a line prints one text
pub gets_one : (b : List ℕ) (given : Given) (runs : List ℕ) (lent : ℕ) (read : Result Ask Reason) (before m n : List ℕ) (x y : Result Listed Refusal) →
    LineGets b given runs lent read before m x → LineGets b given runs lent read before n y → (x ≡ y) × (m ≡ n)
gets_one b given runs lent (Err k) before m n x y f g = (f.0 ∙ sym g.0, f.1 ∙ sym g.1)
gets_one b given runs lent (Ok q) before m n x y f g = lists_one b given runs lent q.from q.to q.wanted before m n x y f g

pub printed_one : {s codes b : List ℕ} {given : Given} {runs : List ℕ} {lent : ℕ} {read : Result Ask Reason} {before xs ys : List ℕ} →
    PrintedAsk s codes b given runs lent read before xs → PrintedAsk s codes b given runs lent read before ys → xs ≡ ys
printed_one {s} {codes} {b} {given} {runs} {lent} {read} {before} p q =
    let z = gets_one b given runs lent read before p.list q.list p.answer q.answer p.gets q.gets in
    p.is ∙ ap₂ (λ l x. printed_for s codes runs l x) z.1 z.0 ∙ sym q.is

-- only the length of the lent list counts
pub gets_lent : (b : List ℕ) (given : Given) (runs : List ℕ) (lent : ℕ) (read : Result Ask Reason) (before other after : List ℕ) (x : Result Listed Refusal) →
    length before ≡ length other → LineGets b given runs lent read before after x → LineGets b given runs lent read other after x
gets_lent b given runs lent (Err k) before other after x n f = (f.0, zeros_as before other f.1 (ap length f.1 ∙ length-zeros before ∙ n))
gets_lent b given runs lent (Ok q) before other after x n f =
    lists_lent (service_of given runs) (tables_of b) (rides_asked b given runs lent q.from q.to q.wanted) before other after x n f

-- ---- what is printed, by the rides that are listed

module _ (s codes runs list : List ℕ) where
  -- no ride prints nothing; one ride more, its line behind those before it
  pub lines_none : ride_lines s codes runs list 0 ≡ []
  unfolding ride_lines
  lines_none = refl

  pub lines_more : (k : ℕ) → ride_lines s codes runs list (k + 1) ≡ ride_lines s codes runs list k ++ ride_line_of s codes (run_at runs (get_or list k 0))
  unfolding ride_lines
  lines_more k = let e : k + 1 ≡ suc k = omega arith in ap (ride_lines s codes runs list) e

  -- the lines of more rides begin with those of the first k
  pub lines_on : (j k : ℕ) → (m : List ℕ) × (ride_lines s codes runs list (j + k) ≡ ride_lines s codes runs list k ++ m)
  lines_on zero k = ([], ap (ride_lines s codes runs list) (zero-add k) ∙ sym (append-nil (ride_lines s codes runs list k)))
  lines_on (suc j) k =
      let f = lines_on j k in
      let r = ride_line_of s codes (run_at runs (get_or list (j + k) 0)) in
      let e : suc j + k ≡ j + k + 1 = omega arith in (
        f.0 ++ r,
        ap (ride_lines s codes runs list) e ∙ lines_more (j + k) ∙ ap (λ (l : List ℕ). l ++ r) f.1 ∙ append_assoc (ride_lines s codes runs list k) f.0 r,
      )

  -- an answer prints its first line, and then its rides
  pub printed_is : (x : Result Listed Refusal) → printed_for s codes runs list x ≡ head_of x ++ ride_lines s codes runs list (rides_in x)
  unfolding printed_for
  printed_is x = refl

-- only the rides that are printed count
lines_same : (s codes runs l m : List ℕ) (k : ℕ) → ((i : ℕ) → i < k → get_or l i 0 ≡ get_or m i 0) → ride_lines s codes runs l k ≡ ride_lines s codes runs m k
unfolding ride_lines
lines_same s codes runs l m zero f = refl
lines_same s codes runs l m (suc k) f =
    ap₂ (λ (x : List ℕ) (i : ℕ). x ++ ride_line_of s codes (run_at runs i)) (lines_same s codes runs l m k (λ i h. f i (omega arith))) (f k (omega arith))

pub printed_listed : (s codes runs l rest : List ℕ) (j : Listed) → j.rides ≡ length l →
    printed_for s codes runs (l ++ rest) (Ok j) ≡ at_line j.dep j.arr (length l) ++ ride_lines s codes runs l (length l)
unfolding printed_for
printed_listed s codes runs l rest j e =
    let same = lines_same s codes runs (l ++ rest) l (length l) (λ i h. get_or-append l rest 0 i h) in
    rw e (ap (λ (x : List ℕ). at_line j.dep j.arr (length l) ++ x) same)

pub printed_refused : (s codes runs list : List ℕ) (r : Refusal) → printed_for s codes runs list (Err r) ≡ no_line (number_of r.reason)
unfolding printed_for ride_lines
printed_refused s codes runs list r = append-nil (no_line (number_of r.reason))

-- ---- every listed ride can be printed

module _ {s : List ℕ} {roomR roomC : ℕ} (given : Given) {runs codes : List ℕ} (g : GoodRead s roomR roomC given.stops given.runs runs codes) where
  run_good : runs_room ≤ roomR → (i : ℕ) → i < given.runs → GoodRunAt runs i
  run_good room i h = record { stops = given.stops; few = g.few; long = omega (arith, g.few_runs, g.numbers_long); good = g.good i h }

  -- a number that is listed is that of a run
  listed_below : (b : List ℕ) (a : Result Asked Refusal) (before after : List ℕ) (x : Result Listed Refusal) →
      Lists (service_of given runs) (tables_of b) a before after x → (k : ℕ) → k < rides_in x → (k < length after) × (get_or after k 0 < given.runs)
  listed_below b (Err r) before after x f k h = absurd (omega (arith, ap rides_in f.0))
  listed_below b (Ok q) before after (Err r) f k h = absurd (omega arith)
  listed_below b (Ok q) before after (Ok j) f k h =
      let w = chosen_journey f.chosen in
      let l : k < length f.rides = omega (arith, f.count) in
      let z : List ℕ = replicate (length before - length f.rides) 0 in
      let m : k < length (listed f.rides) = omega (arith, listed-length f.rides) in
      let e : get_or after k 0 ≡ slot_run (get_or f.rides k 0) = rw f.holds (get_or-append (listed f.rides) z 0 k m ∙ listed_at f.rides k l) in
      let n : get_or f.rides k 0 < slots_of given = rw (w.are, service_slots given runs) at (rides_below w.way k (rw w.are l)) in
      (omega (arith, ap length f.holds, length-append (listed f.rides) z, m), omega (arith, e, slot_run_below given (get_or f.rides k 0) n))

  pub ridden_all : runs_room ≤ roomR → (b : List ℕ) (lent : ℕ) (read : Result Ask Reason) (before after : List ℕ) (x : Result Listed Refusal) →
      LineGets b given runs lent read before after x → (k : ℕ) → k < rides_in x → Ridden s codes runs after k
  ridden_all room b lent (Err n) before after x f k h = absurd (omega (arith, ap rides_in f.0))
  ridden_all room b lent (Ok q) before after x f k h =
      let z = listed_below b (rides_asked b given runs lent q.from q.to q.wanted) before after x f k h in
      let i : ℕ = get_or after k 0 in
      let r = g.good i z.1 in
      record {
        within = z.0;
        run = run_good room i z.1;
        from = named_all g (run_at runs i).from r.from_stop;
        to = named_all g (run_at runs i).to r.to_stop;
      }
