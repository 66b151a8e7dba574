-- Laws of the asks with rides, for the functions that answer them: what a good ask has, what is listed, and that no second answer and no
-- second list meet the contract.
use Rattle.std.specs.Prelude.{ℕ, ◌-◌, ◌≤◌, List, ◌++◌, length, replicate, Err, Ok, Result}
use Rattle.std.proofs.Math.Path.{◌≡◌, refl, sym, subst}
use Rattle.std.proofs.Common.{ap, subst₂, ◌∙◌, arith}
use Rattle.loops.specs.Zero.{zeros}
use Rattle.loops.specs.ZeroLaws.{length-zeros, zeros_as}
use Rattle.loops.specs.Written.{written}
use Rattle.loops.specs.WrittenLaws.{written-zeros}
use Rattle.kinds.specs.Limits.{last_minute}
use Rattle.kinds.specs.declared.Refusal.{Refusal}
use Rattle.journeys.specs.Service.{Service}
use Rattle.journeys.specs.Criteria.{Best}
use Rattle.journeys.specs.Tables.{Tables, GoodTables, Sketch}
use Rattle.journeys.specs.Rides.{Chosen}
use Rattle.journeys.proofs.CriteriaLaws.{best_one, best_not_nothing}
use Rattle.journeys.proofs.SketchLaws.{sketch_last}
use Rattle.journeys.proofs.RidesLaws.{chosen_one, chosen_short}
use Rattle.tables.specs.File.{tables_of}
use Rattle.tables.specs.Judged.{judged_tables}
use Rattle.tables.specs.TablesLaws.{good_tables}
use Rattle.timetable.specs.declared.Given.{Given}
use Rattle.timetable.specs.Numbers.{judged_of, GoodNumbers}
use Rattle.timetable.specs.Slots.{listed, service_of}
use Rattle.timetable.proofs.SlotsLaws.{listed-length}
use Rattle.asks.specs.declared.Wanted.{Wanted}
use Rattle.asks.specs.declared.Asked.{Asked}
use Rattle.asks.specs.Asks.{if_tables, ask_read}
use Rattle.asks.proofs.AskLaws.{ask_good}
use Rattle.both.specs.Both.{judged_both, work_room, BothGood}
use Rattle.both.specs.BothLaws.{both_good, judged_both_lem}
use Rattle.opening.specs.Opening as opening
use Rattle.rides.specs.declared.Listed.{Listed}
use Rattle.rides.specs.Asking.{Asking}
use Rattle.rides.specs.Lists.{rides_asked, ListedAs, RefusedAs, without_journey, missing, short, Lists}

-- ---- an ask that is not refused

module _ (b : List ℕ) (given : Given) (runs : List ℕ) (lent from to : ℕ) (w : Wanted) where
  pub asked_good : (q : Asked) → rides_asked b given runs lent from to w ≡ Ok q → (n : ℕ) → n ≡ given.stops → Asking b n given runs lent q
  unfolding rides_asked
  asked_good q e n same = go (judged_both (judged_tables b) (judged_of given runs lent work_room) given.stops) (both_good b given runs lent) e
    where
      go : (t : Result ℕ Refusal) → ((m : ℕ) → t ≡ Ok m → BothGood b m given runs × (work_room ≤ lent)) →
          if_tables t (λ m. ask_read m from to w) ≡ Ok q → Asking b n given runs lent q
      go (Err r) f h = absurd cc
      go (Ok m) f h =
          let g = f m refl in
          subst (λ m. Asking b m given runs lent q) (g.0.same ∙ sym same) (record { both = g.0; room = g.1; good = ask_good m from to w q h })

  -- over good tables and good numbers, with the working room, an ask is judged by the stop count alone
  pub rides_asked_of : judged_tables b ≡ Ok given.stops → GoodNumbers given runs → work_room ≤ lent →
      rides_asked b given runs lent from to w ≡ ask_read given.stops from to w
  unfolding rides_asked
  rides_asked_of e g h = rw (judged_both_lem b given runs lent e g h) refl

-- ---- what is listed

module _ (S : Service) (T : Tables) where
  -- only the length of the lent list counts
  pub lists_lent : (k : Result Asked Refusal) (before other after : List ℕ) (r : Result Listed Refusal) → length before ≡ length other →
      Lists S T k before after r → Lists S T k other after r
  lists_lent (Err k) before other after r n x = (x.0, zeros_as before other x.1 (ap length x.1 ∙ length-zeros before ∙ n))
  lists_lent (Ok q) before other after (Ok j) n x =
      record {
        best = x.best;
        rides = x.rides;
        chosen = x.chosen;
        count = x.count;
        fits = omega (arith, x.fits);
        holds = x.holds ∙ ap (λ (m : ℕ). listed x.rides ++ replicate (m - length x.rides) 0) n;
      }
  lists_lent (Ok q) before other after (Err r) n x =
      (subst (λ (m : ℕ). RefusedAs S T q m r) n x.0, zeros_as before other x.1 (ap length x.1 ∙ length-zeros before ∙ n))

module _ (S : Service) (T : Tables) (q : Asked) where
  -- the number of rides is small
  pub few_rides : GoodTables T → {d a : ℕ} {l : List ℕ} → Best (Sketch T q.from q.to) q.criterion d a →
      Chosen S T q.from q.to d a l → length l ≤ last_minute
  few_rides G {d} {a} B C = omega (arith, chosen_short G C, sketch_last G d a B.has)

  -- rides that fit, written over zeros
  pub listed_of : {d a k : ℕ} {before after : List ℕ} → Best (Sketch T q.from q.to) q.criterion d a → before ≡ zeros before →
      opening.Listed (Chosen S T q.from q.to d a) before after k → k ≤ length before →
      ListedAs S T q before after (record { dep = d; arr = a; rides = k })
  listed_of {before = before} B z L h = record {
    best = B;
    rides = L.rides;
    chosen = L.are;
    count = L.count;
    fits = omega (arith, L.count);
    holds =
        L.holds ∙ ap (written (listed L.rides)) z ∙
        written-zeros (listed L.rides) before (omega (arith, L.count, listed-length L.rides)) ∙
        ap (λ (m : ℕ). listed L.rides ++ replicate (length before - m) 0) (listed-length L.rides);
  }

  -- the list was zeroed first
  pub lists_over : (before zeroed after : List ℕ) (r : Result Listed Refusal) → zeroed ≡ zeros before →
      Lists S T (Ok q) zeroed after r → Lists S T (Ok q) before after r
  lists_over before zeroed after r e x = lists_lent S T (Ok q) zeroed before after r (ap length e ∙ length-zeros before) x

-- ---- no second answer and no second list meet the contract

-- the rides of the best pair, of whatever pairs it is the best, are one list
pub one_list : {S : Service} {T : Tables} → GoodTables T → (q : Asked) (P : ℕ → ℕ → Type 0) {d a e b : ℕ} {l m : List ℕ} →
    Best P q.criterion d a → Best P q.criterion e b →
    Chosen S T q.from q.to d a l → Chosen S T q.from q.to e b m → l ≡ m
one_list {S} {T} G q P {m = m} x y f g =
    let s = best_one q.criterion y x in
    chosen_one G f (subst₂ (λ d a. Chosen S T q.from q.to d a m) s.0 s.1 g)

pub same_listed : {d a e b k j : ℕ} → d ≡ e → a ≡ b → k ≡ j →
    ◌≡◌ {A = Listed} (record { dep = d; arr = a; rides = k }) (record { dep = e; arr = b; rides = j })
same_listed e f g = cc

module _ (S : Service) (T : Tables) (q : Asked) (G : GoodTables T) where
  listed_as_one : (before x y : List ℕ) (j k : Listed) → ListedAs S T q before x j → ListedAs S T q before y k → (j ≡ k) × (x ≡ y)
  listed_as_one before x y j k f g =
      let s = best_one q.criterion f.best g.best in
      let e = one_list G q (Sketch T q.from q.to) f.best g.best f.chosen g.chosen in (
        same_listed s.0 s.1 (f.count ∙ ap length e ∙ sym g.count),
        f.holds ∙ ap (λ l. listed l ++ replicate (length before - length l) 0) e ∙ sym g.holds,
      )

  -- what is listed is not refused
  not_both : (before after : List ℕ) (j : Listed) (r : Refusal) → ListedAs S T q before after j → ¬ (RefusedAs S T q (length before) r)
  not_both before after j r f (without_journey e n) = best_not_nothing q.criterion f.best n
  not_both before after j r f (missing e d a B n) =
      let s = best_one q.criterion f.best B in
      n f.rides (subst₂ (λ d a. Chosen S T q.from q.to d a f.rides) s.0 s.1 f.chosen)
  not_both before after j r f (short e d a B l C lt) = omega (arith, f.fits, ap length (one_list G q (Sketch T q.from q.to) f.best B f.chosen C))

  -- and one refusal is given
  refused_one : (room : ℕ) (r s : Refusal) → RefusedAs S T q room r → RefusedAs S T q room s → r ≡ s
  refused_one room r s (without_journey e n) (without_journey f m) = e ∙ sym f
  refused_one room r s (without_journey e n) (missing f d a B m) = absurd (best_not_nothing q.criterion B n)
  refused_one room r s (without_journey e n) (short f d a B l C lt) = absurd (best_not_nothing q.criterion B n)
  refused_one room r s (missing e d a B n) (without_journey f m) = absurd (best_not_nothing q.criterion B m)
  refused_one room r s (missing e d a B n) (missing f d' a' B' m) = e ∙ sym f
  refused_one room r s (missing e d a B n) (short f d' a' B' l C lt) =
      let z = best_one q.criterion B' B in
      absurd (n l (subst₂ (λ d a. Chosen S T q.from q.to d a l) z.0 z.1 C))
  refused_one room r s (short e d a B l C lt) (without_journey f m) = absurd (best_not_nothing q.criterion B m)
  refused_one room r s (short e d a B l C lt) (missing f d' a' B' m) =
      let z = best_one q.criterion B B' in
      absurd (m l (subst₂ (λ d a. Chosen S T q.from q.to d a l) z.0 z.1 C))
  refused_one room r s (short e d a B l C lt) (short f d' a' B' m C' lt') = e ∙ sym f

  good_one : (before m n : List ℕ) (x y : Result Listed Refusal) → Lists S T (Ok q) before m x → Lists S T (Ok q) before n y → (x ≡ y) × (m ≡ n)
  good_one before m n (Ok j) (Ok k) f g = let s = listed_as_one before m n j k f g in (ap Ok s.0, s.1)
  good_one before m n (Ok j) (Err r) f g = absurd (not_both before m j r f g.0)
  good_one before m n (Err r) (Ok k) f g = absurd (not_both before n k r g f.0)
  good_one before m n (Err r) (Err s) f g = (ap Err (refused_one (length before) r s f.0 g.0), f.1 ∙ sym g.1)

-- the contract determines the answer and the list, whatever is asked
pub lists_one : (b : List ℕ) (given : Given) (runs : List ℕ) (lent from to : ℕ) (w : Wanted) (before m n : List ℕ) (x y : Result Listed Refusal) →
    Lists (service_of given runs) (tables_of b) (rides_asked b given runs lent from to w) before m x →
    Lists (service_of given runs) (tables_of b) (rides_asked b given runs lent from to w) before n y → (x ≡ y) × (m ≡ n)
lists_one b given runs lent from to w before m n x y =
    go (rides_asked b given runs lent from to w) (λ q e. good_tables (asked_good b given runs lent from to w q e _ refl).both.file)
  where
    go : (a : Result Asked Refusal) → ((q : Asked) → a ≡ Ok q → GoodTables (tables_of b)) →
        Lists (service_of given runs) (tables_of b) a before m x → Lists (service_of given runs) (tables_of b) a before n y → (x ≡ y) × (m ≡ n)
    go (Err r) good f g = (f.0 ∙ sym g.0, f.1 ∙ sym g.1)
    go (Ok q) good f g = good_one (service_of given runs) (tables_of b) q (good q refl) before m n x y f g
