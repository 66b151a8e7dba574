-- What judged numbers promise, for those who read them.
use Rattle.std.specs.Prelude.{ℕ, ◌*◌, ◌≤◌, ◌<◌, ◌≡◌, refl, List, length, leb, Err, Ok, Result}
use Rattle.std.proofs.Common.{ap, inl, inr, arith, leb-true, le-leb}
use Rattle.std.proofs.Math.Option.{Option, none, some}
use Rattle.loops.specs.ChainLaws.{stays, either}
use Rattle.loops.specs.FirstOf.{first_of}
use Rattle.loops.specs.FirstOfLaws.{first_of_here, first_of_clear, first_of_all, first_of_found}
use Rattle.kinds.specs.Limits.{run_numbers}
use Rattle.kinds.specs.Refusals.{number_of, refusal}
use Rattle.kinds.specs.Kinds.{is_stop_count, is_run_count, RunRefusal}
use Rattle.kinds.specs.KindsLaws.{stop_count, count_is, run_count, run_count_is, run_good, run_is, run_refusal}
use Rattle.kinds.specs.declared.Refusal.{Refusal}
use Rattle.kinds.specs.declared.Run.{Run}
use Rattle.timetable.specs.declared.Given.{Given}
use Rattle.timetable.specs.Numbers.{run_at, read_run, refused_by, refused_run, judged_runs, judged_of, RunGood, GoodNumbers, GoodRunAt, NumbersRefusal}
use Rattle.kinds.specs.declared.Reason.TheVariants as reason
use Rattle.kinds.specs.declared.Reason.{Reason}

module _ (stops : ℕ) (list : List ℕ) where
  none_good : (o : Option Refusal) → judged_runs o ≡ Ok tt → o ≡ none
  none_good none e = refl
  none_good (some r) e = cc

  run_read : (x : Result Run Reason) (i : ℕ) → refused_by x i ≡ none → (r : Run) × (x ≡ Ok r)
  run_read (Ok r) i e = (r, refl)
  run_read (Err n) i e = cc

  -- each run of numbers judged good is good
  each_good : (n i : ℕ) → judged_runs (first_of (refused_run stops list) n) ≡ Ok tt → i < n → RunGood stops (run_at list i)
  unfolding read_run
  each_good n i e lt =
      let z = run_read (read_run stops list i) i (first_of_clear (refused_run stops list) n i (none_good _ e) lt) in
      (run_good _ _ _ _ _ _ z.0 z.1).0

-- the first refused run refuses them all
pub run_refuses : (stops : ℕ) (list : List ℕ) (count i : ℕ) {why : Reason} → i < count → first_of (refused_run stops list) i ≡ none →
    read_run stops list i ≡ Err why → judged_runs (first_of (refused_run stops list) count) ≡ Err (refusal why i)
run_refuses stops list count i lt clear e =
    ap judged_runs (first_of_here (refused_run stops list) count i lt clear (ap (λ (x : Result Run Reason). refused_by x i) e))

-- numbers that are judged good are good numbers, and the working room is enough
pub judged_good : (given : Given) (list : List ℕ) (lent needed : ℕ) → judged_of given list lent needed ≡ Ok tt → GoodNumbers given list × (needed ≤ lent)
unfolding judged_of
judged_good given list lent needed e =
    let stops = given.stops in
    let count = given.runs in
    let z₁ = stays (is_stop_count stops) e (λ x. cc) in
    let z₂ = stays (is_run_count count) z₁.1 (λ x. cc) in
    let z₃ = stays (leb (run_numbers * count) (length list)) z₂.1 (λ x. cc) in
    let z₄ = stays (leb needed lent) z₃.1 (λ x. cc) in
    let s = stop_count stops z₁.0 in (
      record {
        some = s.0;
        few = s.1;
        few_runs = run_count count z₂.0;
        long = leb-true _ _ z₃.0;
        runs = λ i lt. each_good stops list count i z₄.1 lt;
      },
      leb-true needed lent z₄.0,
    )

-- and good numbers are judged good, with working room enough
pub numbers_judged : (given : Given) (list : List ℕ) (lent needed : ℕ) → GoodNumbers given list → needed ≤ lent → judged_of given list lent needed ≡ Ok tt
unfolding judged_of read_run
numbers_judged given list lent needed g h =
    let stops = given.stops in
    let count = given.runs in
    let clear : first_of (refused_run stops list) count ≡ none =
    first_of_all (refused_run stops list) count (λ i lt. ap (λ (x : Result Run Reason). refused_by x i) (run_is _ _ _ _ _ _ (g.runs i lt))) in
    rw (count_is stops g.some g.few, run_count_is count g.few_runs, le-leb _ _ g.long, le-leb needed lent h, clear) refl

-- which refusals there are
by_run : (x : Result Run Reason) (i : ℕ) (r : Refusal) → RunRefusal x → refused_by x i ≡ some r → number_of r.reason ≤ number_of reason.OverLimit
by_run (Ok q) i r h e = cc
by_run (Err n) i r h e = let f : refusal n i ≡ r = cc in omega (arith, ap (λ (x : Refusal). number_of x.reason) f, h.1)

runs_refusal : (stops : ℕ) (list : List ℕ) (count : ℕ) → NumbersRefusal (judged_runs (first_of (refused_run stops list) count))
unfolding read_run
runs_refusal stops list count =
    go (first_of (refused_run stops list) count) (λ r e.
    let f = first_of_found (refused_run stops list) count e in
    let q = run_at list f.at in
    by_run (read_run stops list f.at) f.at r (run_refusal stops q.from q.to q.dep q.arr q.trip) f.has)
  where
    go : (o : Option Refusal) → ((r : Refusal) → o ≡ some r → number_of r.reason ≤ number_of reason.OverLimit) → NumbersRefusal (judged_runs o)
    go none f = tt
    go (some r) f = inl (f r refl)

pub numbers_refusal : (given : Given) (list : List ℕ) (lent needed : ℕ) → NumbersRefusal (judged_of given list lent needed)
unfolding judged_of
numbers_refusal given list lent needed =
    either NumbersRefusal (is_stop_count given.stops)
    (either NumbersRefusal (is_run_count given.runs)
    (either NumbersRefusal (leb (run_numbers * given.runs) (length list))
    (either NumbersRefusal (leb needed lent) (runs_refusal given.stops list given.runs) (inr refl))
    (inr refl))
    (inl (omega arith)))
    (inl (omega arith))

module _ {given : Given} {list : List ℕ} (g : GoodNumbers given list) where
  -- the runs of good numbers can be read
  pub good_run_at : (i : ℕ) → i < given.runs → GoodRunAt list i
  good_run_at i lt = record { stops = given.stops; few = g.few; long = omega (arith, g.long); good = g.runs i lt }
