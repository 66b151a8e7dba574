-- What the constructors' good answers say, for those who call them.
use Rattle.std.specs.Prelude.{ℕ, ◌≤◌, ◌<◌, ◌≡◌, refl, Bool, true, false, cond, ◌⊎◌, ltb, leb, eqb, None, Ok, Option, Some}
use Rattle.std.proofs.Common.{inl, inr, arith, ltb-true, ltb-false, leb-true, leb-false, eqb-true, lt-ltb, le-ltb, le-leb, eq-eqb, ne_eqb}
use Rattle.std.proofs.Math.Decide.{ℕ_discrete}
use Rattle.std.proofs.lemmas.Bool.{eqb-false, lt-leb}
use Rattle.loops.specs.ChainLaws.{past, stays, either}
use Rattle.kinds.specs.Limits.{most_stops, most_runs, no_pivot, last_minute, most_trip, most_code}
use Rattle.kinds.specs.Kinds.{is_stop_count, is_run_count, stop_of, minute_of, run_of, label_of, is_code_length, RunRefusal, GoodRun, GoodPivot, GoodLabel}
use Rattle.kinds.specs.declared.Stop.{Stop}
use Rattle.kinds.specs.declared.Run.{Run}
use Rattle.kinds.specs.declared.Label.{Label}

pub count_is : (n : ℕ) → 1 ≤ n → n ≤ most_stops → is_stop_count n ≡ true
unfolding is_stop_count
count_is n h k = rw (ne_eqb n 0 (λ e. omega arith), le-leb n most_stops k) refl

pub stop_count : (n : ℕ) → is_stop_count n ≡ true → (1 ≤ n) × (n ≤ most_stops)
unfolding is_stop_count
stop_count n e =
    let z = past (eqb n 0) e (λ x. cc) in
    let l = leb-true n most_stops z.1 in
    (omega (arith, eqb-false n 0 z.0), l)

pub code_most : (n : ℕ) → is_code_length n ≡ true → n ≤ most_code
unfolding is_code_length
code_most n e = leb-true n most_code (past (eqb n 0) e (λ x. cc)).1

pub run_count_is : (n : ℕ) → n ≤ most_runs → is_run_count n ≡ true
unfolding is_run_count
run_count_is n h = le-leb n most_runs h

pub run_count : (n : ℕ) → is_run_count n ≡ true → n ≤ most_runs
unfolding is_run_count
run_count n e = leb-true n most_runs e

pub stop_good : (n count : ℕ) (s : Stop) → stop_of n count ≡ Some s → (s.0 ≡ n) × (n < count)
unfolding stop_of
stop_good n count s e =
    let z = stays (ltb n count) e (λ x. cc) in
    let f = z.1 in
    (cc, ltb-true n count z.0)

-- a number is a stop exactly where it is below the count, and a minute exactly up to the last one
pub stop_is : (n count : ℕ) → n < count → stop_of n count ≡ Some (record { 0 = n })
unfolding stop_of
stop_is n count h = rw (lt-ltb n count h) refl

pub stop_bad : (n count : ℕ) → count ≤ n → stop_of n count ≡ None
unfolding stop_of
stop_bad n count h = rw (le-ltb n count h) refl

pub minute_is : (n : ℕ) → n ≤ last_minute → minute_of n ≡ Some (record { 0 = n })
unfolding minute_of
minute_is n h = rw (le-leb n last_minute h) refl

pub minute_bad : (n : ℕ) → last_minute < n → minute_of n ≡ None
unfolding minute_of
minute_bad n h = rw (lt-leb n last_minute h) refl

pub run_good : (stops from to dep arr t : ℕ) (r : Run) → run_of stops from to dep arr t ≡ Ok r →
    GoodRun stops from to dep arr t × (r ≡ record { from = from; to = to; dep = dep; arr = arr; trip = t })
unfolding run_of
run_good stops from to dep arr t r e =
    let z₁ = past (leb stops from) e (λ x. cc) in
    let z₂ = past (leb stops to) z₁.1 (λ x. cc) in
    let z₃ = past (eqb from to) z₂.1 (λ x. cc) in
    let z₄ = past (leb arr dep) z₃.1 (λ x. cc) in
    let z₅ = past (ltb last_minute arr) z₄.1 (λ x. cc) in
    let z₆ = past (eqb t 0) z₅.1 (λ x. cc) in
    let z₇ = past (ltb most_trip t) z₆.1 (λ x. cc) in
    let f = z₇.1 in (
      record {
        from_stop = leb-false stops from z₁.0;
        to_stop = leb-false stops to z₂.0;
        apart = eqb-false from to z₃.0;
        later = leb-false arr dep z₄.0;
        last = ltb-false last_minute arr z₅.0;
        trip_least = omega (arith, eqb-false t 0 z₆.0);
        trip_most = ltb-false most_trip t z₇.0;
      },
      cc,
    )

pub run_refusal : (stops from to dep arr t : ℕ) → RunRefusal (run_of stops from to dep arr t)
unfolding run_of
run_refusal stops from to dep arr t =
    either RunRefusal (leb stops from) (omega arith, omega arith)
    (either RunRefusal (leb stops to) (omega arith, omega arith)
    (either RunRefusal (eqb from to) (omega arith, omega arith)
    (either RunRefusal (leb arr dep) (omega arith, omega arith)
    (either RunRefusal (ltb last_minute arr) (omega arith, omega arith)
    (either RunRefusal (eqb t 0) (omega arith, omega arith)
    (either RunRefusal (ltb most_trip t) (omega arith, omega arith) tt))))))

-- and a good run is read as it is
pub run_is : (stops from to dep arr t : ℕ) → GoodRun stops from to dep arr t →
    run_of stops from to dep arr t ≡ Ok (record { from = from; to = to; dep = dep; arr = arr; trip = t })
unfolding run_of
run_is stops from to dep arr t g =
    rw (
      lt-leb stops from g.from_stop,
      lt-leb stops to g.to_stop,
      ne_eqb from to g.apart,
      lt-leb arr dep g.later,
      le-ltb last_minute arr g.last,
      ne_eqb t 0 (λ e. omega (arith, g.trip_least)),
      le-ltb most_trip t g.trip_most,
    ) refl

pub label_good : (stops owner hub dep arr pivot : ℕ) (l : Label) → label_of stops owner hub dep arr pivot ≡ Some l →
    GoodLabel stops owner hub dep arr pivot × (l ≡ record { hub = hub; dep = dep; arr = arr; pivot = pivot })
unfolding label_of
label_good stops owner hub dep arr pivot l e =
    let z₁ = past (leb owner hub) e (λ x. cc) in
    let z₂ = past (leb arr dep) z₁.1 (λ x. cc) in
    let z₃ = past (ltb last_minute arr) z₂.1 (λ x. cc) in
    go (leb-false owner hub z₁.0) (leb-false arr dep z₂.0) (ltb-false last_minute arr z₃.0) (eqb pivot no_pivot) (eqb-true pivot no_pivot) z₃.1
  where
    good : Option Label
    good = Some (record { hub = hub; dep = dep; arr = arr; pivot = pivot })

    go : hub < owner → dep < arr → arr ≤ last_minute → (b : Bool) → (b ≡ true → pivot ≡ no_pivot) →
        cond b good (cond (leb pivot hub) None (cond (leb stops pivot) None (cond (eqb pivot owner) None good))) ≡ Some l →
        GoodLabel stops owner hub dep arr pivot × (l ≡ record { hub = hub; dep = dep; arr = arr; pivot = pivot })
    go h₁ h₂ h₃ true p f = (record { low = h₁; later = h₂; last = h₃; pivoted = inl (p refl) }, cc)
    go h₁ h₂ h₃ false p f =
        let z₅ = past (leb pivot hub) f (λ x. cc) in
        let z₆ = past (leb stops pivot) z₅.1 (λ x. cc) in
        let z₇ = past (eqb pivot owner) z₆.1 (λ x. cc) in
        let g = z₇.1 in (
          record {
            low = h₁;
            later = h₂;
            last = h₃;
            pivoted = inr (record { above = leb-false pivot hub z₅.0; below = leb-false stops pivot z₆.0; other = eqb-false pivot owner z₇.0 });
          },
          cc,
        )

-- and a good label is read as it is
pub label_is : (stops owner hub dep arr pivot : ℕ) → GoodLabel stops owner hub dep arr pivot →
    label_of stops owner hub dep arr pivot ≡ Some (record { hub = hub; dep = dep; arr = arr; pivot = pivot })
unfolding label_of
label_is stops owner hub dep arr pivot g = go (ℕ_discrete pivot no_pivot) g.pivoted
  where
    go : Dec (pivot ≡ no_pivot) → (pivot ≡ no_pivot) ⊎ GoodPivot stops owner hub pivot →
        label_of stops owner hub dep arr pivot ≡ Some (record { hub = hub; dep = dep; arr = arr; pivot = pivot })
    go (yes e) q = rw (lt-leb owner hub g.low, lt-leb arr dep g.later, le-ltb last_minute arr g.last, eq-eqb pivot no_pivot e)
    go (no ne) (inl e) = absurd (ne e)
    go (no ne) (inr q) =
        rw (
          lt-leb owner hub g.low,
          lt-leb arr dep g.later,
          le-ltb last_minute arr g.last,
          ne_eqb pivot no_pivot ne,
          lt-leb pivot hub q.above,
          lt-leb stops pivot q.below,
          ne_eqb pivot owner q.other,
        )
