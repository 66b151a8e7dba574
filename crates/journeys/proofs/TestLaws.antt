-- Tests that compute, each with the law of what it says: good services, rides, journeys within two minutes.
use Rattle.std.specs.Prelude.{◌≡◌, refl, ◌⊎◌, Bool, true, false, not, T, leb, ltb, eqb}
use Rattle.std.proofs.Common.{sym, subst, inl, inr, arith, leb→le, le→leb, eqb→eq, ltb→lt, lt→ltb, T_not}
use Prim.Native.Nat.{ℕ, zero, suc, ◌+◌, ◌-◌, ◌≤◌, ◌<◌}
use Rattle.std.proofs.Math.Decide.{ℕ_discrete}
use Rattle.std.proofs.Math.Dec.{eqb_refl}
use Rattle.kinds.specs.Limits.{last_minute}
use Rattle.journeys.specs.Service.{Service, RideAt, GoodService}
use Rattle.journeys.specs.Journey.{Journey, Within}
use Rattle.journeys.proofs.JourneyLaws.{journey_later}
use Rattle.journeys.proofs.ReachLaws.{of_start, to_start}
use Rattle.journeys.specs.Paths.{Starts}
use Rattle.journeys.specs.Tests.{and_then, or_then, anyb, allb, goodb, rideb, startb, reachb, withinb}

pub T_and : (b : Bool) (f : Unit {0} → Bool) → T b → T (f tt) → T (and_then b f)
T_and true f p q = q
T_and false f p q = absurd p

pub t_or₁ : (b : Bool) (f : Unit {0} → Bool) → T b → T (or_then b f)
t_or₁ true f p = tt
t_or₁ false f p = absurd p

pub t_or₂ : (b : Bool) (f : Unit {0} → Bool) → T (f tt) → T (or_then b f)
t_or₂ true f p = tt
t_or₂ false f p = p

pub and_split : (b : Bool) (f : Unit {0} → Bool) → T (and_then b f) → T b × T (f tt)
and_split true f q = (tt, q)
and_split false f q = absurd q

pub or_cases : (b : Bool) (f : Unit {0} → Bool) → T (or_then b f) → T b ⊎ T (f tt)
or_cases true f q = inl tt
or_cases false f q = inr q

pub or_split : (b : Bool) (f : Unit {0} → Bool) → T (or_then b f) → T (not b) → T (f tt)
or_split true f q n = absurd n
or_split false f q n = q

is_T : (b : Bool) → T b → b ≡ true
is_T true t = refl
is_T false t = absurd t

t_is : (b : Bool) → b ≡ true → T b
t_is b e = subst T (sym e) tt

pub t_same : (m n : ℕ) → m ≡ n → T (eqb m n)
t_same m n e = subst (λ k. T (eqb m k)) e (eqb_refl m)

pub t_any : (n : ℕ) (p : ℕ → Bool) (i : ℕ) → i < n → T (p i) → T (anyb n p)
unfolding anyb
t_any zero p i h q = omega arith
t_any (suc n) p i h q = elim (ℕ_discrete i n) [
  | yes e ↦ t_or₁ (p n) _ (subst (λ k. T (p k)) e q)
  | no e ↦ t_or₂ (p n) (λ _. anyb n p)
      (t_any n p i (omega arith) q)
]

pub any_of : (n : ℕ) (p : ℕ → Bool) → T (anyb n p) → (i : ℕ) × (i < n) × T (p i)
unfolding anyb
any_of zero p q = absurd q
any_of (suc n) p q = elim (or_cases (p n) (λ _. anyb n p) q) [
  | inl h ↦ (n, omega arith, h)
  | inr h ↦
      (let s = any_of n p h in (s.0, omega (arith, s.1), s.2))
]

pub all_of : (n : ℕ) (p : ℕ → Bool) → T (allb n p) → (i : ℕ) → i < n → T (p i)
unfolding allb
all_of zero p q i h = absurd (omega arith)
all_of (suc n) p q i h =
    let s = and_split (p n) (λ _. allb n p) q in
    elim (ℕ_discrete i n) [ yes e ↦ subst (λ k. T (p k)) (sym e) s.0 | no e ↦ all_of n p s.1 i (omega arith) ]

pub good_of : (S : Service) → T (goodb S) → GoodService S
unfolding goodb
good_of S q = record {
  from_stop = λ i h _. ltb→lt (S.ride i).from S.stops (at₁ i h).0;
  to_stop = λ i h _. ltb→lt (S.ride i).to S.stops (at₂ i h).0;
  apart = λ i h _ e. T_not (eqb (S.ride i).from (S.ride i).to) (at₃ i h).0 (t_same (S.ride i).from (S.ride i).to e);
  later = λ i h _. ltb→lt (S.ride i).dep (S.ride i).arr (at₄ i h).0;
  last = λ i h _. leb→le (S.ride i).arr last_minute (at₄ i h).1;
}
  where
    at₁ : (i : ℕ) → i < S.slots → T (ltb (S.ride i).from S.stops) × T (and_then (ltb (S.ride i).to S.stops) (λ _.
        and_then (not (eqb (S.ride i).from (S.ride i).to)) (λ _. and_then (ltb (S.ride i).dep (S.ride i).arr) (λ _. leb (S.ride i).arr last_minute))))
    at₁ i h = and_split (ltb (S.ride i).from S.stops) _ (all_of S.slots _ q i h)

    at₂ : (i : ℕ) → i < S.slots → T (ltb (S.ride i).to S.stops) × T (and_then (not (eqb (S.ride i).from (S.ride i).to)) (λ _.
        and_then (ltb (S.ride i).dep (S.ride i).arr) (λ _. leb (S.ride i).arr last_minute)))
    at₂ i h = and_split (ltb (S.ride i).to S.stops) _ (at₁ i h).1

    at₃ : (i : ℕ) → i < S.slots → T (not (eqb (S.ride i).from (S.ride i).to)) ×
        T (and_then (ltb (S.ride i).dep (S.ride i).arr) (λ _. leb (S.ride i).arr last_minute))
    at₃ i h = and_split (not (eqb (S.ride i).from (S.ride i).to)) _ (at₂ i h).1

    at₄ : (i : ℕ) → i < S.slots → T (ltb (S.ride i).dep (S.ride i).arr) × T (leb (S.ride i).arr last_minute)
    at₄ i h = and_split (ltb (S.ride i).dep (S.ride i).arr) _ (at₃ i h).1

pub ride_of_lem : {S : Service} (i u v d a : ℕ) → T (rideb S i u v d a) → RideAt S i u v d a
unfolding rideb
ride_of_lem {S} i u v d a q =
    let s = and_split (ltb i S.slots) _ q in
    let s₁ = and_split (S.in_force i) _ s.1 in
    let s₂ = and_split (eqb (S.ride i).from u) _ s₁.1 in
    let s₃ = and_split (eqb (S.ride i).to v) _ s₂.1 in
    let s₄ = and_split (eqb (S.ride i).dep d) _ s₃.1 in
    record {
      below = ltb→lt i S.slots s.0;
      forced = is_T (S.in_force i) s₁.0;
      goes = eqb→eq (S.ride i).from u s₂.0;
      ends = eqb→eq (S.ride i).to v s₃.0;
      leaves = eqb→eq (S.ride i).dep d s₄.0;
      arrives = eqb→eq (S.ride i).arr a s₄.1;
    }

pub t_ride : {S : Service} {i u v d a : ℕ} → RideAt S i u v d a → T (rideb S i u v d a)
unfolding rideb
t_ride {S} {i} {u} {v} {d} {a} r =
    T_and (ltb i S.slots) _ (lt→ltb i S.slots r.below) (T_and (S.in_force i) _ (t_is (S.in_force i) r.forced)
    (T_and (eqb (S.ride i).from u) _ (t_same (S.ride i).from u r.goes) (T_and (eqb (S.ride i).to v) _ (t_same (S.ride i).to v r.ends)
    (T_and (eqb (S.ride i).dep d) _ (t_same (S.ride i).dep d r.leaves) (t_same (S.ride i).arr a r.arrives)))))

t_start : {S : Service} {u v t e i : ℕ} (rest : Unit {0} → Bool) → Starts S u v t e i →
    (Within (Journey S (S.ride i).to v) (S.ride i).arr e → T (rest tt)) → T (startb S u v t e i rest)
unfolding startb
t_start {S} {u} {v} {t} {e} {i} rest s k =
    T_and (S.in_force i) _ (t_is (S.in_force i) s.forced)
    (T_and (eqb (S.ride i).from u) _ (t_same (S.ride i).from u s.goes) (T_and (leb t (S.ride i).dep) _ (le→leb t (S.ride i).dep s.after)
    (T_and (leb (S.ride i).arr e) _ (le→leb (S.ride i).arr e s.before) (go s.rest))))
  where
    go : ((S.ride i).to ≡ v) ⊎ Within (Journey S (S.ride i).to v) (S.ride i).arr e → T (or_then (eqb (S.ride i).to v) rest)
    go (inl p) = t_or₁ (eqb (S.ride i).to v) rest (t_same (S.ride i).to v p)
    go (inr w) = t_or₂ (eqb (S.ride i).to v) rest (k w)

start_of : {S : Service} (u v t e i : ℕ) (rest : Unit {0} → Bool) → (T (rest tt) → Within (Journey S (S.ride i).to v) (S.ride i).arr e) →
    T (startb S u v t e i rest) → Starts S u v t e i
unfolding startb
start_of {S} u v t e i rest k q =
    let s = and_split (S.in_force i) _ q in
    let s₁ = and_split (eqb (S.ride i).from u) _ s.1 in
    let s₂ = and_split (leb t (S.ride i).dep) _ s₁.1 in
    let s₃ = and_split (leb (S.ride i).arr e) _ s₂.1 in
    record {
      forced = is_T (S.in_force i) s.0;
      goes = eqb→eq (S.ride i).from u s₁.0;
      after = leb→le t (S.ride i).dep s₂.0;
      before = leb→le (S.ride i).arr e s₃.0;
      rest = elim (or_cases (eqb (S.ride i).to v) rest s₃.1) [ inl p ↦ inl (eqb→eq (S.ride i).to v p) | inr p ↦ inr (k p) ];
    }

module _ (S : Service) (v e : ℕ) where
  reached : (f u t : ℕ) → T (reachb S v e f u t) → Within (Journey S u v) t e
  unfolding reachb
  reached zero u t q = absurd q
  reached (suc f) u t q =
      let s = any_of S.slots _ q in
      of_start s.1 (start_of u v t e s.0 (λ _. reachb S v e f (S.ride s.0).to (S.ride s.0).arr)
      (λ r. reached f (S.ride s.0).to (S.ride s.0).arr r) s.2)

  found : GoodService S → (f u t : ℕ) → e ≤ t + f → Within (Journey S u v) t e → T (reachb S v e f u t)
  unfolding reachb
  found G zero u t h w = omega (arith, w.after, w.before, journey_later G w.has)
  found G (suc f) u t h w =
      let s = to_start G w.has w.after w.before in
      t_any S.slots _ s.0 s.1 (t_start (λ _. reachb S v e f (S.ride s.0).to (S.ride s.0).arr) s.2
      (λ r. found G f (S.ride s.0).to (S.ride s.0).arr (omega (arith, G.later s.0 s.1 s.2.forced, s.2.after)) r))

pub within_of : {S : Service} (u v t e : ℕ) → T (withinb S u v t e) → Within (Journey S u v) t e
unfolding withinb
within_of {S} u v t e q = reached S v e (e - t) u t q

pub t_within : {S : Service} → GoodService S → {u v t e : ℕ} → Within (Journey S u v) t e → T (withinb S u v t e)
unfolding withinb
t_within {S} G {u} {v} {t} {e} w = found S v e G (e - t) u t (omega arith) w
