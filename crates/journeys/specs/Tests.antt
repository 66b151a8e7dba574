-- Tests that compute: good services, rides, journeys within two minutes. What each says is in TestLaws.
use Rattle.std.specs.Prelude.{Bool, true, false, not, ℕ, zero, suc, ◌-◌, leb, ltb, eqb}
use Rattle.kinds.specs.Limits.{last_minute}
use Rattle.journeys.specs.Service.{Service}

-- tests that wait: the second is computed only where the first passes (fails)
abbrev pub and_then : Bool → (Unit {0} → Bool) → Bool
and_then true f = f tt
and_then false f = false

abbrev pub or_then : Bool → (Unit {0} → Bool) → Bool
or_then true f = true
or_then false f = f tt

-- some, or every, number below n passes
unfoldable pub anyb : ℕ → (ℕ → Bool) → Bool
anyb zero p = false
anyb (suc n) p = or_then (p n) (λ _. anyb n p)

unfoldable pub allb : ℕ → (ℕ → Bool) → Bool
allb zero p = true
allb (suc n) p = and_then (p n) (λ _. allb n p)

-- the service is good
unfoldable pub goodb : Service → Bool
goodb S = allb S.slots (λ i. and_then (ltb (S.ride i).from S.stops) (λ _. and_then (ltb (S.ride i).to S.stops) (λ _.
    and_then (not (eqb (S.ride i).from (S.ride i).to)) (λ _. and_then (ltb (S.ride i).dep (S.ride i).arr) (λ _. leb (S.ride i).arr last_minute)))))

-- slot i is a ride u to v with the pair
unfoldable pub rideb : Service → ℕ → ℕ → ℕ → ℕ → ℕ → Bool
rideb S i u v d a = and_then (ltb i S.slots)
    (λ _. and_then (S.in_force i) (λ _. and_then (eqb (S.ride i).from u) (λ _. and_then (eqb (S.ride i).to v) (λ _.
    and_then (eqb (S.ride i).dep d) (λ _. eqb (S.ride i).arr a)))))

-- slot i starts a journey u to v within t and e, given the test of the rest
unfoldable pub startb : Service → ℕ → ℕ → ℕ → ℕ → ℕ → (Unit {0} → Bool) → Bool
startb S u v t e i rest = and_then (S.in_force i) (λ _. and_then (eqb (S.ride i).from u) (λ _. and_then (leb t (S.ride i).dep) (λ _.
    and_then (leb (S.ride i).arr e) (λ _. or_then (eqb (S.ride i).to v) rest))))

-- a search for a journey u to v within t and e, of at most f rides
unfoldable pub reachb : Service → ℕ → ℕ → ℕ → ℕ → ℕ → Bool
reachb S v e zero u t = false
reachb S v e (suc f) u t = anyb S.slots (λ i. startb S u v t e i (λ _. reachb S v e f (S.ride i).to (S.ride i).arr))

-- some journey u to v is within t and e: it has fewer rides than minutes
unfoldable pub withinb : Service → ℕ → ℕ → ℕ → ℕ → Bool
withinb S u v t e = reachb S v e (e - t) u t
