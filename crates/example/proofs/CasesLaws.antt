-- The cases of an example day by tests that compute, each with the law that a passed test says so.
use Rattle.std.specs.Prelude.{◌≡◌, refl, ◌⊎◌, not, List, [], ◌∷◌, ℕ, suc, pred, ◌+◌, ◌-◌, ◌≤◌, ◌<◌, leb, ltb, eqb}
use Rattle.std.proofs.Common.{ap, inl, inr, le_refl, arith, eqb→eq, ltb→lt, T_not}
use Rattle.std.proofs.Math.Dec.{T, leb→le, not_T}
use Rattle.kinds.specs.Limits.{last_minute}
use Rattle.journeys.specs.declared.Criterion.{Criterion}
use Rattle.journeys.specs.declared.Criterion.TheVariants.{Early, Late, Short}
use Rattle.journeys.specs.Service.{Service, GoodService}
use Rattle.journeys.specs.Journey.{Journey, one, more, rides, RidesOf}
use Rattle.journeys.specs.Criteria.{Best, Nothing}
use Rattle.journeys.proofs.JourneyLaws.{journey_later, journey_last}
use Rattle.journeys.proofs.TestLaws.{and_split, or_split, all_of, good_of, ride_of_lem, t_within}
use Rattle.journeys.specs.Tests.{and_then, or_then, allb, goodb, rideb, withinb}
use Rattle.example.specs.Cases.{Reply, at, joined, nothing, Case, Says, Holds}
use Rattle.example.specs.CaseTests.{ridesb, freeb, bestb, noneb, saysb, casesb}

rides_of : {S : Service} (u v d a : ℕ) (l : List ℕ) → T (ridesb S u v d a l) → RidesOf S u v d a l
unfolding ridesb rides
rides_of u v d a [] q = absurd q
rides_of u v d a (i ∷ []) q = record { way = one i (ride_of_lem i u v d a q); are = refl }
rides_of {S} u v d a (i ∷ k ∷ l) q =
    let s = and_split (rideb S i u (S.ride i).to d (S.ride i).arr) _ q in
    let s₁ = and_split (leb (S.ride i).arr (S.ride k).dep) _ s.1 in
    let r = rides_of (S.ride i).to v (S.ride k).dep a (k ∷ l) s₁.1 in
    record {
      way = more i (ride_of_lem i u (S.ride i).to d (S.ride i).arr s.0) (leb→le (S.ride i).arr (S.ride k).dep s₁.0) r.way;
      are = ap (λ m. i ∷ m) r.are;
    }

free_of : {S : Service} → GoodService S → (u v t e : ℕ) → T (freeb S u v t e) → (d a : ℕ) → Journey S u v d a → t ≤ d → a ≤ e → ⊥
unfolding freeb
free_of {S} G u v t e q d a j h k = T_not (withinb S u v t e) q (t_within G (record { dep = d; arr = a; has = j; after = h; before = k }))

module _ {S : Service} (G : GoodService S) (u v d a : ℕ) (j : Journey S u v d a) where
  passed : (s t : ℕ) → t ≤ s → T (not (ltb s t))
  passed s t m = not_T (ltb s t) (λ x. omega (arith, ltb→lt s t x))

  best_of : (c : Criterion) → T (bestb S u v c d a) → Best (Journey S u v) c d a
  unfolding bestb
  best_of (Early t) q = record { has = j; fits = leb→le t d s.0; top = top' }
    where
      s : T (leb t d) × T (and_then (freeb S u v t (pred a)) (λ _. freeb S u v (suc d) a))
      s = and_split (leb t d) _ q

      s₁ : T (freeb S u v t (pred a)) × T (freeb S u v (suc d) a)
      s₁ = and_split (freeb S u v t (pred a)) _ s.1

      top' : (e b : ℕ) → Journey S u v e b → t ≤ e → ¬ ((b < a) ⊎ ((b ≡ a) × (d < e)))
      top' e b k m (inl x) = free_of G u v t (pred a) s₁.0 e b k m (omega arith)
      top' e b k m (inr x) = free_of G u v (suc d) a s₁.1 e b k (omega arith) (omega arith)
  best_of (Late t) q = record { has = j; fits = leb→le a t s.0; top = top' }
    where
      s : T (leb a t) × T (and_then (freeb S u v (suc d) t) (λ _. freeb S u v d (pred a)))
      s = and_split (leb a t) _ q

      s₁ : T (freeb S u v (suc d) t) × T (freeb S u v d (pred a))
      s₁ = and_split (freeb S u v (suc d) t) _ s.1

      top' : (e b : ℕ) → Journey S u v e b → b ≤ t → ¬ ((d < e) ⊎ ((e ≡ d) × (b < a)))
      top' e b k m (inl x) = free_of G u v (suc d) t s₁.0 e b k (omega arith) m
      top' e b k m (inr x) = free_of G u v d (pred a) s₁.1 e b k (omega arith) (omega arith)
  best_of (Short t t2) q = record { has = j; fits = (leb→le t d s.0, leb→le a t2 s₁.0); top = top' }
    where
      s : T (leb t d) × T (and_then (leb a t2) (λ _. and_then (allb (suc t2) (λ s. or_then (ltb s t) (λ _. freeb S u v s (s + pred (a - d)))))
          (λ _. allb d (λ s. or_then (ltb s t) (λ _. freeb S u v s (s + (a - d)))))))
      s = and_split (leb t d) _ q

      s₁ : T (leb a t2) × T (and_then (allb (suc t2) (λ s. or_then (ltb s t) (λ _. freeb S u v s (s + pred (a - d)))))
          (λ _. allb d (λ s. or_then (ltb s t) (λ _. freeb S u v s (s + (a - d))))))
      s₁ = and_split (leb a t2) _ s.1

      s₂ : T (allb (suc t2) (λ s. or_then (ltb s t) (λ _. freeb S u v s (s + pred (a - d))))) ×
          T (allb d (λ s. or_then (ltb s t) (λ _. freeb S u v s (s + (a - d)))))
      s₂ = and_split (allb (suc t2) (λ s. or_then (ltb s t) (λ _. freeb S u v s (s + pred (a - d))))) _ s₁.1

      top' : (e b : ℕ) → Journey S u v e b → (t ≤ e) × (b ≤ t2) → ¬ ((b + d < a + e) ⊎ ((b + d ≡ a + e) × (e < d)))
      top' e b k m (inl x) = free_of G u v e (e + pred (a - d))
          (or_split (ltb e t) _ (all_of (suc t2) _ s₂.0 e (omega (arith, journey_later G k))) (passed e t m.0)) e b k (le_refl e)
          (omega (arith, journey_later G j, journey_later G k))
      top' e b k m (inr x) = free_of G u v e (e + (a - d))
          (or_split (ltb e t) _ (all_of d _ s₂.1 e (omega arith)) (passed e t m.0)) e b k (le_refl e)
          (omega (arith, journey_later G j, journey_later G k))

none_of : {S : Service} → GoodService S → (u v : ℕ) (c : Criterion) → T (noneb S u v c) → Nothing (Journey S u v) c
unfolding noneb
none_of G u v (Early t) q d a j h = free_of G u v t last_minute q d a j h (journey_last G j)
none_of G u v (Late t) q d a j h = free_of G u v 0 t q d a j (omega arith) h
none_of G u v (Short t t2) q d a j h = free_of G u v t t2 q d a j h.0 h.1

says_of : {S : Service} → GoodService S → (u v : ℕ) (c : Criterion) (r : Reply) → T (saysb S u v c r) → Says S u v c r
unfolding saysb
says_of {S} G u v c (at d a l) x =
    let s = and_split (ridesb S u v d a l) _ x in
    let r = rides_of {S = S} u v d a l s.0 in
    (best_of G u v d a r.way c s.1, r)
says_of {S} G u v c (joined d a i k m) x =
    let s = and_split (ridesb S u v d a (i ∷ k ∷ [])) _ x in
    let s₁ = and_split (bestb S u v c d a) _ s.1 in
    let s₂ = and_split (eqb (S.ride i).arr m) _ s₁.1 in
    let r = rides_of {S = S} u v d a (i ∷ k ∷ []) s.0 in
    (best_of G u v d a r.way c s₁.0, r, eqb→eq (S.ride i).arr m s₂.0, eqb→eq (S.ride k).dep m s₂.1)
says_of G u v c nothing x = none_of G u v c x

pub cases_of : (l : List Case) → T (casesb l) → Holds l
unfolding casesb
cases_of [] q = tt
cases_of (c ∷ l) q =
    let s = and_split (goodb c.service) _ q in
    let s₁ = and_split (saysb c.service c.from c.to c.criterion c.reply) _ s.1 in
    (says_of (good_of c.service s.0) c.from c.to c.criterion c.reply s₁.0, cases_of l s₁.1)
