-- The cases A to J by tests that compute. What each says is in CasesLaws.
use Rattle.std.specs.Prelude.{Bool, true, false, not, List, [], ◌∷◌, ℕ, suc, pred, ◌+◌, ◌-◌, leb, ltb, eqb}
use Rattle.kinds.specs.Limits.{last_minute}
use Rattle.journeys.specs.declared.Criterion.{Criterion}
use Rattle.journeys.specs.declared.Criterion.TheVariants.{Early, Late, Short}
use Rattle.journeys.specs.Service.{Service}
use Rattle.journeys.specs.Tests.{and_then, or_then, allb, goodb, rideb, withinb}
use Rattle.example.specs.Cases.{Reply, at, joined, nothing, Case}

-- a list is the rides of a journey
unfoldable pub ridesb : Service → ℕ → ℕ → ℕ → ℕ → List ℕ → Bool
ridesb S u v d a [] = false
ridesb S u v d a (i ∷ []) = rideb S i u v d a
ridesb S u v d a (i ∷ k ∷ l) = and_then (rideb S i u (S.ride i).to d (S.ride i).arr)
    (λ _. and_then (leb (S.ride i).arr (S.ride k).dep) (λ _. ridesb S (S.ride i).to v (S.ride k).dep a (k ∷ l)))

-- no journey u to v within t and e
unfoldable pub freeb : Service → ℕ → ℕ → ℕ → ℕ → Bool
freeb S u v t e = not (withinb S u v t e)

-- the pair (d, a) of a journey is the best
unfoldable pub bestb : Service → ℕ → ℕ → Criterion → ℕ → ℕ → Bool
bestb S u v (Early t) d a = and_then (leb t d) (λ _. and_then (freeb S u v t (pred a)) (λ _. freeb S u v (suc d) a))
bestb S u v (Late t) d a = and_then (leb a t) (λ _. and_then (freeb S u v (suc d) t) (λ _. freeb S u v d (pred a)))
bestb S u v (Short t t2) d a = and_then (leb t d)
    (λ _. and_then (leb a t2) (λ _. and_then (allb (suc t2) (λ s. or_then (ltb s t) (λ _. freeb S u v s (s + pred (a - d)))))
    (λ _. allb d (λ s. or_then (ltb s t) (λ _. freeb S u v s (s + (a - d)))))))

-- no journey fits
unfoldable pub noneb : Service → ℕ → ℕ → Criterion → Bool
noneb S u v (Early t) = freeb S u v t last_minute
noneb S u v (Late t) = freeb S u v 0 t
noneb S u v (Short t t2) = freeb S u v t t2

unfoldable pub saysb : Service → ℕ → ℕ → Criterion → Reply → Bool
saysb S u v c (at d a l) = and_then (ridesb S u v d a l) (λ _. bestb S u v c d a)
saysb S u v c (joined d a i k m) = and_then (ridesb S u v d a (i ∷ k ∷ []))
    (λ _. and_then (bestb S u v c d a) (λ _. and_then (eqb (S.ride i).arr m) (λ _. eqb (S.ride k).dep m)))
saysb S u v c nothing = noneb S u v c

unfoldable pub casesb : List Case → Bool
casesb [] = true
casesb (c ∷ l) = and_then (goodb c.service) (λ _. and_then (saysb c.service c.from c.to c.criterion c.reply) (λ _. casesb l))
