-- The label rule by tests that compute. What each says is in RuleTestLaws.
use Rattle.std.specs.Prelude.{◌≡◌, Bool, not, ℕ, suc, pred, min, ◌<◌, leb, ltb, eqb}
use Rattle.std.proofs.Math.Option.{Option, none, some}
use Rattle.journeys.specs.Service.{Service}
use Rattle.journeys.specs.Tables.{Side, outs, ins, Tables}
use Rattle.journeys.specs.Rule.{Rule}
use Rattle.journeys.specs.Tests.{and_then, or_then, anyb, allb, rideb, withinb}

-- the rides that a journey begins and ends with
pub record First (S : Service) (u d i : ℕ) : Type 0 where
  pub below : i < S.slots
  pub goes : (S.ride i).from ≡ u
  pub leaves : (S.ride i).dep ≡ d

pub record Last (S : Service) (v a i : ℕ) : Type 0 where
  pub below : i < S.slots
  pub ends : (S.ride i).to ≡ v
  pub arrives : (S.ride i).arr ≡ a

-- the pair is undominated
unfoldable pub undominatedb : Service → ℕ → ℕ → ℕ → ℕ → Bool
undominatedb S u v d a = and_then (withinb S u v d a) (λ _. and_then (not (withinb S u v (suc d) a)) (λ _. not (withinb S u v d (pred a))))

-- w is strictly between on a journey with the pair: a ride to w comes there in time
unfoldable pub viab : Service → ℕ → ℕ → ℕ → ℕ → ℕ → Bool
viab S u w v d a = anyb S.slots (λ i. and_then (eqb (S.ride i).to w)
    (λ _. and_then (withinb S u w d (S.ride i).arr) (λ _. withinb S w v (S.ride i).arr a)))

-- some stop below n is
unfoldable pub some_viab : Service → ℕ → ℕ → ℕ → ℕ → ℕ → Bool
some_viab S u v d a n = anyb n (λ w. viab S u w v d a)

-- some run has the pair
unfoldable pub some_rideb : Service → ℕ → ℕ → ℕ → ℕ → Bool
some_rideb S u v d a = anyb S.slots (λ i. rideb S i u v d a)

-- the pair has a label; the label's pivot is this
unfoldable pub labelledb : Service → ℕ → ℕ → ℕ → ℕ → Bool
labelledb S u v d a = and_then (not (eqb u v)) (λ _. and_then (undominatedb S u v d a) (λ _. not (some_viab S u v d a (min u v))))

unfoldable pub pivotb : Service → ℕ → ℕ → ℕ → ℕ → Option ℕ → Bool
pivotb S u v d a none = some_rideb S u v d a
pivotb S u v d a (some w) = and_then (not (some_rideb S u v d a)) (λ _. and_then (viab S u w v d a) (λ _. not (some_viab S u v d a w)))

unfoldable pub ruleb : Service → ℕ → ℕ → ℕ → ℕ → Option ℕ → Bool
ruleb S u v d a p = and_then (labelledb S u v d a) (λ _. pivotb S u v d a p)

-- what label k says, in the set of s on a side
abbrev pub RuleOn : Service → Side → ℕ → ℕ → ℕ → ℕ → Option ℕ → Type 0
RuleOn S outs s h d a p = Rule S s h d a p
RuleOn S ins s h d a p = Rule S h s d a p

unfoldable pub sideb : Service → Side → ℕ → ℕ → ℕ → ℕ → Option ℕ → Bool
sideb S outs s h d a p = ruleb S s h d a p
sideb S ins s h d a p = ruleb S h s d a p

-- each label of a set is one of the rule
unfoldable pub setb : Service → Tables → Side → ℕ → Bool
setb S X side s = allb (X.end side s) (λ k. or_then (ltb k (X.start side s))
    (λ _. and_then (ltb (X.hub k) s) (λ _. sideb S side s (X.hub k) (X.dep k) (X.arr k) (X.pivot k))))

-- label u to v with the pair
unfoldable pub heldb : Tables → Side → ℕ → ℕ → ℕ → ℕ → Bool
heldb X side s h d a = and_then (ltb s X.stops) (λ _. anyb (X.end side s) (λ k. and_then (leb (X.start side s) k) (λ _.
    and_then (eqb (X.hub k) h) (λ _. and_then (eqb (X.dep k) d) (λ _. eqb (X.arr k) a)))))

-- a pair that has a label by the rule has one in the tables
unfoldable pub pairb : Service → Tables → ℕ → ℕ → ℕ → ℕ → Bool
pairb S X u v d a = or_then (not (labelledb S u v d a)) (λ _. or_then (heldb X outs u v d a) (λ _. heldb X ins v u d a))

-- all sets; all pairs of two rides
unfoldable pub soundb : Service → Tables → Bool
soundb S X = allb X.stops (λ s. and_then (setb S X outs s) (λ _. setb S X ins s))

unfoldable pub fullb : Service → Tables → Bool
fullb S X = allb S.slots (λ i. allb S.slots (λ k. pairb S X (S.ride i).from (S.ride k).to (S.ride i).dep (S.ride k).arr))
