-- Deciding by search (L4): journeys within two minutes, undominated pairs, the lowest stop between, a run with a pair.
use Rattle.std.specs.Prelude.{◌≡◌, refl, ◌⊎◌, true, ℕ, zero, suc, pred, ◌+◌, ◌≤◌, ◌<◌}
use Rattle.std.proofs.Common.{sym, subst, inl, inr, le_refl, arith}
use Rattle.std.proofs.Math.Decide.{ℕ_discrete, dec_le, dec_lt}
use Rattle.loops.specs.DecideLaws.{least_below, dec_not}
use Rattle.loops.specs.Decide.{dec_true, any_below, Least, dec_then, dec_or, dec_map}
use Rattle.journeys.specs.Service.{Service, RideAt, GoodService}
use Rattle.journeys.specs.Journey.{Journey, one, more, Undominated, Within}
use Rattle.journeys.proofs.PairLaws.{same_pair, refine, undominated_iff}
use Rattle.journeys.proofs.JourneyLaws.{journey_later}
use Rattle.journeys.specs.Paths.{join, Via, Starts, Meet}

ride_at : {S : Service} {i u v : ℕ} → i < S.slots → S.in_force i ≡ true → (S.ride i).from ≡ u → (S.ride i).to ≡ v →
    RideAt S i u v (S.ride i).dep (S.ride i).arr
ride_at h f p q = record { below = h; forced = f; goes = p; ends = q; leaves = refl; arrives = refl }

pub of_start : {S : Service} {u v t e i : ℕ} → i < S.slots → Starts S u v t e i → Within (Journey S u v) t e
of_start {S} {u} {v} {t} {e} {i} h f = go f.rest
  where
    go : ((S.ride i).to ≡ v) ⊎ Within (Journey S (S.ride i).to v) (S.ride i).arr e → Within (Journey S u v) t e
    go (inl q) = record { dep = (S.ride i).dep; arr = (S.ride i).arr; has = one i (ride_at h f.forced f.goes q); after = f.after; before = f.before }
    go (inr w) = record {
      dep = (S.ride i).dep;
      arr = w.arr;
      has = more i (ride_at h f.forced f.goes refl) w.after w.has;
      after = f.after;
      before = w.before;
    }

pub to_start : {S : Service} {u v t e d a : ℕ} → GoodService S → Journey S u v d a → t ≤ d → a ≤ e → (i : ℕ) × (i < S.slots) × Starts S u v t e i
to_start {S} G (one i r) h k =
    (i, r.below, record { forced = r.forced; goes = r.goes; after = omega (arith, r.leaves); before = omega (arith, r.arrives); rest = inl r.ends })
to_start {S} {u} {v} {t} {e} G (more {c = c} {a = a} i r g j) h k = (
  i,
  r.below,
  record {
    forced = r.forced;
    goes = r.goes;
    after = omega (arith, r.leaves);
    before = omega (arith, r.arrives, journey_later G j);
    rest = inr (record { dep = c; arr = a; has = subst (λ y. Journey S y v c a) (sym r.ends) j; after = omega (arith, r.arrives); before = k });
  },
)

module _ (S : Service) (G : GoodService S) (v e : ℕ) where
  dec_start : (u t i : ℕ) → i < S.slots → ((u' t' : ℕ) → t < t' → Dec (Within (Journey S u' v) t' e)) → Dec (Starts S u v t e i)
  dec_start u t i h ih = go (dec_true (S.in_force i))
    where
      rest : S.in_force i ≡ true → Dec (Starts S u v t e i)
      rest f = dec_map
          (λ s. record { forced = f; goes = s.0; after = s.1.0; before = s.1.1.0; rest = s.1.1.1 })
          (λ s. (s.goes, (s.after, (s.before, s.rest))))
          (dec_then (ℕ_discrete (S.ride i).from u) (λ p. dec_then (dec_le t (S.ride i).dep) (λ q. dec_then (dec_le (S.ride i).arr e) (λ r.
          dec_or (ℕ_discrete (S.ride i).to v) (ih (S.ride i).to (S.ride i).arr (omega (arith, G.later i h f)))))))

      go : Dec (S.in_force i ≡ true) → Dec (Starts S u v t e i)
      go (yes f) = rest f
      go (no n) = no (λ s. n s.forced)

  dec_fuel : (f u t : ℕ) → e ≤ t + f → Dec (Within (Journey S u v) t e)
  dec_fuel zero u t h = no (λ w. omega (arith, w.after, w.before, journey_later G w.has))
  dec_fuel (suc f) u t h = dec_map
      (λ s. of_start s.1 s.2)
      (λ w. to_start G w.has w.after w.before)
      (any_below (Starts S u v t e) S.slots (λ i k. dec_start u t i k (λ u' t' l. dec_fuel f u' t' (omega arith))))

  pub dec_within : (u t : ℕ) → Dec (Within (Journey S u v) t e)
  dec_within u t = dec_fuel e u t (omega arith)

-- within an undominated pair that is a journey with the very pair that has w between
pub via_of_meet : {S : Service} {u w v d a m : ℕ} → Undominated (Journey S u v) d a → Meet S u w v d a m → Via S u w v d a
via_of_meet {S} {u} {w} {v} {d} {a} {m} U s = record {
  mid = f.arr;
  start = g.dep;
  meets = omega (arith, f.before, g.after);
  first = subst (λ x. Journey S u w x f.arr) same.0 f.has;
  second = subst (λ x. Journey S w v g.dep x) same.1 g.has;
}
  where
    f : Within (Journey S u w) d m
    f = s.first

    g : Within (Journey S w v) m a
    g = s.second

    same : (f.dep ≡ d) × (g.arr ≡ a)
    same = same_pair U (join f.has (omega (arith, f.before, g.after)) g.has) f.after g.before

pub meet_of_via : {S : Service} {u w v d a : ℕ} → GoodService S → Via S u w v d a → (m : ℕ) × (m < a) × Meet S u w v d a m
meet_of_via {d = d} {a} G s = (
  s.mid,
  omega (arith, s.meets, journey_later G s.second),
  record {
    first = record { dep = d; arr = s.mid; has = s.first; after = le_refl d; before = le_refl s.mid };
    second = record { dep = s.start; arr = a; has = s.second; after = s.meets; before = le_refl a };
  },
)

module _ (S : Service) (G : GoodService S) where
  -- every journey pair is weakly dominated by an undominated pair
  pub refined : {u v d a : ℕ} → Journey S u v d a → Within (Undominated (Journey S u v)) d a
  refined {u} {v} {d} {a} j = refine (Journey S u v) (λ e b k. journey_later G k) (λ t e. dec_within S G v e u t) d a j

  pub dec_undominated : (u v d a : ℕ) → Dec (Undominated (Journey S u v) d a)
  dec_undominated u v d a =
      let i = undominated_iff (Journey S u v) (λ e b j. journey_later G j) d a in
      dec_map (λ s. i.1 (s.0, s.1.0, s.1.1)) (λ U. let s = i.0 U in (s.0, (s.1, s.2)))
      (dec_then (dec_within S G v a u d) (λ _. dec_then (dec_not (dec_within S G v a u (suc d))) (λ _. dec_not (dec_within S G v (pred a) u d))))

  dec_meet : (u w v t e m : ℕ) → Dec (Meet S u w v t e m)
  dec_meet u w v t e m = dec_map (λ s. record { first = s.0; second = s.1 }) (λ s. (s.first, s.second))
      (dec_then (dec_within S G w m u t) (λ _. dec_within S G v e w m))

  pub dec_via : {u v d a : ℕ} → Undominated (Journey S u v) d a → (w : ℕ) → Dec (Via S u w v d a)
  dec_via {u} {v} {d} {a} U w = dec_map (λ s. via_of_meet U s.2) (meet_of_via G) (any_below (Meet S u w v d a) a (λ m _. dec_meet u w v d a m))

  -- the lowest-numbered stop between, below a bound, if any is
  pub lowest_via : {u v d a : ℕ} → Undominated (Journey S u v) d a → (n : ℕ) →
      ((l : Least (λ w. Via S u w v d a)) × (l.it < n)) ⊎ ((w : ℕ) → w < n → ¬ (Via S u w v d a))
  lowest_via {u} {v} {d} {a} U n = least_below (λ w. Via S u w v d a) n (λ w _. dec_via U w)

  pub dec_ride : (u v d a i : ℕ) → Dec (RideAt S i u v d a)
  dec_ride u v d a i = dec_map
      (λ s. record { below = s.0; forced = s.1.0; goes = s.1.1.0; ends = s.1.1.1.0; leaves = s.1.1.1.1.0; arrives = s.1.1.1.1.1 })
      (λ r. (r.below, (r.forced, (r.goes, (r.ends, (r.leaves, r.arrives))))))
      (dec_then (dec_lt i S.slots) (λ _. dec_then (dec_true (S.in_force i)) (λ _. dec_then (ℕ_discrete (S.ride i).from u) (λ _.
      dec_then (ℕ_discrete (S.ride i).to v) (λ _. dec_then (ℕ_discrete (S.ride i).dep d) (λ _. ℕ_discrete (S.ride i).arr a))))))

  pub dec_some_ride : (u v d a : ℕ) → Dec ((i : ℕ) × (i < S.slots) × RideAt S i u v d a)
  dec_some_ride u v d a = any_below (λ i. RideAt S i u v d a) S.slots (λ i _. dec_ride u v d a i)
