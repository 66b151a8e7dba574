-- Laws of journeys: two that meet are one; they take time; and "between" and "visits" by two journeys that meet at a stop.
use Rattle.std.specs.Prelude.{◌≡◌, refl, ◌⊎◌, ◌≢◌, ◌↔◌, ℕ, zero, suc, ◌≤◌, ◌<◌, length, get_or}
use Rattle.std.proofs.Common.{sym, ap, subst, inl, inr, le_refl, arith}
use mathlib.Core.List.Memᴰ
use mathlib.Core.List.{[], ◌∷◌, ◌++◌, Memᴰ}
use Rattle.kinds.specs.Limits.{last_minute}
use Rattle.journeys.specs.Service.{Service, RideAt, GoodService}
use Rattle.journeys.specs.Journey.{Journey, one, more, rides, visited, between, Visits, Between, Undominated}
use Rattle.journeys.specs.Paths.{join, Via}

pub rides-join : {S : Service} {u x v d b c a : ℕ} (j : Journey S u x d b) (h : b ≤ c) (k : Journey S x v c a) → rides (join j h k) ≡ rides j ++ rides k
unfolding rides join
rides-join (one i r) h k = refl
rides-join (more i r g j) h k = ap (λ l. i ∷ l) (rides-join j h k)

-- each ride of a journey is a slot of the service
pub rides_below : {S : Service} {u v d a : ℕ} (j : Journey S u v d a) (k : ℕ) → k < length (rides j) → get_or (rides j) k 0 < S.slots
unfolding rides
rides_below (one i r) zero h = r.below
rides_below (one i r) (suc k) h = absurd (omega arith)
rides_below (more i r l j) zero h = r.below
rides_below (more i r l j) (suc k) h = rides_below j k (omega arith)

module _ {S : Service} (G : GoodService S) where
  pub ride_later : {i u v d a : ℕ} → RideAt S i u v d a → d < a
  ride_later {i} r = omega (arith, G.later i r.below r.forced, r.leaves, r.arrives)

  pub ride_from : {i u v d a : ℕ} → RideAt S i u v d a → u < S.stops
  ride_from {i} r = omega (arith, G.from_stop i r.below r.forced, r.goes)

  pub ride_to : {i u v d a : ℕ} → RideAt S i u v d a → v < S.stops
  ride_to {i} r = omega (arith, G.to_stop i r.below r.forced, r.ends)

  pub ride_last : {i u v d a : ℕ} → RideAt S i u v d a → a ≤ last_minute
  ride_last {i} r = omega (arith, G.last i r.below r.forced, r.arrives)

  pub journey_later : {u v d a : ℕ} → Journey S u v d a → d < a
  journey_later (one i r) = ride_later r
  journey_later (more i r h j) = omega (arith, ride_later r, journey_later j)

  pub journey_from : {u v d a : ℕ} → Journey S u v d a → u < S.stops
  journey_from (one i r) = ride_from r
  journey_from (more i r h j) = ride_from r

  pub journey_to : {u v d a : ℕ} → Journey S u v d a → v < S.stops
  journey_to (one i r) = ride_to r
  journey_to (more i r h j) = journey_to j

  pub journey_last : {u v d a : ℕ} → Journey S u v d a → a ≤ last_minute
  journey_last (one i r) = ride_last r
  journey_last (more i r h j) = journey_last j

-- that is what it is to be strictly between
via_at : {S : Service} {u v d a : ℕ} (w : ℕ) (j : Journey S u v d a) → Memᴰ w (between j) → Via S u w v d a
unfolding between
via_at w (one i r) m = absurd (Memᴰ.not-nil m)
via_at {S} w (more {u} {x} {v} {d} {b} {c} {a} i r h j) m = go (Memᴰ.cases_cons m) (λ k. via_at w j k)
  where
    go : (w ≡ x) ⊎ Memᴰ w (between j) → (Memᴰ w (between j) → Via S x w v c a) → Via S u w v d a
    go (inl e) ih = rw e (record { mid = b; start = c; meets = h; first = one i r; second = j })
    go (inr k) ih = let s = ih k in record { mid = s.mid; start = s.start; meets = s.meets; first = more i r h s.first; second = s.second }

join-between : {S : Service} {u w v d b c a : ℕ} (j : Journey S u w d b) (h : b ≤ c) (k : Journey S w v c a) → Memᴰ w (between (join j h k))
unfolding between join
join-between (one i r) h k = Memᴰ.head refl
join-between (more i r g j) h k = Memᴰ.tail (join-between j h k)

pub between_iff : {S : Service} {u w v d a : ℕ} → Between S u w v d a ↔ Via S u w v d a
between_iff {w = w} = (
  λ s. via_at w s.way s.on,
  λ s. record { way = join s.first s.meets s.second; on = join-between s.first s.meets s.second },
)

-- what a journey visits is an end or strictly between
visited_cases : {S : Service} {u v d a : ℕ} (w : ℕ) (j : Journey S u v d a) → Memᴰ w (visited j) → (w ≡ u) ⊎ ((w ≡ v) ⊎ Memᴰ w (between j))
unfolding visited between
visited_cases w (one {u} {v} i r) m = go (Memᴰ.cases_cons m)
  where
    last : (w ≡ v) ⊎ Memᴰ w [] → (w ≡ u) ⊎ ((w ≡ v) ⊎ Memᴰ w [])
    last (inl e) = inr (inl e)
    last (inr k) = inr (inr k)

    go : (w ≡ u) ⊎ Memᴰ w (v ∷ []) → (w ≡ u) ⊎ ((w ≡ v) ⊎ Memᴰ w [])
    go (inl e) = inl e
    go (inr k) = last (Memᴰ.cases_cons k)
visited_cases w (more {u} {x} {v} i r h j) m = go (Memᴰ.cases_cons m) (λ k. visited_cases w j k)
  where
    rest : (w ≡ x) ⊎ ((w ≡ v) ⊎ Memᴰ w (between j)) → (w ≡ u) ⊎ ((w ≡ v) ⊎ Memᴰ w (x ∷ between j))
    rest (inl e) = inr (inr (Memᴰ.head e))
    rest (inr (inl e)) = inr (inl e)
    rest (inr (inr k)) = inr (inr (Memᴰ.tail k))

    go : (w ≡ u) ⊎ Memᴰ w (visited j) → (Memᴰ w (visited j) → (w ≡ x) ⊎ ((w ≡ v) ⊎ Memᴰ w (between j))) →
        (w ≡ u) ⊎ ((w ≡ v) ⊎ Memᴰ w (x ∷ between j))
    go (inl e) ih = inl e
    go (inr k) ih = rest (ih k)

start-visited : {S : Service} {u v d a : ℕ} (j : Journey S u v d a) → Memᴰ u (visited j)
unfolding visited
start-visited (one i r) = Memᴰ.head refl
start-visited (more i r h j) = Memᴰ.head refl

between-visited : {S : Service} {u v d a : ℕ} (w : ℕ) (j : Journey S u v d a) → Memᴰ w (between j) → Memᴰ w (visited j)
unfolding visited between
between-visited w (one i r) m = absurd (Memᴰ.not-nil m)
between-visited w (more {u = u} {x = x} i r h j) m = go (Memᴰ.cases_cons m) (λ k. between-visited w j k)
  where
    go : (w ≡ x) ⊎ Memᴰ w (between j) → (Memᴰ w (between j) → Memᴰ w (visited j)) → Memᴰ w (u ∷ visited j)
    go (inl e) ih = Memᴰ.tail (subst (λ y. Memᴰ y (visited j)) (sym e) (start-visited j))
    go (inr k) ih = Memᴰ.tail (ih k)

-- a stop that ranks above both ends is visited just when it is strictly between
pub visits_iff : {S : Service} {u w v d a : ℕ} → w < u → w < v → Visits S u w v d a ↔ Via S u w v d a
visits_iff {S} {u} {w} {v} {d} {a} h k = (to, back)
  where
    to : Visits S u w v d a → Via S u w v d a
    to s = go (visited_cases w s.way s.on)
      where
        go : (w ≡ u) ⊎ ((w ≡ v) ⊎ Memᴰ w (between s.way)) → Via S u w v d a
        go (inl e) = absurd (omega arith)
        go (inr (inl e)) = absurd (omega arith)
        go (inr (inr m)) = via_at w s.way m

    back : Via S u w v d a → Visits S u w v d a
    back s = let b = between_iff.1 s in record { way = b.way; on = between-visited w b.way b.on }

-- a stop that the first or the second half has between is between in the whole
pub via_first : {S : Service} {u x w v d m k a : ℕ} → Via S u x w d m → m ≤ k → Journey S w v k a → Via S u x v d a
via_first s h j = record { mid = s.mid; start = s.start; meets = s.meets; first = s.first; second = join s.second h j }

pub via_second : {S : Service} {u w x v d m k a : ℕ} → Journey S u w d m → m ≤ k → Via S w x v k a → Via S u x v d a
via_second j h s = record { mid = s.mid; start = s.start; meets = s.meets; first = join j h s.first; second = s.second }

-- with an undominated pair a stop between is neither end
module _ {S : Service} (G : GoodService S) {u w v d a : ℕ} (U : Undominated (Journey S u v) d a) (s : Via S u w v d a) where
  pub not_start : u ≢ w
  not_start e =
      U.no_later s.start a (subst (λ y. Journey S y v s.start a) (sym e) s.second) (omega (arith, s.meets, journey_later G s.first)) (le_refl a)

  pub not_end : w ≢ v
  not_end e =
      U.no_sooner d s.mid (subst (λ y. Journey S u y d s.mid) e s.first) (le_refl d) (omega (arith, s.meets, journey_later G s.second))
