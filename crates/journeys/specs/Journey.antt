-- Journeys, the stops that they visit, and undominated pairs.
use Rattle.std.specs.Prelude.{ℕ, ◌≤◌, ◌<◌, ◌≡◌}
use mathlib.Core.List.{List, [], ◌∷◌, Memᴰ}
use Rattle.journeys.specs.Service.{Service, RideAt}

-- "A journey is one or more runs, each starting where the one before ended, leaving at or after that one's arrival."
-- Journey S u v d a: from u to v, with "its time pair (first departure, last arrival)" (d, a).
pub data Journey (S : Service) : ℕ → ℕ → ℕ → ℕ → Type 0 where
  one : {u v d a : ℕ} (i : ℕ) → RideAt S i u v d a → Journey S u v d a
  more : {u x v d b c a : ℕ} (i : ℕ) → RideAt S i u x d b → b ≤ c → Journey S x v c a → Journey S u v d a

-- its slots, in order
unfoldable pub rides : {S : Service} {u v d a : ℕ} → Journey S u v d a → List ℕ
rides (one i r) = i ∷ []
rides (more i r h j) = i ∷ rides j

-- the stops that it visits, in order, its ends among them; and those strictly between its ends
unfoldable pub visited : {S : Service} {u v d a : ℕ} → Journey S u v d a → List ℕ
visited (one {u = u} {v = v} i r) = u ∷ v ∷ []
visited (more {u = u} i r h j) = u ∷ visited j

unfoldable pub between : {S : Service} {u v d a : ℕ} → Journey S u v d a → List ℕ
between (one i r) = []
between (more {x = x} i r h j) = x ∷ between j

-- some journey u to v with the pair (d, a) visits w
pub record Visits (S : Service) (u w v d a : ℕ) : Type 0 where
  pub way : Journey S u v d a
  pub on : Memᴰ w (visited way)

-- some journey u to v with the pair (d, a) has w strictly between its ends
pub record Between (S : Service) (u w v d a : ℕ) : Type 0 where
  pub way : Journey S u v d a
  pub on : Memᴰ w (between way)

-- the list is the slots of a journey u to v with the pair (d, a)
pub record RidesOf (S : Service) (u v d a : ℕ) (l : List ℕ) : Type 0 where
  pub way : Journey S u v d a
  pub are : rides way ≡ l

-- "undominated if no journey u to v leaves later and arrives no later, or leaves no earlier and arrives earlier" (P: the pairs of the journeys)
pub record Undominated (P : ℕ → ℕ → Type 0) (d a : ℕ) : Type 0 where
  pub has : P d a
  pub no_later : (e b : ℕ) → P e b → d < e → b ≤ a → ⊥
  pub no_sooner : (e b : ℕ) → P e b → d ≤ e → b < a → ⊥

-- a pair of P leaves at or after t and arrives at or before e: (t, e) is weakly dominated
pub record Within (P : ℕ → ℕ → Type 0) (t e : ℕ) : Type 0 where
  pub dep : ℕ
  pub arr : ℕ
  pub has : P dep arr
  pub after : t ≤ dep
  pub before : arr ≤ e
