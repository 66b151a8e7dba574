-- Parts of journeys and of tables that the laws speak of; no contract does.
use Rattle.std.specs.Prelude.{ℕ, ◌≤◌, ◌+◌, ◌<◌, ◌≡◌, ◌⊎◌, ◌≢◌, true, List, ◌++◌}
use Rattle.std.proofs.Math.Option.{Option}
use Rattle.journeys.specs.Service.{Service, RideAt}
use Rattle.journeys.specs.Journey.{Journey, one, more, Within, Undominated}
use Rattle.journeys.specs.Tables.{Tables, Sketch, Label, Side, Entry, outs, ins}
use Rattle.journeys.specs.Rides.{Opens}
use Rattle.journeys.specs.Rule.{Rule}

unfoldable pub join : {S : Service} {u x v d b c a : ℕ} → Journey S u x d b → b ≤ c → Journey S x v c a → Journey S u v d a
join (one i r) h k = more i r h k
join (more i r g j) h k = more i r g (join j h k)

-- a journey u to w and one w to v that meet, with the pair (d, a)
pub record Via (S : Service) (u w v d a : ℕ) : Type 0 where
  pub mid : ℕ
  pub start : ℕ
  pub meets : mid ≤ start
  pub first : Journey S u w d mid
  pub second : Journey S w v start a

-- slot i starts a journey u to v within t and e
pub record Starts (S : Service) (u v t e i : ℕ) : Type 0 where
  pub forced : S.in_force i ≡ true
  pub goes : (S.ride i).from ≡ u
  pub after : t ≤ (S.ride i).dep
  pub before : (S.ride i).arr ≤ e
  pub rest : ((S.ride i).to ≡ v) ⊎ Within (Journey S (S.ride i).to v) (S.ride i).arr e

-- some journey u to w to v within t and e, changing at minute m
pub record Meet (S : Service) (u w v t e m : ℕ) : Type 0 where
  pub first : Within (Journey S u w) t m
  pub second : Within (Journey S w v) m e

-- something of P lasts at most n from s on, within t and t2
pub record Lasts (P : ℕ → ℕ → Type 0) (t t2 n s : ℕ) : Type 0 where
  pub low : t ≤ s
  pub high : s + n ≤ t2
  pub has : Within P s (s + n)

-- E holds a minute for each stop; `far` and more means unreached
pub record Earliest (S : Service) (u t far : ℕ) (E : ℕ → ℕ) : Type 0 where
  pub start : E u ≤ t
  pub closed : {i x y d a : ℕ} → RideAt S i x y d a → E x ≤ d → E y ≤ a
  pub real : (x : ℕ) → x ≢ u → E x < far → Within (Journey S u x) t (E x)

-- no gap, by what lies within two minutes: the form that the proofs use
pub record NoGapWithin (T : Tables) (u x d a v : ℕ) : Type 0 where
  pub here : v ≡ x → Within (Sketch T u x) d a
  pub on : v ≢ x → (c e : ℕ) → Sketch T x v c e → a ≤ c → Within (Sketch T u v) d e

-- what the rides of a label with a pivot are made of
pub record Parts (S : Service) (T : Tables) (u w v d a : ℕ) (n : List ℕ) : Type 0 where
  pub mid : ℕ
  pub start : ℕ
  pub pivot₁ : Option ℕ
  pub pivot₂ : Option ℕ
  pub rides₁ : List ℕ
  pub rides₂ : List ℕ
  pub meets : mid ≤ start
  pub first : Label T u w d mid pivot₁
  pub second : Label T w v start a pivot₂
  pub opens₁ : Opens S T u w d mid pivot₁ rides₁
  pub opens₂ : Opens S T w v start a pivot₂ rides₂
  pub are : n ≡ rides₁ ++ rides₂

-- a label of the rule for the ends and the pair
pub record Labelled (S : Service) (u v d a : ℕ) : Type 0 where
  pub by : Option ℕ
  pub rule : Rule S u v d a by

-- two undominated halves that meet at w; two labels of the rule that meet at w
pub record Split (S : Service) (u w v d a : ℕ) : Type 0 where
  pub mid : ℕ
  pub start : ℕ
  pub meets : mid ≤ start
  pub first : Undominated (Journey S u w) d mid
  pub second : Undominated (Journey S w v) start a

pub record TwoLabels (S : Service) (u w v d a : ℕ) : Type 0 where
  pub mid : ℕ
  pub start : ℕ
  pub meets : mid ≤ start
  pub first : Labelled S u w d mid
  pub second : Labelled S w v start a

-- every label of the tables P is a label of T
pub record Part (P T : Tables) : Type 0 where
  pub of_part : {side : Side} {s h d a : ℕ} {p : Option ℕ} → ((k : ℕ) × Entry P side k s h d a p) → (k : ℕ) × Entry T side k s h d a p

-- label k is of s, with hub h, within t and e
pub record Hit (T : Tables) (side : Side) (s h t e k : ℕ) : Type 0 where
  pub owner : s < T.stops
  pub low : T.start side s ≤ k
  pub high : k < T.end side s
  pub hub : T.hub k ≡ h
  pub after : t ≤ T.dep k
  pub before : T.arr k ≤ e

-- a label by its ends and pair; by its ends and departure; by its ends and arrival
pub record Exact (T : Tables) (side : Side) (s h : ℕ) (P : ℕ → ℕ → Type 0) (k : ℕ) : Type 0 where
  pub owner : s < T.stops
  pub low : T.start side s ≤ k
  pub high : k < T.end side s
  pub hub : T.hub k ≡ h
  pub says : P (T.dep k) (T.arr k)

unfoldable pub Hits : Tables → Side → ℕ → ℕ → ℕ → ℕ → Type 0
Hits T side s h t e = (k : ℕ) × (k < T.end side s) × Hit T side s h t e k

-- label k of u's, and a label of v's that it meets at its hub
pub record HubMeeting (T : Tables) (u v t e k : ℕ) : Type 0 where
  pub owner : u < T.stops
  pub low : T.start outs u ≤ k
  pub high : k < T.end outs u
  pub after : t ≤ T.dep k
  pub then : Hits T ins v (T.hub k) (T.arr k) e
