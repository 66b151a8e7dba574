-- Label tables, apart from how a file holds them; good tables; sketches.
use Rattle.std.specs.Prelude.{ℕ, ◌≤◌, ◌<◌, ◌≡◌, ◌≢◌}
use Rattle.std.proofs.Math.Option.{Option, some}
use Rattle.kinds.specs.Limits.{last_minute}

-- a stop has two sets of labels
pub data Side : Type 0 where
  outs : Side
  ins : Side

-- "Labels are numbered from 0". A stop's set on a side is the labels from `start` up to, not including, `end`.
pub record Tables : Type 0 where
  pub stops : ℕ
  pub start : Side → ℕ → ℕ
  pub end : Side → ℕ → ℕ
  pub hub : ℕ → ℕ
  pub dep : ℕ → ℕ
  pub arr : ℕ → ℕ
  pub pivot : ℕ → Option ℕ

-- label k stands in the set of the owner s on this side, and says hub h, departure d, arrival a, pivot p
pub record Entry (T : Tables) (side : Side) (k s h d a : ℕ) (p : Option ℕ) : Type 0 where
  pub owner : s < T.stops
  pub low : T.start side s ≤ k
  pub high : k < T.end side s
  pub hub : T.hub k ≡ h
  pub dep : T.dep k ≡ d
  pub arr : T.arr k ≡ a
  pub pivot : T.pivot k ≡ p

-- label k is a label u to v: "an out-label of u with hub v", "else an in-label of v with hub u"
pub data LabelAt (T : Tables) (k u v d a : ℕ) (p : Option ℕ) : Type 0 where
  of_out : Entry T outs k u v d a p → LabelAt T k u v d a p
  of_in : Entry T ins k v u d a p → LabelAt T k u v d a p

abbrev pub Label : Tables → ℕ → ℕ → ℕ → ℕ → Option ℕ → Type 0
Label T u v d a p = (k : ℕ) × LabelAt T k u v d a p

-- "A good label, by stop numbers: hub less than owner; departure < arrival ≤ 2,879; pivot [none], or more than the hub, less than n and
-- not the owner. Within one set hubs never fall, and for one hub departures and arrivals both strictly rise."
pub record GoodTables (T : Tables) : Type 0 where
  pub below : {side : Side} {k s h d a : ℕ} {p : Option ℕ} → Entry T side k s h d a p → h < s
  pub later : {side : Side} {k s h d a : ℕ} {p : Option ℕ} → Entry T side k s h d a p → d < a
  pub last : {side : Side} {k s h d a : ℕ} {p : Option ℕ} → Entry T side k s h d a p → a ≤ last_minute
  pub pivot_low : {side : Side} {k s h d a w : ℕ} → Entry T side k s h d a (some w) → h < w
  pub pivot_high : {side : Side} {k s h d a w : ℕ} → Entry T side k s h d a (some w) → w < T.stops
  pub pivot_other : {side : Side} {k s h d a w : ℕ} → Entry T side k s h d a (some w) → w ≢ s
  pub hubs_rise : {side : Side} {i k s h g d e a b : ℕ} {p q : Option ℕ} → Entry T side i s h d a p → Entry T side k s g e b q → i < k → h ≤ g
  pub deps_rise : {side : Side} {i k s h d e a b : ℕ} {p q : Option ℕ} → Entry T side i s h d a p → Entry T side k s h e b q → i < k → d < e
  pub arrs_rise : {side : Side} {i k s h d e a b : ℕ} {p q : Option ℕ} → Entry T side i s h d a p → Entry T side k s h e b q → i < k → a < b

-- an out-label of u and an in-label of v with one hub h, "the first arriving no later than the second leaves", with the pair (d, a)
pub record JoinAt (T : Tables) (u v d a h : ℕ) : Type 0 where
  pub first : ℕ
  pub second : ℕ
  pub mid : ℕ
  pub start : ℕ
  pub pivot₁ : Option ℕ
  pub pivot₂ : Option ℕ
  pub out_label : Entry T outs first u h d mid pivot₁
  pub in_label : Entry T ins second v h start a pivot₂
  pub meets : mid ≤ start

-- "A sketch of u to v is an out-label of u with hub v, an in-label of v with hub u, or an out-label of u and an in-label of v with one hub"
pub data Sketch (T : Tables) (u v d a : ℕ) : Type 0 where
  single : (p : Option ℕ) → Label T u v d a p → Sketch T u v d a
  joined : (h : ℕ) → JoinAt T u v d a h → Sketch T u v d a

-- some label u to v has a pair of P
pub record LabelWith (T : Tables) (u v : ℕ) (P : ℕ → ℕ → Type 0) : Type 0 where
  pub dep : ℕ
  pub arr : ℕ
  pub pivot : Option ℕ
  pub label : Label T u v dep arr pivot
  pub says : P dep arr
