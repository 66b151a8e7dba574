-- What the check asks of tables, and what its refusals 19 and 20 name.
use Rattle.std.specs.Prelude.{ℕ, ◌≤◌, ◌<◌, ◌≡◌, ◌≢◌, List, ◌∷◌}
use Rattle.std.proofs.Math.Option.{Option, none, some}
use Rattle.journeys.specs.declared.Criterion.TheVariants.{Early}
use Rattle.journeys.specs.Service.{Service, RideAt}
use Rattle.journeys.specs.Journey.{Journey, rides, Within}
use Rattle.journeys.specs.Criteria.{Answer}
use Rattle.journeys.specs.Tables.{Tables, LabelAt, Label, Sketch}

-- "the label u to p that leaves at the same minute, then the label p to v that arrives at the same minute, the first arriving no later than
-- the second leaves"
pub record Halves (T : Tables) (u w v d a : ℕ) : Type 0 where
  pub mid : ℕ
  pub start : ℕ
  pub pivot₁ : Option ℕ
  pub pivot₂ : Option ℕ
  pub first : Label T u w d mid pivot₁
  pub second : Label T w v start a pivot₂
  pub meets : mid ≤ start

-- "Supported: a label with no pivot has a run with its ends and minutes; one with a pivot has both labels just described."
abbrev pub Supported : Service → Tables → ℕ → ℕ → ℕ → ℕ → Option ℕ → Type 0
Supported S T u v d a none = (i : ℕ) × RideAt S i u v d a
Supported S T u v d a (some w) = Halves T u w v d a

abbrev pub SupportedAt : Service → Tables → ℕ → Type 0
SupportedAt S T k = (u v d a : ℕ) (p : Option ℕ) → LabelAt T k u v d a p → Supported S T u v d a p

abbrev pub AllSupported : Service → Tables → Type 0
AllSupported S T = (k : ℕ) → SupportedAt S T k

-- "No gap at a run from u to x, leaving d and arriving a, and a stop v other than u: for v = x, the tables' early(u, x, d) exists and
-- arrives by a; for another v, if the tables' early(x, v, a) exists, then early(u, v, d) exists and arrives no later."
pub record NoGap (T : Tables) (u x d a v : ℕ) : Type 0 where
  pub here : v ≡ x → (A : Answer (Sketch T u x) (Early d)) × (A.arr ≤ a)
  pub on : v ≢ x → (B : Answer (Sketch T x v) (Early a)) → (A : Answer (Sketch T u v) (Early d)) × (A.arr ≤ B.arr)

abbrev pub NoGapAt : Service → Tables → ℕ → ℕ → Type 0
NoGapAt S T i v = (u x d a : ℕ) → RideAt S i u x d a → v ≢ u → NoGap T u x d a v

abbrev pub NoGaps : Service → Tables → Type 0
NoGaps S T = (i v : ℕ) → v < T.stops → NoGapAt S T i v

-- "The tables are accepted exactly when every label is supported and no run has a gap."
pub record Accepted (S : Service) (T : Tables) : Type 0 where
  pub supported : AllSupported S T
  pub no_gaps : NoGaps S T

-- "The first failure ends the search, labels first": refusal 19 at label k
pub record UnsupportedFirst (S : Service) (T : Tables) (k : ℕ) : Type 0 where
  pub fault : ¬ (SupportedAt S T k)
  pub before : (j : ℕ) → j < k → SupportedAt S T j

-- "then runs by number and, within a run, stops by number": refusal 20 at slot i and stop v
pub record GapFirst (S : Service) (T : Tables) (i v : ℕ) : Type 0 where
  pub supported : AllSupported S T
  pub stop : v < T.stops
  pub fault : ¬ (NoGapAt S T i v)
  pub runs_before : (j w : ℕ) → j < i → w < T.stops → NoGapAt S T j w
  pub stops_before : (w : ℕ) → w < v → NoGapAt S T i w

-- "refusals 19 and 20 name a real fault". 19: label k stands in the tables, and has no support
pub record Unsupported (S : Service) (T : Tables) (k : ℕ) : Type 0 where
  pub from : ℕ
  pub to : ℕ
  pub dep : ℕ
  pub arr : ℕ
  pub pivot : Option ℕ
  pub label : LabelAt T k from to dep arr pivot
  pub lacks : ¬ (Supported S T from to dep arr pivot)

-- 20: a journey begins with the ride at slot i and ends at another stop v, and no sketch leaves as late and arrives as early: the tables miss it
pub record Missed (S : Service) (T : Tables) (i v : ℕ) : Type 0 where
  pub arr : ℕ
  pub other : v ≢ (S.ride i).from
  pub way : Journey S (S.ride i).from v (S.ride i).dep arr
  pub rest : List ℕ
  pub begins : rides way ≡ i ∷ rest
  pub lost : ¬ (Within (Sketch T (S.ride i).from v) (S.ride i).dep arr)
