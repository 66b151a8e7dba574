-- Where the answer (d, a) from u to v is taken apart: "for its rides, a single label goes before a joined pair, and then the lowest hub number".
use Rattle.std.specs.Prelude as std
use Rattle.std.specs.Prelude.{ℕ, ◌≤◌, ◌<◌, ◌≡◌, List, None, Some}
use Rattle.std.proofs.Math.Option.{Option}
use Rattle.loops.specs.First.{Passed}
use Rattle.kinds.specs.declared.Label as kinds
use Rattle.journeys.specs.Tables.{Tables, outs, ins, Label, JoinAt}
use Rattle.tables.specs.File.{tables_of, pivot_of}
use Rattle.label_sets.specs.declared.Moment.TheVariants.{Arriving}
use Rattle.label_sets.specs.Seek.{Past}
use Rattle.label_sets.specs.Sets.{SetAt}

-- label l leaves at d, and the label at this place, below `to`, has its hub, arrives at a, and leaves when l has arrived
pub record Joins (T : Tables) (l : kinds.Label) (d a place to : ℕ) : Type 0 where
  pub leaves : l.dep ≡ d
  pub within : place < to
  pub hub : T.hub place ≡ l.hub
  pub arrives : T.arr place ≡ a
  pub meets : l.arr ≤ T.dep place

-- out-label k, and an in-label of v that it meets, have the pair (d, a)
pub record JoinsAt (T : Tables) (v d a k : ℕ) : Type 0 where
  pub leaves : T.dep k ≡ d
  pub second : ℕ
  pub low : T.start ins v ≤ second
  pub high : second < T.end ins v
  pub hub : T.hub second ≡ T.hub k
  pub arrives : T.arr second ≡ a
  pub meets : T.arr k ≤ T.dep second

-- the search for the lowest hub, between the bounds of both sets, has come to out-label k of u: none of those before it joins, and the
-- labels that those from k on can join stand at `place` or after it
pub record HubsTo (b : List ℕ) (n u v d a outFrom outTo inFrom inTo place k : ℕ) : Type 0 where
  pub out_set : SetAt b n outs u outFrom outTo
  pub in_set : SetAt b n ins v inFrom inTo
  pub low : (tables_of b).start outs u ≤ k
  pub high : k ≤ outTo
  pub none : Passed (JoinsAt (tables_of b) v d a) ((tables_of b).start outs u) k
  pub behind : (j : ℕ) → k ≤ j → j < outTo → Passed (Past (tables_of b) ((tables_of b).hub j) (Arriving a)) ((tables_of b).start ins v) place
  pub place_high : place ≤ inTo

-- h is "the lowest hub number", or there is no joined pair
pub record LowestHub (T : Tables) (u v d a h : ℕ) : Type 0 where
  pub join : JoinAt T u v d a h
  pub none_below : (g : ℕ) → g < h → ¬ (JoinAt T u v d a g)

abbrev pub HubAs : Tables → ℕ → ℕ → ℕ → ℕ → std.Option ℕ → Type 0
HubAs T u v d a (Some h) = LowestHub T u v d a h
HubAs T u v d a None = (g : ℕ) → ¬ (JoinAt T u v d a g)

-- the pivot of the single label, or else the hub; or there is no sketch with the pair
pub data Goes (T : Tables) (u v d a p : ℕ) : Type 0 where
  by_label : Label T u v d a (pivot_of p) → Goes T u v d a p
  by_hub : ((q : Option ℕ) → ¬ (Label T u v d a q)) → LowestHub T u v d a p → Goes T u v d a p

pub record NoSketch (T : Tables) (u v d a : ℕ) : Type 0 where
  pub no_label : (q : Option ℕ) → ¬ (Label T u v d a q)
  pub no_join : (g : ℕ) → ¬ (JoinAt T u v d a g)

abbrev pub WayAs : Tables → ℕ → ℕ → ℕ → ℕ → std.Option ℕ → Type 0
WayAs T u v d a (Some p) = Goes T u v d a p
WayAs T u v d a None = NoSketch T u v d a
