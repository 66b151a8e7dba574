-- What the join looks at: each single label, and for each out-label of u its partner among the in-labels of v.
use Rattle.std.specs.Prelude.{ℕ, ◌≤◌, ◌<◌, ◌≡◌, ◌⊎◌}
use Rattle.loops.specs.First.{Passed, FirstAt}
use Rattle.journeys.specs.Tables.{Tables, outs, ins}
use Rattle.label_sets.specs.declared.Moment.{Moment}
use Rattle.label_sets.specs.declared.Moment.TheVariants.{Leaving}
use Rattle.label_sets.specs.Seek.{Past}

-- a partner leaves at or after the minute at which its out-label arrives
abbrev pub leaving_then : ℕ → Moment
leaving_then arr = Leaving arr

-- in-label m comes at or after the place of out-label k's partner, which has the same hub and leaves at or after k arrives
abbrev pub PastPartner : Tables → ℕ → ℕ → Type 0
PastPartner T k = Past T (T.hub k) (leaving_then (T.arr k))

-- and that place is m, among the in-labels of v
abbrev pub PartnerAt : Tables → ℕ → ℕ → ℕ → Type 0
PartnerAt T v k m = FirstAt (PastPartner T k) (T.start ins v) (T.end ins v) m

-- (d, a) comes of the out-label k of u: its own pair where its hub is v, else with its partner's arrival
pub data OutCandidate (T : Tables) (v k d a : ℕ) : Type 0 where
  own : T.hub k ≡ v → T.dep k ≡ d → T.arr k ≡ a → OutCandidate T v k d a
  met : (m : ℕ) → PartnerAt T v k m → m < T.end ins v → T.hub m ≡ T.hub k →
      T.dep k ≡ d → T.arr m ≡ a → OutCandidate T v k d a

-- (d, a) comes of an out-label of u below `to`
pub record FromOuts (T : Tables) (u v to d a : ℕ) : Type 0 where
  pub label : ℕ
  pub low : T.start outs u ≤ label
  pub high : label < to
  pub is : OutCandidate T v label d a

-- (d, a) is the pair of an in-label of v below `to` whose hub is u
pub record FromIns (T : Tables) (u v to d a : ℕ) : Type 0 where
  pub label : ℕ
  pub low : T.start ins v ≤ label
  pub high : label < to
  pub hub : T.hub label ≡ u
  pub dep : T.dep label ≡ d
  pub arr : T.arr label ≡ a

-- what was looked at: all out-labels, and the in-labels below `to`
abbrev pub Candidate : Tables → ℕ → ℕ → ℕ → ℕ → ℕ → Type 0
Candidate T u v to d a = FromOuts T u v (T.end outs u) d a ⊎ FromIns T u v to d a

-- the partners of out-label i and of all after it are to be looked for from j on; and no in-label before j has a hub as high as u
pub record PartnersFrom (T : Tables) (u v i j : ℕ) : Type 0 where
  pub low : T.start ins v ≤ j
  pub passed : (k : ℕ) → i ≤ k → k < T.end outs u → Passed (PastPartner T k) (T.start ins v) j
  pub hubs : (m : ℕ) → T.start ins v ≤ m → m < j → T.hub m < u
