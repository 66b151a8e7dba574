-- A label looked for in its set: "Within one set hubs never fall, and for one hub departures and arrivals both strictly rise", so a hub and
-- one of the label's minutes say where it stands.
use Rattle.std.specs.Prelude.{ℕ, ◌≤◌, ◌<◌, ◌≡◌, ◌⊎◌}
use Rattle.kinds.specs.declared.Label.{Label}
use Rattle.journeys.specs.Tables.{Tables}
use Rattle.label_sets.specs.declared.Moment.{Moment}
use Rattle.label_sets.specs.declared.Moment.TheVariants.{Leaving, Arriving}

-- a label with the pair (d, a) leaves, or arrives, at this minute; at this minute or later
abbrev pub Exactly : Moment → ℕ → ℕ → Type 0
Exactly (Leaving t) d a = d ≡ t
Exactly (Arriving t) d a = a ≡ t

abbrev pub NotBefore : Moment → ℕ → ℕ → Type 0
NotBefore (Leaving t) d a = t ≤ d
NotBefore (Arriving t) d a = t ≤ a

-- label k comes at or after the place of a label with this hub and this moment
abbrev pub Past : Tables → ℕ → Moment → ℕ → Type 0
Past T hub m k = (hub < T.hub k) ⊎ ((T.hub k ≡ hub) × NotBefore m (T.dep k) (T.arr k))

abbrev pub PastLabel : Label → ℕ → Moment → Type 0
PastLabel l hub m = (hub < l.hub) ⊎ ((l.hub ≡ hub) × NotBefore m l.dep l.arr)

abbrev pub AtLabel : Label → ℕ → Moment → Type 0
AtLabel l hub m = (l.hub ≡ hub) × Exactly m l.dep l.arr
