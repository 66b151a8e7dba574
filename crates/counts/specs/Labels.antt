-- The labels between two stops, by the minutes at which they leave.
use Rattle.std.specs.Prelude.{ℕ, suc}
use Rattle.std.proofs.Math.Option.{Option}
use Rattle.kinds.specs.Limits.{last_minute}
use Rattle.journeys.specs.Service.{Service}
use Rattle.journeys.specs.Rule.{Rule}
use Rattle.journeys.specs.Count.{Timed, PairLabels}
use Rattle.counts.specs.Count.{CountFrom}

-- by the rule there are k labels u to v
abbrev pub Many : Service → ℕ → ℕ → ℕ → Type 0
Many S u v k = (row : ℕ → Timed) × PairLabels S u v k row

-- a label u to v leaves at minute d (LabelLaws.label-one: one at most)
abbrev pub Leaves : Service → ℕ → ℕ → ℕ → Type 0
Leaves S u v d = (a : ℕ) × (p : Option ℕ) × Rule S u v d a p

-- of the labels u to v, k leave at minute m or later
abbrev pub LabelsFrom : Service → ℕ → ℕ → ℕ → ℕ → Type 0
LabelsFrom S u v m k = CountFrom (Leaves S u v) (suc last_minute) m k
