-- A label of a set by its ends, and its support.
use Rattle.std.specs.Prelude.{ℕ, ◌%◌, cond, eqb}
use Rattle.kinds.specs.declared.Label.{Label}
use Rattle.journeys.specs.Service.{Service}
use Rattle.journeys.specs.Tables.{Tables, LabelAt}
use Rattle.journeys.specs.Check.{Supported}
use Rattle.tables.specs.File.{owner_of, pivot_of}
use Rattle.label_sets.specs.declared.Span.{Span}

-- "an out-label of u with hub v", "an in-label of v with hub u": label l of a set, whose number says its owner and its side
unfoldable pub span_of : ℕ → Label → Span
span_of set l =
    cond (eqb (set % 2) 0)
    (record { from = owner_of set; to = l.hub; dep = l.dep; arr = l.arr; pivot = l.pivot })
    (record { from = l.hub; to = owner_of set; dep = l.dep; arr = l.arr; pivot = l.pivot })

-- label k goes by these ends, minutes and pivot
abbrev pub SpanAt : Tables → ℕ → Span → Type 0
SpanAt T k s = LabelAt T k s.from s.to s.dep s.arr (pivot_of s.pivot)

abbrev pub SpanSupported : Service → Tables → Span → Type 0
SpanSupported S T s = Supported S T s.from s.to s.dep s.arr (pivot_of s.pivot)
