use Rattle.support.specs.SpanLaws.{span_tells}
use Rattle.support.proofs.supported_at.Goals as goal

pub returns : goal.returns
returns c = span_tells c.requires.marked.started.file c.requires.set_bound.0 c.requires.set_bound.1 c.requires.set_bound.2 c.label_at-l.ensures
    c.span_of.ensures _ c.is_supported.ensures
