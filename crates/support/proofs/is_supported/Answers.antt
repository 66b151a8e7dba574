use Rattle.support.proofs.is_supported.Goals as goal

pub has_run-requires-clause-notes : goal.has_run-requires-clause-notes
has_run-requires-clause-notes c = c.requires.marked.notes c.args.k c.args.s c.requires.span_at
