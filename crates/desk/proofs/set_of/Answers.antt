use mathlib.Core.Path.{ap}
use Rattle.tables.specs.declared.Bounds.{Bounds}
use Rattle.desk.specs.SpelledLaws.{label_side}
use Rattle.desk.proofs.set_of.Goals as goal

pub returns : goal.returns
returns c = let o = c.owner_of-owner in
    rw (ap (λ (x : Bounds). x.end) c.outs_of-outs.ensures) (label_side c.args.file.room o.result c.args.k o.ensures.0 o.ensures.1 o.ensures.2)
