use Rattle.std.proofs.Common.{◌≡◌, ◌+◌, ◌-◌, arith}
use Rattle.lookup.specs.EnterLaws.{entered}
use Rattle.lookup.proofs.enter.Goals as goal

pub returns-clause-codes_indexed_2 : goal.returns-clause-codes_indexed_2
returns-clause-codes_indexed_2 c =
    let long : c.args.start + c.args.n - c.args.start ≡ c.args.n = omega arith in
    entered c.requires.codes_indexed c.requires.enterable (rw long at c.walk-w.ensures.mark_value.0) c.stand.ensures
