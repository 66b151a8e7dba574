-- What an ask with rides has that is not refused.
use Rattle.std.specs.Prelude.{ℕ, ◌≤◌, List}
use Rattle.timetable.specs.declared.Given.{Given}
use Rattle.asks.specs.declared.Asked.{Asked}
use Rattle.asks.specs.Asks.{GoodAsk}
use Rattle.both.specs.Both.{work_room, BothGood}

-- good tables and good numbers of n stops, the working room, and two different stops
pub record Asking (b : List ℕ) (n : ℕ) (given : Given) (runs : List ℕ) (lent : ℕ) (q : Asked) : Type 0 where
  pub both : BothGood b n given runs
  pub room : work_room ≤ lent
  pub good : GoodAsk n q
