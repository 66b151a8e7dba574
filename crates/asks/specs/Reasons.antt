-- Why an ask is refused, by the number of the refusal.
use Rattle.std.specs.Prelude.{ℕ, ◌≤◌, ◌<◌, ◌≡◌, ◌⊎◌}
use Rattle.kinds.specs.Refusals.{number_of}
use Rattle.asks.specs.declared.Wanted.{Wanted}
use Rattle.asks.specs.Asks.{TwoStops}
use Rattle.asks.specs.Permitted.{InRange, OutOfRange, Crossed}
use Rattle.kinds.specs.declared.Reason.TheVariants as reason

-- the reasons of a refusal with this number
pub record Reasons (n from to : ℕ) (w : Wanted) (k : ℕ) : Type 0 where
  pub twelve : k ≡ number_of reason.StopHigh → (n ≤ from) ⊎ (n ≤ to)
  pub thirteen : k ≡ number_of reason.SameStop → (from < n) × (from ≡ to)
  pub fourteen : k ≡ number_of reason.MinuteHigh → TwoStops n from to × OutOfRange w
  pub fifteen : k ≡ number_of reason.MinutesCrossed → TwoStops n from to × InRange w × Crossed w
