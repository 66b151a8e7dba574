-- What is known of an ask line that was read.
use Rattle.std.specs.Prelude.{ℕ, ◌≤◌, ◌<◌, ◌≡◌, List, ◌⊎◌, length, Err, Ok, Result}
use Rattle.askline.specs.declared.Shape.{Shape}
use Rattle.kinds.specs.declared.Reason.TheVariants as reason
use Rattle.askline.specs.declared.Ask.{Ask}
use Rattle.kinds.specs.declared.Reason.{Reason}

-- FROM and TO stand in the input
pub record ShapeWithin (t : List ℕ) (f : Shape) : Type 0 where
  pub from_low : f.from.at ≤ f.from.end
  pub from_high : f.from.end ≤ length t
  pub to_low : f.to.at ≤ f.to.end
  pub to_high : f.to.end ≤ length t

-- what a line is read as: an ask of two stops, or refused by 2 or by 5
abbrev pub ReadAs : ℕ → Result Ask Reason → Type 0
ReadAs stops (Ok q) = (q.from < stops) × (q.to < stops)
ReadAs stops (Err n) = (n ≡ reason.LineShape) ⊎ (n ≡ reason.StopUnknown)
