-- The rides of a label and of an answer.
use Rattle.std.specs.Prelude.{ℕ, ◌≤◌, ◌<◌, ◌≡◌, List, [], ◌∷◌, ◌++◌}
use Rattle.std.proofs.Math.Option.{Option, none, some}
use Rattle.journeys.specs.Service.{Service, RideAt}
use Rattle.journeys.specs.Tables.{Tables, Label, JoinAt}

-- "with no pivot, the lowest-numbered run with its ends and minutes. With pivot p: the label u to p that leaves at the same minute, then the
-- label p to v that arrives at the same minute, the first arriving no later than the second leaves; each is opened in turn until only runs remain."
pub data Opens (S : Service) (T : Tables) : ℕ → ℕ → ℕ → ℕ → Option ℕ → List ℕ → Type 0 where
  ride : {u v d a : ℕ} (i : ℕ) → RideAt S i u v d a → ((k : ℕ) → k < i → ¬ (RideAt S k u v d a)) → Opens S T u v d a none (i ∷ [])
  both : {u w v d b c a : ℕ} {p q : Option ℕ} {l m : List ℕ} → Label T u w d b p → Label T w v c a q → b ≤ c →
      Opens S T u w d b p l → Opens S T w v c a q m → Opens S T u v d a (some w) (l ++ m)

-- the rides of the answer (d, a): "a single label goes before a joined pair, and then the lowest hub number"
pub data Chosen (S : Service) (T : Tables) (u v d a : ℕ) (n : List ℕ) : Type 0 where
  by_label : (p : Option ℕ) → Label T u v d a p → Opens S T u v d a p n → Chosen S T u v d a n
  by_hub : (h : ℕ) → ((p : Option ℕ) → ¬ (Label T u v d a p)) → (J : JoinAt T u v d a h) → ((g : ℕ) → g < h → ¬ (JoinAt T u v d a g)) →
      (l m : List ℕ) → Opens S T u h d J.mid J.pivot₁ l → Opens S T h v J.start a J.pivot₂ m → n ≡ l ++ m → Chosen S T u v d a n
