-- Earliest minutes are the answers of early asks, as far as arrivals go.
use Rattle.std.specs.Prelude.{ℕ, ◌≤◌, ◌<◌, ◌≡◌, ◌≢◌, ◌↔◌}
use Rattle.std.proofs.Common.{inl, arith}
use Rattle.std.proofs.Math.Decide.{dec_le, dec_lt}
use Rattle.kinds.specs.Limits.{last_minute}
use Rattle.journeys.specs.declared.Criterion.TheVariants.{Early}
use Rattle.journeys.specs.Service.{Service, GoodService}
use Rattle.journeys.specs.Journey.{Journey, Within}
use Rattle.journeys.specs.Criteria.{Best, Nothing}
use Rattle.journeys.proofs.JourneyLaws.{journey_last}
use Rattle.journeys.proofs.EarliestLaws.{earliest}
use Rattle.journeys.specs.Paths.{Earliest}

module _ {S : Service} (G : GoodService S) {u t far : ℕ} (late : last_minute < far) {E : ℕ → ℕ} (R : Earliest S u t far E) {v : ℕ} (apart : v ≢ u) where
  pub early_arrives : {d a : ℕ} → Best (Journey S u v) (Early t) d a → a ≡ E v
  early_arrives {d} {a} b = go (R.real v apart (omega (arith, low, journey_last G b.has)))
    where
      low : E v ≤ a
      low = earliest R b.has b.fits

      go : Within (Journey S u v) t (E v) → a ≡ E v
      go w = elim (dec_lt w.arr a) [ yes h ↦ absurd (b.top w.dep w.arr w.has w.after (inl h)) | no h ↦ omega (arith, low, w.before) ]

  pub early_nothing : Nothing (Journey S u v) (Early t) ↔ (far ≤ E v)
  early_nothing = (to, λ h d a j k. omega (arith, earliest R j k, journey_last G j))
    where
      to : Nothing (Journey S u v) (Early t) → far ≤ E v
      to n = elim (dec_le far (E v)) [ yes h ↦ h | no h ↦ absurd (none (R.real v apart (omega arith))) ]
        where
          none : Within (Journey S u v) t (E v) → ⊥
          none w = n w.dep w.arr w.has w.after
