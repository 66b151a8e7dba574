-- Demand 3: supported labels and sketches are journeys (L2), no gap means that nothing is missed (L3), so over accepted tables every best
-- sketch is the timetable's best. And what refusals 19 and 20 name is a real fault.
use Rattle.std.specs.Prelude.{◌≡◌, refl, ◌≢◌, ◌↔◌, true, [], ℕ, zero, suc, ◌+◌, ◌≤◌, ◌<◌}
use Rattle.std.proofs.Common.{sym, subst, ◌∙◌, le_refl, arith}
use Rattle.std.proofs.Math.Option.{Option, none, some}
use Rattle.std.proofs.Math.Decide.{ℕ_discrete, dec_le, dec_lt}
use Rattle.loops.specs.DecideLaws.{dec_not}
use Rattle.loops.specs.Decide.{dec_true, any_below, dec_then, dec_map}
use Rattle.kinds.specs.Limits.{last_minute}
use Rattle.journeys.specs.declared.Criterion.{Criterion}
use Rattle.journeys.specs.declared.Criterion.TheVariants.{Early}
use Rattle.journeys.specs.Service.{Service, RideAt, GoodService}
use Rattle.journeys.specs.Journey.{Journey, one, more, rides, Within}
use Rattle.journeys.specs.Criteria.{Best, Answer, Nothing}
use Rattle.journeys.specs.Tables.{Side, outs, ins, Tables, Entry, of_out, of_in, Label, GoodTables, Sketch, single, joined, LabelWith}
use Rattle.journeys.specs.Check.{Halves, Supported, SupportedAt, AllSupported, NoGap, NoGapAt, NoGaps, Accepted, Unsupported, Missed}
use Rattle.journeys.proofs.PairLaws.{itself, wider}
use Rattle.journeys.proofs.CriteriaLaws.{best_same, nothing_same, early_best, early_least, early_within}
use Rattle.journeys.proofs.JourneyLaws.{journey_later, ride_to}
use Rattle.journeys.specs.Paths.{join, NoGapWithin}
use Rattle.journeys.proofs.ReachLaws.{dec_some_ride}
use Rattle.journeys.proofs.SketchLaws.{entry_at, label_later, one_by_dep, one_by_arr, sketch_later, sketch_last, sketch_to, dec_sketch, dec_label}

-- L2: a supported label has a journey with exactly its pair, by the label's duration; so has each sketch
module _ {S : Service} {T : Tables} (good : GoodTables T) (sup : AllSupported S T) where
  sound_fuel : (f u v d a : ℕ) (p : Option ℕ) → a ≤ d + f → Label T u v d a p → Journey S u v d a
  sound_fuel zero u v d a p h l = absurd (omega (arith, label_later good l))
  sound_fuel (suc f) u v d a none h l = let s = sup l.0 u v d a none l.1 in one s.0 s.1
  sound_fuel (suc f) u v d a (some w) h l =
      let s = sup l.0 u v d a (some w) l.1 in
      let l₁ = label_later good s.first in
      let l₂ = label_later good s.second in
      join
      (sound_fuel f u w d s.mid s.pivot₁ (omega (arith, s.meets)) s.first)
      s.meets
      (sound_fuel f w v s.start a s.pivot₂ (omega (arith, s.meets)) s.second)

  pub label_sound : {u v d a : ℕ} {p : Option ℕ} → Label T u v d a p → Journey S u v d a
  label_sound {u} {v} {d} {a} {p} l = sound_fuel a u v d a p (omega arith) l

  pub sketch_sound : {u v d a : ℕ} → Sketch T u v d a → Journey S u v d a
  sketch_sound (single p l) = label_sound l
  sketch_sound (joined h J) = join (label_sound (J.first, of_out J.out_label)) J.meets (label_sound (J.second, of_in J.in_label))

module _ {T : Tables} (good : GoodTables T) where
  -- the tables' early, where anything lies within
  pub sketch_early : {u v t e : ℕ} → Within (Sketch T u v) t e → (A : Answer (Sketch T u v) (Early t)) × (A.arr ≤ e)
  sketch_early {u} {v} {t} {e} w =
      let A = early_best (Sketch T u v) (sketch_later good) (dec_sketch T u v) t e w in
      (A, omega (arith, early_least A w.dep w.arr w.has w.after, w.before))

  pub no_gap_iff : {u x d a v : ℕ} → NoGap T u x d a v ↔ NoGapWithin T u x d a v
  no_gap_iff {u} {x} {d} {a} {v} = (to, back)
    where
      to : NoGap T u x d a v → NoGapWithin T u x d a v
      to g = record { here = λ e. let s = g.here e in early_within s.0 s.1; on = on' }
        where
          on' : v ≢ x → (c e : ℕ) → Sketch T x v c e → a ≤ c → Within (Sketch T u v) d e
          on' n c e k h =
              let B = sketch_early (wider (itself k) h (le_refl e)) in
              let s = g.on n B.0 in
              early_within s.0 (omega (arith, s.1, B.1))

      back : NoGapWithin T u x d a v → NoGap T u x d a v
      back g = record { here = λ e. sketch_early (g.here e); on = λ n B. sketch_early (g.on n B.dep B.arr B.best.has B.best.fits) }

-- L3: where no run has a gap, each journey between different stops is weakly dominated by a sketch
module _ {S : Service} (G : GoodService S) {T : Tables} (good : GoodTables T) (same : T.stops ≡ S.stops) (full : NoGaps S T) where
  gapless : {i u x d b : ℕ} (v : ℕ) → v < S.stops → RideAt S i u x d b → v ≢ u → NoGapWithin T u x d b v
  gapless {i} {u} {x} {d} {b} v h r n = (no_gap_iff good).0 (full i v (omega (arith, same)) u x d b r n)

  pub complete : {u v d a : ℕ} → Journey S u v d a → v ≢ u → Within (Sketch T u v) d a
  complete {u} {v} {d} {a} (one i r) n = (gapless v (ride_to G r) r n).here refl
  complete (more {u} {x} {v} {d} {b} {c} {a} i r h j) n = step (ℕ_discrete v x) (λ m. complete j m)
    where
      step : Dec (v ≡ x) → (v ≢ x → Within (Sketch T x v) c a) → Within (Sketch T u v) d a
      step (yes e) ih =
          let g = gapless x (ride_to G r) r (λ q. n (e ∙ q)) in
          wider (subst (λ y. Within (Sketch T u y) d b) (sym e) (g.here refl)) (le_refl d) (omega (arith, journey_later G j))
      step (no m) ih = on (ih m)
        where
          on : Within (Sketch T x v) c a → Within (Sketch T u v) d a
          on w = wider ((gapless v (omega (arith, sketch_to good w.has, same)) r n).on m w.dep w.arr w.has (omega (arith, w.after))) (le_refl d)
              w.before

-- demand 3: over accepted tables each criterion's best sketch is the timetable's best, and there is none just when no journey fits
module _ {S : Service} (G : GoodService S) {T : Tables} (good : GoodTables T) (same : T.stops ≡ S.stops) (ok : Accepted S T) {u v : ℕ} (apart : u ≢ v)
    (c : Criterion) where
  pub accepted_best : (d a : ℕ) → Best (Sketch T u v) c d a ↔ Best (Journey S u v) c d a
  accepted_best = best_same (Sketch T u v) (Journey S u v) (λ e b s. sketch_sound good ok.supported s)
      (λ e b j. complete G good same ok.no_gaps j (λ q. apart (sym q))) c

  pub accepted_nothing : Nothing (Sketch T u v) c ↔ Nothing (Journey S u v) c
  accepted_nothing = nothing_same (Sketch T u v) (Journey S u v) (λ e b s. sketch_sound good ok.supported s)
      (λ e b j. complete G good same ok.no_gaps j (λ q. apart (sym q))) c

module _ {S : Service} {T : Tables} (good : GoodTables T) where
  -- a gap at a ride is found by two questions
  gap_missed : AllSupported S T → {i v : ℕ} → RideAt S i (S.ride i).from (S.ride i).to (S.ride i).dep (S.ride i).arr → v ≢ (S.ride i).from →
      ¬ (NoGap T (S.ride i).from (S.ride i).to (S.ride i).dep (S.ride i).arr v) → Missed S T i v
  unfolding rides
  gap_missed sup {i} {v} r n f = go (ℕ_discrete v (S.ride i).to)
    where
      far : v ≢ (S.ride i).to → Dec (Within (Sketch T (S.ride i).to v) (S.ride i).arr last_minute) → Missed S T i v
      far m (no q) = absurd (f (record {
        here = λ e. absurd (m e);
        on = λ _ B. absurd (q (early_within B (sketch_last good B.dep B.arr B.best.has)));
      }))
      far m (yes w) = at (sketch_early good w).0
        where
          at : Answer (Sketch T (S.ride i).to v) (Early (S.ride i).arr) → Missed S T i v
          at B = record {
            arr = B.arr;
            other = n;
            way = more i r B.best.fits (sketch_sound good sup B.best.has);
            rest = rides (sketch_sound good sup B.best.has);
            begins = refl;
            lost = λ w. f ((no_gap_iff good).1 (record {
              here = λ e. absurd (m e);
              on = λ _ c e s h. wider w (le_refl (S.ride i).dep) (early_least B c e s h);
            }));
          }

      go : Dec (v ≡ (S.ride i).to) → Missed S T i v
      go (yes e) = record {
        arr = (S.ride i).arr;
        other = n;
        way = one i (record { below = r.below; forced = r.forced; goes = refl; ends = sym e; leaves = refl; arrives = refl });
        rest = [];
        begins = refl;
        lost = λ w. f ((no_gap_iff good).1 (record {
          here = λ _. subst (λ y. Within (Sketch T (S.ride i).from y) (S.ride i).dep (S.ride i).arr) e w;
          on = λ m. absurd (m e);
        }));
      }
      go (no m) = far m (dec_sketch T (S.ride i).to v (S.ride i).arr last_minute)

  pub gap_real : AllSupported S T → {i v : ℕ} → ¬ (NoGapAt S T i v) → Missed S T i v
  gap_real sup {i} {v} f = in_range (dec_lt i S.slots) (dec_true (S.in_force i))
    where
      at : RideAt S i (S.ride i).from (S.ride i).to (S.ride i).dep (S.ride i).arr → Dec (v ≡ (S.ride i).from) → Missed S T i v
      at r (yes e) = absurd (f (λ u x d a q n. absurd (n (e ∙ q.goes))))
      at r (no n) = gap_missed sup r n (λ g. f (λ u x d a q m. rw (← q.goes, ← q.ends, ← q.leaves, ← q.arrives) g))

      in_range : Dec (i < S.slots) → Dec (S.in_force i ≡ true) → Missed S T i v
      in_range (yes h) (yes e) = at (record { below = h; forced = e; goes = refl; ends = refl; leaves = refl; arrives = refl }) (ℕ_discrete v (S.ride i).from)
      in_range (no h) e = absurd (f (λ u x d a q n. absurd (h q.below)))
      in_range (yes h) (no e) = absurd (f (λ u x d a q n. absurd (e q.forced)))

module _ {S : Service} (G : GoodService S) {T : Tables} (good : GoodTables T) where
  dec_halves : (u w v d a : ℕ) → Dec (Halves T u w v d a)
  dec_halves u w v d a = go (dec_label T u w (λ e b. e ≡ d) (λ e b. ℕ_discrete e d)) (dec_label T w v (λ e b. b ≡ a) (λ e b. ℕ_discrete b a))
    where
      meet : (x : LabelWith T u w (λ e b. e ≡ d)) (y : LabelWith T w v (λ e b. b ≡ a)) → Dec (x.arr ≤ y.dep) → Dec (Halves T u w v d a)
      meet x y (yes m) = yes (record {
        mid = x.arr;
        start = y.dep;
        pivot₁ = x.pivot;
        pivot₂ = y.pivot;
        first = subst (λ e. Label T u w e x.arr x.pivot) x.says x.label;
        second = subst (λ b. Label T w v y.dep b y.pivot) y.says y.label;
        meets = m;
      })
      meet x y (no m) = no (λ s. m (at s))
        where
          at : Halves T u w v d a → x.arr ≤ y.dep
          at s =
              let e = (one_by_dep good (subst (λ e. Label T u w e x.arr x.pivot) x.says x.label) s.first).0 in
              let f = (one_by_arr good (subst (λ b. Label T w v y.dep b y.pivot) y.says y.label) s.second).0 in
              omega (arith, s.meets)

      go : Dec (LabelWith T u w (λ e b. e ≡ d)) → Dec (LabelWith T w v (λ e b. b ≡ a)) → Dec (Halves T u w v d a)
      go (yes x) (yes y) = meet x y (dec_le x.arr y.dep)
      go (no n) y = no (λ s. n (record { dep = d; arr = s.mid; pivot = s.pivot₁; label = s.first; says = refl }))
      go (yes x) (no n) = no (λ s. n (record { dep = s.start; arr = a; pivot = s.pivot₂; label = s.second; says = refl }))

  pub dec_supported : (u v d a : ℕ) (p : Option ℕ) → Dec (Supported S T u v d a p)
  dec_supported u v d a none = dec_map (λ s. (s.0, s.2)) (λ s. (s.0, s.1.below, s.1)) (dec_some_ride S G u v d a)
  dec_supported u v d a (some w) = dec_halves u w v d a

  -- label k stands in the set of the stop s on this side
  dec_entry : (side : Side) (k s : ℕ) → Dec (Entry T side k s (T.hub k) (T.dep k) (T.arr k) (T.pivot k))
  dec_entry side k s = dec_map (λ x. entry_at x.0 x.1.0 x.1.1) (λ x. (x.owner, (x.low, x.high)))
      (dec_then (dec_lt s T.stops) (λ _. dec_then (dec_le (T.start side s) k) (λ _. dec_lt k (T.end side s))))

  dec_out_fault : (k s : ℕ) → Dec (Entry T outs k s (T.hub k) (T.dep k) (T.arr k) (T.pivot k) ×
      ¬ (Supported S T s (T.hub k) (T.dep k) (T.arr k) (T.pivot k)))
  dec_out_fault k s = dec_then (dec_entry outs k s) (λ _. dec_not (dec_supported s (T.hub k) (T.dep k) (T.arr k) (T.pivot k)))

  dec_in_fault : (k s : ℕ) → Dec (Entry T ins k s (T.hub k) (T.dep k) (T.arr k) (T.pivot k) ×
      ¬ (Supported S T (T.hub k) s (T.dep k) (T.arr k) (T.pivot k)))
  dec_in_fault k s = dec_then (dec_entry ins k s) (λ _. dec_not (dec_supported (T.hub k) s (T.dep k) (T.arr k) (T.pivot k)))

  pub unsupported_real : {k : ℕ} → ¬ (SupportedAt S T k) → Unsupported S T k
  unsupported_real {k} f = go (any_below _ T.stops (λ s _. dec_out_fault k s)) (any_below _ T.stops (λ s _. dec_in_fault k s))
    where
      sure : {A : Type 0} → Dec A → ¬ (¬ A) → A
      sure (yes a) n = a
      sure (no m) n = absurd (n m)

      go : Dec ((s : ℕ) × (s < T.stops) × (Entry T outs k s (T.hub k) (T.dep k) (T.arr k) (T.pivot k) ×
          ¬ (Supported S T s (T.hub k) (T.dep k) (T.arr k) (T.pivot k)))) →
          Dec ((s : ℕ) × (s < T.stops) × (Entry T ins k s (T.hub k) (T.dep k) (T.arr k) (T.pivot k) ×
          ¬ (Supported S T (T.hub k) s (T.dep k) (T.arr k) (T.pivot k)))) → Unsupported S T k
      go (yes x) y = record { from = x.0; to = T.hub k; dep = T.dep k; arr = T.arr k; pivot = T.pivot k; label = of_out x.2.0; lacks = x.2.1 }
      go (no m) (yes y) = record { from = T.hub k; to = y.0; dep = T.dep k; arr = T.arr k; pivot = T.pivot k; label = of_in y.2.0; lacks = y.2.1 }
      go (no m) (no n) = absurd (f fine)
        where
          fine : SupportedAt S T k
          fine u v d a p (of_out e) = sure (dec_supported u v d a p)
              (λ q. m (u, e.owner, (entry_at e.owner e.low e.high, rw (e.hub, e.dep, e.arr, e.pivot) q)))
          fine u v d a p (of_in e) = sure (dec_supported u v d a p)
              (λ q. n (v, e.owner, (entry_at e.owner e.low e.high, rw (e.hub, e.dep, e.arr, e.pivot) q)))
