-- Early arrivals by the hubs are the tables' early arrivals, and tell whether there is a gap.
use Rattle.std.specs.Prelude.{ℕ, ◌≤◌, ◌<◌, ◌≡◌, refl, ◌⊎◌, ◌≢◌, ◌↔◌}
use Rattle.std.proofs.Common.{subst, inl, inr, arith, le_refl}
use Rattle.std.proofs.Math.Decide.{ℕ_discrete, dec_lt}
use Rattle.kinds.specs.Limits.{last_minute, unreached}
use Rattle.journeys.specs.Tables.{Tables, outs, ins, Entry, of_out, of_in, GoodTables, Sketch, single, joined}
use Rattle.journeys.specs.Check.{NoGap}
use Rattle.journeys.specs.Journey.{Within}
use Rattle.journeys.proofs.PairLaws.{wider}
use Rattle.journeys.proofs.SketchLaws.{sketch_last}
use Rattle.journeys.proofs.AcceptedLaws.{no_gap_iff}
use Rattle.verdict.specs.Early.{Reached, InBy, Arrival, Early}

module _ {T : Tables} (G : GoodTables T) {u v d e : ℕ} {R : ℕ → ℕ} (other : v ≢ u) (stop : v < T.stops)
    (r : Reached T u d (T.end outs u) R) (a : Arrival T R v (T.end ins v) e) where
  -- no sketch arrives sooner
  no_sooner : {c b : ℕ} → Sketch T u v c b → d ≤ c → e ≤ b
  no_sooner (single p (k, of_out x)) h = omega (arith, a.own, r.low x x.high h)
  no_sooner (single p (k, of_in x)) h = a.low x x.high (omega (arith, r.own))
  no_sooner (joined g J) h =
      a.low J.in_label J.in_label.high (omega (arith, r.low J.out_label J.out_label.high h, J.meets))

  -- and one arrives then
  by_out : e < unreached → e ≡ R v → Within (Sketch T u v) d e
  by_out lt q =
      let o = r.real v other stop (omega arith) in
      record { dep = o.dep; arr = R v; has = single o.pivot (o.number, of_out o.label); after = o.after; before = omega arith }

  by_in : InBy T R v e → Within (Sketch T u v) d e
  by_in i = go (ℕ_discrete i.hub u)
    where
      go : Dec (i.hub ≡ u) → Within (Sketch T u v) d e
      go (yes q) =
          record {
            dep = i.dep;
            arr = e;
            has = single i.pivot (i.number, of_in (subst (λ (h : ℕ). Entry T ins i.number v h i.dep e i.pivot) q i.label));
            after = omega (arith, r.own, i.met, subst (λ (h : ℕ). R h ≤ i.dep) q i.met);
            before = le_refl e;
          }
      go (no q) =
          let l = i.label in
          let o = r.real i.hub q (omega (arith, G.below l, l.owner)) (omega (arith, i.met, G.later l, G.last l)) in
          record {
            dep = o.dep;
            arr = e;
            has = joined i.hub (record {
              first = o.number;
              second = i.number;
              mid = R i.hub;
              start = i.dep;
              pivot₁ = o.pivot;
              pivot₂ = i.pivot;
              out_label = o.label;
              in_label = l;
              meets = i.met;
            });
            after = o.after;
            before = le_refl e;
          }

  pub early_arrival : Early T u v d e
  early_arrival = record { low = no_sooner; real = λ lt. go lt a.real; most = omega (arith, a.own, r.most v stop) }
    where
      go : e < unreached → (e ≡ R v) ⊎ InBy T R v e → Within (Sketch T u v) d e
      go lt (inl q) = by_out lt q
      go lt (inr i) = by_in i

-- what is told of gaps
module _ {T : Tables} (G : GoodTables T) {u x d a e : ℕ} where
  -- "for v = x, the tables' early(u, x, d) exists and arrives by a"
  pub gap_here : Early T u x d e → a ≤ last_minute → (e ≤ a) ↔ NoGap T u x d a x
  gap_here E last = (
    λ h. (no_gap_iff G).1 (record { here = λ _. wider (E.real (omega arith)) (le_refl d) h; on = λ n. absurd (n refl) }),
    λ g. let w = ((no_gap_iff G).0 g).here refl in omega (arith, E.low w.has w.after, w.before),
  )

  -- "for another v, if the tables' early(x, v, a) exists, then early(u, v, d) exists and arrives no later"
  pub gap_on : {v f : ℕ} → v ≢ x → Early T u v d e → Early T x v a f → (e ≤ f) ↔ NoGap T u x d a v
  gap_on {v} {f} n E F = (to, back)
    where
      to : e ≤ f → NoGap T u x d a v
      to h = (no_gap_iff G).1 (record {
        here = λ q. absurd (n q);
        on = λ _ c b s k. wider (E.real (omega (arith, F.low s k, sketch_last G c b s))) (le_refl d) (omega (arith, F.low s k));
      })

      back : NoGap T u x d a v → e ≤ f
      back g = go (dec_lt f unreached)
        where
          found : Within (Sketch T x v) a f → e ≤ f
          found w =
              let z = ((no_gap_iff G).0 g).on n w.dep w.arr w.has w.after in
              omega (arith, E.low z.has z.after, z.before, w.before)

          go : Dec (f < unreached) → e ≤ f
          go (yes lt) = found (F.real lt)
          go (no ge) = omega (arith, E.most)
