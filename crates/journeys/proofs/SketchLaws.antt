-- Laws of good tables and their sketches: bounds, which label is which, and what lies within two minutes is decided.
use Rattle.std.specs.Prelude.{◌≡◌, refl, ◌⊎◌, ℕ, ◌≤◌, ◌<◌}
use Rattle.std.proofs.Math.Path.{sym}
use Rattle.std.proofs.Common.{ap, ◌∙◌, arith}
use Rattle.std.proofs.Math.Logic.{inl, inr}
use Rattle.std.proofs.Math.Option.{Option}
use Rattle.std.proofs.Math.Decide.{ℕ_discrete, dec_le, dec_lt}
use Rattle.loops.specs.Decide.{any_below, dec_then, dec_or, dec_map}
use Rattle.kinds.specs.Limits.{last_minute}
use Rattle.journeys.specs.Tables.{Side, outs, ins, Tables, Entry, LabelAt, of_out, of_in, Label, GoodTables, Sketch, single, joined, LabelWith}
use Rattle.journeys.specs.Journey.{Within}
use Rattle.journeys.specs.Paths.{Hit, Exact, Hits, HubMeeting}

-- one number, one label
pub one_entry : {T : Tables} {side : Side} {i k s h g d e a b : ℕ} {p q : Option ℕ} → i ≡ k → Entry T side i s h d a p → Entry T side k s g e b q → (h ≡ g) ×
    (d ≡ e) × (a ≡ b) × (p ≡ q)
one_entry {T} n x y = (
  sym x.hub ∙ ap T.hub n ∙ y.hub,
  sym x.dep ∙ ap T.dep n ∙ y.dep,
  sym x.arr ∙ ap T.arr n ∙ y.arr,
  sym x.pivot ∙ ap T.pivot n ∙
      y.pivot,
)

-- label k as it stands
pub entry_at : {T : Tables} {side : Side} {k s : ℕ} → s < T.stops → T.start side s ≤ k → k < T.end side s →
    Entry T side k s (T.hub k) (T.dep k) (T.arr k) (T.pivot k)
entry_at o l h = record { owner = o; low = l; high = h; hub = refl; dep = refl; arr = refl; pivot = refl }

module _ {T : Tables} (G : GoodTables T) where
  -- in one set a hub with a departure, or with an arrival, says which label
  pub same_dep : {side : Side} {s h d a b i k : ℕ} {p q : Option ℕ} → Entry T side i s h d a p → Entry T side k s h d b q → i ≡ k
  same_dep {i = i} {k} x y = go (dec_lt i k) (dec_lt k i)
    where
      go : Dec (i < k) → Dec (k < i) → i ≡ k
      go (yes m) z = absurd (omega (arith, G.deps_rise x y m))
      go (no m) (yes z) = absurd (omega (arith, G.deps_rise y x z))
      go (no m) (no z) = omega arith

  pub same_arr : {side : Side} {s h d e a i k : ℕ} {p q : Option ℕ} → Entry T side i s h d a p → Entry T side k s h e a q → i ≡ k
  same_arr {i = i} {k} x y = go (dec_lt i k) (dec_lt k i)
    where
      go : Dec (i < k) → Dec (k < i) → i ≡ k
      go (yes m) z = absurd (omega (arith, G.arrs_rise x y m))
      go (no m) (yes z) = absurd (omega (arith, G.arrs_rise y x z))
      go (no m) (no z) = omega arith

  pub label_later : {u v d a : ℕ} {p : Option ℕ} → Label T u v d a p → d < a
  label_later (k, of_out e) = G.later e
  label_later (k, of_in e) = G.later e

  pub label_last : {u v d a : ℕ} {p : Option ℕ} → Label T u v d a p → a ≤ last_minute
  label_last (k, of_out e) = G.last e
  label_last (k, of_in e) = G.last e

  pub label_from : {u v d a : ℕ} {p : Option ℕ} → Label T u v d a p → u < T.stops
  label_from (k, of_out e) = e.owner
  label_from (k, of_in e) = omega (arith, G.below e, e.owner)

  pub label_to : {u v d a : ℕ} {p : Option ℕ} → Label T u v d a p → v < T.stops
  label_to (k, of_out e) = omega (arith, G.below e, e.owner)
  label_to (k, of_in e) = e.owner

  -- of the labels with the same ends, one at most leaves at a minute, and one at most arrives at a minute
  cross : {u v d a e b i k : ℕ} {p q : Option ℕ} → Entry T outs i u v d a p → Entry T ins k v u e b q → ⊥
  cross x y = omega (arith, G.below x, G.below y)

  pub number_by_dep : {i k u v d a b : ℕ} {p q : Option ℕ} → LabelAt T i u v d a p → LabelAt T k u v d b q → i ≡ k
  number_by_dep (of_out x) (of_out y) = same_dep x y
  number_by_dep (of_in x) (of_in y) = same_dep x y
  number_by_dep (of_out x) (of_in y) = absurd (cross x y)
  number_by_dep (of_in x) (of_out y) = absurd (cross y x)

  pub one_by_dep : {u v d a b : ℕ} {p q : Option ℕ} → Label T u v d a p → Label T u v d b q → (a ≡ b) × (p ≡ q)
  one_by_dep (i, of_out x) (k, of_out y) = let s = one_entry (same_dep x y) x y in (s.2, s.3)
  one_by_dep (i, of_in x) (k, of_in y) = let s = one_entry (same_dep x y) x y in (s.2, s.3)
  one_by_dep (i, of_out x) (k, of_in y) = absurd (cross x y)
  one_by_dep (i, of_in x) (k, of_out y) = absurd (cross y x)

  pub one_by_arr : {u v d e a : ℕ} {p q : Option ℕ} → Label T u v d a p → Label T u v e a q → (d ≡ e) × (p ≡ q)
  one_by_arr (i, of_out x) (k, of_out y) = let s = one_entry (same_arr x y) x y in (s.1, s.3)
  one_by_arr (i, of_in x) (k, of_in y) = let s = one_entry (same_arr x y) x y in (s.1, s.3)
  one_by_arr (i, of_out x) (k, of_in y) = absurd (cross x y)
  one_by_arr (i, of_in x) (k, of_out y) = absurd (cross y x)

  pub sketch_later : {u v : ℕ} (d a : ℕ) → Sketch T u v d a → d < a
  sketch_later d a (single p l) = label_later l
  sketch_later d a (joined h J) = omega (arith, G.later J.out_label, G.later J.in_label, J.meets)

  pub sketch_last : {u v : ℕ} (d a : ℕ) → Sketch T u v d a → a ≤ last_minute
  sketch_last d a (single p l) = label_last l
  sketch_last d a (joined h J) = G.last J.in_label

  pub sketch_to : {u v d a : ℕ} → Sketch T u v d a → v < T.stops
  sketch_to (single p l) = label_to l
  sketch_to (joined h J) = J.in_label.owner

-- Deciding, in any tables: labels are numbered, so a search by number ends.

dec_hit : (T : Tables) (side : Side) (s h t e k : ℕ) → Dec (Hit T side s h t e k)
dec_hit T side s h t e k = dec_map
    (λ x. record { owner = x.0; low = x.1.0; high = x.1.1.0; hub = x.1.1.1.0; after = x.1.1.1.1.0; before = x.1.1.1.1.1 })
    (λ x. (x.owner, (x.low, (x.high, (x.hub, (x.after, x.before))))))
    (dec_then (dec_lt s T.stops) (λ _. dec_then (dec_le (T.start side s) k) (λ _. dec_then (dec_lt k (T.end side s)) (λ _.
    dec_then (ℕ_discrete (T.hub k) h) (λ _. dec_then (dec_le t (T.dep k)) (λ _. dec_le (T.arr k) e))))))

dec_hits : (T : Tables) (side : Side) (s h t e : ℕ) → Dec (Hits T side s h t e)
unfolding Hits
dec_hits T side s h t e = any_below (Hit T side s h t e) (T.end side s) (λ k _. dec_hit T side s h t e k)

hit_of : {T : Tables} {side : Side} {s h d a k : ℕ} {p : Option ℕ} {t e : ℕ} → Entry T side k s h d a p → t ≤ d → a ≤ e → Hit T side s h t e k
hit_of x l m = record { owner = x.owner; low = x.low; high = x.high; hub = x.hub; after = omega (arith, x.dep); before = omega (arith, x.arr) }

entry_of : {T : Tables} {side : Side} {s h t e k : ℕ} → Hit T side s h t e k → Entry T side k s h (T.dep k) (T.arr k) (T.pivot k)
entry_of x = record { owner = x.owner; low = x.low; high = x.high; hub = x.hub; dep = refl; arr = refl; pivot = refl }

dec_meeting : (T : Tables) (u v t e k : ℕ) → Dec (HubMeeting T u v t e k)
dec_meeting T u v t e k = dec_map
    (λ x. record { owner = x.0; low = x.1.0; high = x.1.1.0; after = x.1.1.1.0; then = x.1.1.1.1 })
    (λ x. (x.owner, (x.low, (x.high, (x.after, x.then)))))
    (dec_then (dec_lt u T.stops) (λ _. dec_then (dec_le (T.start outs u) k) (λ _. dec_then (dec_lt k (T.end outs u)) (λ _.
    dec_then (dec_le t (T.dep k)) (λ _. dec_hits T ins v (T.hub k) (T.arr k) e)))))

module _ (T : Tables) (u v t e : ℕ) where
  Ways : Type 0
  Ways = Hits T outs u v t e ⊎ (Hits T ins v u t e ⊎ ((k : ℕ) × (k < T.end outs u) × HubMeeting T u v t e k))

  to_ways : Within (Sketch T u v) t e → Ways
  unfolding Ways Hits
  to_ways w = go w.dep w.arr w.after w.before w.has
    where
      go : (d a : ℕ) → t ≤ d → a ≤ e → Sketch T u v d a → Ways
      go d a h m (single p (k, of_out x)) = inl (k, x.high, hit_of x h m)
      go d a h m (single p (k, of_in x)) = inr (inl (k, x.high, hit_of x h m))
      go d a h m (joined g J) =
          let x = J.out_label in
          let y = J.in_label in
          inr (inr (
            J.first,
            x.high,
            record {
              owner = x.owner;
              low = x.low;
              high = x.high;
              after = omega (arith, x.dep);
              then = (
                J.second,
                y.high,
                record {
                  owner = y.owner;
                  low = y.low;
                  high = y.high;
                  hub = y.hub ∙ sym x.hub;
                  after = omega (arith, x.arr, y.dep, J.meets);
                  before = omega (arith, y.arr);
                },
              );
            },
          ))

  of_ways : Ways → Within (Sketch T u v) t e
  unfolding Ways Hits
  of_ways (inl (k, m, x)) = record { dep = T.dep k; arr = T.arr k; after = x.after; before = x.before; has = single (T.pivot k) (k, of_out (entry_of x)) }
  of_ways (inr (inl (k, m, x))) = record {
    dep = T.dep k;
    arr = T.arr k;
    after = x.after;
    before = x.before;
    has = single (T.pivot k) (k, of_in (entry_of x));
  }
  of_ways (inr (inr (k, m, x))) =
      let i = x.then.0 in
      let y = x.then.2 in
      record {
        dep = T.dep k;
        arr = T.arr i;
        after = x.after;
        before = y.before;
        has = joined (T.hub k) (record {
          first = k;
          second = i;
          mid = T.arr k;
          start = T.dep i;
          pivot₁ = T.pivot k;
          pivot₂ = T.pivot i;
          out_label = entry_at x.owner x.low x.high;
          in_label = entry_of y;
          meets = y.after;
        });
      }

  pub dec_sketch : Dec (Within (Sketch T u v) t e)
  unfolding Ways
  dec_sketch = dec_map of_ways to_ways (dec_or (dec_hits T outs u v t e)
      (dec_or (dec_hits T ins v u t e) (any_below (HubMeeting T u v t e) (T.end outs u) (λ k _. dec_meeting T u v t e k))))

dec_exact : (T : Tables) (side : Side) (s h : ℕ) (P : ℕ → ℕ → Type 0) → ((d a : ℕ) → Dec (P d a)) → Dec ((k : ℕ) × (k < T.end side s) × Exact T side s h P k)
dec_exact T side s h P dec = any_below (Exact T side s h P) (T.end side s) (λ k _. dec_map
    (λ x. record { owner = x.0; low = x.1.0; high = x.1.1.0; hub = x.1.1.1.0; says = x.1.1.1.1 })
    (λ x. (x.owner, (x.low, (x.high, (x.hub, x.says)))))
    (dec_then (dec_lt s T.stops) (λ _. dec_then (dec_le (T.start side s) k) (λ _. dec_then (dec_lt k (T.end side s)) (λ _.
    dec_then (ℕ_discrete (T.hub k) h) (λ _. dec (T.dep k) (T.arr k)))))))

pub dec_label : (T : Tables) (u v : ℕ) (P : ℕ → ℕ → Type 0) → ((d a : ℕ) → Dec (P d a)) → Dec (LabelWith T u v P)
dec_label T u v P dec = dec_map to back (dec_or (dec_exact T outs u v P dec) (dec_exact T ins v u P dec))
  where
    entry : {side : Side} {s h k : ℕ} → Exact T side s h P k → Entry T side k s h (T.dep k) (T.arr k) (T.pivot k)
    entry x = record { owner = x.owner; low = x.low; high = x.high; hub = x.hub; dep = refl; arr = refl; pivot = refl }

    to : ((k : ℕ) × (k < T.end outs u) × Exact T outs u v P k) ⊎ ((k : ℕ) × (k < T.end ins v) × Exact T ins v u P k) → LabelWith T u v P
    to (inl (k, m, x)) = record { dep = T.dep k; arr = T.arr k; pivot = T.pivot k; label = (k, of_out (entry x)); says = x.says }
    to (inr (k, m, x)) = record { dep = T.dep k; arr = T.arr k; pivot = T.pivot k; label = (k, of_in (entry x)); says = x.says }

    exact : {side : Side} {s h k d a : ℕ} {p : Option ℕ} → Entry T side k s h d a p → P d a → Exact T side s h P k
    exact x y = record { owner = x.owner; low = x.low; high = x.high; hub = x.hub; says = rw (x.dep, x.arr) y }

    back : LabelWith T u v P → ((k : ℕ) × (k < T.end outs u) × Exact T outs u v P k) ⊎ ((k : ℕ) × (k < T.end ins v) × Exact T ins v u P k)
    back l = go l.label l.says
      where
        go : {d a : ℕ} {p : Option ℕ} → Label T u v d a p → P d a →
            ((k : ℕ) × (k < T.end outs u) × Exact T outs u v P k) ⊎ ((k : ℕ) × (k < T.end ins v) × Exact T ins v u P k)
        go (k, of_out x) y = inl (k, x.high, exact x y)
        go (k, of_in x) y = inr (k, x.high, exact x y)
