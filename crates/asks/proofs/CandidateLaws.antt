-- Candidates are sketches and weakly dominate all sketches, so the best candidate is the best sketch; and the turns of the join's loops.
use Rattle.std.specs.Prelude.{ℕ, ◌+◌, ◌≤◌, ◌<◌, ◌≡◌, refl, ◌⊎◌, ◌≢◌, None, Option}
use Rattle.std.proofs.Common.{sym, subst, ◌∙◌, inl, inr, arith, le_refl}
use Rattle.std.proofs.Math.Decide.{ℕ_discrete, dec_le, dec_lt}
use Rattle.loops.specs.FirstLaws.{passed_none, first_one, first_at}
use Rattle.journeys.specs.declared.Criterion.{Criterion}
use Rattle.journeys.specs.Journey.{Within}
use Rattle.journeys.proofs.PairLaws.{itself}
use Rattle.journeys.specs.Tables.{outs, ins, Tables, Entry, of_out, of_in, GoodTables, Sketch, single, joined}
use Rattle.journeys.proofs.SketchLaws.{entry_at}
use Rattle.label_sets.specs.SeekLaws.{dec_past}
use Rattle.asks.specs.Found.{FoundIn, Plus, taken}
use Rattle.asks.proofs.FoundLaws.{taken-found, found_same}
use Rattle.asks.specs.Candidates.{leaving_then, PastPartner, PartnerAt, OutCandidate, own, met, FromOuts, FromIns, Candidate, PartnersFrom}
use Rattle.asks.specs.declared.Journey.{Journey}

module _ {T : Tables} (G : GoodTables T) {u v : ℕ} (ou : u < T.stops) (ov : v < T.stops) where
  -- candidates are sketches
  pub cand_sketch : (d a : ℕ) → Candidate T u v (T.end ins v) d a → Sketch T u v d a
  cand_sketch d a (inl f) = go f.is
    where
      k : ℕ
      k = f.label

      go : OutCandidate T v k d a → Sketch T u v d a
      go (own h e q) = single (T.pivot k) (k, of_out (record { owner = ou; low = f.low; high = f.high; hub = h; dep = e; arr = q; pivot = refl }))
      go (met m P lt h e q) = joined (T.hub k) (record {
        first = k;
        second = m;
        mid = T.arr k;
        start = T.dep m;
        pivot₁ = T.pivot k;
        pivot₂ = T.pivot m;
        out_label = record { owner = ou; low = f.low; high = f.high; hub = refl; dep = e; arr = refl; pivot = refl };
        in_label = record { owner = ov; low = P.passed.low; high = lt; hub = h; dep = refl; arr = q; pivot = refl };
        meets = late (P.here lt);
      })
        where
          late : PastPartner T k m → T.arr k ≤ T.dep m
          late (inl x) = absurd (omega arith)
          late (inr x) = omega (arith, x.1)
  cand_sketch d a (inr f) =
      single (T.pivot f.label)
      (f.label, of_in (record { owner = ov; low = f.low; high = f.high; hub = f.hub; dep = f.dep; arr = f.arr; pivot = refl }))

  -- and weakly dominate all sketches
  pub sketch_cand : (d a : ℕ) → Sketch T u v d a → Within (Candidate T u v (T.end ins v)) d a
  sketch_cand d a (single p (k, of_out x)) = itself (inl (record { label = k; low = x.low; high = x.high; is = own x.hub x.dep x.arr }))
  sketch_cand d a (single p (k, of_in x)) = itself (inr (record { label = k; low = x.low; high = x.high; hub = x.hub; dep = x.dep; arr = x.arr }))
  sketch_cand d a (joined h J) =
      go (first_at (PastPartner T k) (dec_past T (T.hub k) (leaving_then (T.arr k))) (T.start ins v) (T.end ins v) (omega (arith, y.low, y.high)))
    where
      k : ℕ
      k = J.first

      x : Entry T outs k u h d J.mid J.pivot₁
      x = J.out_label

      y : Entry T ins J.second v h J.start a J.pivot₂
      y = J.in_label

      here : PastPartner T k J.second
      here = inr (y.hub ∙ sym x.hub, omega (arith, x.arr, y.dep, J.meets))

      go : ((m : ℕ) × PartnerAt T v k m) → Within (Candidate T u v (T.end ins v)) d a
      go (m, P) = at (dec_le m J.second)
        where
          at : Dec (m ≤ J.second) → Within (Candidate T u v (T.end ins v)) d a
          at (no n) = absurd (P.passed.none J.second y.low (omega arith) here)
          at (yes le) = found' (dec_lt m J.second) (P.here lt)
            where
              lt : m < T.end ins v
              lt = omega (arith, y.high)

              e : Entry T ins m v (T.hub m) (T.dep m) (T.arr m) (T.pivot m)
              e = entry_at ov P.passed.low lt

              make : T.hub m ≡ T.hub k → T.arr m ≤ a → Within (Candidate T u v (T.end ins v)) d a
              make q l = record {
                dep = d;
                arr = T.arr m;
                has = inl (record { label = k; low = x.low; high = x.high; is = met m P lt q x.dep refl });
                after = le_refl d;
                before = l;
              }

              found' : Dec (m < J.second) → PastPartner T k m → Within (Candidate T u v (T.end ins v)) d a
              found' (yes b) (inl q) = absurd (omega (arith, G.hubs_rise e y b, x.hub))
              found' (yes b) (inr q) =
                  let w = subst (λ z. Entry T ins m v z (T.dep m) (T.arr m) (T.pivot m)) (q.0 ∙ x.hub) e in
                  make q.0 (omega (arith, G.arrs_rise w y b))
              found' (no b) q = let same : m ≡ J.second = omega arith in make (rw same (y.hub ∙ sym x.hub)) (rw same (omega (arith, y.arr)))

  -- out-labels i < k of u: what is past the place of k is past the place of i
  past_back : (i k m : ℕ) → T.start outs u ≤ i → i < k → k < T.end outs u → PastPartner T k m → PastPartner T i m
  past_back i k m l b h q = go (ℕ_discrete (T.hub i) (T.hub k)) q
    where
      x : Entry T outs i u (T.hub i) (T.dep i) (T.arr i) (T.pivot i)
      x = entry_at ou l (omega arith)

      y : Entry T outs k u (T.hub k) (T.dep k) (T.arr k) (T.pivot k)
      y = entry_at ou (omega arith) h

      go : Dec (T.hub i ≡ T.hub k) → PastPartner T k m → PastPartner T i m
      go (yes e) (inl p) = inl (omega arith)
      go (yes e) (inr p) =
          let z = subst (λ g. Entry T outs i u g (T.dep i) (T.arr i) (T.pivot i)) e x in
          inr (p.0 ∙ sym e, omega (arith, G.arrs_rise z y b))
      go (no n) (inl p) = inl (omega (arith, G.hubs_rise x y b))
      go (no n) (inr p) = inl (omega (arith, G.hubs_rise x y b))

  pub partners_start : PartnersFrom T u v (T.start outs u) (T.start ins v)
  partners_start = record { low = le_refl (T.start ins v); passed = λ k a b. passed_none; hubs = λ m a b. absurd (omega arith) }

  -- the partner of out-label i found at m: all after it are looked for from m on
  pub partners_more : (i j m : ℕ) → T.start outs u ≤ i → i < T.end outs u → PartnersFrom T u v i j → PartnerAt T v i m → PartnersFrom T u v (i + 1) m
  partners_more i j m l h B F = record {
    low = F.passed.low;
    passed = λ k a b. record { low = F.passed.low; none = λ n x y q. F.passed.none n x y (past_back i k n l (omega arith) b q) };
    hubs = λ n x y. under n (F.passed.none n x y);
  }
    where
      under : (n : ℕ) → ¬ (PastPartner T i n) → T.hub n < u
      under n f = go (dec_lt (T.hub i) (T.hub n))
        where
          go : Dec (T.hub i < T.hub n) → T.hub n < u
          go (yes q) = absurd (f (inl q))
          go (no q) = omega (arith, G.below (entry_at ou l h))

  -- a turn over the out-labels: what label i gives
  own_only : (i d a : ℕ) → T.hub i ≡ v → OutCandidate T v i d a → (d ≡ T.dep i) × (a ≡ T.arr i)
  own_only i d a e (own h p q) = (sym p, sym q)
  own_only i d a e (met m P lt h p q) = absurd (omega (arith, G.below (entry_at ov P.passed.low lt)))

  met_only : (i m d a : ℕ) → T.hub i ≢ v → PartnerAt T v i m → OutCandidate T v i d a →
      (m < T.end ins v) × (T.hub m ≡ T.hub i) × (d ≡ T.dep i) × (a ≡ T.arr m)
  met_only i m d a n F (own h p q) = absurd (n h)
  met_only i m d a n F (met k P lt h p q) = let e = first_one F P in rw e (lt, h, sym p, sym q)

  outs_more : (i d a : ℕ) → FromOuts T u v (i + 1) d a → FromOuts T u v i d a ⊎ OutCandidate T v i d a
  outs_more i d a f = go (ℕ_discrete f.label i)
    where
      go : Dec (f.label ≡ i) → FromOuts T u v i d a ⊎ OutCandidate T v i d a
      go (yes e) = inr (subst (λ k. OutCandidate T v k d a) e f.is)
      go (no n) = inl (record { label = f.label; low = f.low; high = omega (arith, f.high); is = f.is })

  outs_less : (i d a : ℕ) → FromOuts T u v i d a → FromOuts T u v (i + 1) d a
  outs_less i d a f = record { label = f.label; low = f.low; high = omega (arith, f.high); is = f.is }

  outs_this : (i d a : ℕ) → T.start outs u ≤ i → OutCandidate T v i d a → FromOuts T u v (i + 1) d a
  outs_this i d a l q = record { label = i; low = l; high = omega arith; is = q }

  pub outs_start : (c : Criterion) → FoundIn (FromOuts T u v (T.start outs u)) c None
  outs_start c d a f = absurd (omega (arith, f.low, f.high))

  -- its own pair, where its hub is v
  pub outs_own : (c : Criterion) (i : ℕ) (best : Option Journey) → T.start outs u ≤ i → T.hub i ≡ v →
      FoundIn (FromOuts T u v i) c best → FoundIn (FromOuts T u v (i + 1)) c (taken c (T.dep i) (T.arr i) best)
  outs_own c i best l e f =
      found_same (Plus (FromOuts T u v i) (T.dep i) (T.arr i)) (FromOuts T u v (i + 1)) c to back (taken c (T.dep i) (T.arr i) best)
      (taken-found (FromOuts T u v i) c (T.dep i) (T.arr i) best f)
    where
      to : (d a : ℕ) → Plus (FromOuts T u v i) (T.dep i) (T.arr i) d a → FromOuts T u v (i + 1) d a
      to d a (inl p) = outs_less i d a p
      to d a (inr p) = outs_this i d a l (own e (sym p.0) (sym p.1))

      back : (d a : ℕ) → FromOuts T u v (i + 1) d a → Plus (FromOuts T u v i) (T.dep i) (T.arr i) d a
      back d a q = elim (outs_more i d a q) [ inl x ↦ inl x | inr x ↦ inr (own_only i d a e x) ]

  -- its partner's arrival
  pub outs_met : (c : Criterion) (i m : ℕ) (best : Option Journey) → T.start outs u ≤ i → T.hub i ≢ v → PartnerAt T v i m → m < T.end ins v →
      T.hub m ≡ T.hub i → FoundIn (FromOuts T u v i) c best → FoundIn (FromOuts T u v (i + 1)) c (taken c (T.dep i) (T.arr m) best)
  outs_met c i m best l n F lt e f =
      found_same (Plus (FromOuts T u v i) (T.dep i) (T.arr m)) (FromOuts T u v (i + 1)) c to back (taken c (T.dep i) (T.arr m) best)
      (taken-found (FromOuts T u v i) c (T.dep i) (T.arr m) best f)
    where
      to : (d a : ℕ) → Plus (FromOuts T u v i) (T.dep i) (T.arr m) d a → FromOuts T u v (i + 1) d a
      to d a (inl p) = outs_less i d a p
      to d a (inr p) = outs_this i d a l (met m F lt e (sym p.0) (sym p.1))

      back : (d a : ℕ) → FromOuts T u v (i + 1) d a → Plus (FromOuts T u v i) (T.dep i) (T.arr m) d a
      back d a q = elim (outs_more i d a q) [ inl x ↦ inl x | inr x ↦ inr (let s = met_only i m d a n F x in (s.2, s.3)) ]

  -- nothing, where it has no partner
  pub outs_none : (c : Criterion) (i m : ℕ) (best : Option Journey) → T.hub i ≢ v → PartnerAt T v i m → (m < T.end ins v → T.hub m ≢ T.hub i) →
      FoundIn (FromOuts T u v i) c best → FoundIn (FromOuts T u v (i + 1)) c best
  outs_none c i m best n F off f = found_same (FromOuts T u v i) (FromOuts T u v (i + 1)) c (outs_less i) back best f
    where
      back : (d a : ℕ) → FromOuts T u v (i + 1) d a → FromOuts T u v i d a
      back d a q = elim (outs_more i d a q) [ inl x ↦ x | inr x ↦ (let s = met_only i m d a n F x in absurd (off s.0 s.1)) ]

  -- then over the in-labels, from where no hub u was passed
  pub ins_start : (c : Criterion) (j : ℕ) (best : Option Journey) → PartnersFrom T u v (T.end outs u) j →
      FoundIn (FromOuts T u v (T.end outs u)) c best → FoundIn (Candidate T u v j) c best
  ins_start c j best B f = found_same (FromOuts T u v (T.end outs u)) (Candidate T u v j) c (λ d a p. inl p) back best f
    where
      back : (d a : ℕ) → Candidate T u v j d a → FromOuts T u v (T.end outs u) d a
      back d a (inl p) = p
      back d a (inr p) = absurd (omega (arith, B.hubs p.label p.low p.high, p.hub))

  ins_more : (m d a : ℕ) → FromIns T u v (m + 1) d a → FromIns T u v m d a ⊎ ((T.hub m ≡ u) × (T.dep m ≡ d) × (T.arr m ≡ a))
  ins_more m d a f = go (ℕ_discrete f.label m)
    where
      go : Dec (f.label ≡ m) → FromIns T u v m d a ⊎ ((T.hub m ≡ u) × (T.dep m ≡ d) × (T.arr m ≡ a))
      go (yes e) = inr (rw (← e) (f.hub, f.dep, f.arr))
      go (no n) = inl (record { label = f.label; low = f.low; high = omega (arith, f.high); hub = f.hub; dep = f.dep; arr = f.arr })

  ins_less : (m d a : ℕ) → FromIns T u v m d a → FromIns T u v (m + 1) d a
  ins_less m d a f = record { label = f.label; low = f.low; high = omega (arith, f.high); hub = f.hub; dep = f.dep; arr = f.arr }

  pub ins_own : (c : Criterion) (m : ℕ) (best : Option Journey) → T.start ins v ≤ m → T.hub m ≡ u →
      FoundIn (Candidate T u v m) c best → FoundIn (Candidate T u v (m + 1)) c (taken c (T.dep m) (T.arr m) best)
  ins_own c m best l e f =
      found_same (Plus (Candidate T u v m) (T.dep m) (T.arr m)) (Candidate T u v (m + 1)) c to back (taken c (T.dep m) (T.arr m) best)
      (taken-found (Candidate T u v m) c (T.dep m) (T.arr m) best f)
    where
      to : (d a : ℕ) → Plus (Candidate T u v m) (T.dep m) (T.arr m) d a → Candidate T u v (m + 1) d a
      to d a (inl (inl p)) = inl p
      to d a (inl (inr p)) = inr (ins_less m d a p)
      to d a (inr p) = inr (record { label = m; low = l; high = omega arith; hub = e; dep = sym p.0; arr = sym p.1 })

      back : (d a : ℕ) → Candidate T u v (m + 1) d a → Plus (Candidate T u v m) (T.dep m) (T.arr m) d a
      back d a (inl p) = inl (inl p)
      back d a (inr p) = elim (ins_more m d a p) [ inl x ↦ inl (inr x) | inr x ↦ inr (sym x.1, sym x.2) ]

  pub ins_none : (c : Criterion) (m : ℕ) (best : Option Journey) → T.hub m ≢ u → FoundIn (Candidate T u v m) c best → FoundIn (Candidate T u v (m + 1)) c best
  ins_none c m best n f = found_same (Candidate T u v m) (Candidate T u v (m + 1)) c to back best f
    where
      to : (d a : ℕ) → Candidate T u v m d a → Candidate T u v (m + 1) d a
      to d a (inl p) = inl p
      to d a (inr p) = inr (ins_less m d a p)

      back : (d a : ℕ) → Candidate T u v (m + 1) d a → Candidate T u v m d a
      back d a (inl p) = inl p
      back d a (inr p) = elim (ins_more m d a p) [ inl x ↦ inr x | inr x ↦ absurd (n x.0) ]

  -- past the hub u no more single labels come
  pub ins_past : (c : Criterion) (m : ℕ) (best : Option Journey) → T.start ins v ≤ m → m < T.end ins v → u < T.hub m →
      FoundIn (Candidate T u v m) c best → FoundIn (Candidate T u v (T.end ins v)) c best
  ins_past c m best l h g f = found_same (Candidate T u v m) (Candidate T u v (T.end ins v)) c to back best f
    where
      to : (d a : ℕ) → Candidate T u v m d a → Candidate T u v (T.end ins v) d a
      to d a (inl p) = inl p
      to d a (inr p) = inr (record { label = p.label; low = p.low; high = omega (arith, p.high); hub = p.hub; dep = p.dep; arr = p.arr })

      back : (d a : ℕ) → Candidate T u v (T.end ins v) d a → Candidate T u v m d a
      back d a (inl p) = inl p
      back d a (inr p) = go (dec_lt p.label m) (dec_lt m p.label)
        where
          go : Dec (p.label < m) → Dec (m < p.label) → Candidate T u v m d a
          go (yes b) q = inr (record { label = p.label; low = p.low; high = b; hub = p.hub; dep = p.dep; arr = p.arr })
          go (no b) (yes q) = absurd (omega (arith, G.hubs_rise (entry_at ov l h) (entry_at ov p.low p.high) q, p.hub))
          go (no b) (no q) = let e : p.label ≡ m = omega arith in absurd (omega (arith, subst (λ k. T.hub k ≡ u) e p.hub))
