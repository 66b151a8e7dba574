-- One file: good tables with the same labels are the same bytes.
use Prim.Native.Nat.{ℕ, ◌+◌, ◌*◌, ◌-◌, ◌/◌, ◌%◌, ◌≤◌, ◌<◌}
use Rattle.std.specs.Prelude.{◌≡◌, refl, List, ◌⊎◌, length, get_or, Ok}
use Rattle.std.proofs.Common.{ap, sym, subst, subst₂, ◌∙◌, inl, inr, arith, ext_get_or, eq-eqb, ne_eqb}
use Rattle.std.proofs.Math.Option.{Option}
use Rattle.std.proofs.Math.Decide.{ℕ_discrete, dec_lt}
use Rattle.loops.specs.RowsLaws.{row_agrees, row_longer}
use Rattle.loops.specs.Rows.{Rises, Among}
use Rattle.kinds.specs.Limits.{no_pivot}
use Rattle.kinds.specs.declared.Label.{Label}
use Rattle.journeys.specs.Tables.{Side, Entry}
use Rattle.tables.specs.Format.{header_bytes, entry_bytes, label_bytes, no_pivot_byte}
use Rattle.tables.specs.File.{two_at, stops_of, set_of, count_of, start_of, labels_of, place_of, pivot_read, label_at, pivot_of, tables_of, AreBytes}
use Rattle.tables.specs.Judged.{judged_tables}
use Rattle.tables.specs.FileLaws.{located}
use Rattle.tables.specs.Good.{After, GoodFile}
use Rattle.tables.specs.GoodLaws.{after_trans, after_irrefl, judged_good}
use Rattle.tables.specs.TablesLaws.{pivot_one, same_label, set_cases, set_below, rises}
use Rattle.tables.specs.WriteLaws.{start_same}
use Rattle.tables.specs.OneFile.{SameLabels, SameSet}

-- ---- the labels of one set, from b to c

module _ {b c : List ℕ} {n : ℕ} (gb : GoodFile b n) (gc : GoodFile c n)
    (there : (side : Side) (s h d a : ℕ) (p : Option ℕ) → (k : ℕ) × Entry (tables_of b) side k s h d a p → (k : ℕ) × Entry (tables_of c) side k s h d a p) where
  among : (side : Side) (s i : ℕ) → s < n → i < count_of b (set_of side s) →
      Among (λ k. label_at c (start_of c (set_of side s) + k)) (count_of c (set_of side s)) (label_at b (start_of b (set_of side s) + i))
  unfolding tables_of
  among side s i lt h = go (there side s (label_at b k).hub (label_at b k).dep (label_at b k).arr (pivot_of (label_at b k).pivot) (
    k,
    record {
      owner = omega (arith, gb.room.contents.stops);
      low = omega arith;
      high = omega arith;
      hub = refl;
      dep = refl;
      arr = refl;
      pivot = refl;
    },
  ))
    where
      k : ℕ
      k = start_of b (set_of side s) + i

      go : (m : ℕ) × Entry (tables_of c) side m s (label_at b k).hub (label_at b k).dep (label_at b k).arr (pivot_of (label_at b k).pivot) →
          Among (λ j. label_at c (start_of c (set_of side s) + j)) (count_of c (set_of side s)) (label_at b k)
      go (m, x) =
          let e : start_of c (set_of side s) + (m - start_of c (set_of side s)) ≡ m = omega (arith, x.low) in (
            m - start_of c (set_of side s),
            omega (arith, x.low, x.high),
            ap (label_at c) e ∙ same_label (label_at c m) (label_at b k) x.hub x.dep x.arr (pivot_one _ _ x.pivot),
          )

module _ {b c : List ℕ} {n : ℕ} (gb : GoodFile b n) (gc : GoodFile c n) (same : SameLabels (tables_of b) (tables_of c)) where
  there : (side : Side) (s h d a : ℕ) (p : Option ℕ) → (k : ℕ) × Entry (tables_of b) side k s h d a p → (k : ℕ) × Entry (tables_of c) side k s h d a p
  there side s h d a p = (same side s h d a p).0

  back : (side : Side) (s h d a : ℕ) (p : Option ℕ) → (k : ℕ) × Entry (tables_of c) side k s h d a p → (k : ℕ) × Entry (tables_of b) side k s h d a p
  back side s h d a p = (same side s h d a p).1

  side_same : (side : Side) (s : ℕ) → s < n → SameSet b c (set_of side s)
  side_same side s lt = record { count = omega (arith, forth, back'); label = λ i h. (row_agrees After after_irrefl after_trans f g m o rb rc fg gf i h).1 }
    where
      f : ℕ → Label
      f i = label_at b (start_of b (set_of side s) + i)

      g : ℕ → Label
      g i = label_at c (start_of c (set_of side s) + i)

      m : ℕ
      m = count_of b (set_of side s)

      o : ℕ
      o = count_of c (set_of side s)

      rb : Rises After f m
      rb i k l h = rises gb (set_of side s) i k (set_below side s n lt) l h

      rc : Rises After g o
      rc i k l h = rises gc (set_of side s) i k (set_below side s n lt) l h

      fg : (i : ℕ) → i < m → Among g o (f i)
      fg i h = among gb gc there side s i lt h

      gf : (i : ℕ) → i < o → Among f m (g i)
      gf i h = among gc gb back side s i lt h

      forth : m ≤ o
      forth = row_longer After after_irrefl after_trans f g m o rb rc fg gf

      back' : o ≤ m
      back' = row_longer After after_irrefl after_trans g f o m rc rb gf fg

  set_same : (set : ℕ) → set < 2 * n → SameSet b c set
  set_same set lt = let z = set_cases set n lt in subst (SameSet b c) z.3 (side_same z.0 z.1 z.2)

  starts_same : (set : ℕ) → set ≤ 2 * n → start_of c set ≡ start_of b set
  starts_same set le = start_same b c set (λ s lt. sym (set_same s (omega arith)).count)

  labels_same : labels_of c ≡ labels_of b
  labels_same =
      let e : 2 * stops_of b ≡ 2 * n = omega (arith, gb.room.contents.stops) in
      let f : 2 * stops_of c ≡ 2 * n = omega (arith, gc.room.contents.stops) in
      ap (start_of c) f ∙ starts_same (2 * n) (omega arith) ∙ ap (start_of b) (sym e)

  each_same : (k : ℕ) → k < labels_of b → label_at b k ≡ label_at c k
  each_same k lt =
      let e : 2 * stops_of b ≡ 2 * n = omega (arith, gb.room.contents.stops) in
      let z = located b (2 * stops_of b) k lt in
      let h : z.0 < 2 * n = omega (arith, z.1) in
      let l = (set_same z.0 h).label (k - start_of b z.0) (omega (arith, z.2, z.3)) in
      let u : start_of b z.0 + (k - start_of b z.0) ≡ k = omega (arith, z.2) in
      let v : start_of c z.0 + (k - start_of b z.0) ≡ k = omega (arith, z.2, starts_same z.0 (omega arith)) in
      subst₂ (λ (x y : ℕ). label_at b x ≡ label_at c y) u v l

-- ---- from what the bytes say to the bytes

module _ (b c : List ℕ) (ab : AreBytes b) (ac : AreBytes c) where
  low_same : (i : ℕ) → two_at b i ≡ two_at c i → get_or b i 0 ≡ get_or c i 0
  low_same i e = omega (arith, ab i, ac i)

  high_same : (i : ℕ) → two_at b i ≡ two_at c i → get_or b (i + 1) 0 ≡ get_or c (i + 1) 0
  high_same i e = omega (arith, ab i, ac i)

  pivot_byte_lem : (i : ℕ) → pivot_read (get_or b i 0) ≡ pivot_read (get_or c i 0) → get_or b i 0 ≡ get_or c i 0
  pivot_byte_lem i = go (get_or b i 0) (get_or c i 0) (ab i) (ac i)
    where
      go : (x y : ℕ) → x < 256 → y < 256 → pivot_read x ≡ pivot_read y → x ≡ y
      go x y h k e = pick (ℕ_discrete x no_pivot_byte) (ℕ_discrete y no_pivot_byte)
        where
          pick : Dec (x ≡ no_pivot_byte) → Dec (y ≡ no_pivot_byte) → x ≡ y
          pick (yes p) (yes q) = p ∙ sym q
          pick (yes p) (no q) = let z : no_pivot ≡ y = rw (eq-eqb x no_pivot_byte p, ne_eqb y no_pivot_byte q) at e in absurd (omega arith)
          pick (no p) (yes q) = let z : x ≡ no_pivot = rw (ne_eqb x no_pivot_byte p, eq-eqb y no_pivot_byte q) at e in absurd (omega arith)
          pick (no p) (no q) = rw (ne_eqb x no_pivot_byte p, ne_eqb y no_pivot_byte q) at e

  -- the six bytes of a label
  module _ (n k : ℕ) (eb : stops_of b ≡ n) (ec : stops_of c ≡ n) (e : label_at b k ≡ label_at c k) where
    hub_is : get_or b (place_of n k) 0 ≡ get_or c (place_of n k) 0
    unfolding label_at
    hub_is = rw (eb, ec) at (ap (λ (l : Label). l.hub) e)

    dep_is : two_at b (place_of n k + 1) ≡ two_at c (place_of n k + 1)
    unfolding label_at
    dep_is = rw (eb, ec) at (ap (λ (l : Label). l.dep) e)

    arr_is : two_at b (place_of n k + 3) ≡ two_at c (place_of n k + 3)
    unfolding label_at
    arr_is = rw (eb, ec) at (ap (λ (l : Label). l.arr) e)

    pivot_eq : pivot_read (get_or b (place_of n k + 5) 0) ≡ pivot_read (get_or c (place_of n k + 5) 0)
    unfolding label_at
    pivot_eq = rw (eb, ec) at (ap (λ (l : Label). l.pivot) e)

    label_bytes_lem : (x : ℕ) → place_of n k ≤ x → x < place_of n (k + 1) → get_or b x 0 ≡ get_or c x 0
    label_bytes_lem x le lt =
        go (ℕ_discrete x (place_of n k)) (ℕ_discrete x (place_of n k + 1)) (ℕ_discrete x (place_of n k + 2)) (ℕ_discrete x (place_of n k + 3))
        (ℕ_discrete x (place_of n k + 4))
      where
        at : (y : ℕ) → y ≡ x → get_or b y 0 ≡ get_or c y 0 → get_or b x 0 ≡ get_or c x 0
        at y h f = subst (λ (z : ℕ). get_or b z 0 ≡ get_or c z 0) h f

        go : Dec (x ≡ place_of n k) → Dec (x ≡ place_of n k + 1) → Dec (x ≡ place_of n k + 2) → Dec (x ≡ place_of n k + 3) →
            Dec (x ≡ place_of n k + 4) → get_or b x 0 ≡ get_or c x 0
        go (yes h) d₁ d₂ d₃ d₄ = at (place_of n k) (sym h) hub_is
        go (no h₀) (yes h) d₂ d₃ d₄ = at (place_of n k + 1) (sym h) (low_same (place_of n k + 1) dep_is)
        go (no h₀) (no h₁) (yes h) d₃ d₄ = at (place_of n k + 1 + 1) (omega arith) (high_same (place_of n k + 1) dep_is)
        go (no h₀) (no h₁) (no h₂) (yes h) d₄ = at (place_of n k + 3) (sym h) (low_same (place_of n k + 3) arr_is)
        go (no h₀) (no h₁) (no h₂) (no h₃) (yes h) = at (place_of n k + 3 + 1) (omega arith) (high_same (place_of n k + 3) arr_is)
        go (no h₀) (no h₁) (no h₂) (no h₃) (no h₄) = at (place_of n k + 5) (omega arith) (pivot_byte_lem (place_of n k + 5) pivot_eq)

-- two files that are judged good and have the same labels are the same bytes
pub one_file : (b c : List ℕ) (n : ℕ) → AreBytes b → AreBytes c → judged_tables b ≡ Ok n → judged_tables c ≡ Ok n →
    SameLabels (tables_of b) (tables_of c) → b ≡ c
one_file b c n ab ac jb jc same = whole (judged_good b n jb) (judged_good c n jc)
  where
    whole : GoodFile b n → GoodFile c n → b ≡ c
    whole gb gc =
        ext_get_or 0 b c (omega (arith, gb.room.exact, gc.room.exact, labels_same gb gc same))
        (λ x lt. go x lt (dec_lt x header_bytes) (dec_lt x (header_bytes + entry_bytes * n)))
      where
        in_header : (x : ℕ) → x < header_bytes → Dec (x ≡ 0) → get_or b x 0 ≡ get_or c x 0
        in_header x h (yes e) = subst (λ (z : ℕ). get_or b z 0 ≡ get_or c z 0) (sym e) (gb.mark ∙ sym gc.mark)
        in_header x h (no ne) =
            let e : 1 ≡ x = omega arith in
            subst (λ (z : ℕ). get_or b z 0 ≡ get_or c z 0) e (gb.room.contents.stops ∙ sym gc.room.contents.stops)

        in_contents : (x set : ℕ) → set < 2 * n → (x ≡ header_bytes + 2 * set) ⊎ (x ≡ header_bytes + 2 * set + 1) → get_or b x 0 ≡ get_or c x 0
        in_contents x set lt (inl e) =
            subst (λ (z : ℕ). get_or b z 0 ≡ get_or c z 0) (sym e) (low_same b c ab ac (header_bytes + 2 * set) (set_same gb gc same set lt).count)
        in_contents x set lt (inr e) =
            subst (λ (z : ℕ). get_or b z 0 ≡ get_or c z 0) (sym e) (high_same b c ab ac (header_bytes + 2 * set) (set_same gb gc same set lt).count)

        which : (x : ℕ) → header_bytes ≤ x → Dec (x % 2 ≡ 0) →
            (x ≡ header_bytes + 2 * ((x - header_bytes) / 2)) ⊎ (x ≡ header_bytes + 2 * ((x - header_bytes) / 2) + 1)
        which x h (yes e) = inl (omega arith)
        which x h (no e) = inr (omega arith)

        in_bodies : (x k : ℕ) → k < labels_of b → place_of n k ≤ x → x < place_of n (k + 1) → get_or b x 0 ≡ get_or c x 0
        in_bodies x k lt le h = label_bytes_lem b c ab ac n k gb.room.contents.stops gc.room.contents.stops (each_same gb gc same k lt) x le h

        go : (x : ℕ) → x < length b → Dec (x < header_bytes) → Dec (x < header_bytes + entry_bytes * n) → get_or b x 0 ≡ get_or c x 0
        go x lt (yes h) d = in_header x h (ℕ_discrete x 0)
        go x lt (no h) (yes k) = in_contents x ((x - header_bytes) / 2) (omega arith) (which x (omega arith) (ℕ_discrete (x % 2) 0))
        go x lt (no h) (no k) =
            in_bodies x ((x - (header_bytes + entry_bytes * n)) / label_bytes) (omega (arith, gb.room.exact)) (omega arith) (omega arith)
