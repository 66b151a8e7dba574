-- The rides of a label and of an answer: they are one list at most, they are a journey with exactly the pair, it is decided whether there are
-- any, and over supported tables there always are.
use Rattle.std.specs.Prelude.{◌≡◌, refl, List, [], ◌∷◌, ◌++◌, ℕ, zero, suc, ◌+◌, ◌≤◌, ◌<◌, length}
use Rattle.std.proofs.Common.{sym, ap, ap₂, subst, subst₂, ◌∙◌, arith, length-append}
use Rattle.std.proofs.Math.Option.{Option, none, some}
use Rattle.std.proofs.Math.Decide.{ℕ_discrete, dec_le, dec_lt}
use Rattle.loops.specs.DecideLaws.{least, least_one}
use Rattle.loops.specs.Decide.{dec_then, Least}
use Rattle.kinds.specs.Limits.{last_minute}
use Rattle.journeys.specs.Service.{Service, RideAt, GoodService}
use Rattle.journeys.specs.Journey.{Journey, one, more, rides, RidesOf}
use Rattle.journeys.specs.Tables.{Tables, of_out, of_in, Label, GoodTables, JoinAt, Sketch, single, joined, LabelWith}
use Rattle.journeys.specs.Check.{AllSupported}
use Rattle.journeys.specs.Rides.{Opens, ride, both, Chosen, by_label, by_hub}
use Rattle.journeys.proofs.JourneyLaws.{rides-join, ride_later, journey_last}
use Rattle.journeys.specs.Paths.{join, Parts}
use Rattle.journeys.proofs.ReachLaws.{dec_ride, dec_some_ride}
use Rattle.journeys.proofs.SketchLaws.{label_later, one_by_dep, one_by_arr, dec_label}

-- the rides of a label are a journey with exactly its pair
pub opens_journey : {S : Service} {T : Tables} {u v d a : ℕ} {p : Option ℕ} {l : List ℕ} → Opens S T u v d a p l → RidesOf S u v d a l
unfolding rides
opens_journey (ride i r f) = record { way = one i r; are = refl }
opens_journey {S} (both {u} {w} {v} {d} {b} {c} {a} {p} {q} {l} {m} k k' h o o') = go (opens_journey o) (opens_journey o')
  where
    go : RidesOf S u w d b l → RidesOf S w v c a m → RidesOf S u v d a (l ++ m)
    go x y = record { way = join x.way h y.way; are = rides-join x.way h y.way ∙ ap₂ ◌++◌ x.are y.are }

-- and no more of them than the label has minutes
pub opens_short : {S : Service} {T : Tables} {u v d a : ℕ} {p : Option ℕ} {l : List ℕ} → GoodTables T → Label T u v d a p → Opens S T u v d a p l →
    length l + d ≤ a
opens_short G k (ride i r f) = omega (arith, label_later G k)
opens_short G k (both {l = l} {m} k₁ k₂ h o o') = omega (arith, length-append l m, opens_short G k₁ o, opens_short G k₂ o')

pub parts : {S : Service} {T : Tables} {u w v d a : ℕ} {n : List ℕ} → Opens S T u v d a (some w) n → Parts S T u w v d a n
parts (both {b = b} {c} {p = p} {q} {l} {m} k k' h o o') =
    record { mid = b; start = c; pivot₁ = p; pivot₂ = q; rides₁ = l; rides₂ = m; meets = h; first = k; second = k'; opens₁ = o; opens₂ = o'; are = refl }

-- ... and of one without
pub only_ride : {S : Service} {T : Tables} {u v d a : ℕ} {n : List ℕ} → Opens S T u v d a none n → (l : Least (λ i. RideAt S i u v d a)) × (n ≡ l.it ∷ [])
only_ride (ride i r f) = (record { it = i; has = r; none_before = f }, refl)

module _ {S : Service} {T : Tables} (G : GoodTables T) where
  -- the rides of a label are one list
  pub opens_one : {u v d a : ℕ} {p : Option ℕ} {l n : List ℕ} → Opens S T u v d a p l → Opens S T u v d a p n → l ≡ n
  opens_one {n = n} (ride {u} {v} {d} {a} i r f) x =
      let s = only_ride x in
      ap (λ k. k ∷ []) (least_one (record { it = i; has = r; none_before = f }) s.0) ∙ sym s.1
  opens_one {n = n} (both {u} {w} {v} {d} {b} {c} {a} {p} {q} {l} {m} k k' h o o') x =
      let s = parts x in
      let f = one_by_dep G s.first k in
      let f' = one_by_arr G s.second k' in
      ap₂ ◌++◌
      (opens_one o (subst₂ (λ y z. Opens S T u w d y z s.rides₁) f.0 f.1 s.opens₁))
      (opens_one o' (subst₂ (λ y z. Opens S T w v y a z s.rides₂) f'.0 f'.1 s.opens₂))
      ∙ sym s.are

  two_halves : {u v d a h b c x y : ℕ} {p q p' q' : Option ℕ} {l m l' m' : List ℕ} →
      Label T u h d b p → Label T h v c a q → Label T u h d x p' → Label T h v y a q' →
      Opens S T u h d b p l → Opens S T h v c a q m → Opens S T u h d x p' l' → Opens S T h v y a q' m' → l ++ m ≡ l' ++ m'
  two_halves {u} {v} {d} {a} {h} {l' = l'} {m'} k₁ k₂ k₃ k₄ o₁ o₂ o₃ o₄ =
      let f = one_by_dep G k₃ k₁ in
      let g = one_by_arr G k₄ k₂ in
      ap₂ ◌++◌
      (opens_one o₁ (subst₂ (λ y z. Opens S T u h d y z l') f.0 f.1 o₃))
      (opens_one o₂ (subst₂ (λ y z. Opens S T h v y a z m') g.0 g.1 o₄))

  -- the rides of an answer are one list
  pub chosen_one : {u v d a : ℕ} {l n : List ℕ} → Chosen S T u v d a l → Chosen S T u v d a n → l ≡ n
  chosen_one {u} {v} {d} {a} {l} {n} (by_label p k o) (by_label q k' o') =
      opens_one o (subst (λ z. Opens S T u v d a z n) (one_by_dep G k' k).1 o')
  chosen_one (by_label p k o) (by_hub h n₁ J f l m o₁ o₂ e) = absurd (n₁ p k)
  chosen_one (by_hub h n₁ J f l m o₁ o₂ e) (by_label p k o) = absurd (n₁ p k)
  chosen_one {u} {v} {d} {a} (by_hub h n₁ J f l m o₁ o₂ e) (by_hub h' n₂ J' f' l' m' o₃ o₄ e') =
      e ∙ at_one h' (least_one (record { it = h; has = J; none_before = f }) (record { it = h'; has = J'; none_before = f' })) J' o₃ o₄ ∙ sym e'
    where
      at_one : (g : ℕ) → h ≡ g → (K : JoinAt T u v d a g) → Opens S T u g d K.mid K.pivot₁ l' → Opens S T g v K.start a K.pivot₂ m' →
          l ++ m ≡ l' ++ m'
      at_one g q = subst (λ x. (K : JoinAt T u v d a x) → Opens S T u x d K.mid K.pivot₁ l' → Opens S T x v K.start a K.pivot₂ m' →
          l ++ m ≡ l' ++ m') q
          (λ K x y. two_halves (J.first, of_out J.out_label) (J.second, of_in J.in_label) (K.first, of_out K.out_label)
          (K.second, of_in K.in_label) o₁ o₂ x y)

  -- and no more of them than the answer has minutes
  pub chosen_short : {u v d a : ℕ} {n : List ℕ} → Chosen S T u v d a n → length n + d ≤ a
  chosen_short (by_label p k o) = opens_short G k o
  chosen_short (by_hub h n₁ J f l m o₁ o₂ e) =
      omega (
        arith,
        ap length e,
        length-append l m,
        opens_short G (J.first, of_out J.out_label) o₁,
        opens_short G (J.second, of_in J.in_label) o₂,
        J.meets,
      )

-- the rides of an answer are a journey with exactly the answered pair
pub chosen_journey : {S : Service} {T : Tables} {u v d a : ℕ} {n : List ℕ} → Chosen S T u v d a n → RidesOf S u v d a n
chosen_journey (by_label p k o) = opens_journey o
chosen_journey {S} {u = u} {v} {d} {a} {n} (by_hub h n₁ J f l m o₁ o₂ e) = go (opens_journey o₁) (opens_journey o₂)
  where
    go : RidesOf S u h d J.mid l → RidesOf S h v J.start a m → RidesOf S u v d a n
    go x y = record { way = join x.way J.meets y.way; are = rides-join x.way J.meets y.way ∙ ap₂ ◌++◌ x.are y.are ∙ sym e }

-- the lowest hub, if any, at which labels of u and v meet with the pair
module _ {T : Tables} (G : GoodTables T) (u v d a : ℕ) where
  dec_join : (h : ℕ) → h < u → h < v → Dec (JoinAt T u v d a h)
  dec_join h hu hv = go (dec_label T u h (λ e b. e ≡ d) (λ e b. ℕ_discrete e d)) (dec_label T h v (λ e b. b ≡ a) (λ e b. ℕ_discrete b a))
    where
      first_is : (J : JoinAt T u v d a h) (x : LabelWith T u h (λ e b. e ≡ d)) → J.mid ≡ x.arr
      first_is J x = (one_by_dep G (J.first, of_out J.out_label) (subst (λ e. Label T u h e x.arr x.pivot) x.says x.label)).0

      second_is : (J : JoinAt T u v d a h) (y : LabelWith T h v (λ e b. b ≡ a)) → J.start ≡ y.dep
      second_is J y = (one_by_arr G (J.second, of_in J.in_label) (subst (λ b. Label T h v y.dep b y.pivot) y.says y.label)).0

      join_of : {b c : ℕ} {p q : Option ℕ} → Label T u h d b p → Label T h v c a q → b ≤ c → JoinAt T u v d a h
      join_of {b} {c} {p} {q} (i, of_out x) (k, of_in y) m = record {
        first = i;
        second = k;
        mid = b;
        start = c;
        pivot₁ = p;
        pivot₂ = q;
        out_label = x;
        in_label = y;
        meets = m;
      }
      join_of (i, of_in x) l m = absurd (omega (arith, G.below x))
      join_of (i, of_out x) (k, of_out y) m = absurd (omega (arith, G.below y))

      meet : (x : LabelWith T u h (λ e b. e ≡ d)) (y : LabelWith T h v (λ e b. b ≡ a)) → Dec (x.arr ≤ y.dep) → Dec (JoinAt T u v d a h)
      meet x y (yes m) = yes (join_of (subst (λ e. Label T u h e x.arr x.pivot) x.says x.label)
          (subst (λ b. Label T h v y.dep b y.pivot) y.says y.label) m)
      meet x y (no m) = no (λ J. m (let e = first_is J x in let f = second_is J y in omega (arith, J.meets)))

      go : Dec (LabelWith T u h (λ e b. e ≡ d)) → Dec (LabelWith T h v (λ e b. b ≡ a)) → Dec (JoinAt T u v d a h)
      go (yes x) (yes y) = meet x y (dec_le x.arr y.dep)
      go (no n) y = no (λ J. n (record { dep = d; arr = J.mid; pivot = J.pivot₁; label = (J.first, of_out J.out_label); says = refl }))
      go (yes x) (no n) = no (λ J. n (record { dep = J.start; arr = a; pivot = J.pivot₂; label = (J.second, of_in J.in_label); says = refl }))

  any_join : (h : ℕ) → Dec (JoinAt T u v d a h)
  any_join h = go (dec_lt h u) (dec_lt h v)
    where
      go : Dec (h < u) → Dec (h < v) → Dec (JoinAt T u v d a h)
      go (yes x) (yes y) = dec_join h x y
      go (no n) y = no (λ J. n (G.below J.out_label))
      go (yes x) (no n) = no (λ J. n (G.below J.in_label))

  pub lowest_join : (h : ℕ) → JoinAt T u v d a h → Least (JoinAt T u v d a)
  lowest_join h J = least (JoinAt T u v d a) any_join h J

-- it is decided whether a label opens, in tables that may be unsupported
module _ {S : Service} (D : GoodService S) {T : Tables} (G : GoodTables T) where
  dec_run_open : (u v d a : ℕ) → Dec ((i : ℕ) × (i < S.slots) × RideAt S i u v d a) → Dec ((l : List ℕ) × Opens S T u v d a none l)
  dec_run_open u v d a (yes s) = yes (low (least (λ i. RideAt S i u v d a) (dec_ride S D u v d a) s.0 s.2))
    where
      low : Least (λ i. RideAt S i u v d a) → (l : List ℕ) × Opens S T u v d a none l
      low l = (l.it ∷ [], ride l.it l.has l.none_before)
  dec_run_open u v d a (no n) = no (λ s. let r = (only_ride s.1).0 in n (r.it, r.has.below, r.has))

  dec_both : (u w v d a b c : ℕ) (p q : Option ℕ) → Label T u w d b p → Label T w v c a q → b ≤ c →
      Dec ((l : List ℕ) × Opens S T u w d b p l) → Dec ((l : List ℕ) × Opens S T w v c a q l) → Dec ((l : List ℕ) × Opens S T u v d a (some w) l)
  dec_both u w v d a b c p q k₁ k₂ h (yes x) (yes y) = yes (x.0 ++ y.0, both k₁ k₂ h x.1 y.1)
  dec_both u w v d a b c p q k₁ k₂ h (no n) y = no (λ s. let r = parts s.1 in let f = one_by_dep G r.first k₁ in
      n (r.rides₁, subst₂ (λ y z. Opens S T u w d y z r.rides₁) f.0 f.1 r.opens₁))
  dec_both u w v d a b c p q k₁ k₂ h (yes x) (no n) = no (λ s. let r = parts s.1 in let f = one_by_arr G r.second k₂ in
      n (r.rides₂, subst₂ (λ y z. Opens S T w v y a z r.rides₂) f.0 f.1 r.opens₂))

  dec_open_fuel : (f u v d a : ℕ) (p : Option ℕ) → a ≤ d + f → Dec ((l : List ℕ) × Opens S T u v d a p l)
  dec_open_fuel zero u v d a none h = dec_run_open u v d a (dec_some_ride S D u v d a)
  dec_open_fuel (suc f) u v d a none h = dec_run_open u v d a (dec_some_ride S D u v d a)
  dec_open_fuel zero u v d a (some w) h = no (λ s. let r = parts s.1 in omega (arith, label_later G r.first, label_later G r.second, r.meets))
  dec_open_fuel (suc f) u v d a (some w) h =
      go (dec_label T u w (λ e b. e ≡ d) (λ e b. ℕ_discrete e d)) (dec_label T w v (λ e b. b ≡ a) (λ e b. ℕ_discrete b a))
      (λ b c p q k₁ k₂ m. dec_both u w v d a b c p q k₁ k₂ m
      (dec_open_fuel f u w d b p (omega (arith, label_later G k₂))) (dec_open_fuel f w v c a q (omega (arith, label_later G k₁))))
    where
      Goal : Type 0
      Goal = Dec ((l : List ℕ) × Opens S T u v d a (some w) l)

      meet : (b c : ℕ) (p q : Option ℕ) → Label T u w d b p → Label T w v c a q → Dec (b ≤ c) → (b ≤ c → Goal) → Goal
      meet b c p q k₁ k₂ (yes m) rec = rec m
      meet b c p q k₁ k₂ (no n) rec = no (λ s. let r = parts s.1 in let x = (one_by_dep G r.first k₁).0 in let y = (one_by_arr G r.second k₂).0 in
          omega (arith, r.meets))

      go : Dec (LabelWith T u w (λ e b. e ≡ d)) → Dec (LabelWith T w v (λ e b. b ≡ a)) →
          ((b c : ℕ) (p q : Option ℕ) → Label T u w d b p → Label T w v c a q → b ≤ c → Goal) → Goal
      go (yes x) (yes y) rec =
          let k₁ = subst (λ e. Label T u w e x.arr x.pivot) x.says x.label in
          let k₂ = subst (λ b. Label T w v y.dep b y.pivot) y.says y.label in
          meet x.arr y.dep x.pivot y.pivot k₁ k₂ (dec_le x.arr y.dep) (rec x.arr y.dep x.pivot y.pivot k₁ k₂)
      go (yes x) (no n) rec = no (λ s. let r = parts s.1 in n (record { dep = r.start; arr = a; pivot = r.pivot₂; label = r.second; says = refl }))
      go (no n) y rec = no (λ s. let r = parts s.1 in n (record { dep = d; arr = r.mid; pivot = r.pivot₁; label = r.first; says = refl }))

  pub dec_open : (u v d a : ℕ) (p : Option ℕ) → Dec ((l : List ℕ) × Opens S T u v d a p l)
  dec_open u v d a p = dec_open_fuel a u v d a p (omega arith)

-- over supported tables every label opens, and so does every answer
module _ {S : Service} (D : GoodService S) {T : Tables} (G : GoodTables T) (sup : AllSupported S T) where
  open_fuel : (f u v d a : ℕ) (p : Option ℕ) → a ≤ d + f → Label T u v d a p → (l : List ℕ) × Opens S T u v d a p l
  open_fuel zero u v d a p h l = absurd (omega (arith, label_later G l))
  open_fuel (suc f) u v d a none h l = let s = sup l.0 u v d a none l.1 in low (least (λ i. RideAt S i u v d a) (dec_ride S D u v d a) s.0 s.1)
    where
      low : Least (λ i. RideAt S i u v d a) → (l : List ℕ) × Opens S T u v d a none l
      low l = (l.it ∷ [], ride l.it l.has l.none_before)
  open_fuel (suc f) u v d a (some w) h l =
      let s = sup l.0 u v d a (some w) l.1 in
      let l₁ = label_later G s.first in
      let l₂ = label_later G s.second in
      let x = open_fuel f u w d s.mid s.pivot₁ (omega (arith, s.meets)) s.first in
      let y = open_fuel f w v s.start a s.pivot₂ (omega (arith, s.meets)) s.second in
      (x.0 ++ y.0, both s.first s.second s.meets x.1 y.1)

  pub opens_all : {u v d a : ℕ} {p : Option ℕ} → Label T u v d a p → (l : List ℕ) × Opens S T u v d a p l
  opens_all {u} {v} {d} {a} {p} l = open_fuel a u v d a p (omega arith) l

  pub chosen_all : (u v d a : ℕ) → Sketch T u v d a → (l : List ℕ) × Chosen S T u v d a l
  chosen_all u v d a s = go (dec_label T u v (λ e b. (e ≡ d) × (b ≡ a)) (λ e b. dec_then (ℕ_discrete e d) (λ _. ℕ_discrete b a))) s
    where
      at_hub : ((p : Option ℕ) → ¬ (Label T u v d a p)) → Least (JoinAt T u v d a) → (l : List ℕ) × Chosen S T u v d a l
      at_hub n L =
          let J = L.has in
          let x = opens_all (J.first, of_out J.out_label) in
          let y = opens_all (J.second, of_in J.in_label) in
          (x.0 ++ y.0, by_hub L.it n J L.none_before x.0 y.0 x.1 y.1 refl)

      go : Dec (LabelWith T u v (λ e b. (e ≡ d) × (b ≡ a))) → Sketch T u v d a → (l : List ℕ) × Chosen S T u v d a l
      go (yes k) s =
          let l = subst₂ (λ e b. Label T u v e b k.pivot) k.says.0 k.says.1 k.label in
          let o = opens_all l in
          (o.0, by_label k.pivot l o.1)
      go (no n) (single p k) = absurd (n (record { dep = d; arr = a; pivot = p; label = k; says = (refl, refl) }))
      go (no n) (joined h J) = at_hub (λ r x. n (record { dep = d; arr = a; pivot = r; label = x; says = (refl, refl) })) (lowest_join G u v d a h J)

-- a journey has no more rides than it takes minutes, so 2,879 at most
module _ {S : Service} (D : GoodService S) where
  rides_short : {u v d a : ℕ} (j : Journey S u v d a) → length (rides j) + d ≤ a
  unfolding rides
  rides_short (one i r) = omega (arith, ride_later D r)
  rides_short (more i r h j) = omega (arith, ride_later D r, rides_short j)

  pub rides_few : {u v d a : ℕ} {l : List ℕ} → RidesOf S u v d a l → length l ≤ last_minute
  rides_few w = omega (arith, rides_short w.way, ap length w.are, journey_last D w.way)
