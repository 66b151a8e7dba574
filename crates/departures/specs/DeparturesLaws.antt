-- Laws of the rides by departure: one slot more, the walk along the slots of a bucket, and that the index is one.
use Rattle.std.specs.Prelude.{ℕ, zero, suc, ◌+◌, ◌-◌, ◌≤◌, ◌<◌, ◌≡◌, List, ◌++◌, Bool, true, false, length, replicate, take, drop, get_or, set}
use Rattle.std.proofs.Math.Path.{refl}
use Rattle.std.proofs.Common.{sym, ap, subst, ◌∙◌, add-one, arith, length-set, length-take-le, get_or-set_same, get_or-set_other, ext_get_or}
use Rattle.std.proofs.Math.Decide.{ℕ_discrete, dec_lt}
use Rattle.loops.specs.Filled.{filled}
use Rattle.loops.specs.FilledLaws.{filled_none, filled_more, length-filled, filled_at, filled_beyond}
use Rattle.loops.specs.Made.{Made}
use Rattle.loops.specs.MadeLaws.{made_none, made_more}
use Rattle.loops.specs.First.{Passed, FirstAt}
use Rattle.loops.specs.FirstLaws.{passed_none, passed_more, first_here, first_end, first_one, first_extend}
use Rattle.loops.specs.Tells.{Tells}
use Rattle.loops.specs.TellsLaws.{told_true, told_false}
use Rattle.journeys.specs.Service.{Service, RideAt}
use Rattle.timetable.proofs.SlotsLaws.{service_slots, slots_few, read_ride, read_idle}
use Rattle.departures.specs.Departures.{buckets, bucket_of, bucket_at, Falls, Indexed, SameFrom}
use Rattle.departures.specs.Turns.{with_slot, IndexedFrom, WalkedTo}

-- there is each bucket
pub bucket_below : (d : ℕ) → bucket_of d < buckets
unfolding bucket_of
bucket_below d = omega arith

-- a ride that leaves at d falls into the bucket of d
falls_at : {S : Service} {i u v d a : ℕ} → RideAt S i u v d a → Falls S (bucket_of d) i
falls_at R = record { forced = R.forced; bucket = ap bucket_of R.leaves }

-- ---- the slots from k on

-- none of them yet
module _ (S : Service) (before : List ℕ) {l : List ℕ} (e : l ≡ filled (λ _. S.slots) buckets before) where
  pub same_none : SameFrom (buckets + S.slots) before l
  same_none =
      rw e (record { long = length-filled (λ _. S.slots) buckets before; beyond = λ p le. filled_beyond (λ _. S.slots) buckets before p (omega arith) })

  pub index_none : buckets ≤ length before → IndexedFrom S S.slots l l
  index_none h = record {
    within = omega arith;
    first = λ b lt. rw (e, filled_at (λ _. S.slots) buckets before b lt h) (first_end passed_none (omega arith) (omega arith));
    next = λ i ge lt f. absurd (omega arith);
    idle = λ i ge lt f. absurd (omega arith);
    kept = record { long = refl; beyond = λ p le. refl };
  }

pub same_then : {place : ℕ} {a b c : List ℕ} → SameFrom place a b → SameFrom place b c → SameFrom place a c
same_then f g = record { long = g.long ∙ f.long; beyond = λ p le. g.beyond p le ∙ f.beyond p le }

-- the first k numbers made v at once are made v one by one
made_filled : (v k : ℕ) (l : List ℕ) → k ≤ length l → Made v l (filled (λ _. v) k l) k
made_filled v zero l le = rw filled_none (made_none v l)
made_filled v (suc k) l le = rw (sym (add-one k)) (rw filled_more (made_more (made_filled v k l (omega arith)) le))

front_filled : (v k : ℕ) (l : List ℕ) {front : List ℕ} → k ≤ length l → front ≡ replicate k v → front ++ drop k l ≡ filled (λ _. v) k l
front_filled v k l le e = ap (λ f. f ++ drop k l) e ∙ sym (made_filled v k l le).is

-- the buckets filled
pub index_begin : (S : Service) (before : List ℕ) {front : List ℕ} {n : ℕ} → n ≡ S.slots → buckets ≤ length before →
    front ≡ replicate (length (take buckets before)) n → IndexedFrom S n before (front ++ drop buckets before)
index_begin S before {front} {n} e le f =
    let k : length (take buckets before) ≡ buckets = length-take-le buckets before le in
    let g = front_filled n buckets before le (f ∙ ap (λ (m : ℕ). replicate m n) k) ∙ ap (λ (m : ℕ). filled (λ _. m) buckets before) e in
    let I = index_none S before g le in
    rw e (record { within = I.within; first = I.first; next = I.next; idle = I.idle; kept = same_none S before g })

-- what one slot more changes, if it is in force, and if not
module _ (S : Service) (k : ℕ) (l : List ℕ) where
  pub with_ride : S.in_force k ≡ true → with_slot S k l ≡ set (set l (buckets + k) (get_or l (bucket_at S k) 0)) (bucket_at S k) k
  unfolding with_slot
  with_ride f = rw f refl

  pub with_none : S.in_force k ≡ false → with_slot S k l ≡ set l (buckets + k) S.slots
  unfolding with_slot
  with_none f = rw f refl

-- what `add` makes of the slot that it reads
pub ruleset slot_added = (service_slots, slots_few, read_ride, read_idle, with_ride, with_none)

-- one slot more that is in force: at its bucket stands the slot, at its own place what stood at its bucket; all else is as it was
module _ (S : Service) (k : ℕ) {before l : List ℕ} (I : IndexedFrom S (k + 1) before l) (long : buckets + S.slots ≤ length before) where
  low : bucket_at S k < buckets
  low = bucket_below (S.ride k).dep

  long_l : buckets + S.slots ≤ length l
  long_l = omega (arith, I.kept.long)

  module _ (f : S.in_force k ≡ true) where
    is : with_slot S k l ≡ set (set l (buckets + k) (get_or l (bucket_at S k) 0)) (bucket_at S k) k
    is = with_ride S k l f

    ride_length : length (with_slot S k l) ≡ length l
    ride_length =
        ap length is ∙ length-set (set l (buckets + k) (get_or l (bucket_at S k) 0)) (bucket_at S k) k ∙
        length-set l (buckets + k) (get_or l (bucket_at S k) 0)

    own_bucket : get_or (with_slot S k l) (bucket_at S k) 0 ≡ k
    own_bucket =
        ap (λ m. get_or m (bucket_at S k) 0) is ∙
        get_or-set_same (set l (buckets + k) (get_or l (bucket_at S k) 0)) (bucket_at S k) k 0
        (omega (arith, low, long_l, length-set l (buckets + k) (get_or l (bucket_at S k) 0)))

    own_place : get_or (with_slot S k l) (buckets + k) 0 ≡ get_or l (bucket_at S k) 0
    own_place =
        ap (λ m. get_or m (buckets + k) 0) is ∙
        get_or-set_other (set l (buckets + k) (get_or l (bucket_at S k) 0)) (bucket_at S k) (buckets + k) k 0 (λ e. omega (arith, low)) ∙
        get_or-set_same l (buckets + k) (get_or l (bucket_at S k) 0) 0 (omega (arith, long_l, I.within))

    other_place : (p : ℕ) → (p ≡ buckets + k → ⊥) → (p ≡ bucket_at S k → ⊥) → get_or (with_slot S k l) p 0 ≡ get_or l p 0
    other_place p n o =
        ap (λ m. get_or m p 0) is ∙ get_or-set_other (set l (buckets + k) (get_or l (bucket_at S k) 0)) (bucket_at S k) p k 0 o ∙
        get_or-set_other l (buckets + k) p (get_or l (bucket_at S k) 0) 0 n

    first_more : (h : ℕ) → h < buckets → FirstAt (Falls S h) k S.slots (get_or (with_slot S k l) h 0)
    first_more h lt = elim (ℕ_discrete h (bucket_at S k)) [
      | yes e ↦ subst (λ (z : ℕ). FirstAt (Falls S z) k S.slots (get_or (with_slot S k l) z 0)) (sym e)
          (rw own_bucket (first_here passed_none (omega (arith, I.within)) (record { forced = f; bucket = refl })))
      | no n ↦ rw (other_place h (λ e. omega arith) n) (first_extend (passed_more passed_none (λ x. n (sym x.bucket))) (I.first h lt))
    ]

    next_more : (i : ℕ) → k ≤ i → i < S.slots → S.in_force i ≡ true →
        FirstAt (Falls S (bucket_at S i)) (i + 1) S.slots (get_or (with_slot S k l) (buckets + i) 0)
    next_more i ge lt g = elim (ℕ_discrete i k) [
      | yes e ↦ subst (λ (j : ℕ). FirstAt (Falls S (bucket_at S j)) (j + 1) S.slots (get_or (with_slot S k l) (buckets + j) 0)) (sym e)
          (rw own_place (I.first (bucket_at S k) low))
      | no n ↦ rw (other_place (buckets + i) (λ e. n (omega arith)) (λ e. omega (arith, low))) (I.next i (omega arith) lt g)
    ]

    idle_more : (i : ℕ) → k ≤ i → i < S.slots → S.in_force i ≡ false → get_or (with_slot S k l) (buckets + i) 0 ≡ S.slots
    idle_more i ge lt g = elim (ℕ_discrete i k) [
      | yes e ↦ absurd (let z = sym f ∙ ap S.in_force (sym e) ∙ g in cc)
      | no n ↦ other_place (buckets + i) (λ e. n (omega arith)) (λ e. omega (arith, low)) ∙ I.idle i (omega arith) lt g
    ]

    ride_more : IndexedFrom S k before (with_slot S k l)
    ride_more = record {
      within = omega (arith, I.within);
      first = first_more;
      next = next_more;
      idle = idle_more;
      kept = record {
        long = ride_length ∙ I.kept.long;
        beyond = λ p le. other_place p (λ e. omega (arith, I.within)) (λ e. omega (arith, low)) ∙ I.kept.beyond p le;
      };
    }

  -- one that is not: at its own place stands the number of slots
  module _ (f : S.in_force k ≡ false) where
    stays_out : with_slot S k l ≡ set l (buckets + k) S.slots
    stays_out = with_none S k l f

    elsewhere : (p : ℕ) → (p ≡ buckets + k → ⊥) → get_or (with_slot S k l) p 0 ≡ get_or l p 0
    elsewhere p n = ap (λ m. get_or m p 0) stays_out ∙ get_or-set_other l (buckets + k) p S.slots 0 n

    none_more : IndexedFrom S k before (with_slot S k l)
    none_more = record {
      within = omega (arith, I.within);
      first = λ h lt. rw (elsewhere h (λ e. omega arith))
          (first_extend (passed_more passed_none (λ x. let z = sym f ∙ x.forced in cc)) (I.first h lt));
      next = λ i ge lt g. elim (ℕ_discrete i k) [
        | yes e ↦ absurd (let z = sym f ∙ ap S.in_force (sym e) ∙ g in cc)
        | no n ↦ rw (elsewhere (buckets + i) (λ e. n (omega arith))) (I.next i (omega arith) lt g)
      ];
      idle = λ i ge lt g. elim (ℕ_discrete i k) [
        | yes e ↦ subst (λ (j : ℕ). get_or (with_slot S k l) (buckets + j) 0 ≡ S.slots) (sym e)
            (ap (λ m. get_or m (buckets + k) 0) stays_out ∙ get_or-set_same l (buckets + k) S.slots 0 (omega (arith, long_l, I.within)))
        | no n ↦ elsewhere (buckets + i) (λ e. n (omega arith)) ∙ I.idle i (omega arith) lt g
      ];
      kept = record {
        long = ap length stays_out ∙ length-set l (buckets + k) S.slots ∙ I.kept.long;
        beyond = λ p le. elsewhere p (λ e. omega (arith, I.within)) ∙ I.kept.beyond p le;
      };
    }

  one_more : (b : Bool) → S.in_force k ≡ b → IndexedFrom S k before (with_slot S k l)
  one_more true f = ride_more f
  one_more false f = none_more f

pub index_more : (S : Service) (k : ℕ) {j : ℕ} {before l m : List ℕ} → IndexedFrom S j before l → j ≡ k + 1 → buckets + S.slots ≤ length before →
    m ≡ with_slot S k l → IndexedFrom S k before m
index_more S k {before = before} {l} I e long q =
    rw q (one_more S k (subst (λ (i : ℕ). IndexedFrom S i before l) e I) long (S.in_force k) refl)

-- all of them
pub index_all : (S : Service) {k : ℕ} {before l : List ℕ} → IndexedFrom S k before l → k ≤ 0 → Indexed S (λ p. get_or l p 0)
index_all S {k} {before} {l} I z =
    let e : k ≡ 0 = omega arith in
    let J = subst (λ (j : ℕ). IndexedFrom S j before l) e I in
    record { first = J.first; next = λ i lt f. J.next i (omega arith) lt f; idle = λ i lt f. J.idle i (omega arith) lt f }

-- ---- the walk along the slots of a bucket

passed_append : {P : ℕ → Type 0} {f g h : ℕ} → Passed P f g → Passed P g h → Passed P f h
passed_append {g = g} p q = record {
  low = omega (arith, p.low, q.low);
  none = λ k le lt x. elim (dec_lt k g) [ yes l ↦ p.none k le l x | no l ↦ q.none k (omega arith) lt x ];
}

-- what is not in its bucket is not the one
module _ (S : Service) (u v d a : ℕ) where
  passed_others : {f k : ℕ} → Passed (Falls S (bucket_of d)) f k → Passed (λ i. RideAt S i u v d a) f k
  passed_others p = record { low = p.low; none = λ j le lt r. p.none j le lt (falls_at r) }

  module _ {i : ℕ} where
    pub walk_begin : {h : ℕ} → h ≡ bucket_of d → FirstAt (Falls S h) 0 S.slots i → WalkedTo S u v d a i
    walk_begin e H =
        let F = subst (λ (z : ℕ). FirstAt (Falls S z) 0 S.slots i) e H in
        record { high = F.high; passed = passed_others F.passed; falls = F.here }

    -- the test of slot i answered r
    module _ (W : WalkedTo S u v d a i) where
      pub walk_end : S.slots ≤ i → FirstAt (λ k. RideAt S k u v d a) 0 S.slots i
      walk_end ge = first_end W.passed W.high ge

      module _ {r : Bool} (lt : i < S.slots) (t : Tells (RideAt S i u v d a) r) where
        pub walk_found : r ≡ true → FirstAt (λ k. RideAt S k u v d a) 0 S.slots i
        walk_found f = first_here W.passed lt (told_true t f)

        pub walk_on : {n : ℕ} → r ≡ false → FirstAt (Falls S (bucket_at S i)) (i + 1) S.slots n → WalkedTo S u v d a n
        walk_on {n} f N =
            let F = subst (λ (m : ℕ). FirstAt (Falls S m) (i + 1) S.slots n) (W.falls lt).bucket N in
            record {
              high = F.high;
              passed = passed_append (passed_more W.passed (told_false t f)) (passed_others F.passed);
              falls = F.here;
            }

-- ---- no second index meets the contract
pub index_one : (S : Service) (before l m : List ℕ) → Indexed S (λ p. get_or l p 0) → SameFrom (buckets + S.slots) before l →
    Indexed S (λ p. get_or m p 0) → SameFrom (buckets + S.slots) before m → l ≡ m
index_one S before l m I K J L = ext_get_or 0 l m (K.long ∙ sym L.long) (λ p _. at p (dec_lt p buckets) (dec_lt p (buckets + S.slots)))
  where
    of_slot : (i : ℕ) → i < S.slots → (b : Bool) → S.in_force i ≡ b → get_or l (buckets + i) 0 ≡ get_or m (buckets + i) 0
    of_slot i lt true f = first_one (I.next i lt f) (J.next i lt f)
    of_slot i lt false f = I.idle i lt f ∙ sym (J.idle i lt f)

    at : (p : ℕ) → Dec (p < buckets) → Dec (p < buckets + S.slots) → get_or l p 0 ≡ get_or m p 0
    at p (yes h) c = first_one (I.first p h) (J.first p h)
    at p (no h) (yes k) =
        let e : p ≡ buckets + (p - buckets) = omega arith in
        subst (λ (q : ℕ). get_or l q 0 ≡ get_or m q 0) (sym e) (of_slot (p - buckets) (omega arith) (S.in_force (p - buckets)) refl)
    at p (no h) (no k) = K.beyond p (omega arith) ∙ sym (L.beyond p (omega arith))
