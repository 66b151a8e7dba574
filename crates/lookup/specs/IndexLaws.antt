-- The walk along a mark's way: what is known of the slots that were passed, and what an empty slot or the stop's entry says.
use Prim.Native.Nat.{ℕ, ◌+◌, ◌-◌, ◌/◌, ◌%◌, ◌≤◌, ◌<◌}
use Rattle.std.specs.Prelude.{◌≡◌, refl, List, Bool, eqb}
use Rattle.std.proofs.Math.Path.{sym}
use Rattle.std.proofs.Common.{◌∙◌, arith, add-one, eq-eqb}
use Rattle.std.proofs.Math.Bool.{true, false}
use Rattle.std.proofs.Math.Decide.{ℕ_discrete}
use Rattle.std.proofs.Math.ListN.{get_or}
use Rattle.loops.specs.ChainLaws.{stays}
use Rattle.kinds.specs.Limits.{most_stops}
use Rattle.lookup.specs.Lookup.{code_start, has_code, stop_named}
use Rattle.lookup.specs.LookupLaws.{placed_fewer, none_named, one_named, has_told, has_both}
use Rattle.lookup.specs.Mark.{marks_below, mark_of}
use Rattle.lookup.specs.MarkLaws.{mark_same}
use Rattle.lookup.specs.Index.{slot_count, probes, onward_of, way, slot_for, probed, entry_of, is_entry, mark_at, CodesIndexed, Vacant, OnWay, Finding}

-- a stop with the code has the code's mark
code_mark : (s codes t : List ℕ) (a n j : ℕ) → has_code s codes t a n j ≡ true → mark_at s codes j ≡ mark_of t a n
code_mark s codes t a n j e =
    let z = has_told s codes t a n j e in
    rw z.0 (mark_same s (code_start codes j) t a n z.1)

pub along_none : (m : ℕ) → m < marks_below → OnWay m m 0
unfolding way
along_none m h = record { is = refl; small = h; low = omega arith }

pub along_more : {m x y i : ℕ} → OnWay m x i → i < probes → y ≡ onward_of x → y < marks_below → OnWay m y (i + 1)
unfolding way
along_more f h e l = record { is = rw (add-one, e, ← f.is); small = l; low = omega arith }

-- the slot that x stands for
pub along_slot : {m x p i : ℕ} (slots : List ℕ) → OnWay m x i → p ≡ slot_for x → get_or slots p 0 ≡ probed slots m i
along_slot slots f e = rw (e, f.is)

pub finding_none : (s codes slots t : List ℕ) (a n m : ℕ) → m < marks_below → Finding s codes slots t a n m m 0
finding_none s codes slots t a n m h = record { along = along_none m h; taken = λ k l. absurd (omega arith); passed = λ k l. absurd (omega arith) }

-- an entry that is not that of a stop with the code
not_entry : (s codes : List ℕ) (e m : ℕ) (t : List ℕ) (a n j : ℕ) → is_entry s codes e m t a n ≡ false → j < most_stops → e ≡ entry_of m j →
    has_code s codes t a n j ≡ false
unfolding is_entry
not_entry s codes e m t a n j f l h =
    let q : e / 256 ≡ m = omega arith in
    let r : e % 256 - 1 ≡ j = omega arith in
    rw (eq-eqb (e / 256) m q, r) at f

pub is_entry_lem : (s codes : List ℕ) (e m : ℕ) (t : List ℕ) (a n : ℕ) → is_entry s codes e m t a n ≡ true → has_code s codes t a n (e % 256 - 1) ≡ true
unfolding is_entry
is_entry_lem s codes e m t a n h = (stays (eqb (e / 256) m) h (λ x. cc)).1

pub finding_more : {s codes slots t : List ℕ} {a n m x y p i : ℕ} → Finding s codes slots t a n m x i → i < probes → p ≡ slot_for x →
    0 < get_or slots p 0 → is_entry s codes (get_or slots p 0) m t a n ≡ false → y ≡ onward_of x → y < marks_below → Finding s codes slots t a n m y (i + 1)
finding_more {s} {codes} {slots} {t} {a} {n} {m} {x} {y} {p} {i} f h e full g o l =
    record {
      along = along_more f.along h o l;
      taken = λ k b. taken k b (ℕ_discrete k i);
      passed = λ k b j c d. go k b j c d (ℕ_discrete k i);
    }
  where
    taken : (k : ℕ) → k < i + 1 → Dec (k ≡ i) → 0 < probed slots m k
    taken k b (yes z) = rw z (rw (along_slot slots f.along e) at full)
    taken k b (no z) = f.taken k (omega arith)

    go : (k : ℕ) → k < i + 1 → (j : ℕ) → j < most_stops → probed slots m k ≡ entry_of m j → Dec (k ≡ i) → has_code s codes t a n j ≡ false
    go k b j c d (yes z) = not_entry s codes (get_or slots p 0) m t a n j g c (along_slot slots f.along e ∙ rw (← z) d)
    go k b j c d (no z) = f.passed k (omega arith) j c d

-- an empty slot is the first one; behind the last slot there is none
module _ {s codes slots t : List ℕ} {a n m x i : ℕ} (f : Finding s codes slots t a n m x i) where
  pub finding_vacant : {p : ℕ} → p ≡ slot_for x → get_or slots p 0 ≡ 0 → p < slot_count → Vacant slots m p
  finding_vacant {p} e g l =
      record { turn = i; taken = f.taken; empty = λ b. (e ∙ rw f.along.is, g); full = λ b. absurd (omega arith) }

  pub finding_full : probes ≤ i → Vacant slots m slot_count
  finding_full h = record { turn = i; taken = f.taken; empty = λ b. absurd (omega arith); full = λ b. h }

module _ {s codes : List ℕ} {stops : ℕ} {slots : List ℕ} (x : CodesIndexed s codes stops slots) where
  -- an empty slot: no stop has the code, since it would have been passed
  pub finding_empty : {t : List ℕ} {a n m at p i : ℕ} → Finding s codes slots t a n m at i → m ≡ mark_of t a n → i < probes → p ≡ slot_for at →
      get_or slots p 0 ≡ 0 → stops ≡ stop_named s codes stops t a n
  unfolding stop_named
  finding_empty {t} {a} {n} {m} {at} {p} {i} f w h e g =
      none_named s codes t a n stops stops (λ j l. go j l (has_code s codes t a n j) refl)
    where
      go : (j : ℕ) → j < stops → (b : Bool) → has_code s codes t a n j ≡ b → has_code s codes t a n j ≡ false
      go j l true b =
          let same : mark_at s codes j ≡ m = code_mark s codes t a n j b ∙ sym w in
          let (k, before, there) = rw same at (x.home j l) i h (sym (along_slot slots f.along e) ∙ g) in
          f.passed k before j (omega (arith, x.few)) there
      go j l false b = b

  -- the entry of a stop with the code: it is one of the stops, and no other stop has the code
  pub finding_low : (p : ℕ) → 0 < get_or slots p 0 → get_or slots p 0 % 256 - 1 < stops
  finding_low p h = omega (arith, x.known p h)

  pub finding_here : (t : List ℕ) (a n m p : ℕ) → 0 < get_or slots p 0 → is_entry s codes (get_or slots p 0) m t a n ≡ true →
      get_or slots p 0 % 256 - 1 ≡ stop_named s codes stops t a n
  unfolding stop_named
  finding_here t a n m p h e =
      one_named s codes t a n stops stops j (omega (arith, x.known p h)) has (λ i f g. go i f g (has_code s codes t a n i) refl)
    where
      j : ℕ
      j = get_or slots p 0 % 256 - 1

      has : has_code s codes t a n j ≡ true
      has = is_entry_lem s codes (get_or slots p 0) m t a n e

      go : (i : ℕ) → j < i → i < stops → (b : Bool) → has_code s codes t a n i ≡ b → has_code s codes t a n i ≡ false
      go i f g true b =
          let z : true ≡ false = sym (has_both s codes t a n j i has b) ∙ x.no_two i g j f in
          absurd cc
      go i f g false b = b

-- what of the walk the check finds alone
pub ruleset walk_turns = (placed_fewer, finding_vacant, finding_full, finding_empty, finding_low, finding_here)
