-- A code put into the list and into the index.
use Rattle.std.specs.Prelude.{ℕ, zero, suc, ◌+◌, ◌%◌, ◌≤◌, ◌<◌, ◌≡◌, refl, List, ◌⊎◌, false, length, get_or, set, replicate}
use Rattle.std.proofs.Common.{sym, ◌∙◌, inl, inr, arith, length-set, get_or-set_same, get_or-set_other}
use Rattle.std.proofs.Math.Decide.{ℕ_discrete, dec_lt}
use Rattle.std.proofs.lemmas.List.{length-replicate, get_or-replicate}
use Rattle.std.proofs.Math.ListN.{get_or-eq_default}
use Rattle.lookup.specs.Lookup.{code_start, code_length, has_code, stop_named, put_code}
use Rattle.lookup.specs.LookupLaws.{each_code, placed_more, has_kept, none_named}
use Rattle.lookup.specs.Mark.{mark_of}
use Rattle.lookup.specs.Index.{slot_count, probes, way, slot_for, probed, entry_of, AtHome, mark_at, CodesIndexed, Enterable, Vacant, Stood}

-- a stop put into the first empty slot, or nowhere
module _ {slots : List ℕ} {m p : ℕ} (v : Vacant slots m p) (j : ℕ) where
  pub stood_there : p < slot_count → length slots ≡ slot_count → Stood slots (set slots p (entry_of m j)) m j
  stood_there h long =
      record {
        long = length-set slots p (entry_of m j);
        kept = λ q l. get_or-set_other slots p q (entry_of m j) 0 (λ e. omega (arith, (v.empty h).1, rw e at l));
        only = λ q. only q (ℕ_discrete q p);
        home = λ i l e. home i l e (dec_lt v.turn i);
      }
    where
      here : get_or (set slots p (entry_of m j)) p 0 ≡ entry_of m j
      here = get_or-set_same slots p (entry_of m j) 0 (omega arith)

      other : (q : ℕ) → (q ≡ p → ⊥) → get_or (set slots p (entry_of m j)) q 0 ≡ get_or slots q 0
      other q d = get_or-set_other slots p q (entry_of m j) 0 d

      only : (q : ℕ) → Dec (q ≡ p) → (get_or (set slots p (entry_of m j)) q 0 ≡ get_or slots q 0) ⊎ (get_or (set slots p (entry_of m j)) q 0 ≡ entry_of m j)
      only q (yes e) = inr (rw e here)
      only q (no d) = inl (other q d)

      -- a slot of the way that is not behind the new stop's is taken
      full : (i : ℕ) → i ≤ v.turn → Dec (slot_for (way m i) ≡ p) → 0 < probed (set slots p (entry_of m j)) m i
      full i l (yes e) = rw (e, here) (omega arith)
      full i l (no d) = rw (other (slot_for (way m i)) d) (v.taken i (before (ℕ_discrete i v.turn)))
        where
          before : Dec (i ≡ v.turn) → i < v.turn
          before (yes e) = absurd (d (rw e (sym (v.empty h).0)))
          before (no e) = omega arith

      home : (i : ℕ) → i < probes → probed (set slots p (entry_of m j)) m i ≡ 0 → Dec (v.turn < i) →
          (k : ℕ) × (k < i) × (probed (set slots p (entry_of m j)) m k ≡ entry_of m j)
      home i l e (yes b) = (v.turn, b, rw (← (v.empty h).0) here)
      home i l e (no b) = absurd (omega (arith, e, full i (omega arith) (ℕ_discrete (slot_for (way m i)) p)))

  pub stood_nowhere : slot_count ≤ p → Stood slots slots m j
  stood_nowhere h =
      record {
        long = refl;
        kept = λ q l. refl;
        only = λ q. inl refl;
        home = λ i l e. absurd (omega (arith, e, v.taken i (omega (arith, v.full h))));
      }

-- a stop that stood in the index still does
home_kept : {before after : List ℕ} {m j : ℕ} → Stood before after m j → (w i : ℕ) → AtHome before w i → AtHome after w i
home_kept {before} {after} {m} {j} x w i h k l e =
    let was : probed before w k ≡ 0 = empty (slot_for (way w k)) e in
    let (q, b, there) = h k l was in
    (q, b, x.kept (slot_for (way w q)) (omega (arith, there)) ∙ there)
  where
    empty : (p : ℕ) → get_or after p 0 ≡ 0 → get_or before p 0 ≡ 0
    empty p z = go (get_or before p 0) refl
      where
        go : (y : ℕ) → get_or before p 0 ≡ y → y ≡ 0
        go zero d = refl
        go (suc y) d = absurd (omega (arith, z, d, x.kept p (omega (arith, d))))

-- no stop has the code that is entered
pub enterable_new : {s codes : List ℕ} {j start n : ℕ} → Enterable s codes j start n → j ≡ stop_named s codes j s start n
unfolding stop_named
enterable_new {s} {codes} {j} {start} {n} y = none_named s codes s start n j j y.new

module _ {s codes : List ℕ} {j : ℕ} {slots : List ℕ} (x : CodesIndexed s codes j slots) {start n : ℕ} (y : Enterable s codes j start n) where
  pub entered : {m : ℕ} {after : List ℕ} → m ≡ mark_of s start n → Stood slots after m j → CodesIndexed s (put_code codes j start n) (j + 1) after
  entered {m} {after} e z =
      record {
        codes_placed = placed_more codes j start n x.codes_placed y.room y.within;
        few = omega (arith, y.few);
        slots_long = z.long ∙ x.slots_long;
        no_two = each_code codes j start n (λ i a b. (k : ℕ) → k < i → has_code s (put_code codes j start n) s a b k ≡ false) y.room
            (λ k l. has_kept s codes s start n j start n k l ∙ y.new k l)
            (λ i h k l. has_kept s codes s (code_start codes i) (code_length codes i) j start n k (omega arith) ∙ x.no_two i h k l);
        known = λ p h. known p h (z.only p);
        home = each_code codes j start n (λ i a b. AtHome after (mark_of s a b) i) y.room (rw (← e) z.home)
            (λ i h. home_kept z (mark_at s codes i) i (x.home i h));
      }
    where
      known : (p : ℕ) → 0 < get_or after p 0 → (get_or after p 0 ≡ get_or slots p 0) ⊎ (get_or after p 0 ≡ entry_of m j) →
          (0 < get_or after p 0 % 256) × (get_or after p 0 % 256 ≤ j + 1)
      known p h (inl d) =
          let k = x.known p (rw d at h) in
          rw d (k.0, omega (arith, k.1))
      known p h (inr d) = rw d (omega (arith, y.few), omega (arith, y.few))

nothing : (n p : ℕ) → Dec (p < n) → get_or {A = ℕ} (replicate n 0) p 0 ≡ 0
nothing n p (yes h) = get_or-replicate {A = ℕ} n p 0 0 h
nothing n p (no h) = get_or-eq_default {A = ℕ} (replicate n 0) 0 (simp (length-replicate {A = ℕ}) (omega arith))

-- the index of no codes is all zero
pub entered_none : (s codes : List ℕ) → CodesIndexed s codes 0 (replicate slot_count 0)
entered_none s codes =
    record {
      codes_placed = record { listed = omega arith; placed = λ j h. absurd (omega arith) };
      few = omega arith;
      slots_long = length-replicate {A = ℕ} slot_count 0;
      no_two = λ j h. absurd (omega arith);
      known = λ p h. absurd (omega (arith, nothing slot_count p (dec_lt p slot_count)));
      home = λ j h. absurd (omega arith);
    }
