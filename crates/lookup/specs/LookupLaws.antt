-- Laws of the lookup: one stop more or fewer, and a code put into the list.
use Rattle.std.specs.Prelude.{ℕ, zero, suc, ◌+◌, ◌*◌, ◌-◌, ◌≤◌, ◌<◌, ◌≡◌, refl, List, [], ◌∷◌, Bool, true, false, cond, length, eqb}
use Rattle.std.proofs.Common.{sym, ap, ◌∙◌, add-zero, eqb-true, eq-eqb}
use native.Mathlib.Omega.{arith}
use Rattle.std.proofs.Math.Decide.{ℕ_discrete}
use Rattle.loops.specs.ChainLaws.{stays}
use Rattle.loops.specs.Every.{same_b}
use Rattle.loops.specs.EveryLaws.{same_at, same_of}
use Rattle.loops.specs.PutLaws.{put_length, put_before, put_at}
use Rattle.lookup.specs.Lookup.{code_start, code_length, has_code, stop_in, stop_named, put_code, Placed}
use Rattle.lookup.specs.Scanning.{Scanning}

pub placed_fewer : {s codes : List ℕ} {k m : ℕ} → Placed s codes k → m ≤ k → Placed s codes m
placed_fewer p h = record { listed = omega (arith, p.listed); placed = λ j l. p.placed j (omega arith) }

-- one stop fewer to look through
pub stop_turn : (s codes t : List ℕ) (a n none k : ℕ) → 0 < k →
    stop_in s codes t a n none k ≡ cond (has_code s codes t a n (k - 1)) (k - 1) (stop_in s codes t a n none (k - 1))
unfolding stop_in
stop_turn s codes t a n none zero h = absurd (omega arith)
stop_turn s codes t a n none (suc k) h =
    let e : k ≡ suc k - 1 = omega arith in
    ap (λ (m : ℕ). cond (has_code s codes t a n m) m (stop_in s codes t a n none m)) e

module _ (codes : List ℕ) (j start n : ℕ) where
  pub code_length_lem : length (put_code codes j start n) ≡ length codes
  code_length_lem = put_length codes (2 * j) (start ∷ n ∷ [])

  start_put : 2 * j + 2 ≤ length codes → code_start (put_code codes j start n) j ≡ start
  start_put h = rw add-zero at (put_at codes (2 * j) (start ∷ n ∷ []) 0 (omega arith) h)

  length_put : 2 * j + 2 ≤ length codes → code_length (put_code codes j start n) j ≡ n
  length_put h = put_at codes (2 * j) (start ∷ n ∷ []) 1 (omega arith) h

  -- the codes of other stops stay
  start_kept : (i : ℕ) → i < j → code_start (put_code codes j start n) i ≡ code_start codes i
  start_kept i h = put_before codes (2 * j) (start ∷ n ∷ []) (2 * i) (omega arith)

  length_kept : (i : ℕ) → i < j → code_length (put_code codes j start n) i ≡ code_length codes i
  length_kept i h = put_before codes (2 * j) (start ∷ n ∷ []) (2 * i + 1) (omega arith)

  -- what holds of the code put in and of each code before it holds of each of them
  pub each_code : (P : ℕ → ℕ → ℕ → Type 0) → 2 * j + 2 ≤ length codes → P j start n →
      ((i : ℕ) → i < j → P i (code_start codes i) (code_length codes i)) →
      (i : ℕ) → i < j + 1 → P i (code_start (put_code codes j start n) i) (code_length (put_code codes j start n) i)
  each_code P h new old i b = go (ℕ_discrete i j)
    where
      go : Dec (i ≡ j) → P i (code_start (put_code codes j start n) i) (code_length (put_code codes j start n) i)
      go (yes e) = rw (e, start_put h, length_put h) new
      go (no e) = rw (start_kept i (omega arith), length_kept i (omega arith)) (old i (omega arith))

  pub placed_more : {s : List ℕ} → Placed s codes j → 2 * j + 2 ≤ length codes → start + n ≤ length s → Placed s (put_code codes j start n) (j + 1)
  placed_more {s} p h l =
      record {
        listed = omega (arith, code_length_lem);
        placed = each_code (λ i a m. a + m ≤ length s) h l p.placed;
      }

-- the plain search, from the last stop down
pub scanning_all : (s codes : List ℕ) (stops : ℕ) (t : List ℕ) (a n : ℕ) → Scanning s codes stops t a n stops
unfolding stop_named
scanning_all s codes stops t a n = record { high = omega arith; rest = refl }

module _ {s codes : List ℕ} {stops : ℕ} {t : List ℕ} {a n k : ℕ} (f : Scanning s codes stops t a n k) where
  pub scanning_here : 0 < k → has_code s codes t a n (k - 1) ≡ true → k - 1 ≡ stop_named s codes stops t a n
  scanning_here l e = rw (f.rest, stop_turn s codes t a n stops k l, e)

  pub scanning_next : 0 < k → has_code s codes t a n (k - 1) ≡ false → Scanning s codes stops t a n (k - 1)
  scanning_next l e = record { high = omega (arith, f.high); rest = f.rest ∙ rw (stop_turn s codes t a n stops k l, e) }

  pub scanning_end : k ≤ 0 → stops ≡ stop_named s codes stops t a n
  unfolding stop_in
  scanning_end h =
      let e : k ≡ 0 = omega arith in
      rw (f.rest, e)

-- the turns of that search
pub ruleset scan_turns = (placed_fewer, scanning_all, scanning_here, scanning_next, scanning_end)

-- where no stop is named, no stop has the code
none_in : (s codes t : List ℕ) (a n none k : ℕ) → k ≤ none → none ≤ stop_in s codes t a n none k → (i : ℕ) → i < k → has_code s codes t a n i ≡ false
unfolding stop_in
none_in s codes t a n none zero le h i lt = absurd (omega arith)
none_in s codes t a n none (suc k) le h i lt = go (λ g l. none_in s codes t a n none k (omega arith) g i l) (has_code s codes t a n k) refl h (ℕ_discrete i k)
  where
    go : (none ≤ stop_in s codes t a n none k → i < k → has_code s codes t a n i ≡ false) →
        (b : Bool) → has_code s codes t a n k ≡ b → none ≤ cond b k (stop_in s codes t a n none k) → Dec (i ≡ k) → has_code s codes t a n i ≡ false
    go below true e g d = absurd (omega arith)
    go below false e g (yes d) = rw d e
    go below false e g (no d) = below g (omega arith)

pub named_none : (s codes : List ℕ) (stops : ℕ) (t : List ℕ) (a n : ℕ) → stops ≤ stop_named s codes stops t a n →
    (i : ℕ) → i < stops → has_code s codes t a n i ≡ false
unfolding stop_named
named_none s codes stops t a n h i lt = none_in s codes t a n stops stops (omega arith) h i lt

-- a code put in changes no other stop's
pub has_kept : (s codes t : List ℕ) (a m j start n i : ℕ) → i < j → has_code s (put_code codes j start n) t a m i ≡ has_code s codes t a m i
unfolding has_code
has_kept s codes t a m j start n i h = rw (start_kept codes j start n i h, length_kept codes j start n i h)

-- where no stop has the code, none is named; where one has it and no later stop, that one is
pub none_named : (s codes t : List ℕ) (a n none k : ℕ) → ((i : ℕ) → i < k → has_code s codes t a n i ≡ false) → none ≡ stop_in s codes t a n none k
unfolding stop_in
none_named s codes t a n none zero h = refl
none_named s codes t a n none (suc k) h = rw (h k (omega arith)) (none_named s codes t a n none k (λ i l. h i (omega arith)))

pub one_named : (s codes t : List ℕ) (a n none k j : ℕ) → j < k → has_code s codes t a n j ≡ true →
    ((i : ℕ) → j < i → i < k → has_code s codes t a n i ≡ false) →
    j ≡ stop_in s codes t a n none k
unfolding stop_in
one_named s codes t a n none zero j l e h = absurd (omega arith)
one_named s codes t a n none (suc k) j l e h = go (λ d. one_named s codes t a n none k j d e (λ i f g. h i f (omega arith))) (ℕ_discrete j k)
  where
    go : (j < k → j ≡ stop_in s codes t a n none k) → Dec (j ≡ k) → j ≡ cond (has_code s codes t a n k) k (stop_in s codes t a n none k)
    go below (yes d) = rw (← d, e)
    go below (no d) = rw (h k (omega arith) (omega arith)) (below (omega arith))

-- a stop with the code is as long and has the same bytes; two stops with one code have each other's
pub has_told : (s codes t : List ℕ) (a n j : ℕ) → has_code s codes t a n j ≡ true → (code_length codes j ≡ n) × (same_b s (code_start codes j) t a n ≡ true)
unfolding has_code
has_told s codes t a n j e =
    let z = stays (eqb (code_length codes j) n) e (λ x. cc) in
    (eqb-true (code_length codes j) n z.0, z.1)

has_made : (s codes t : List ℕ) (a n i : ℕ) → code_length codes i ≡ n → same_b s (code_start codes i) t a n ≡ true → has_code s codes t a n i ≡ true
unfolding has_code
has_made s codes t a n i l e = rw (eq-eqb (code_length codes i) n l, e)

pub has_both : (s codes t : List ℕ) (a n i j : ℕ) → has_code s codes t a n i ≡ true → has_code s codes t a n j ≡ true →
    has_code s codes s (code_start codes j) (code_length codes j) i ≡ true
has_both s codes t a n i j f g =
    let x = has_told s codes t a n i f in
    let y = has_told s codes t a n j g in
    rw y.0
    (has_made s codes s (code_start codes j) n i x.0
    (same_of s (code_start codes i) s (code_start codes j) n
    (λ k l. same_at s (code_start codes i) t a n x.1 k l ∙ sym (same_at s (code_start codes j) t a n y.1 k l))))
