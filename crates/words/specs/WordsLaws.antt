-- Laws of the words: the turns of the loops.
use Prim.Native.Nat.{ℕ, zero, suc, ◌+◌, ◌-◌, ◌≤◌, ◌<◌}
use Rattle.std.specs.Prelude.{◌≡◌, List, Bool, true, false, cond, length, get_or, ltb, eqb, Err}
use Rattle.std.proofs.Math.Path.{ap}
use Rattle.std.proofs.Common.{◌∙◌, add-zero, eq-eqb, ne_eqb, ltb-false}
use native.Mathlib.Omega.{arith}
use Rattle.loops.specs.ChainLaws.{past, stays}
use Rattle.kinds.specs.Limits.{most_code}
use Rattle.kinds.specs.Kinds.{is_code_length}
use Rattle.kinds.specs.KindsLaws.{code_most}
use Rattle.words.specs.Words.{space, seek_in, seek, begins_b, is_number, number_at, is_code}
use Rattle.kinds.specs.declared.Reason.{Reason}
use Rattle.kinds.specs.declared.Reason.TheVariants as reason

module _ (x : ℕ) (s : List ℕ) (k e : ℕ) where
  seek_turn : k < e → seek x s k e ≡ cond (eqb (get_or s k 0) x) k (seek x s (k + 1) e)
  unfolding seek seek_in
  seek_turn lt =
      let n : e - k ≡ suc (e - (k + 1)) = omega arith in
      ap (λ (m : ℕ). seek_in x s k m) n

  pub seek_here : k < e → get_or s k 0 ≡ x → seek x s k e ≡ k
  seek_here lt h = rw (seek_turn lt, eq-eqb _ _ h)

  pub seek_more : k < e → (get_or s k 0 ≡ x → ⊥) → seek x s k e ≡ seek x s (k + 1) e
  seek_more lt h = rw (seek_turn lt, ne_eqb _ _ h)

  pub seek_end : e ≤ k → seek x s k e ≡ k
  unfolding seek seek_in
  seek_end le =
      let n : e - k ≡ 0 = omega arith in
      ap (λ (m : ℕ). seek_in x s k m) n

-- the turns of the search
pub ruleset seek_turns = (seek_here, seek_more, seek_end)

-- a search passes over m bytes that are not x
pub seek_past : (x : ℕ) (s : List ℕ) (a e m : ℕ) → a + m ≤ e → ((k : ℕ) → k < m → get_or s (a + k) 0 ≡ x → ⊥) → seek x s a e ≡ seek x s (a + m) e
seek_past x s a e zero l h = rw add-zero
seek_past x s a e (suc m) l h =
    let q : a + m + 1 ≡ a + suc m = omega arith in
    seek_past x s a e m (omega arith) (λ k g. h k (omega arith)) ∙
    seek_more x s (a + m) e (omega arith) (h m (omega arith)) ∙ ap (λ (i : ℕ). seek x s i e) q

-- the place is in the stretch, or at its end
seek_in_lem : (x : ℕ) (s : List ℕ) (a n : ℕ) → (a ≤ seek_in x s a n) × (seek_in x s a n ≤ a + n)
unfolding seek_in
seek_in_lem x s a zero = (omega arith, omega arith)
seek_in_lem x s a (suc n) = go (eqb (get_or s a 0) x) (seek_in_lem x s (a + 1) n)
  where
    go : (b : Bool) → (a + 1 ≤ seek_in x s (a + 1) n) × (seek_in x s (a + 1) n ≤ a + 1 + n) →
        (a ≤ cond b a (seek_in x s (a + 1) n)) × (cond b a (seek_in x s (a + 1) n) ≤ a + suc n)
    go true h = (omega arith, omega arith)
    go false h = (omega (arith, h.0), omega (arith, h.1))

pub seek_low : (x : ℕ) (s : List ℕ) (a e : ℕ) → a ≤ seek x s a e
unfolding seek
seek_low x s a e = (seek_in_lem x s a (e - a)).0

pub seek_high : (x : ℕ) (s : List ℕ) (a e : ℕ) → a ≤ e → seek x s a e ≤ e
unfolding seek
seek_high x s a e h = omega (arith, (seek_in_lem x s a (e - a)).1)

-- "any other form is refusal 2", and no other refusal
pub number_bad : (s : List ℕ) (a e : ℕ) (n : Reason) → number_at s a e ≡ Err n → n ≡ reason.LineShape
unfolding number_at
number_bad s a e n h = let f = (past (is_number s a (seek space s a e - a)) h (λ x. cc)).1 in cc

-- a stretch that begins with a word is as long as the word at least
pub begins_long : (s : List ℕ) (a e : ℕ) (w : List ℕ) → begins_b s a e w ≡ true → length w ≤ e - a
unfolding begins_b
begins_long s a e w h =
    ltb-false (e - a) (length w) (past (ltb (e - a) (length w)) h (λ x. cc)).0

-- a code is no longer than a code may be
pub code_short : (s : List ℕ) (a n : ℕ) → is_code s a n ≡ true → n ≤ most_code
unfolding is_code
code_short s a n h = code_most n (stays (is_code_length n) h (λ x. cc)).0
