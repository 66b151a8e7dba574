-- Deciding by search, with no law of the excluded middle.
use Rattle.std.specs.Prelude.{◌≡◌, refl, Bool, true, false, ◌⊎◌, ℕ, zero, suc, ◌<◌}
use Rattle.std.proofs.Common.{subst, inl, inr, arith}
use Rattle.std.proofs.Math.Decide.{ℕ_discrete}

-- is there an i below n?
unfoldable pub any_below : (P : ℕ → Type 0) (n : ℕ) → ((i : ℕ) → i < n → Dec (P i)) → Dec ((i : ℕ) × (i < n) × P i)
any_below P zero dec = no (λ s. omega (arith, s.1))
any_below P (suc n) dec = pick (dec n (omega arith)) (any_below P n (λ i h. dec i (omega arith)))
  where
    top : (i : ℕ) → i < suc n → P i → ¬ (P n) → i < n
    top i h p q = elim (ℕ_discrete i n) [ yes e ↦ absurd (q (subst P e p)) | no e ↦ omega arith ]

    pick : Dec (P n) → Dec ((i : ℕ) × (i < n) × P i) → Dec ((i : ℕ) × (i < suc n) × P i)
    pick (yes p) e = yes (n, omega arith, p)
    pick (no q) (yes s) = yes (s.0, omega (arith, s.1), s.2)
    pick (no q) (no f) = no (λ s. f (s.0, top s.0 s.1 s.2 q, s.2))

-- the least number with P
pub record Least (P : ℕ → Type 0) : Type 0 where
  pub it : ℕ
  pub has : P it
  pub none_before : (k : ℕ) → k < it → ¬ (P k)

-- the greatest number with P, where nothing at or after b has P
pub record Greatest (P : ℕ → Type 0) : Type 0 where
  pub it : ℕ
  pub has : P it
  pub none_after : (k : ℕ) → it < k → ¬ (P k)

-- deciding a pair, the second under the first; a choice; what is neither more nor less; what is not
unfoldable pub dec_then : {P Q : Type 0} → Dec P → (P → Dec Q) → Dec (P × Q)
dec_then {P} {Q} (yes p) f = go (f p)
  where
    go : Dec Q → Dec (P × Q)
    go (yes q) = yes (p, q)
    go (no n) = no (λ s. n s.1)
dec_then (no n) f = no (λ s. n s.0)

unfoldable pub dec_or : {P Q : Type 0} → Dec P → Dec Q → Dec (P ⊎ Q)
dec_or (yes p) e = yes (inl p)
dec_or (no n) (yes q) = yes (inr q)
dec_or {P} {Q} (no n) (no m) = no neither
  where
    neither : P ⊎ Q → ⊥
    neither (inl p) = n p
    neither (inr q) = m q

unfoldable pub dec_map : {A B : Type 0} → (A → B) → (B → A) → Dec A → Dec B
dec_map f g (yes a) = yes (f a)
dec_map f g (no n) = no (λ b. n (g b))

-- whether a test passed
unfoldable pub dec_true : (b : Bool) → Dec (b ≡ true)
dec_true true = yes refl
dec_true false = no (λ e. cc)
