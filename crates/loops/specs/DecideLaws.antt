-- Deciding by search, with no law of the excluded middle: any, least and greatest number such that.
use Rattle.std.specs.Prelude.{◌≡◌, ◌⊎◌, ℕ, zero, suc, ◌≤◌, ◌<◌}
use Rattle.std.proofs.Common.{subst, inl, inr, arith}
use Rattle.std.proofs.Math.Decide.{ℕ_discrete, dec_le}
use Rattle.loops.specs.Decide.{Least, Greatest}

pub least_below : (P : ℕ → Type 0) (n : ℕ) → ((i : ℕ) → i < n → Dec (P i)) → ((l : Least P) × (l.it < n)) ⊎ ((i : ℕ) → i < n → ¬ (P i))
least_below P zero dec = inr (λ i h. omega arith)
least_below P (suc n) dec = step (least_below P n (λ i h. dec i (omega arith))) (dec n (omega arith))
  where
    step : ((l : Least P) × (l.it < n)) ⊎ ((i : ℕ) → i < n → ¬ (P i)) → Dec (P n) → ((l : Least P) × (l.it < suc n)) ⊎ ((i : ℕ) → i < suc n → ¬ (P i))
    step (inl l) d = inl (l.0, omega (arith, l.1))
    step (inr f) (yes p) = inl (record { it = n; has = p; none_before = f }, omega arith)
    step (inr f) (no q) = inr (λ i h p. elim (ℕ_discrete i n) [ yes e ↦ q (subst P e p) | no e ↦ f i (omega arith) p ])

pub least : (P : ℕ → Type 0) → ((i : ℕ) → Dec (P i)) → (n : ℕ) → P n → Least P
least P dec n p = elim (least_below P (suc n) (λ i h. dec i)) [ inl l ↦ l.0 | inr f ↦ absurd (f n (omega arith) p) ]

pub least_le : {P : ℕ → Type 0} (l : Least P) (n : ℕ) → P n → l.it ≤ n
least_le l n p = elim (dec_le l.it n) [ yes h ↦ h | no h ↦ absurd (l.none_before n (omega arith) p) ]

pub least_one : {P : ℕ → Type 0} (l m : Least P) → l.it ≡ m.it
least_one l m = omega (arith, least_le l m.it m.has, least_le m l.it l.has)

pub greatest : (P : ℕ → Type 0) → ((i : ℕ) → Dec (P i)) → (b : ℕ) → ((k : ℕ) → b ≤ k → ¬ (P k)) → (n : ℕ) → P n → Greatest P
greatest P dec zero top n p = absurd (top n (omega arith) p)
greatest P dec (suc b) top n p = step (dec b) (λ top'. greatest P dec b top' n p)
  where
    down : ¬ (P b) → (k : ℕ) → b ≤ k → ¬ (P k)
    down q k h r = elim (ℕ_discrete k b) [ yes e ↦ q (subst P e r) | no e ↦ top k (omega arith) r ]

    step : Dec (P b) → (((k : ℕ) → b ≤ k → ¬ (P k)) → Greatest P) → Greatest P
    step (yes q) rec = record { it = b; has = q; none_after = λ k h. top k h }
    step (no q) rec = rec (down q)

pub greatest_ge : {P : ℕ → Type 0} (g : Greatest P) (n : ℕ) → P n → n ≤ g.it
greatest_ge g n p = elim (dec_le n g.it) [ yes h ↦ h | no h ↦ absurd (g.none_after n (omega arith) p) ]

pub dec_not : {A : Type 0} → Dec A → Dec (¬ A)
dec_not (yes a) = no (λ n. n a)
dec_not (no n) = yes n
