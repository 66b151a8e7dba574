-- Two rising rows with the same members are one row.
use Rattle.std.specs.Prelude.{ℕ, zero, suc, ◌≤◌, ◌<◌, ◌≡◌, refl}
use Rattle.std.proofs.Common.{sym, subst, subst₂, ◌∙◌, arith}
use Rattle.std.proofs.Math.Decide.{dec_lt}
use Rattle.loops.specs.Rows.{Rises, Among}

module _ {A : Type 0} (R : A → A → Type 0) (irr : (x : A) → ¬ (R x x)) (trans : (x y z : A) → R x y → R y z → R x z) where
  module _ (f g : ℕ → A) (m n : ℕ) (rf : Rises R f m) (rg : Rises R g n) (fg : (i : ℕ) → i < m → Among g n (f i)) (gf : (i : ℕ) → i < n → Among f m (g i)) where
    step : (i : ℕ) → i < m → ((j : ℕ) → j < i → (j < n) × (f j ≡ g j)) → (i < n) × (f i ≡ g i)
    step i lt before = go (fg i lt) (dec_lt (fg i lt).0 i) (dec_lt i (fg i lt).0)
      where
        behind : (k : ℕ) → i < k → k < n → g k ≡ f i → (q : ℕ) → q < m → f q ≡ g i → Dec (q < i) → Dec (i < q) → ⊥
        behind k l h e q h' e' (yes b) d = irr (g i) (subst (λ (x : A). R x (g i)) (sym (before q b).1 ∙ e') (rg q i b (omega arith)))
        behind k l h e q h' e' (no b) (yes a) =
            irr (f i) (trans (f i) (f q) (f i) (rf i q a h') (subst₂ R (sym e') e (rg i k l h)))
        behind k l h e q h' e' (no b) (no a) =
            let s : q ≡ i = omega arith in
            irr (f i) (subst₂ R (sym e' ∙ subst (λ (x : ℕ). f q ≡ f x) s refl) e (rg i k l h))

        go : (w : Among g n (f i)) → Dec (w.0 < i) → Dec (i < w.0) → (i < n) × (f i ≡ g i)
        go (k, h, e) (yes b) d = absurd (irr (f i) (subst (λ (x : A). R x (f i)) ((before k b).1 ∙ e) (rf k i b lt)))
        go (k, h, e) (no b) (yes a) = let w = gf i (omega arith) in absurd (behind k a h e w.0 w.1 w.2 (dec_lt w.0 i) (dec_lt i w.0))
        go (k, h, e) (no b) (no a) =
            let s : k ≡ i = omega arith in
            (omega arith, subst (λ (x : ℕ). f i ≡ g x) s (sym e))

    up_to : (t i : ℕ) → i < t → i < m → (i < n) × (f i ≡ g i)
    up_to zero i lt h = absurd (omega arith)
    up_to (suc t) i lt h = step i h (λ j l. up_to t j (omega arith) (omega arith))

    pub row_agrees : (i : ℕ) → i < m → (i < n) × (f i ≡ g i)
    row_agrees i h = up_to (suc i) i (omega arith) h

    pub row_longer : m ≤ n
    row_longer = go m (λ i h. (row_agrees i h).0)
      where
        go : (k : ℕ) → ((i : ℕ) → i < k → i < n) → k ≤ n
        go zero h = omega arith
        go (suc k) h = h k (omega arith)
