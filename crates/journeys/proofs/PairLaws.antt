-- Sets of time pairs: what lies within two minutes, and undominated pairs.
use Rattle.std.specs.Prelude.{◌≡◌, ◌↔◌, ℕ, suc, pred, ◌≤◌, ◌<◌}
use Rattle.std.proofs.Common.{subst₂, le_refl, arith}
use Rattle.std.proofs.Math.Decide.{dec_le, dec_lt}
use Rattle.loops.specs.DecideLaws.{least, least_le, greatest, greatest_ge}
use Rattle.loops.specs.Decide.{Least, Greatest}
use Rattle.journeys.specs.Journey.{Undominated, Within}

pub itself : {P : ℕ → ℕ → Type 0} {d a : ℕ} → P d a → Within P d a
itself {d = d} {a} p = record { dep = d; arr = a; has = p; after = le_refl d; before = le_refl a }

pub wider : {P : ℕ → ℕ → Type 0} {t e t' e' : ℕ} → Within P t e → t' ≤ t → e ≤ e' → Within P t' e'
wider w h k = record { dep = w.dep; arr = w.arr; has = w.has; after = omega (arith, w.after); before = omega (arith, w.before) }

-- what lies within an undominated pair is that very pair
pub same_pair : {P : ℕ → ℕ → Type 0} {d a e b : ℕ} → Undominated P d a → P e b → d ≤ e → b ≤ a → (e ≡ d) × (b ≡ a)
same_pair {d = d} {a} {e} {b} U j h k = go (dec_lt d e) (dec_lt b a)
  where
    go : Dec (d < e) → Dec (b < a) → (e ≡ d) × (b ≡ a)
    go (yes l) m = absurd (U.no_later e b j l k)
    go (no n) (yes l) = absurd (U.no_sooner e b j h l)
    go (no n) (no m) = omega arith

-- minutes s and e such that something lies within them, nothing within less: an undominated pair
pub tight : (P : ℕ → ℕ → Type 0) {s e : ℕ} → Within P s e → ((t b : ℕ) → Within P t b → s ≤ t → b ≤ e → (t ≤ s) × (e ≤ b)) → Undominated P s e
tight P {s} {e} w f = record {
  has = subst₂ P (omega (arith, w.after, same)) (omega (arith, w.before, same)) w.has;
  no_later = λ t b p h k. omega (arith, f t b (itself p) (omega arith) k);
  no_sooner = λ t b p h k. omega (arith, f t b (itself p) h (omega arith));
}
  where
    same : (w.dep ≤ s) × (e ≤ w.arr)
    same = f w.dep w.arr (itself w.has) w.after w.before

-- undominated, by three questions of what lies within
pub undominated_iff : (P : ℕ → ℕ → Type 0) → ((d a : ℕ) → P d a → d < a) → (d a : ℕ) →
    Undominated P d a ↔ (Within P d a × ¬ (Within P (suc d) a) × ¬ (Within P d (pred a)))
undominated_iff P later d a = (to, back)
  where
    to : Undominated P d a → Within P d a × ¬ (Within P (suc d) a) × ¬ (Within P d (pred a))
    to U = (
      itself U.has,
      (λ w. U.no_later w.dep w.arr w.has w.after w.before),
      (λ w. U.no_sooner w.dep w.arr w.has w.after (omega (arith, w.before, later w.dep w.arr w.has))),
    )

    back : Within P d a × ¬ (Within P (suc d) a) × ¬ (Within P d (pred a)) → Undominated P d a
    back s = tight P s.0 narrow
      where
        narrow : (t b : ℕ) → Within P t b → d ≤ t → b ≤ a → (t ≤ d) × (a ≤ b)
        narrow t b w h k = go (dec_le t d) (dec_le a b)
          where
            go : Dec (t ≤ d) → Dec (a ≤ b) → (t ≤ d) × (a ≤ b)
            go (no x) y = absurd (s.1 (wider w (omega arith) k))
            go (yes x) (no y) = absurd (s.2 (wider w h (omega arith)))
            go (yes x) (yes y) = (x, y)

-- the earliest arrival from t on, and the latest departure for it
pub early_tight : {P : ℕ → ℕ → Type 0} {t : ℕ} (l : Least (Within P t)) (g : Greatest (λ s. Within P s l.it)) → Undominated P g.it l.it
early_tight {P} {t} l g = tight P g.has (λ s b w h k. (greatest_ge g s (wider w (le_refl s) k), least_le l b (wider w (omega (arith, from)) (le_refl b))))
  where
    from : t ≤ g.it
    from = greatest_ge g t l.has

-- pairs that take time, and of which it is decided what lies within
module _ (P : ℕ → ℕ → Type 0) (later : (d a : ℕ) → P d a → d < a) (dec : (t e : ℕ) → Dec (Within P t e)) where
  nothing_past : (e k : ℕ) → e ≤ k → ¬ (Within P k e)
  nothing_past e k h w = omega (arith, w.after, w.before, later w.dep w.arr w.has)

  pub last_for : (t e : ℕ) → Within P t e → Greatest (λ s. Within P s e)
  last_for t e w = greatest (λ s. Within P s e) (λ s. dec s e) e (nothing_past e) t w

  pub first_from : (t e : ℕ) → Within P t e → Least (Within P t)
  first_from t e w = least (Within P t) (dec t) e w

  -- every pair is weakly dominated by an undominated one
  pub refine : (d a : ℕ) → P d a → Within (Undominated P) d a
  refine d a p = go (first_from d a (itself p))
    where
      make : (l : Least (Within P d)) → Greatest (λ s. Within P s l.it) → Within (Undominated P) d a
      make l g = record { dep = g.it; arr = l.it; has = early_tight l g; after = greatest_ge g d l.has; before = least_le l a (itself p) }

      go : Least (Within P d) → Within (Undominated P) d a
      go l = make l (last_for d l.it l.has)
