-- Laws of the criteria: one best at most; a best where any pair fits; and agreement: a part of the pairs that weakly dominates the whole has
-- the whole's best.
use Rattle.std.specs.Prelude.{◌≡◌, ◌⊎◌, ◌↔◌, ℕ, suc, ◌+◌, ◌-◌, ◌≤◌, ◌<◌}
use Rattle.std.proofs.Common.{subst, subst₂, inl, inr, le_refl, arith}
use Rattle.std.proofs.Math.Decide.{dec_le, dec_lt}
use Rattle.loops.specs.DecideLaws.{least, least_le, greatest_ge}
use Rattle.loops.specs.Decide.{any_below, dec_then, dec_map, Least, Greatest}
use Rattle.journeys.specs.declared.Criterion.{Criterion}
use Rattle.journeys.specs.declared.Criterion.TheVariants.{Early, Late, Short}
use Rattle.journeys.specs.Journey.{Undominated, Within}
use Rattle.journeys.specs.Criteria.{Fits, Better, Best, Answer, Nothing}
use Rattle.journeys.proofs.PairLaws.{itself, wider, tight, early_tight, last_for, first_from}
use Rattle.journeys.specs.Paths.{Lasts}

-- the duration: what `Better` says of short is what the paper says of it
pub shorter_is : (d a e b : ℕ) → d ≤ a → e ≤ b → (a + e < b + d) ↔ (a - d < b - e)
shorter_is d a e b h k = (λ x. omega arith, λ x. omega arith)

-- weak dominance keeps fitting
pub fits_over : (c : Criterion) {d a e b : ℕ} → d ≤ e → b ≤ a → Fits c d a → Fits c e b
fits_over (Early t) h k f = omega arith
fits_over (Late t) h k f = omega arith
fits_over (Short t t2) h k f = omega arith

-- ... and keeps being better
pub better_over : (c : Criterion) (d a e b x y : ℕ) → d ≤ e → b ≤ a → Better c d a x y → Better c e b x y
better_over (Early t) d a e b x y h k (inl l) = inl (omega arith)
better_over (Early t) d a e b x y h k (inr l) = elim (dec_lt b y) [ yes m ↦ inl m | no m ↦ inr (omega arith) ]
better_over (Late t) d a e b x y h k (inl l) = inl (omega arith)
better_over (Late t) d a e b x y h k (inr l) = elim (dec_lt x e) [ yes m ↦ inl m | no m ↦ inr (omega arith) ]
better_over (Short t t2) d a e b x y h k (inl l) = inl (omega arith)
better_over (Short t t2) d a e b x y h k (inr l) = elim (dec_lt (b + x) (y + e)) [ yes m ↦ inl m | no m ↦ inr (omega arith) ]

-- of two different pairs one is better: `Better` tells any two apart
pub better_or_same : (c : Criterion) (d a e b : ℕ) → ¬ (Better c d a e b) → ¬ (Better c e b d a) → (d ≡ e) × (a ≡ b)
better_or_same (Early t) d a e b m n = go (dec_lt a b) (dec_lt b a) (dec_lt e d) (dec_lt d e)
  where
    go : Dec (a < b) → Dec (b < a) → Dec (e < d) → Dec (d < e) → (d ≡ e) × (a ≡ b)
    go (yes x) y z w = absurd (m (inl x))
    go (no x) (yes y) z w = absurd (n (inl y))
    go (no x) (no y) (yes z) w = absurd (m (inr (omega arith)))
    go (no x) (no y) (no z) (yes w) = absurd (n (inr (omega arith)))
    go (no x) (no y) (no z) (no w) = omega arith
better_or_same (Late t) d a e b m n = go (dec_lt a b) (dec_lt b a) (dec_lt e d) (dec_lt d e)
  where
    go : Dec (a < b) → Dec (b < a) → Dec (e < d) → Dec (d < e) → (d ≡ e) × (a ≡ b)
    go x y (yes z) w = absurd (m (inl z))
    go x y (no z) (yes w) = absurd (n (inl w))
    go (yes x) y (no z) (no w) = absurd (m (inr (omega arith)))
    go (no x) (yes y) (no z) (no w) = absurd (n (inr (omega arith)))
    go (no x) (no y) (no z) (no w) = omega arith
better_or_same (Short t t2) d a e b m n = go (dec_lt (a + e) (b + d)) (dec_lt (b + d) (a + e)) (dec_lt e d) (dec_lt d e)
  where
    go : Dec (a + e < b + d) → Dec (b + d < a + e) → Dec (e < d) → Dec (d < e) → (d ≡ e) × (a ≡ b)
    go (yes x) y z w = absurd (m (inl x))
    go (no x) (yes y) z w = absurd (n (inl y))
    go (no x) (no y) (yes z) w = absurd (n (inr (omega arith)))
    go (no x) (no y) (no z) (yes w) = absurd (m (inr (omega arith)))
    go (no x) (no y) (no z) (no w) = omega arith

-- no pair is better than itself, nor than one that weakly dominates it
pub never_better : (c : Criterion) (d a e b : ℕ) → d ≤ e → b ≤ a → ¬ (Better c d a e b)
never_better (Early t) d a e b h k (inl l) = omega arith
never_better (Early t) d a e b h k (inr l) = omega arith
never_better (Late t) d a e b h k (inl l) = omega arith
never_better (Late t) d a e b h k (inr l) = omega arith
never_better (Short t t2) d a e b h k (inl l) = omega arith
never_better (Short t t2) d a e b h k (inr l) = omega arith

-- being better carries over
pub better_trans : (c : Criterion) (d a e b f g : ℕ) → Better c d a e b → Better c e b f g → Better c d a f g
better_trans (Early t) d a e b f g (inl x) (inl y) = inl (omega arith)
better_trans (Early t) d a e b f g (inl x) (inr y) = inl (omega arith)
better_trans (Early t) d a e b f g (inr x) (inl y) = inl (omega arith)
better_trans (Early t) d a e b f g (inr x) (inr y) = inr (omega arith)
better_trans (Late t) d a e b f g (inl x) (inl y) = inl (omega arith)
better_trans (Late t) d a e b f g (inl x) (inr y) = inl (omega arith)
better_trans (Late t) d a e b f g (inr x) (inl y) = inl (omega arith)
better_trans (Late t) d a e b f g (inr x) (inr y) = inr (omega arith)
better_trans (Short t t2) d a e b f g (inl x) (inl y) = inl (omega arith)
better_trans (Short t t2) d a e b f g (inl x) (inr y) = inl (omega arith)
better_trans (Short t t2) d a e b f g (inr x) (inl y) = inl (omega arith)
better_trans (Short t t2) d a e b f g (inr x) (inr y) = inr (omega arith)

-- one best at most
pub best_one : {P : ℕ → ℕ → Type 0} (c : Criterion) {d a e b : ℕ} → Best P c d a → Best P c e b → (d ≡ e) × (a ≡ b)
best_one c {d} {a} {e} {b} x y = better_or_same c d a e b (y.top d a x.has x.fits) (x.top e b y.has y.fits)

-- the best, or nothing
pub best_not_nothing : {P : ℕ → ℕ → Type 0} (c : Criterion) {d a : ℕ} → Best P c d a → ¬ (Nothing P c)
best_not_nothing c {d} {a} x n = n d a x.has x.fits

-- agreement (L1): S is part of J, and every pair of J is weakly dominated in S
module _ (S J : ℕ → ℕ → Type 0) (sound : (d a : ℕ) → S d a → J d a) (full : (d a : ℕ) → J d a → Within S d a) (c : Criterion) where
  pub best_up : {d a : ℕ} → Best S c d a → Best J c d a
  best_up {d} {a} x = record { has = sound d a x.has; fits = x.fits; top = top' }
    where
      top' : (e b : ℕ) → J e b → Fits c e b → ¬ (Better c e b d a)
      top' e b j f m =
          let w = full e b j in
          x.top w.dep w.arr w.has (fits_over c w.after w.before f) (better_over c e b w.dep w.arr d a w.after w.before m)

  pub best_down : {d a : ℕ} → Best J c d a → Best S c d a
  best_down {d} {a} x = go (full d a x.has)
    where
      go : Within S d a → Best S c d a
      go w =
          let fits = fits_over c w.after w.before x.fits in
          let same = better_or_same c w.dep w.arr d a (x.top w.dep w.arr (sound w.dep w.arr w.has) fits)
          (never_better c d a w.dep w.arr w.after w.before) in
          record { has = subst₂ S same.0 same.1 w.has; fits = x.fits; top = λ e b s f. x.top e b (sound e b s) f }

  pub best_same : (d a : ℕ) → Best S c d a ↔ Best J c d a
  best_same d a = (best_up, best_down)

  pub nothing_same : Nothing S c ↔ Nothing J c
  nothing_same = (λ n e b j f. let w = full e b j in n w.dep w.arr w.has (fits_over c w.after w.before f), λ n e b s f. n e b (sound e b s) f)

lasts : {P : ℕ → ℕ → Type 0} {t t2 d a : ℕ} → P d a → d < a → t ≤ d → a ≤ t2 → Lasts P t t2 (a - d) d
lasts p l h k = record { low = h; high = omega arith; has = wider (itself p) (omega arith) (omega arith) }

-- pairs that take time, of which it is decided what lies within: there is a best, where any fits
module _ (P : ℕ → ℕ → Type 0) (later : (d a : ℕ) → P d a → d < a) (dec : (t e : ℕ) → Dec (Within P t e)) where
  pub early_best : (t e : ℕ) → Within P t e → Answer P (Early t)
  early_best t e w = go (first_from P later dec t e w)
    where
      make : (l : Least (Within P t)) → Greatest (λ s. Within P s l.it) → Answer P (Early t)
      make l g = record { dep = g.it; arr = l.it; best = record { has = (early_tight l g).has; fits = greatest_ge g t l.has; top = top' } }
        where
          top' : (s b : ℕ) → P s b → t ≤ s → ¬ ((b < l.it) ⊎ ((b ≡ l.it) × (g.it < s)))
          top' s b p h (inl x) = omega (arith, least_le l b (wider (itself p) h (le_refl b)))
          top' s b p h (inr x) = omega (arith, greatest_ge g s (wider (itself p) (le_refl s) (omega arith)))

      go : Least (Within P t) → Answer P (Early t)
      go l = make l (last_for P later dec t l.it l.has)

  pub late_best : (s t : ℕ) → Within P s t → Answer P (Late t)
  late_best s t w = go (last_for P later dec s t w)
    where
      make : (g : Greatest (λ k. Within P k t)) → Least (Within P g.it) → Answer P (Late t)
      make g l = record { dep = g.it; arr = l.it; best = record { has = und.has; fits = low; top = top' } }
        where
          low : l.it ≤ t
          low = least_le l t g.has

          und : Undominated P g.it l.it
          und = tight P l.has (λ k b v h m. (greatest_ge g k (wider v (le_refl k) (omega (arith, low))), least_le l b (wider v h (le_refl b))))

          top' : (k b : ℕ) → P k b → b ≤ t → ¬ ((g.it < k) ⊎ ((k ≡ g.it) × (b < l.it)))
          top' k b p h (inl x) = omega (arith, greatest_ge g k (wider (itself p) (le_refl k) h))
          top' k b p h (inr x) = omega (arith, least_le l b (wider (itself p) (omega arith) (le_refl b)))

      go : Greatest (λ k. Within P k t) → Answer P (Late t)
      go g = make g (first_from P later dec g.it t g.has)

  dec_lasts : (t t2 n s : ℕ) → Dec (Lasts P t t2 n s)
  dec_lasts t t2 n s = dec_map (λ x. record { low = x.0; high = x.1.0; has = x.1.1 }) (λ x. (x.low, (x.high, x.has)))
      (dec_then (dec_le t s) (λ _. dec_then (dec_le (s + n) t2) (λ _. dec s (s + n))))

  -- something lasts at most n
  Lasting : (t t2 n : ℕ) → Type 0
  Lasting t t2 n = (s : ℕ) × (s < suc t2) × Lasts P t t2 n s

  dec_lasting : (t t2 n : ℕ) → Dec (Lasting t t2 n)
  unfolding Lasting
  dec_lasting t t2 n = any_below (Lasts P t t2 n) (suc t2) (λ s _. dec_lasts t t2 n s)

  pub short_best : (t t2 : ℕ) → Within P t t2 → Answer P (Short t t2)
  unfolding Lasting
  short_best t t2 w = go (least (Lasting t t2) (dec_lasting t t2) (w.arr - w.dep) (lasting w.dep w.arr w.has w.after w.before))
    where
      lasting : (d a : ℕ) → P d a → t ≤ d → a ≤ t2 → Lasting t t2 (a - d)
      lasting d a p h k = (d, omega (arith, later d a p), lasts p (later d a p) h k)

      make : (n : Least (Lasting t t2)) → Least (Lasts P t t2 n.it) → Answer P (Short t t2)
      make n s = record { dep = s.it; arr = s.it + n.it; best = record { has = exact s.has; fits = (s.has.low, s.has.high); top = top' } }
        where
          exact : Lasts P t t2 n.it s.it → P s.it (s.it + n.it)
          exact x =
              let v = x.has in
              let l = later v.dep v.arr v.has in
              let m = least_le n (v.arr - v.dep) (lasting v.dep v.arr v.has (omega (arith, v.after, x.low)) (omega (arith, v.before, x.high))) in
              subst₂ P (omega (arith, v.after, v.before)) (omega (arith, v.after, v.before)) v.has

          top' : (e b : ℕ) → P e b → (t ≤ e) × (b ≤ t2) → ¬ ((b + s.it < s.it + n.it + e) ⊎ ((b + s.it ≡ s.it + n.it + e) × (e < s.it)))
          top' e b p h (inl x) = omega (arith, later e b p, least_le n (b - e) (lasting e b p h.0 h.1))
          top' e b p h (inr x) =
              let l = later e b p in
              omega (arith, least_le s e (subst (λ y. Lasts P t t2 y e) (omega arith) (lasts p l h.0 h.1)))

      go : Least (Lasting t t2) → Answer P (Short t t2)
      go n = make n (least (Lasts P t t2 n.it) (dec_lasts t t2 n.it) n.has.0 n.has.2)

  -- by any criterion, where no arrival is past a bound
  pub best_or_nothing : (last : ℕ) → ((d a : ℕ) → P d a → a ≤ last) → (c : Criterion) → Answer P c ⊎ Nothing P c
  best_or_nothing last by (Early t) = go (dec t last)
    where
      go : Dec (Within P t last) → Answer P (Early t) ⊎ Nothing P (Early t)
      go (yes w) = inl (early_best t last w)
      go (no n) = inr (λ d a p f. n (record { dep = d; arr = a; has = p; after = f; before = by d a p }))
  best_or_nothing last by (Late t) = go (dec 0 t)
    where
      go : Dec (Within P 0 t) → Answer P (Late t) ⊎ Nothing P (Late t)
      go (yes w) = inl (late_best 0 t w)
      go (no n) = inr (λ d a p f. n (record { dep = d; arr = a; has = p; after = omega arith; before = f }))
  best_or_nothing last by (Short t t2) = go (dec t t2)
    where
      go : Dec (Within P t t2) → Answer P (Short t t2) ⊎ Nothing P (Short t t2)
      go (yes w) = inl (short_best t t2 w)
      go (no n) = inr (λ d a p f. n (record { dep = d; arr = a; has = p; after = f.0; before = f.1 }))

-- the tables' early, as the gap rule has it: an answer arrives no later than any pair that leaves at or after t
pub early_least : {P : ℕ → ℕ → Type 0} {t : ℕ} (A : Answer P (Early t)) (d a : ℕ) → P d a → t ≤ d → A.arr ≤ a
early_least {P} {t} A d a p h = go (dec_le A.arr a)
  where
    go : Dec (A.arr ≤ a) → A.arr ≤ a
    go (yes x) = x
    go (no x) = absurd (A.best.top d a p h (inl (omega arith)))

pub early_within : {P : ℕ → ℕ → Type 0} {t e : ℕ} (A : Answer P (Early t)) → A.arr ≤ e → Within P t e
early_within A h = record { dep = A.dep; arr = A.arr; has = A.best.has; after = A.best.fits; before = h }
