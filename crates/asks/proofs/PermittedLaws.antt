-- A permitted ask is not refused, and is asked as it is; each refusal 12 to 15 is given exactly for its reason.
use Rattle.std.specs.Prelude.{ℕ, ◌≤◌, ◌<◌, ◌≡◌, ◌↔◌, ◌⊎◌, Err, Ok, Result}
use Rattle.std.proofs.Math.Path.{refl, ap}
use Rattle.std.proofs.Common.{sym, ◌∙◌, inl, inr}
use native.Mathlib.Omega.{arith}
use Rattle.std.proofs.Math.Decide.{ℕ_discrete, dec_lt}
use borrow.Author.Tests.{eq-eqb, ne_eqb, lt-ltb, le-ltb}
use Rattle.kinds.specs.Limits.{last_minute}
use Rattle.kinds.specs.Refusals.{number_of, refusal}
use Rattle.kinds.specs.KindsLaws.{stop_is, stop_bad, minute_is, minute_bad}
use Rattle.asks.specs.declared.Wanted.{Wanted}
use Rattle.asks.specs.declared.Wanted.TheVariants as wanted
use Rattle.asks.specs.declared.Asked.{Asked}
use Rattle.asks.specs.Asks.{if_minutes, minutes_read, ask_read, TwoStops}
use Rattle.asks.specs.Permitted.{criterion_of, InRange, OutOfRange, Crossed, Permitted, AskIs, permitted, no_stop, equal_stops, beyond_range, crossed}
use Rattle.asks.specs.Reasons.{Reasons}
use Rattle.kinds.specs.declared.Reason.TheVariants as reason
use Rattle.kinds.specs.declared.Refusal.{Refusal}

-- ---- the minutes: in range and in order; over the last one; or crossed

minutes_fine : (w : Wanted) → InRange w → ¬ (Crossed w) → minutes_read w ≡ Ok (criterion_of w)
unfolding minutes_read
minutes_fine (wanted.Early t) h c = rw (minute_is t h) refl
minutes_fine (wanted.Late t) h c = rw (minute_is t h) refl
minutes_fine (wanted.Short t t2) h c = let le : t ≤ t2 = ordered (dec_lt t2 t) in rw (minute_is t h.0, minute_is t2 h.1, le-ltb t2 t le) refl
  where
    ordered : Dec (t2 < t) → t ≤ t2
    ordered (yes l) = absurd (c l)
    ordered (no l) = omega arith

minutes_over : (w : Wanted) → OutOfRange w → minutes_read w ≡ Err reason.MinuteHigh
unfolding minutes_read
minutes_over (wanted.Early t) h = rw (minute_bad t h) refl
minutes_over (wanted.Late t) h = rw (minute_bad t h) refl
minutes_over (wanted.Short t t2) (inl h) = rw (minute_bad t h) refl
minutes_over (wanted.Short t t2) (inr h) = go (dec_lt last_minute t)
  where
    go : Dec (last_minute < t) → minutes_read (wanted.Short t t2) ≡ Err reason.MinuteHigh
    go (yes l) = rw (minute_bad t l) refl
    go (no l) = let le : t ≤ last_minute = omega arith in rw (minute_is t le, minute_bad t2 h) refl

minutes_back : (w : Wanted) → InRange w → Crossed w → minutes_read w ≡ Err reason.MinutesCrossed
unfolding minutes_read
minutes_back (wanted.Early t) h c = absurd c
minutes_back (wanted.Late t) h c = absurd c
minutes_back (wanted.Short t t2) h c = rw (minute_is t h.0, minute_is t2 h.1, lt-ltb t2 t c) refl

in_or_out : (w : Wanted) → InRange w ⊎ OutOfRange w
in_or_out (wanted.Early t) = elim (dec_lt last_minute t) [ yes h ↦ inr h | no h ↦ inl (omega arith) ]
in_or_out (wanted.Late t) = elim (dec_lt last_minute t) [ yes h ↦ inr h | no h ↦ inl (omega arith) ]
in_or_out (wanted.Short t t2) = go (dec_lt last_minute t) (dec_lt last_minute t2)
  where
    go : Dec (last_minute < t) → Dec (last_minute < t2) → InRange (wanted.Short t t2) ⊎ OutOfRange (wanted.Short t t2)
    go (yes h) k = inr (inl h)
    go (no h) (yes k) = inr (inr k)
    go (no h) (no k) = inl (omega arith, omega arith)

dec_crossed : (w : Wanted) → Dec (Crossed w)
dec_crossed (wanted.Early t) = no (λ x. x)
dec_crossed (wanted.Late t) = no (λ x. x)
dec_crossed (wanted.Short t t2) = dec_lt t2 t

-- ---- what becomes of an ask

module _ (n from to : ℕ) (w : Wanted) where
  -- two different stops are judged by the minutes
  by_minutes : TwoStops n from to → ask_read n from to w ≡ if_minutes (minutes_read w) (λ c. Ok (record { from = from; to = to; criterion = c }))
  unfolding ask_read
  by_minutes s = rw (stop_is from n s.from_stop, stop_is to n s.to_stop, ne_eqb from to s.apart) refl

  -- "every ask between two different stops, at permitted times" is asked with exactly these stops and this criterion
  pub ask_permitted : Permitted n from to w → ask_read n from to w ≡ Ok (record { from = from; to = to; criterion = criterion_of w })
  ask_permitted p = by_minutes p.stops ∙ rw (minutes_fine w p.in_range p.in_order) refl

  refused_stop : (n ≤ from) ⊎ (n ≤ to) → ask_read n from to w ≡ Err (refusal reason.StopHigh 0)
  unfolding ask_read
  refused_stop (inl h) = rw (stop_bad from n h) refl
  refused_stop (inr h) = go (dec_lt from n)
    where
      go : Dec (from < n) → ask_read n from to w ≡ Err (refusal reason.StopHigh 0)
      go (yes l) = rw (stop_is from n l, stop_bad to n h) refl
      go (no l) = let le : n ≤ from = omega arith in rw (stop_bad from n le) refl

  refused_same : from < n → from ≡ to → ask_read n from to w ≡ Err (refusal reason.SameStop 0)
  unfolding ask_read
  refused_same h e = let l : to < n = omega arith in rw (stop_is from n h, stop_is to n l, eq-eqb from to e) refl

  refused_over : TwoStops n from to → OutOfRange w → ask_read n from to w ≡ Err (refusal reason.MinuteHigh 0)
  refused_over s o = by_minutes s ∙ rw (minutes_over w o) refl

  refused_crossed : TwoStops n from to → InRange w → Crossed w → ask_read n from to w ≡ Err (refusal reason.MinutesCrossed 0)
  refused_crossed s r c = by_minutes s ∙ rw (minutes_back w r c) refl

  -- of any ask
  pub ask_is : AskIs n from to w (ask_read n from to w)
  ask_is = go (dec_lt from n) (dec_lt to n) (ℕ_discrete from to) (in_or_out w) (dec_crossed w)
    where
      apart : TwoStops n from to → InRange w ⊎ OutOfRange w → Dec (Crossed w) → AskIs n from to w (ask_read n from to w)
      apart s (inr o) c = beyond_range s o (refused_over s o)
      apart s (inl r) (yes c) = crossed s r c (refused_crossed s r c)
      apart s (inl r) (no c) = let p : Permitted n from to w = record { stops = s; in_range = r; in_order = c } in permitted p (ask_permitted p)

      go : Dec (from < n) → Dec (to < n) → Dec (from ≡ to) → InRange w ⊎ OutOfRange w → Dec (Crossed w) → AskIs n from to w (ask_read n from to w)
      go (no h) k d r c = let b : (n ≤ from) ⊎ (n ≤ to) = inl (omega arith) in no_stop b (refused_stop b)
      go (yes h) (no k) d r c = let b : (n ≤ from) ⊎ (n ≤ to) = inr (omega arith) in no_stop b (refused_stop b)
      go (yes h) (yes k) (yes e) r c = equal_stops h e (refused_same h e)
      go (yes h) (yes k) (no d) r c = apart (record { from_stop = h; to_stop = k; apart = d }) r c

  -- and only a permitted ask is asked
  pub permitted_ask : (q : Asked) → ask_read n from to w ≡ Ok q → Permitted n from to w × (q ≡ record {
    from = from;
    to = to;
    criterion = criterion_of w;
  })
  permitted_ask q f = go ask_is f
    where
      go : {x : Result Asked Refusal} → AskIs n from to w x → x ≡ Ok q →
          Permitted n from to w × (q ≡ record { from = from; to = to; criterion = criterion_of w })
      go (permitted p e) f = (p, cc)
      go (no_stop h e) f = absurd cc
      go (equal_stops h s e) f = absurd cc
      go (beyond_range s o e) f = absurd cc
      go (crossed s r c e) f = absurd cc

-- ---- each refusal exactly for its reason

number_told : Result Asked Refusal → ℕ
number_told (Ok q) = 0
number_told (Err r) = number_of r.reason

-- a number that is k is no other one
other : {A : Type 0} {k m r : ℕ} → r ≡ k → ¬ (k ≡ m) → r ≡ m → A
other e d f = absurd (d (sym e ∙ f))

module _ (n from to : ℕ) (w : Wanted) where
  reasons : {x : Result Asked Refusal} → AskIs n from to w x → Reasons n from to w (number_told x)
  unfolding number_told
  reasons (permitted p e) =
      let f = ap number_told e in
      record {
        twelve = other f (λ g. omega arith);
        thirteen = other f (λ g. omega arith);
        fourteen = other f (λ g. omega arith);
        fifteen = other f (λ g. omega arith);
      }
  reasons (no_stop h e) =
      let f = ap number_told e in
      record { twelve = λ g. h; thirteen = other f (λ g. omega arith); fourteen = other f (λ g. omega arith); fifteen = other f (λ g. omega arith) }
  reasons (equal_stops h s e) =
      let f = ap number_told e in
      record { twelve = other f (λ g. omega arith); thirteen = λ g. (h, s); fourteen = other f (λ g. omega arith); fifteen = other f (λ g. omega arith) }
  reasons (beyond_range s o e) =
      let f = ap number_told e in
      record { twelve = other f (λ g. omega arith); thirteen = other f (λ g. omega arith); fourteen = λ g. (s, o); fifteen = other f (λ g. omega arith) }
  reasons (crossed s r c e) =
      let f = ap number_told e in
      record { twelve = other f (λ g. omega arith); thirteen = other f (λ g. omega arith); fourteen = other f (λ g. omega arith); fifteen = λ g. (s, r, c) }

  -- 12 "stop not below n"
  pub ask_twelve : (ask_read n from to w ≡ Err (refusal reason.StopHigh 0)) ↔ ((n ≤ from) ⊎ (n ≤ to))
  unfolding number_told
  ask_twelve = (λ f. (reasons (ask_is n from to w)).twelve (ap number_told f), λ h. refused_stop n from to w h)

  -- 13 "same stop twice"
  pub ask_thirteen : (ask_read n from to w ≡ Err (refusal reason.SameStop 0)) ↔ ((from < n) × (from ≡ to))
  unfolding number_told
  ask_thirteen = (λ f. (reasons (ask_is n from to w)).thirteen (ap number_told f), λ h. refused_same n from to w h.0 h.1)

  -- of two different stops 14 "ask minute over 2,879", 15 "t > t2"
  pub ask_fourteen : (ask_read n from to w ≡ Err (refusal reason.MinuteHigh 0)) ↔ (TwoStops n from to × OutOfRange w)
  unfolding number_told
  ask_fourteen = (λ f. (reasons (ask_is n from to w)).fourteen (ap number_told f), λ h. refused_over n from to w h.0 h.1)

  pub ask_fifteen : (ask_read n from to w ≡ Err (refusal reason.MinutesCrossed 0)) ↔ (TwoStops n from to × InRange w × Crossed w)
  unfolding number_told
  ask_fifteen = (λ f. (reasons (ask_is n from to w)).fifteen (ap number_told f), λ h. refused_crossed n from to w h.0 h.1 h.2)
