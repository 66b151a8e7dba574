-- What is known of an ask line that was read.
use Rattle.std.specs.Prelude.{ℕ, ◌+◌, ◌≤◌, ◌<◌, ◌≡◌, refl, List, Bool, true, false, cond, length, ltb, leb, Err, Ok, Result}
use Rattle.std.proofs.Common.{inl, inr, arith, leb-false}
use Rattle.loops.specs.ChainLaws.{past, either}
use Rattle.words.specs.Words.{space, seek, begins_b, number_at}
use Rattle.words.specs.WordsLaws.{seek_low, number_bad}
use Rattle.words.specs.declared.Number.{Number}
use Rattle.lines.specs.declared.Field.{Field}
use Rattle.asks.specs.declared.Wanted.{Wanted}
use Rattle.asks.specs.declared.Wanted.TheVariants as wanted
use Rattle.askline.specs.AskLine.{ended, last_number, lastly, firstly, short_at, minutes_at, shaped, shape_at, Ill}
use Rattle.askline.specs.AskLine.{early_word, late_word, short_word, shape_of, named_by, ask_of, ask_line}
use Rattle.askline.specs.Shapes.{ShapeWithin, ReadAs}
use Rattle.askline.specs.declared.Word.{Word}
use Rattle.askline.specs.declared.Word.TheVariants.{Early, Late, Short}
use Rattle.askline.specs.declared.Shape.{Shape}
use Rattle.kinds.specs.declared.Reason.TheVariants as reason
use Rattle.kinds.specs.declared.Reason.{Reason}

shaped_good : (from to : Field) (x : Result Wanted Reason) (f : Shape) → shaped from to x ≡ Ok f → (f.from ≡ from) × (f.to ≡ to)
shaped_good from to (Ok w) f h = (cc, cc)
shaped_good from to (Err n) f h = cc

at_within : (word : Word) (t : List ℕ) (a e : ℕ) (f : Shape) → shape_at word t a e ≡ Ok f → e ≤ length t → ShapeWithin t f
unfolding shape_at
at_within word t a e f h high =
    let first : ℕ = seek space t a e in
    let second : ℕ = seek space t (first + 1) e in
    let z₁ = past (leb e first) h (λ x. cc) in
    let z₂ = past (leb e second) z₁.1 (λ x. cc) in
    let g = shaped_good (record { at = a; end = first }) (record { at = first + 1; end = second }) (minutes_at word t (second + 1) e) f z₂.1 in
    let before : first < e = leb-false e first z₁.0 in
    let before₂ : second < e = leb-false e second z₂.0 in
    rw (g.0, g.1)
    (record {
      from_low = seek_low space t a e;
      from_high = omega arith;
      to_low = seek_low space t (first + 1) e;
      to_high = omega arith;
    })

pub shape_within : (t : List ℕ) (a e : ℕ) (f : Shape) → shape_of t a e ≡ Ok f → e ≤ length t → ShapeWithin t f
unfolding shape_of
shape_within t a e f h high =
    elim_test (begins_b t a e early_word) h (at_within Early t (a + length early_word) e f)
    (λ g₁. elim_test (begins_b t a e late_word) g₁ (at_within Late t (a + length late_word) e f)
    (λ g₂. elim_test (begins_b t a e short_word) g₂ (at_within Short t (a + length short_word) e f)
    (λ g₃. cc)))
  where
    elim_test : (b : Bool) {x y : Result Shape Reason} → cond b x y ≡ Ok f → (x ≡ Ok f → e ≤ length t → ShapeWithin t f) →
        (y ≡ Ok f → ShapeWithin t f) → ShapeWithin t f
    elim_test true g yes-it no-it = yes-it g high
    elim_test false g yes-it no-it = no-it g

-- a shape is refused by 2 only: each number is, and each test
module _ (t : List ℕ) (a e : ℕ) where
  number_ill : Ill (number_at t a e)
  number_ill = go (number_at t a e) refl
    where
      go : (x : Result Number Reason) → number_at t a e ≡ x → Ill x
      go (Ok x) h = tt
      go (Err n) h = number_bad t a e n h

  last_ill : Ill (last_number t a e)
  unfolding last_number
  last_ill = go (number_at t a e) number_ill
    where
      go : (x : Result Number Reason) → Ill x → Ill (ended e x)
      go (Ok x) h = either Ill (ltb x.end e) refl tt
      go (Err n) h = h

lastly_ill : (x : Result ℕ Reason) (go : ℕ → Wanted) → Ill x → Ill (lastly x (λ m. Ok (go m)))
lastly_ill (Ok m) go h = tt
lastly_ill (Err n) go h = h

short_ill : (t : List ℕ) (a e : ℕ) → Ill (short_at t a e)
unfolding short_at
short_ill t a e = go (number_at t a e) (number_ill t a e)
  where
    go : (x : Result Number Reason) → Ill x → Ill (firstly e x (λ x. lastly (last_number t (x.end + 1) e) (λ t2. Ok (wanted.Short x.value t2))))
    go (Ok x) h = either Ill (leb e x.end) refl (lastly_ill (last_number t (x.end + 1) e) (λ t2. wanted.Short x.value t2) (last_ill t (x.end + 1) e))
    go (Err n) h = h

minutes_ill : (word : Word) (t : List ℕ) (a e : ℕ) → Ill (minutes_at word t a e)
unfolding minutes_at
minutes_ill Early t a e = lastly_ill (last_number t a e) (λ m. wanted.Early m) (last_ill t a e)
minutes_ill Late t a e = lastly_ill (last_number t a e) (λ m. wanted.Late m) (last_ill t a e)
minutes_ill Short t a e = short_ill t a e

at_ill : (word : Word) (t : List ℕ) (a e : ℕ) → Ill (shape_at word t a e)
unfolding shape_at
at_ill word t a e =
    let first : ℕ = seek space t a e in
    let second : ℕ = seek space t (first + 1) e in
    either Ill (leb e first) refl
    (either Ill (leb e second) refl
    (go (record { at = a; end = first }) (record { at = first + 1; end = second }) (minutes_at word t (second + 1) e) (minutes_ill word t (second + 1) e)))
  where
    go : (from to : Field) (x : Result Wanted Reason) → Ill x → Ill (shaped from to x)
    go from to (Ok w) h = tt
    go from to (Err n) h = h

pub shape_ill : (t : List ℕ) (a e : ℕ) → Ill (shape_of t a e)
unfolding shape_of
shape_ill t a e =
    either Ill (begins_b t a e early_word) (at_ill Early t (a + length early_word) e)
    (either Ill (begins_b t a e late_word) (at_ill Late t (a + length late_word) e)
    (either Ill (begins_b t a e short_word) (at_ill Short t (a + length short_word) e) refl))

pub line_read : (s codes : List ℕ) (stops : ℕ) (t : List ℕ) (a e : ℕ) → ReadAs stops (ask_line s codes stops t a e)
unfolding ask_line
line_read s codes stops t a e = from_shape (shape_of t a e) (shape_ill t a e)
  where
    from_stops : (from to : ℕ) (w : Wanted) (b c : Bool) → (b ≡ false → from < stops) → (c ≡ false → to < stops) →
        ReadAs stops (cond b (Err reason.StopUnknown) (cond c (Err reason.StopUnknown) (Ok (record { from = from; to = to; wanted = w }))))
    from_stops from to w true c f g = inr refl
    from_stops from to w false true f g = inr refl
    from_stops from to w false false f g = (f refl, g refl)

    from_shape : (x : Result Shape Reason) → Ill x → ReadAs stops (ask_of s codes stops t x)
    from_shape (Err n) h = inl h
    from_shape (Ok f) h =
        let from : ℕ = named_by s codes stops t f.from in
        let to : ℕ = named_by s codes stops t f.to in
        from_stops from to f.wanted (leb stops from) (leb stops to) (leb-false stops from) (leb-false stops to)
