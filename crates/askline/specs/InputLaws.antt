-- Laws of the input: the turns of the loop that seeks the timetable's end, and where a line stands.
use Rattle.std.specs.Prelude.{ℕ, zero, suc, ◌+◌, ◌-◌, ◌≤◌, ◌<◌, ◌≡◌, refl, List, Bool, true, false, cond, length, leb}
use Rattle.std.proofs.Common.{◌∙◌, arith, le-leb, leb-false}
use Rattle.std.proofs.lemmas.Bool.{lt-leb}
use Rattle.loops.specs.ChainLaws.{past}
use Rattle.words.specs.Words.{lf, seek, is_word_b}
use Rattle.words.specs.WordsLaws.{seek_end, seek_low}
use Rattle.lines.specs.Lines.{end_word}
use Rattle.askline.specs.Input.{end_from, timetable_end, piece_at}
use Rattle.askline.specs.Ending.{Ending}
use Rattle.askline.specs.declared.Piece.TheVariants.{Line}

-- one line, where f lasts for the bytes that are left
opened : (f : ℕ) (t : List ℕ) (a : ℕ) → a ≤ length t → length t ≤ f + a →
    end_from f t a ≡
    cond (leb (length t) (seek lf t a (length t))) (length t)
    (cond (is_word_b t a (seek lf t a (length t)) end_word) (seek lf t a (length t) + 1) (end_from (f - 1) t (seek lf t a (length t) + 1)))
unfolding end_from
opened zero t a h l = rw (seek_end lf t a (length t) (omega arith), le-leb (length t) a (omega arith))
opened (suc f) t a h l = let e : suc f - 1 ≡ f = omega arith in rw e

pub ending_none : (t : List ℕ) → Ending t 0
unfolding timetable_end
ending_none t = record { fuel = length t; rest = refl; within = omega arith; enough = omega arith }

module _ {t : List ℕ} {a : ℕ} (r : Ending t a) (e : ℕ) (at : e ≡ seek lf t a (length t)) where
  step : timetable_end t ≡ cond (leb (length t) e) (length t) (cond (is_word_b t a e end_word) (e + 1) (end_from (r.fuel - 1) t (e + 1)))
  step = rw at (r.rest ∙ opened r.fuel t a r.within r.enough)

  pub ending_out : length t ≤ e → timetable_end t ≡ length t
  ending_out h = step ∙ rw (le-leb _ _ h)

  module _ (h : e < length t) where
    pub ending_here : is_word_b t a e end_word ≡ true → timetable_end t ≡ e + 1
    ending_here w = step ∙ rw (lt-leb _ _ h, w)

    pub ending_more : is_word_b t a e end_word ≡ false → Ending t (e + 1)
    ending_more w =
        record {
          fuel = r.fuel - 1;
          rest = step ∙ rw (lt-leb _ _ h, w);
          within = omega arith;
          enough = omega (arith, r.enough, r.within, at, seek_low lf t a (length t));
        }

-- what the turns of the loop are proved by
pub ruleset ending_turns = (ending_none, ending_out, ending_here, ending_more)

-- the timetable is within the input
end_within : (f : ℕ) (t : List ℕ) (a : ℕ) → end_from f t a ≤ length t
unfolding end_from
end_within zero t a = omega arith
end_within (suc f) t a =
    let e : ℕ = seek lf t a (length t) in
    go (leb (length t) e) (leb-false (length t) e) (is_word_b t a e end_word) (end_within f t (e + 1))
  where
    go : (x : Bool) → (x ≡ false → seek lf t a (length t) < length t) → (y : Bool) → end_from f t (seek lf t a (length t) + 1) ≤ length t →
        cond x (length t) (cond y (seek lf t a (length t) + 1) (end_from f t (seek lf t a (length t) + 1))) ≤ length t
    go true p y h = omega arith
    go false p true h = omega (arith, p refl)
    go false p false h = h

pub timetable_within : (t : List ℕ) → timetable_end t ≤ length t
unfolding timetable_end
timetable_within t = end_within (length t) t 0

-- a line begins where it was sought and ends before the input does
pub line_within : (t : List ℕ) (a e : ℕ) → piece_at t a ≡ Line e → (a ≤ e) × (e < length t)
unfolding piece_at
line_within t a e h =
    let z₁ = past (leb (length t) a) h (λ x. cc) in
    let z₂ = past (leb (length t) (seek lf t a (length t))) z₁.1 (λ x. cc) in
    let g = z₂.1 in
    let same : seek lf t a (length t) ≡ e = cc in
    let lt : seek lf t a (length t) < length t = leb-false (length t) (seek lf t a (length t)) z₂.0 in
    (omega (arith, seek_low lf t a (length t)), omega arith)
