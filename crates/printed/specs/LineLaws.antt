-- Every line has bytes; and a "no" line tells its number: no other number has that line, and no "at" line begins so.
use Rattle.std.specs.Prelude.{ℕ, ◌^◌, ◌<◌, ◌≡◌, List, [], ◌∷◌, ◌++◌, ◌≢◌, length, get_or, take, drop}
use Rattle.std.proofs.Common.{sym, ap, ap₂, ◌∙◌, arith, length-append}
use Rattle.std.proofs.Math.Seq.{take-append_seam}
use Rattle.kinds.specs.declared.Code.{Code}
use Rattle.words.specs.Words.{lf, value_of}
use Rattle.printed.specs.Printed.{most_digits, decimal, at_line, ride_line, no_line, no_place_line}
use Rattle.printed.specs.ReadBackLaws.{is_decimal}

pub at_some : (dep arr rides : ℕ) → 0 < length (at_line dep arr rides)
unfolding at_line
at_some dep arr rides = omega arith

pub ride_some : (s : List ℕ) (from to : Code) (dep arr trip : ℕ) → 0 < length (ride_line s from to dep arr trip)
unfolding ride_line
ride_some s from to dep arr trip = omega arith

pub no_some : (number : ℕ) → 0 < length (no_line number)
unfolding no_line
no_some number = omega arith

pub no_place_some : (number place : ℕ) → 0 < length (no_place_line number place)
unfolding no_place_line
no_place_some number place = omega arith

pub no_one : (m n : ℕ) → m < 10 ^ most_digits → n < 10 ^ most_digits → no_line m ≡ no_line n → m ≡ n
unfolding no_line
no_one m n hm hn e =
    let end : List ℕ = lf ∷ [] in
    let f : decimal m ++ end ≡ decimal n ++ end = ap (drop 3) e in
    let long : length (decimal m) ≡ length (decimal n) = omega (arith, ap length f, length-append (decimal m) end, length-append (decimal n) end) in
    let same : decimal m ≡ decimal n = sym (take-append_seam (decimal m) end) ∙ ap₂ take long f ∙ take-append_seam (decimal n) end in
    sym (is_decimal m hm).value ∙ ap (λ (l : List ℕ). value_of l 0 (length l)) same ∙ (is_decimal n hn).value

pub at_not_no : (dep arr rides : ℕ) (xs : List ℕ) (n : ℕ) → at_line dep arr rides ++ xs ≢ no_line n
unfolding at_line no_line
at_not_no dep arr rides xs n e = omega (arith, ap (λ (l : List ℕ). get_or l 0 0) e)
