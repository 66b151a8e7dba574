-- Laws of what was written: one piece after the other, and what the buffer then holds.
use Rattle.std.specs.Prelude.{ℕ, suc, ◌-◌, ◌+◌, ◌/◌, ◌%◌, ◌^◌, ◌≤◌, ◌<◌, ◌≡◌, refl, List, [], ◌∷◌, ◌++◌, length, get_or, take, drop, set}
use Rattle.std.proofs.Common.{ap, sym, ◌∙◌, arith, zero-add, add-one, length-append, length-drop, length-set, take_all, get_or-take, get_or-drop}
use Rattle.std.proofs.Common.{length-take-le, ext_get_or}
use Rattle.loops.specs.Put.{put_from}
use Rattle.loops.specs.PutLaws.{put_length, put_append, put_at}
use Rattle.printed.specs.Printed.{digit, most_digits, decimal}
use Rattle.printed.specs.DecimalLaws.{decimal_small, decimal_more, decimal_tenth, decimal-length}
use Rattle.printed.specs.Wrote.{Wrote}
use Rattle.std.specs.List.{between}
use borrow.Rule.Slice.PartMut.{put_mid}
use Rattle.std.proofs.lemmas.List.Edits.{sets, sets-eq}
use Rattle.std.proofs.lemmas.Slice.{put_mid-paste}

module _ {l : List ℕ} {i : ℕ} {xs m : List ℕ} {j : ℕ} (w : Wrote l i xs m j) where
  pub wrote_length : length m ≡ length l
  wrote_length = rw w.is (put_length l i xs)

  -- one piece after the other
  pub wrote_then : {ys n : List ℕ} {k : ℕ} → Wrote m j ys n k → Wrote l i (xs ++ ys) n k
  wrote_then {ys} {n} {k} v =
      record {
        is = v.is ∙ rw (w.is, w.end) (put_append xs l i ys);
        end = rw length-append (omega (arith, w.end, v.end));
      }

-- no second result: what was in the buffer and what is written determine what it holds, and the place after
pub wrote_one : {l : List ℕ} {i : ℕ} {xs m n : List ℕ} {j k : ℕ} → Wrote l i xs m j → Wrote l i xs n k → (m ≡ n) × (j ≡ k)
wrote_one w v = (w.is ∙ sym v.is, w.end ∙ sym v.end)

-- what is written from the buffer's start is its first bytes
pub wrote_first : {l xs m : List ℕ} {j : ℕ} → Wrote l 0 xs m j → length xs ≤ length l → take j m ≡ xs
wrote_first {l} {xs} {m} {j} w h = ext_get_or 0 (take j m) xs long (λ k lt. at k (omega (arith, long)))
  where
    long : length (take j m) ≡ length xs
    long = let e : j ≡ length xs = omega (arith, w.end) in length-take-le j m (omega (arith, wrote_length w)) ∙ e

    at : (k : ℕ) → k < length xs → get_or (take j m) k 0 ≡ get_or xs k 0
    at k lt =
        get_or-take j m k 0 (omega (arith, w.end)) ∙ rw w.is (ap (λ (p : ℕ). get_or (put_from l 0 xs) p 0) (sym (zero-add k)) ∙ put_at l 0 xs k lt
        (omega arith))

-- n bytes of a list from a place on
module _ (s : List ℕ) (from n : ℕ) (h : from + n ≤ length s) where
  pub part_length : length (take n (drop from s)) ≡ n
  part_length = length-take-le n (drop from s) (rw length-drop (omega arith))

  pub part_at : (k : ℕ) → k < n → get_or s (from + k) 0 ≡ get_or (take n (drop from s)) k 0
  part_at k lt = rw (get_or-take n (drop from s) k 0 lt, get_or-drop)

-- bytes copied into a part of the buffer
puts_all : (xs l : List ℕ) (i : ℕ) → put_from l i xs ≡ sets l i xs
puts_all [] l i = refl
puts_all (x ∷ xs) l i = rw add-one (puts_all xs (set l i x) (suc i))

pub wrote_part : (l : List ℕ) (i : ℕ) (s : List ℕ) (from n : ℕ) (xs : List ℕ) → i + n ≤ length l → from + n ≤ length s → xs ≡ between from (from + n) s →
    Wrote l i (take n (drop from s)) (put_mid i (i + n - i) l xs) (i + n)
wrote_part l i s from n xs h f e =
    let ys : List ℕ = take n (drop from s) in
    let long : length ys ≡ n = part_length s from n f in
    let same : xs ≡ ys = e ∙ ap (λ (k : ℕ). take k (drop from s)) (omega arith) in
    let placed : put_from l i ys ≡ take i l ++ ys ++ drop (i + n) l = puts_all ys l i ∙ rw (sets-eq ys l i (omega arith), long) in
    record {
      is = put_mid-paste i (i + n - i) l xs ys n same (omega arith) (sym long) ∙ rw (take_all n ys (omega arith)) (sym placed);
      end = ap (λ (k : ℕ). i + k) (sym long);
    }

-- a number of one digit; and of one digit more than its tenth
pub wrote_digit : (l : List ℕ) (i n : ℕ) → n < 10 → Wrote l i (decimal n) (set l i (digit n)) (i + 1)
wrote_digit l i n h = rw (decimal_small n h) (record { is = refl; end = refl })

pub wrote_tenth : {l m : List ℕ} {i j : ℕ} (n : ℕ) → 10 ≤ n → n < 10 ^ most_digits →
    Wrote l i (decimal (n / 10)) m j → Wrote l i (decimal n) (set m j (digit (n % 10))) (j + 1)
wrote_tenth n h k w = rw (decimal_more n h k) (wrote_then w (record { is = refl; end = refl }))

-- a byte before
pub wrote_after : {l m : List ℕ} {i j : ℕ} {x : ℕ} {xs : List ℕ} → Wrote (set l i x) (i + 1) xs m j → Wrote l i (x ∷ xs) m j
wrote_after w = record { is = w.is; end = omega (arith, w.end) }

-- a number's digits, one after the other
pub ruleset decimal_turns = (decimal_small, decimal_tenth, wrote_digit, wrote_tenth)

-- a piece behind one byte: a number, a code
pub ruleset piece_steps = (wrote_after, part_length, decimal-length, length-set)
