-- A code's mark: a number that equal codes share. No meaning rests on it: what is looked up is said in Lookup.antt.
use Rattle.std.specs.Prelude.{ℕ, zero, suc, ◌+◌, ◌*◌, ◌-◌, ◌/◌, ◌%◌, ◌≤◌, ◌<◌, ◌≡◌, List, cond, get_or, ltb, eqb}
use Rattle.kinds.specs.Limits.{most_code}
use Rattle.lookup.specs.declared.Mix.{Mix}
use Rattle.lookup.specs.declared.Ends.{Ends}

-- 2 ^ 32: four bytes as a number are below it
abbrev pub words_below : ℕ
words_below = 4294967296

-- 2 ^ 31 and 2 ^ 30: a mix has two numbers below the one, to which words are added, and two below the other, which make the second factors
abbrev pub sums_below : ℕ
sums_below = 2147483648

abbrev pub factors_below : ℕ
factors_below = 1073741824

-- 2 ^ 56: the marks are below it, so that a mark and a stop make a number of 64 bits
abbrev pub marks_below : ℕ
marks_below = 72057594037927936

pub record Small (m : Mix) : Type 0 where
  pub a_low : m.a < sums_below
  pub b_low : m.b < factors_below
  pub c_low : m.c < sums_below
  pub d_low : m.d < factors_below

-- as many bytes as a code has at most
unfoldable pub marked_bytes : ℕ → ℕ
marked_bytes n = cond (ltb n most_code) n most_code

-- four bytes from k on
unfoldable pub word_at : List ℕ → ℕ → ℕ
word_at t k = get_or t (k + 0) 0 + 256 * get_or t (k + 1) 0 + 65536 * (get_or t (k + 2) 0 + 256 * get_or t (k + 3) 0)

-- Two words mixed in: two products, of which nearly all bits go on. Both factors hold what was read before, and each word goes into the one product
-- and is added to the other, so that no sum of the bytes, however weighed, tells what comes out. The second factors are odd, so that hardly any two pairs
-- of words come to the same mix.
unfoldable pub mixed_of : Mix → ℕ → ℕ → Mix
mixed_of m w v =
    let p = (m.a + w + 1) * (2 * m.b + 1) in
    let q = (m.c + v + 1) * (2 * m.d + 1) in
    record { a = q / 8589934592; b = (p + 2 * v) % factors_below; c = p / 8589934592; d = (q + 2 * w) % factors_below }

-- What a code of k bytes begins with. The second factors were found by trial: with them, codes of common forms (S12, A001, 8500021) seldom share a
-- slot.
abbrev pub start_of_mix : ℕ → Mix
start_of_mix k = record { a = 314159265 + k; b = 764620624; c = 141421356; d = 992991361 }

-- i blocks of eight bytes from a on
unfoldable pub blocks_of : List ℕ → ℕ → Mix → ℕ → Mix
blocks_of t a m zero = m
blocks_of t a m (suc i) = mixed_of (blocks_of t a m i) (word_at t (a + 8 * i)) (word_at t (a + 8 * i + 4))

-- up to three bytes: the first, the one in the middle and the last
unfoldable pub few_at : List ℕ → ℕ → ℕ → ℕ
few_at t a k = cond (eqb k 0) 0 (get_or t (a + 0) 0 + 256 * get_or t (a + k / 2) 0 + 65536 * get_or t (a + (k - 1)) 0)

-- The last eight of k bytes as two words; of fewer than eight the first four and the last four.
unfoldable pub ends_of : List ℕ → ℕ → ℕ → Ends
ends_of t a k =
    cond (ltb k 4) (record { first = few_at t a k; last = 0 }) (record { first = word_at t (a + (k - 8)); last = word_at t (a + (k - 4)) })

abbrev pub mark_number : Mix → ℕ
mark_number m = 8388608 * (m.a + m.c) + (m.b + m.d)

-- k bytes from a on: the blocks that do not reach the last byte, and then the last eight bytes, which may be partly those of the last block
unfoldable pub mark_of_bytes : List ℕ → ℕ → ℕ → ℕ
mark_of_bytes t a k =
    let e = ends_of t a k in
    mark_number (mixed_of (blocks_of t a (start_of_mix k) ((k - 1) / 8)) e.first e.last)

abbrev pub mark_of : List ℕ → ℕ → ℕ → ℕ
mark_of t a n = mark_of_bytes t a (marked_bytes n)

-- n bytes of s from a on are those of t from b on
pub record Alike (s : List ℕ) (a : ℕ) (t : List ℕ) (b n : ℕ) : Type 0 where
  pub byte : (k : ℕ) → k < n → get_or s (a + k) 0 ≡ get_or t (b + k) 0

-- the loop over the blocks: i of them are mixed in
pub record Mixing (t : List ℕ) (a k count : ℕ) (m : Mix) (i : ℕ) : Type 0 where
  pub is : m ≡ blocks_of t a (start_of_mix k) i
  pub small : Small m
  pub low : i ≤ count
