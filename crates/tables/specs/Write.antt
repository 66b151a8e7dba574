-- The bytes after a part of the file is written: what the file says of them is in File.antt.
use Rattle.std.specs.Prelude.{ℕ, ◌+◌, ◌*◌, ◌/◌, ◌%◌, ◌≤◌, ◌<◌, ◌≡◌, List, ◌⊎◌, cond, length, get_or, set, eqb}
use Rattle.kinds.specs.Limits.{no_pivot}
use Rattle.kinds.specs.declared.Label.{Label}
use Rattle.tables.specs.Format.{format_mark, header_bytes, no_pivot_byte}
use Rattle.tables.specs.File.{place_of}

-- "All two-byte numbers low byte first."
abbrev pub put_two : List ℕ → ℕ → ℕ → List ℕ
put_two b i x = set (set b i (x % 256)) (i + 1) (x / 256)

abbrev pub put_header : List ℕ → ℕ → List ℕ
put_header b n = set (set b 0 format_mark) 1 n

abbrev pub put_count : List ℕ → ℕ → ℕ → List ℕ
put_count b s count = put_two b (header_bytes + 2 * s) count

abbrev pub pivot_byte : ℕ → ℕ
pivot_byte p = cond (eqb p no_pivot) no_pivot_byte (p % 256)

-- "hub, departure (2), arrival (2), pivot": six bytes from p on, written one after the other
unfoldable pub put_hub : List ℕ → ℕ → ℕ → List ℕ
put_hub b p h = set b p h

unfoldable pub put_dep : List ℕ → ℕ → ℕ → ℕ → List ℕ
put_dep b p h d = put_two (put_hub b p h) (p + 1) d

unfoldable pub put_arr : List ℕ → ℕ → ℕ → ℕ → ℕ → List ℕ
put_arr b p h d a = put_two (put_dep b p h d) (p + 3) a

unfoldable pub put_pivot : List ℕ → ℕ → ℕ → ℕ → ℕ → ℕ → List ℕ
put_pivot b p h d a q = set (put_arr b p h d a) (p + 5) q

unfoldable pub put_label : List ℕ → ℕ → ℕ → Label → List ℕ
put_label b n k l =
    let p = place_of n k in
    set (put_two (put_two (set b p (l.hub % 256)) (p + 1) l.dep) (p + 3) l.arr) (p + 5) (pivot_byte l.pivot)

-- c is b but for the bytes from lo up to, not including, hi
pub record Outside (b c : List ℕ) (lo hi : ℕ) : Type 0 where
  pub long : length c ≡ length b
  pub before : (j : ℕ) → j < lo → get_or c j 0 ≡ get_or b j 0
  pub behind : (j : ℕ) → hi ≤ j → get_or c j 0 ≡ get_or b j 0

-- a label that six bytes can hold
pub record Writable (l : Label) : Type 0 where
  pub hub : l.hub < 256
  pub pivot : (l.pivot ≡ no_pivot) ⊎ (l.pivot < no_pivot_byte)
