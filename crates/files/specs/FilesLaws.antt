-- Laws of the names of files that are written.
use Rattle.std.specs.Prelude.{ℕ, ◌+◌, ◌≤◌, ◌≡◌, List, ◌++◌, Bool, true, false, cond, length, eqb, leb}
use Rattle.std.proofs.Common.{sym, arith, length-append, length-take-le, leb-true}
use Rattle.words.specs.Bytes.{bytes}
use Rattle.files.specs.Files.{IsPrefixLen, two_digits, part_name, part_more, name_most, is_name}

pub name_short : (n : ℕ) → is_name n ≡ true → n ≤ name_most
name_short n e = go (eqb n 0) e
  where
    go : (b : Bool) → cond b false (leb n name_most) ≡ true → n ≤ name_most
    go true f = absurd cc
    go false f = leb-true n name_most f

pub part_long : (path : List ℕ) (k : ℕ) → length (part_name path k) ≡ length path + part_more
part_long path k = length-append path (bytes ".part" ++ two_digits k)

pub not_both : (b : Bool) → b ≡ true → b ≡ false → ⊥
not_both b e f = cc

pub counts_of : (n : ℕ) (l : List ℕ) → n ≤ length l → IsPrefixLen n l
counts_of n l h = (h, sym (length-take-le n l h))
