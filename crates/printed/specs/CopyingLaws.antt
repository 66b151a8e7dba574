-- Laws of the loop that copies bytes into a lent buffer.
use Rattle.std.specs.Prelude.{ℕ, ◌+◌, ◌≤◌, ◌<◌, ◌≡◌, refl, List, [], ◌∷◌, length, get_or, take, set}
use Rattle.std.proofs.Common.{ap, ◌∙◌, arith, add-one, take_all, take-suc}
use Rattle.std.proofs.Common.{length-take-le}
use Rattle.loops.specs.Put.{put_from}
use Rattle.loops.specs.PutLaws.{put_length, put_append}
use Rattle.printed.specs.Copying.{Copying}

pub copying_none : (l : List ℕ) (i : ℕ) (xs : List ℕ) → Copying l i xs l 0
copying_none l i xs = record { is = refl; high = omega arith }

module _ {l : List ℕ} {i : ℕ} {xs m : List ℕ} {k : ℕ} (c : Copying l i xs m k) where
  pub copying_length : length m ≡ length l
  copying_length = rw c.is (put_length l i (take k xs))

  pub copying_more : k < length xs → (x : ℕ) → x ≡ get_or xs k 0 → Copying l i xs (set m (i + k) x) (k + 1)
  copying_more h x e =
      record {
        is =
            let p = put_append (take k xs) l i (x ∷ []) in
            let n : length (take k xs) ≡ k = length-take-le k xs (omega arith) in
            rw (add-one, take-suc xs k 0 h, ← e, ← p, n, ← c.is);
        high = omega arith;
      }

  pub copying_end : length xs ≤ k → m ≡ put_from l i xs
  copying_end h = c.is ∙ ap (put_from l i) (take_all k xs h)
