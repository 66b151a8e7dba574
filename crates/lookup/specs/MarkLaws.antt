-- Laws of the mark: equal codes have the same one, and no number on the way to it is too great.
use Rattle.std.specs.Prelude.{ℕ, zero, suc, ◌+◌, ◌*◌, ◌-◌, ◌/◌, ◌≤◌, ◌<◌, ◌≡◌, refl, List, Bool, true, false, ltb, eqb}
use Rattle.std.proofs.Math.Bool.{cond}
use Rattle.std.proofs.Common.{arith, mul-le-mul, add_assoc, add-one, ltb-true, ltb-false, eq-eqb}
use Rattle.std.proofs.Math.Decide.{dec_lt}
use Rattle.std.proofs.Math.ListN.{get_or}
use Rattle.loops.specs.Every.{same_b}
use Rattle.loops.specs.EveryLaws.{same_at}
use Rattle.kinds.specs.Limits.{most_code}
use Rattle.lookup.specs.Mark.{words_below, Small, marked_bytes, word_at, mixed_of, start_of_mix, blocks_of, few_at, ends_of, mark_of_bytes, mark_of, Alike}
use Rattle.lookup.specs.Mark.{Mixing}
use Rattle.lookup.specs.declared.Mix.{Mix}
use Rattle.lookup.specs.declared.Ends.{Ends}

pub marked_few : (n : ℕ) → (marked_bytes n ≤ n) × (marked_bytes n ≤ most_code)
unfolding marked_bytes
marked_few n = go (ltb n most_code) (ltb-true n most_code) (ltb-false n most_code)
  where
    go : (b : Bool) → (b ≡ true → n < most_code) → (b ≡ false → most_code ≤ n) → (cond b n most_code ≤ n) × (cond b n most_code ≤ most_code)
    go true f g = (omega arith, omega (arith, f refl))
    go false f g = (omega (arith, g refl), omega arith)

module _ {s : List ℕ} {a : ℕ} {t : List ℕ} {b n : ℕ} (h : Alike s a t b n) where
  -- a part of them
  alike_part : (o m : ℕ) → o + m ≤ n → Alike s (a + o) t (b + o) m
  alike_part o m l = record { byte = λ k f. rw (add_assoc a o k, add_assoc b o k) (h.byte (o + k) (omega arith)) }

  word_same : 4 ≤ n → word_at s a ≡ word_at t b
  unfolding word_at
  word_same l = rw (h.byte 0 (omega arith), h.byte 1 (omega arith), h.byte 2 (omega arith), h.byte 3 (omega arith))

  few_same : few_at s a n ≡ few_at t b n
  unfolding few_at
  few_same = go (dec_lt 0 n)
    where
      go : Dec (0 < n) → cond (eqb n 0) 0 (get_or s (a + 0) 0 + 256 * get_or s (a + n / 2) 0 + 65536 * get_or s (a + (n - 1)) 0) ≡
          cond (eqb n 0) 0 (get_or t (b + 0) 0 + 256 * get_or t (b + n / 2) 0 + 65536 * get_or t (b + (n - 1)) 0)
      go (yes d) = rw (h.byte 0 d, h.byte (n / 2) (omega arith), h.byte (n - 1) (omega arith))
      go (no d) = rw (eq-eqb n 0 (omega arith))

word_at_lem : {s : List ℕ} {a : ℕ} {t : List ℕ} {b n : ℕ} → Alike s a t b n → (o : ℕ) → o + 4 ≤ n → word_at s (a + o) ≡ word_at t (b + o)
word_at_lem h o l = word_same (alike_part h o 4 l) (omega arith)

ends_same : {s : List ℕ} {a : ℕ} {t : List ℕ} {b n : ℕ} → Alike s a t b n → ends_of s a n ≡ ends_of t b n
unfolding ends_of
ends_same {s} {a} {t} {b} {n} h = go (ltb n 4) (ltb-false n 4)
  where
    go : (x : Bool) → (x ≡ false → 4 ≤ n) →
        ◌≡◌ {A = Ends}
        (cond x (record { first = few_at s a n; last = 0 }) (record { first = word_at s (a + (n - 8)); last = word_at s (a + (n - 4)) }))
        (cond x (record { first = few_at t b n; last = 0 }) (record { first = word_at t (b + (n - 8)); last = word_at t (b + (n - 4)) }))
    go true f = rw (few_same h)
    go false f = rw (word_at_lem h (n - 8) (omega (arith, f refl)), word_at_lem h (n - 4) (omega (arith, f refl)))

blocks_same : {s : List ℕ} {a : ℕ} {t : List ℕ} {b n : ℕ} → Alike s a t b n → (m : Mix) (i : ℕ) → 8 * i ≤ n → blocks_of s a m i ≡ blocks_of t b m i
unfolding blocks_of
blocks_same h m zero l = refl
blocks_same {a = a} {b = b} h m (suc i) l =
    rw (
      blocks_same h m i (omega arith),
      word_at_lem h (8 * i) (omega arith),
      add_assoc a (8 * i) 4,
      add_assoc b (8 * i) 4,
      word_at_lem h (8 * i + 4)
          (omega arith),
    )

bytes_same : {s : List ℕ} {a : ℕ} {t : List ℕ} {b k : ℕ} → Alike s a t b k → mark_of_bytes s a k ≡ mark_of_bytes t b k
unfolding mark_of_bytes
bytes_same {k = k} h = rw (ends_same h, blocks_same h (start_of_mix k) ((k - 1) / 8) (omega arith))

pub mark_same : (s : List ℕ) (a : ℕ) (t : List ℕ) (b n : ℕ) → same_b s a t b n ≡ true → mark_of s a n ≡ mark_of t b n
mark_same s a t b n e = bytes_same (record { byte = λ k l. same_at s a t b n e k (omega (arith, marked_few n)) })

-- the product of a mix leaves room for what is added to it
pub product : (x y : ℕ) → x ≤ 6442450943 → y ≤ 2147483647 → x * y ≤ 13835058046692229121
product x y h l = mul-le-mul {n₁ = x} {m₁ = y} {n₂ = 6442450943} {m₂ = 2147483647} (omega arith) (omega arith)

pub mixed_small : (m : Mix) (w v : ℕ) → Small m → w < words_below → v < words_below → Small (mixed_of m w v)
unfolding mixed_of
mixed_small m w v small h l =
    let p = product (m.a + w + 1) (2 * m.b + 1) (omega (arith, small.a_low)) (omega (arith, small.b_low)) in
    let q = product (m.c + v + 1) (2 * m.d + 1) (omega (arith, small.c_low)) (omega (arith, small.d_low)) in
    record {
      a_low = omega (arith, q);
      b_low = omega arith;
      c_low = omega (arith, p);
      d_low = omega arith;
    }

-- the loop over the blocks
pub mixing_none : (t : List ℕ) (a k count : ℕ) → k ≤ most_code → Mixing t a k count (start_of_mix k) 0
unfolding blocks_of
mixing_none t a k count h =
    record {
      is = refl;
      small = record { a_low = omega arith; b_low = omega arith; c_low = omega arith; d_low = omega arith };
      low = omega arith;
    }

module _ {t : List ℕ} {a k count : ℕ} {m : Mix} {i : ℕ} (f : Mixing t a k count m i) where
  pub mixing_more : {w v : ℕ} {n : Mix} → i < count → w ≡ word_at t (a + 8 * i) → v ≡ word_at t (a + 8 * i + 4) →
      n ≡ mixed_of m w v → Small n → Mixing t a k count n (i + 1)
  unfolding blocks_of
  mixing_more lt ew ev e small =
      record {
        is = rw (add-one, e, ew, ev, ← f.is);
        small = small;
        low = omega arith;
      }

  pub mixing_end : count ≤ i → m ≡ blocks_of t a (start_of_mix k) count
  mixing_end h =
      let e : count ≡ i = omega (arith, f.low) in
      rw e f.is
