-- Laws of the build: from all labels counted to the room that they need, from all labels written to the rule's file; and one result at most.
use Rattle.std.specs.Prelude.{ℕ, ◌-◌, min, ◌≤◌, ◌<◌, ◌≡◌, List, ◌++◌, length, get_or, replicate, drop, Err, Ok, Result}
use Rattle.std.proofs.Common.{sym, ap, ap₂, ◌∙◌, arith}
use Rattle.std.proofs.Math.Decide.{dec_lt}
use Rattle.std.proofs.Math.ListN.{get_or-append, get_or-eq_default}
use Rattle.std.proofs.lemmas.List.{drop-replicate}
use Rattle.kinds.specs.Limits.{most_stops, most_labels}
use Rattle.journeys.specs.Service.{Service, GoodService}
use Rattle.journeys.proofs.RuleLaws.{by_rule_same}
use Rattle.journeys.specs.Count.{RuleCount}
use Rattle.journeys.proofs.CountLaws.{pairs_one, rule_count_one}
use Rattle.tables.specs.File.{place_of, tables_of, AreBytes}
use Rattle.tables.specs.GoodLaws.{good_judged}
use Rattle.tables.specs.OneFile.{SameLabels}
use Rattle.tables.specs.OneFileLaws.{one_file}
use Rattle.counts.proofs.SumLaws.{sum_same}
use Rattle.counts.specs.Sets.{SetsTo, CountedAll}
use Rattle.builder.specs.Contents.{Sized}
use Rattle.builder.specs.Writing.{WrittenTo}
use Rattle.builder.specs.ByRuleLaws.{rule_file, rule_by}
use Rattle.timetable.specs.declared.Given.{Given}
use Rattle.builder.specs.Build.{RuleFile, BuiltOf, over, short, built, BuildOf, refused, good, success}
use Rattle.builder.specs.declared.Built.{Built}
use Rattle.kinds.specs.declared.Refusal.{Refusal}

-- counts that agree give the same sets
sets_same : {c d : ℕ → ℕ → ℕ} {n : ℕ} {sets : List ℕ} → ((u v : ℕ) → u < n → v < n → c u v ≡ d u v) → SetsTo c n n sets → SetsTo d n n sets
sets_same {c} {d} {n} e t = record {
  outs = λ s h. t.outs s h ∙ sum_same (c s) (d s) s (λ v l. e s v h (omega arith));
  ins = λ s h. t.ins s h ∙ sum_same (λ u. c u s) (λ u. d u s) (min n s) (λ u l. e u s (omega arith) h);
}

-- the labels counted are those of any count of the rule
module _ {S : Service} {sets : List ℕ} {r : ℕ} (t : CountedAll S sets r) (few : r ≤ most_labels) {k : ℕ} (R : RuleCount S k) where
  pub number_is : r ≡ k
  number_is = t.all few ∙ rule_count_one t.rule R

  pub counted_sized : (b : List ℕ) → length b ≡ place_of S.stops r → Sized S.stops k R.count sets b
  counted_sized b e = record {
    few = omega (arith, number_is);
    counts = sets_same (λ u v h l. pairs_one (t.rule.labels u v h l) (R.labels u v h l)) (t.entered few);
    long = e ∙ ap (place_of S.stops) number_is;
  }

-- all labels written make the rule's file
pub written_file : {S : Service} {k : ℕ} {R : RuleCount S k} {b : List ℕ} → GoodService S → S.stops ≤ most_stops → 1 ≤ S.stops → WrittenTo S R S.stops b →
    RuleFile S b
written_file {S} {k} {R} {b} G few some w = record {
  good = good_judged b S.stops (rule_file G few some R w.few w.framed (λ u v h l n. w.holds u v h l n));
  rule = rule_by G few some R w.few w.framed (λ u v h l n. w.holds u v h l n);
}

-- what is left of zeros
pub drop-zeros : (k n : ℕ) → ◌≡◌ {A = List ℕ} (drop k (replicate n 0)) (replicate (n - k) 0)
drop-zeros k n = drop-replicate k n 0

-- the length that an answer tells
told : Result Built Refusal → ℕ
told (Ok b) = b.length
told (Err r) = 0

-- what was built is within what is lent
module _ {lent n k : ℕ} {tables : List ℕ} where
  built_in : {S : Service} → BuiltOf S lent (success n k) tables → n ≤ lent
  unfolding told
  built_in (over j R h p q) = absurd cc
  built_in (short j R h l p q) = absurd cc
  built_in {S} (built j f R h l g m p q) = let e : n ≡ place_of S.stops j = ap told p in omega arith

  pub built_within : {given : Given} {runs : List ℕ} {work : ℕ} → BuildOf given runs work lent (success n k) tables → n ≤ lent
  built_within (refused r e p q) = absurd cc
  built_within (good e b) = built_in b

-- ---- one result at most

-- the bytes of a part are bytes
part_bytes : {t : List ℕ} (b c : List ℕ) → AreBytes t → t ≡ b ++ c → AreBytes b
part_bytes {t} b c a e i = go (dec_lt i (length b))
  where
    go : Dec (i < length b) → get_or b i 0 < 256
    go (yes h) = omega (arith, a i, ap (λ (l : List ℕ). get_or l i 0) e, get_or-append b c 0 i h)
    go (no h) = omega (arith, get_or-eq_default b 0 {n = i} (omega arith))

module _ {S : Service} where
  same_labels : {b c : List ℕ} → RuleFile S b → RuleFile S c → SameLabels (tables_of b) (tables_of c)
  same_labels x y side s h d a p = (λ e. (by_rule_same y.rule x.rule).of_part e, λ e. (by_rule_same x.rule y.rule).of_part e)

  file_one : (b c : List ℕ) → AreBytes b → AreBytes c → RuleFile S b → RuleFile S c → b ≡ c
  file_one b c ab ac x y = one_file b c S.stops ab ac x.good y.good (same_labels x y)

  pub built_one : {lent : ℕ} {a a' : Result Built Refusal} {t t' : List ℕ} → AreBytes t → AreBytes t' → BuiltOf S lent a t → BuiltOf S lent a' t' →
      (a ≡ a') × (t ≡ t')
  built_one x y (over k R h p q) (over k' R' h' p' q') = (p ∙ sym p', q ∙ sym q')
  built_one x y (over k R h p q) (short k' R' h' l' p' q') = absurd (omega (arith, rule_count_one R R'))
  built_one x y (over k R h p q) (built k' f' R' h' l' g' n' p' q') = absurd (omega (arith, rule_count_one R R'))
  built_one x y (short k R h l p q) (over k' R' h' p' q') = absurd (omega (arith, rule_count_one R R'))
  built_one x y (short k R h l p q) (short k' R' h' l' p' q') = (p ∙ sym p', q ∙ sym q')
  built_one x y (short k R h l p q) (built k' f' R' h' l' g' n' p' q') = absurd (omega (arith, rule_count_one R R'))
  built_one x y (built k f R h l g n p q) (over k' R' h' p' q') = absurd (omega (arith, rule_count_one R R'))
  built_one x y (built k f R h l g n p q) (short k' R' h' l' p' q') = absurd (omega (arith, rule_count_one R R'))
  built_one {lent} x y (built k f R h l g n p q) (built k' f' R' h' l' g' n' p' q') =
      let e = rule_count_one R R' in
      let z = file_one f f' (part_bytes f _ x q) (part_bytes f' _ y q') g g' in
      (p ∙ ap (λ m. success (place_of S.stops m) m) e ∙ sym p', q ∙ ap₂ (λ (b : List ℕ) (m : ℕ). b ++ replicate (lent - place_of S.stops m) 0) z e ∙ sym q')

-- no second answer, and no second bytes, meet the contract
pub build_one : {given : Given} {runs : List ℕ} {work lent : ℕ} {a a' : Result Built Refusal} {t t' : List ℕ} → AreBytes t → AreBytes t' →
    BuildOf given runs work lent a t → BuildOf given runs work lent a' t' → (a ≡ a') × (t ≡ t')
build_one x y (refused r e p q) (refused r' e' p' q') =
    let z = sym e ∙ e' in
    let same : r ≡ r' = cc in
    (p ∙ ap Err same ∙ sym p', q ∙ sym q')
build_one x y (refused r e p q) (good e' b) = let z = sym e ∙ e' in absurd cc
build_one x y (good e b) (refused r' e' p' q') = let z = sym e ∙ e' in absurd cc
build_one x y (good e b) (good e' b') = built_one x y b b'
