-- Nothing else can be told: two results of one call are the same.
use Rattle.std.specs.Prelude.{ℕ, ◌≡◌, List, ◌++◌, Err, Ok, Result}
use Rattle.std.proofs.Common.{sym, ap, ap₂, subst, ◌∙◌, arith}
use Rattle.kinds.specs.declared.Reason.{Reason}
use Rattle.kinds.specs.declared.Refusal.{Refusal}
use Rattle.timetable.specs.Numbers.{given_of}
use Rattle.reader.specs.Text.{Sofar, ReadOutcome, whole, bad}
use Rattle.reader.specs.declared.Counts.{Counts}
use Rattle.tables.specs.File.{tables_of, AreBytes}
use Rattle.verdict.specs.Verdict.{Checked}
use Rattle.verdict.specs.VerdictLaws.{checked_one}
use Rattle.builder.specs.Build.{build_room, BuildOf, success}
use Rattle.builder.specs.BuildLaws.{build_one}
use Rattle.printed.specs.Wrote.{Wrote}
use Rattle.printed.specs.WroteLaws.{wrote_one}
use Rattle.report.specs.Words.{refusal_line}
use Rattle.desk.specs.Spelled.{LabelSpelled, Spelled, a_bad, a_label, a_gap, nothing}
use Rattle.desk.specs.SpelledLaws.{label_one, bad_spelled_one}
use Rattle.desk.specs.Told.{Refused, by_text, by_check, Accepts, AdmitOf, admits, refuses, CheckTold, accepted, refused, BuildTold, bad_text, bad_build}
use Rattle.desk.specs.Told.{built, counts, made}
use Rattle.builder.specs.declared.Built.{Built}
use Rattle.desk.specs.declared.Made.{Made}

-- ---- what is spelled out

module _ (b : List ℕ) {s codes : List ℕ} where
  label_spelled_one : {k : ℕ} {xs ys : List ℕ} → LabelSpelled (tables_of b) s codes k xs → LabelSpelled (tables_of b) s codes k ys → xs ≡ ys
  label_spelled_one x y =
      let z = label_one b x.label y.label in
      x.is ∙ rw (z.from, z.to, z.dep, z.arr, z.pivot) (sym y.is)

  spelled_one : {runs : List ℕ} {stops : ℕ} {r : Refusal} {xs ys : List ℕ} → Spelled (tables_of b) s codes runs stops r xs →
      Spelled (tables_of b) s codes runs stops r ys → xs ≡ ys
  spelled_one (a_bad e x) (a_bad f y) = bad_spelled_one b x y
  spelled_one (a_bad e x) (a_label f y) = cc
  spelled_one (a_bad e x) (a_gap f y) = cc
  spelled_one (a_bad e x) (nothing l n m y) = absurd (l e)
  spelled_one (a_label e x) (a_bad f y) = cc
  spelled_one (a_label e x) (a_label f y) = label_spelled_one x y
  spelled_one (a_label e x) (a_gap f y) = cc
  spelled_one (a_label e x) (nothing l n m y) = absurd (n e)
  spelled_one (a_gap e x) (a_bad f y) = cc
  spelled_one (a_gap e x) (a_label f y) = cc
  spelled_one (a_gap e x) (a_gap f y) = x ∙ sym y
  spelled_one (a_gap e x) (nothing l n m y) = absurd (m e)
  spelled_one (nothing l n m x) (a_bad f y) = absurd (l f)
  spelled_one (nothing l n m x) (a_label f y) = absurd (n f)
  spelled_one (nothing l n m x) (a_gap f y) = absurd (m f)
  spelled_one (nothing l n m x) (nothing h o p y) = x ∙ sym y

-- ---- the check

same_whole : {o : ReadOutcome} {w v : Sofar} → o ≡ whole w → o ≡ whole v → w ≡ v
same_whole e f = cc

same_bad : {o : ReadOutcome} {n m : Reason} {p q : ℕ} → o ≡ bad n p → o ≡ bad m q → (n ≡ m) × (p ≡ q)
same_bad e f = (cc, cc)

not_both : {o : ReadOutcome} {w : Sofar} {n : Reason} {p : ℕ} → o ≡ whole w → o ≡ bad n p → ⊥
not_both e f = cc

same_refusal : {x y : Refusal} → ◌≡◌ {A = Result Unit Refusal} (Err x) (Err y) → x ≡ y
same_refusal e = cc

not_accepted : {x : Refusal} → ◌≡◌ {A = Result Unit Refusal} (Ok tt) (Err x) → ⊥
not_accepted e = cc

module _ {s b : List ℕ} {roomR roomC lent : ℕ} where
  pub refused_one : {xs ys : List ℕ} → Refused s b roomR roomC lent xs → Refused s b roomR roomC lent ys → xs ≡ ys
  refused_one (by_text n p e x) (by_text m q f y) =
      let z = same_bad e f in
      x ∙ rw (z.0, z.1) (sym y)
  refused_one (by_text n p e x) (by_check w r ys f c t y) = absurd (not_both f e)
  refused_one (by_check w r xs e c t x) (by_text n p f y) = absurd (not_both e f)
  refused_one (by_check w r xs e c t x) (by_check v q ys f d u y) = x ∙ go (same_whole e f) d u ∙ sym y
    where
      go : w ≡ v → Checked b (given_of v.stops v.runs) v.numbers lent (Err q) →
          Spelled (tables_of b) s v.codes v.numbers v.stops q ys → refusal_line r ++ xs ≡ refusal_line q ++ ys
      go h d u =
          let c₂ : Checked b (given_of v.stops v.runs) v.numbers lent (Err r) = subst
          (λ (i : Sofar). Checked b (given_of i.stops i.runs) i.numbers lent (Err r)) h c in
          let t₂ : Spelled (tables_of b) s v.codes v.numbers v.stops r xs = subst
          (λ (i : Sofar). Spelled (tables_of b) s i.codes i.numbers i.stops r xs) h t in
          let k : r ≡ q = same_refusal (checked_one b (given_of v.stops v.runs) v.numbers lent c₂ d) in
          let u₂ : Spelled (tables_of b) s v.codes v.numbers v.stops r ys = subst
          (λ (i : Refusal). Spelled (tables_of b) s v.codes v.numbers v.stops i ys) (sym k) u in
          rw (k, spelled_one b t₂ u₂)

  -- tables are not both accepted and refused
  accepts_refused : {k : Counts} {xs : List ℕ} → Accepts s b roomR roomC lent k → Refused s b roomR roomC lent xs → ⊥
  accepts_refused x (by_text n p e y) = not_both x.whole e
  accepts_refused x (by_check w r ys e c t y) =
      let d : Checked b (given_of w.stops w.runs) w.numbers lent (Ok tt) =
      subst (λ (i : Sofar). Checked b (given_of i.stops i.runs) i.numbers lent (Ok tt)) (same_whole x.whole e) x.accepted in
      not_accepted (checked_one b (given_of w.stops w.runs) w.numbers lent d c)

  accepts_one : {k i : Counts} → Accepts s b roomR roomC lent k → Accepts s b roomR roomC lent i → k ≡ i
  accepts_one x y =
      let h = same_whole x.whole y.whole in
      ap₂ counts (x.stops ∙ ap (λ (w : Sofar). w.stops) h ∙ sym y.stops) (x.runs ∙ ap (λ (w : Sofar). w.runs) h ∙ sym y.runs)

  pub check_told_one : {xs ys : List ℕ} → CheckTold s b roomR roomC lent xs → CheckTold s b roomR roomC lent ys → xs ≡ ys
  check_told_one (accepted k x e) (accepted i y f) = e ∙ sym f
  check_told_one (accepted k x e) (refused y) = absurd (accepts_refused x y)
  check_told_one (refused x) (accepted i y f) = absurd (accepts_refused y x)
  check_told_one (refused x) (refused y) = refused_one x y

  pub admit_one : {l m n : List ℕ} {a c : Result Counts ℕ} → AdmitOf s b roomR roomC lent l m a → AdmitOf s b roomR roomC lent l n c → (a ≡ c) × (m ≡ n)
  admit_one (admits k x e h) (admits i y f j) = (e ∙ ap Ok (accepts_one x y) ∙ sym f, h ∙ sym j)
  admit_one (admits k x e h) (refuses xs i y f w) = absurd (accepts_refused x y)
  admit_one (refuses xs i x e w) (admits k y f j) = absurd (accepts_refused y x)
  admit_one {l} {m} {n} (refuses xs i x e w) (refuses ys j y f v) =
      let z = wrote_one (subst (λ (t : List ℕ). Wrote l 0 t m i) (refused_one x y) w) v in
      (e ∙ ap Err z.1 ∙ sym f, z.0)

-- ---- the build

same_bad_build : {x y : Refusal} → ◌≡◌ {A = Result Built Refusal} (Err x) (Err y) → x ≡ y
same_bad_build e = cc

same_built : {m k i j : ℕ} → success m k ≡ success i j → (m ≡ i) × (k ≡ j)
same_built {m} {k} {i} {j} e =
    let f : ◌≡◌ {A = Built} (record { length = m; labels = k }) (record { length = i; labels = j }) = cc in
    (ap (λ (x : Built). x.length) f, ap (λ (x : Built). x.labels) f)

not_built : {m k : ℕ} {x : Refusal} → success m k ≡ Err x → ⊥
not_built e = cc

same_told : {l m n xs ys : List ℕ} {i j : ℕ} → xs ≡ ys → Wrote l 0 xs m i → Wrote l 0 ys n j → (m ≡ n) × (i ≡ j)
same_told {l} {m} {i = i} e w v = wrote_one (subst (λ (x : List ℕ). Wrote l 0 x m i) e w) v

both : {w v : Sofar} {lent : ℕ} {x y : Result Built Refusal} {t t' : List ℕ} → AreBytes t → AreBytes t' → w ≡ v →
    BuildOf (given_of w.stops w.runs) w.numbers build_room lent x t →
    BuildOf (given_of v.stops v.runs) v.numbers build_room lent y t' → (x ≡ y) × (t ≡ t')
both {lent = lent} {x} {y} {t} b c e p q = build_one b c (subst (λ (i : Sofar). BuildOf (given_of i.stops i.runs) i.numbers build_room lent x t) e p) q

module _ {s : List ℕ} {lent : ℕ} {t t' l m n : List ℕ} (bytes : AreBytes t) (bytes' : AreBytes t') where
  pub build_told_one : {a c : Result Made ℕ} → BuildTold s lent t l m a → BuildTold s lent t' l n c → (a ≡ c) × (t ≡ t') × (m ≡ n)
  build_told_one (bad_text i p k e x f w) (bad_text j q h g y o v) =
      let z = same_bad e g in
      let u = same_told (rw (z.0, z.1)) w v in
      (f ∙ ap Err u.1 ∙ sym o, x ∙ sym y, u.0)
  build_told_one (bad_text i p k e x f w) (bad_build y r h g o q v) = absurd (not_both g e)
  build_told_one (bad_text i p k e x f w) (built y o q h g r u v) = absurd (not_both g e)
  build_told_one (bad_build x r k e p f w) (bad_text j q h g y o v) = absurd (not_both e g)
  build_told_one (bad_build x r k e p f w) (bad_build y q h g o i v) =
      let z = both bytes bytes' (same_whole e g) p o in
      let u = same_told (ap refusal_line (same_bad_build z.0)) w v in
      (f ∙ ap Err u.1 ∙ sym i, z.1, u.0)
  build_told_one (bad_build x r k e p f w) (built y o q h g i u v) = absurd (not_built (sym (both bytes bytes' (same_whole e g) p i).0))
  build_told_one (built x o k h e p f w) (bad_text j q i g y r v) = absurd (not_both e g)
  build_told_one (built x o k h e p f w) (bad_build y q i g r j v) = absurd (not_built (both bytes bytes' (same_whole e g) p r).0)
  build_told_one (built x o k h e p f w) (built y q i j g r u v) =
      let z = both bytes bytes' (same_whole e g) p r in
      let a = same_built z.0 in
      let d = same_told (rw (same_whole e g, a.0, a.1)) w v in
      (f ∙ ap₂ made a.0 d.1 ∙ sym u, z.1, d.0)
