-- Laws of the search for a label: what the tests say, and of the place that is looked for.
use Rattle.std.specs.Prelude.{ℕ, ◌≤◌, ◌<◌, ◌≡◌, Bool, true, false, leb, eqb, List}
use Rattle.std.proofs.Common.{sym, subst, inl, inr, arith}
use Rattle.std.proofs.Math.Decide.{dec_le, dec_lt, ℕ_discrete}
use Rattle.loops.specs.FirstLaws.{passed_none, passed_more, first_here, first_end}
use Rattle.loops.specs.HalvedLaws.{halved_begin, halved_low, halved_high}
use Rattle.loops.specs.Decide.{dec_or, dec_then}
use Rattle.loops.specs.Tells.{Tells}
use Rattle.loops.specs.TellsLaws.{tells_as, told_true, told_false}
use Rattle.loops.specs.ComparesLaws.{tells_le, tells_eq}
use Rattle.kinds.specs.declared.Label.{Label}
use Rattle.journeys.specs.Tables.{Tables}
use Rattle.tables.specs.File.{tables_of, label_at}
use Rattle.tables.specs.TablesLaws.{read_as}
use Rattle.label_sets.specs.declared.Moment.{Moment}
use Rattle.label_sets.specs.declared.Moment.TheVariants.{Leaving, Arriving}
use Rattle.label_sets.specs.Seek.{Exactly, NotBefore, Past, PastLabel, AtLabel}

module _ (l : Label) (hub : ℕ) (m : Moment) where
  pub past_below : l.hub < hub → ¬ (PastLabel l hub m)
  past_below h (inl x) = omega arith
  past_below h (inr x) = omega (arith, x.0)

  -- of one hub the minutes decide
  past_by : (o : Moment) (b : Bool) → m ≡ o → l.hub ≤ hub → hub ≤ l.hub → Tells (NotBefore o l.dep l.arr) b →
      Tells (PastLabel l hub m) b
  past_by o b e h k t = subst (λ x. Tells (PastLabel l hub x) b) (sym e) (tells_as ((λ p. inr (omega arith, p)), only) t)
    where
      only : PastLabel l hub o → NotBefore o l.dep l.arr
      only (inl x) = absurd (omega arith)
      only (inr x) = x.1

  at_by : (o : Moment) (b : Bool) → m ≡ o → l.hub ≡ hub → Tells (Exactly o l.dep l.arr) b → Tells (AtLabel l hub m) b
  at_by o b e h t = subst (λ x. Tells (AtLabel l hub x) b) (sym e) (tells_as ((λ p. (h, p)), (λ x. x.1)) t)

  module _ (t : ℕ) where
    pub past_leaving : m ≡ Leaving t → l.hub ≤ hub → hub ≤ l.hub → Tells (PastLabel l hub m) (leb t l.dep)
    past_leaving e h k = past_by (Leaving t) (leb t l.dep) e h k (tells_le t l.dep)

    pub past_arriving : m ≡ Arriving t → l.hub ≤ hub → hub ≤ l.hub → Tells (PastLabel l hub m) (leb t l.arr)
    past_arriving e h k = past_by (Arriving t) (leb t l.arr) e h k (tells_le t l.arr)

    pub at_leaving : m ≡ Leaving t → l.hub ≡ hub → Tells (AtLabel l hub m) (eqb l.dep t)
    at_leaving e h = at_by (Leaving t) (eqb l.dep t) e h (tells_eq l.dep t)

    pub at_arriving : m ≡ Arriving t → l.hub ≡ hub → Tells (AtLabel l hub m) (eqb l.arr t)
    at_arriving e h = at_by (Arriving t) (eqb l.arr t) e h (tells_eq l.arr t)

-- label k was read as l, and the test of l answered r
module _ (b : List ℕ) (hub : ℕ) (m : Moment) (k : ℕ) (l : Label) {r : Bool} (e : l ≡ label_at b k) where
  pub past_true : Tells (PastLabel l hub m) r → r ≡ true → Past (tables_of b) hub m k
  past_true t f = let R = read_as b k e in rw (R.hub, R.dep, R.arr) (told_true t f)

  pub past_false : Tells (PastLabel l hub m) r → r ≡ false → ¬ (Past (tables_of b) hub m k)
  past_false t f p = let R = read_as b k e in told_false t f (rw (R.hub, R.dep, R.arr) at p)

-- what the loops that look for a label's place go by
pub ruleset seek_turns = (passed_none, passed_more, first_here, first_end, past_true, past_false)

pub ruleset place_turns = (halved_begin, halved_low, halved_high, past_true, past_false)

-- ---- the place of a label

dec_not_before : (m : Moment) (d a : ℕ) → Dec (NotBefore m d a)
dec_not_before (Leaving t) d a = dec_le t d
dec_not_before (Arriving t) d a = dec_le t a

module _ (T : Tables) where
  pub dec_past : (hub : ℕ) (m : Moment) (k : ℕ) → Dec (Past T hub m k)
  dec_past hub m k = dec_or (dec_lt hub (T.hub k)) (dec_then (ℕ_discrete (T.hub k) hub) (λ _. dec_not_before m (T.dep k) (T.arr k)))

  -- what is past the place for a hub is past that for any hub that is not higher
  pub past_lower : {h g : ℕ} (m : Moment) (k : ℕ) → h ≤ g → Past T g m k → Past T h m k
  past_lower m k le (inl x) = inl (omega arith)
  past_lower {h} m k le (inr x) = elim (dec_lt h (T.hub k)) [ yes l ↦ inl l | no l ↦ inr (omega (arith, x.0), x.1) ]
