-- No second answer meets the contract; and what a good ask has.
use Rattle.std.specs.Prelude.{ℕ, ◌≡◌, refl, List, Err, Ok, Result}
use Rattle.std.proofs.Common.{sym, ap, ap₂, ◌∙◌}
use Rattle.journeys.specs.declared.Criterion.{Criterion}
use Rattle.journeys.proofs.CriteriaLaws.{best_one, best_not_nothing}
use Rattle.tables.specs.Judged.{judged_tables}
use Rattle.asks.specs.declared.Wanted.{Wanted}
use Rattle.asks.specs.declared.Asked.{Asked}
use Rattle.asks.specs.Asks.{ask_read, asked, Gets, AnswersBy, GoodAsk}
use Rattle.asks.proofs.PermittedLaws.{permitted_ask}
use Rattle.asks.specs.declared.Journey.{Journey}
use Rattle.kinds.specs.declared.Refusal.{Refusal}

-- the contract determines the answer
pub gets_one : (P : ℕ → ℕ → Type 0) (c : Criterion) (x y : Result Journey Refusal) → Gets P c x → Gets P c y → x ≡ y
gets_one P c (Ok j) (Ok k) e f = let s = best_one c e f in ap₂ (λ x y. Ok (record { dep = x; arr = y })) s.0 s.1
gets_one P c (Ok j) (Err r) e f = absurd (best_not_nothing c e f.1)
gets_one P c (Err r) (Ok k) e f = absurd (best_not_nothing c f e.1)
gets_one P c (Err r) (Err s) e f = ap Err (e.0 ∙ sym f.0)

pub answers_one : (P : ℕ → ℕ → ℕ → ℕ → Type 0) (q : Result Asked Refusal) (x y : Result Journey Refusal) → AnswersBy P q x → AnswersBy P q y → x ≡ y
answers_one P (Err r) x y e f = e ∙ sym f
answers_one P (Ok q) x y e f = gets_one (P q.from q.to) q.criterion x y e f

-- over good tables of n stops an ask is judged by their number alone
pub asked_of : (b : List ℕ) (n from to : ℕ) (w : Wanted) → judged_tables b ≡ Ok n → asked b from to w ≡ ask_read n from to w
unfolding asked
asked_of b n from to w e = rw e refl

pub ask_good : (n from to : ℕ) (w : Wanted) (q : Asked) → ask_read n from to w ≡ Ok q → GoodAsk n q
ask_good n from to w q e =
    let p = permitted_ask n from to w q e in
    rw p.1 p.0.stops
