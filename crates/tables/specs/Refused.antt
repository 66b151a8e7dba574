-- What the refusals of tables say.
use Rattle.std.specs.Prelude.{ℕ, ◌+◌, ◌*◌, ◌≤◌, ◌<◌, ◌≡◌, List, get_or, eqb, Err, Ok, Result}
use Rattle.loops.specs.Unless.{unless}
use Rattle.kinds.specs.Refusals.{number_of, refusal}
use Rattle.kinds.specs.Kinds.{is_stop_count}
use Rattle.kinds.specs.declared.Refusal.{Refusal}
use Rattle.tables.specs.Format.{format_mark}
use Rattle.tables.specs.File.{stops_of, count_of, start_of}
use Rattle.tables.specs.Good.{GoodEntry}
use Rattle.kinds.specs.declared.Reason.TheVariants as reason

-- label k is label i of this set; it is not good, and every label before it is
pub record BadFirst (b : List ℕ) (n k : ℕ) : Type 0 where
  pub set : ℕ
  pub i : ℕ
  pub real : set < 2 * n
  pub within : i < count_of b set
  pub is : k ≡ start_of b set + i
  pub fault : ¬ (GoodEntry b n set i)
  pub before : (t j : ℕ) → t < 2 * n → j < count_of b t → start_of b t + j < k → GoodEntry b n t j

-- "Asks: 9, 10, 11": what tables are refused by, and one place at most
pub record TablesRefusal (r : Refusal) : Type 0 where
  pub least : number_of reason.NoTables ≤ number_of r.reason
  pub most : number_of r.reason ≤ number_of reason.LabelBad
  pub one_place : r.stop ≡ 0

abbrev pub IfRefused : Result ℕ Refusal → Type 0
IfRefused (Ok n) = Unit
IfRefused (Err r) = TablesRefusal r

-- a file that is longer than any may be: 9 by its first two bytes, and else 10
abbrev pub long_tables : List ℕ → Result ℕ Refusal
long_tables b =
    unless (eqb (get_or b 0 0) format_mark) (Err (refusal reason.NoTables 0))
    (unless (is_stop_count (stops_of b)) (Err (refusal reason.NoTables 0)) (Err (refusal reason.TablesLength 0)))
