-- An index of the codes, so that a code is compared with few others. Each stop stands in one of the slots that its mark leads to, one after the
-- other: the first that was empty when it came. No meaning rests on it: what is looked up is said in Lookup.antt.
use Rattle.std.specs.Prelude.{ℕ, zero, suc, ◌+◌, ◌*◌, ◌-◌, ◌/◌, ◌%◌, ◌≤◌, ◌<◌, ◌≡◌, List, ◌⊎◌, Bool, false, cond, length, get_or, eqb}
use Rattle.kinds.specs.Limits.{most_stops, most_text}
use Rattle.lookup.specs.Lookup.{code_start, code_length, has_code, Placed}
use Rattle.lookup.specs.Mark.{marks_below, mark_of}

abbrev pub slot_count : ℕ
slot_count = 2048

-- In so many slots a code is looked for; then the plain search decides. At most an eighth of the slots are taken, so that a code comes that far only
-- where it was made for it.
abbrev pub probes : ℕ
probes = 32

-- The numbers that a mark leads to, one after the other (a product and its carry), and the slot that each stands for.
unfoldable pub onward_of : ℕ → ℕ
onward_of x = 33550337 * (x % 2147483648) + x / 2147483648

unfoldable pub way : ℕ → ℕ → ℕ
way m zero = m
way m (suc i) = onward_of (way m i)

unfoldable pub slot_for : ℕ → ℕ
slot_for x = x / 8388608 % slot_count

-- what stands in slot i of the mark's way
abbrev pub probed : List ℕ → ℕ → ℕ → ℕ
probed slots m i = get_or slots (slot_for (way m i)) 0

-- What stands in a stop's slot: its mark and one more than its number. In an empty slot 0 stands.
abbrev pub entry_of : ℕ → ℕ → ℕ
entry_of m j = 256 * m + (j + 1)

-- an entry is that of a stop with the code, n bytes of t from a on, whose mark is m
unfoldable pub is_entry : List ℕ → List ℕ → ℕ → ℕ → List ℕ → ℕ → ℕ → Bool
is_entry s codes e m t a n = cond (eqb (e / 256) m) (has_code s codes t a n (e % 256 - 1)) false

-- a stop stands before the first empty slot of its way; where its way has none, it need not stand anywhere
abbrev pub AtHome : List ℕ → ℕ → ℕ → Type 0
AtHome slots m j = (i : ℕ) → i < probes → probed slots m i ≡ 0 → (k : ℕ) × (k < i) × (probed slots m k ≡ entry_of m j)

abbrev pub mark_at : List ℕ → List ℕ → ℕ → ℕ
mark_at s codes j = mark_of s (code_start codes j) (code_length codes j)

pub record CodesIndexed (s codes : List ℕ) (stops : ℕ) (slots : List ℕ) : Type 0 where
  pub codes_placed : Placed s codes stops
  pub few : stops ≤ most_stops
  pub slots_long : length slots ≡ slot_count
  pub no_two : (j : ℕ) → j < stops → (i : ℕ) → i < j → has_code s codes s (code_start codes j) (code_length codes j) i ≡ false
  pub known : (p : ℕ) → 0 < get_or slots p 0 → (0 < get_or slots p 0 % 256) × (get_or slots p 0 % 256 ≤ stops)
  pub home : (j : ℕ) → j < stops → AtHome slots (mark_at s codes j) j

-- there is room for one more code, of n bytes from start on, and no stop has it
pub record Enterable (s codes : List ℕ) (stops start n : ℕ) : Type 0 where
  pub few : stops < most_stops
  pub room : 2 * stops + 2 ≤ length codes
  pub within : start + n ≤ length s
  pub short : length s ≤ most_text
  pub new : (i : ℕ) → i < stops → has_code s codes s start n i ≡ false

-- p is the first empty slot of the mark's way, which is slot `turn` of it, or no slot where there is none
pub record Vacant (slots : List ℕ) (m p : ℕ) : Type 0 where
  pub turn : ℕ
  pub taken : (k : ℕ) → k < turn → 0 < probed slots m k
  pub empty : p < slot_count → (p ≡ slot_for (way m turn)) × (get_or slots p 0 ≡ 0)
  pub full : slot_count ≤ p → probes ≤ turn

-- stop j put into the index: what stood there still does, nothing else was put there, and j is at home
pub record Stood (before after : List ℕ) (m j : ℕ) : Type 0 where
  pub long : length after ≡ length before
  pub kept : (p : ℕ) → 0 < get_or before p 0 → get_or after p 0 ≡ get_or before p 0
  pub only : (p : ℕ) → (get_or after p 0 ≡ get_or before p 0) ⊎ (get_or after p 0 ≡ entry_of m j)
  pub home : AtHome after m j

-- x is number i on the mark's way
pub record OnWay (m x i : ℕ) : Type 0 where
  pub is : x ≡ way m i
  pub small : x < marks_below
  pub low : i ≤ probes

-- the walk along a mark's way: the slots that were passed are taken, and none of them has a stop with the code
pub record Finding (s codes slots t : List ℕ) (a n m x i : ℕ) : Type 0 where
  pub along : OnWay m x i
  pub taken : (k : ℕ) → k < i → 0 < probed slots m k
  pub passed : (k : ℕ) → k < i → (j : ℕ) → j < most_stops → probed slots m k ≡ entry_of m j → has_code s codes t a n j ≡ false
