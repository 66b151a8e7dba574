-- Laws of `zeros`, for the loops that zero a buffer and for those who lend one.
use Rattle.std.specs.Prelude.{ℕ, ◌≤◌, ◌≡◌, refl, List, length, replicate}
use Rattle.std.proofs.Common.{ap, sym, ◌∙◌}
use Rattle.std.proofs.lemmas.List.{length-replicate}
use Rattle.loops.specs.Zero.{zeros}
use Rattle.loops.specs.Made.{Made}
use Rattle.loops.specs.MadeLaws.{made_all}

pub zeros_is : (l : List ℕ) → zeros l ≡ replicate (length l) 0
zeros_is l = refl

pub length-zeros : (l : List ℕ) → length (zeros l) ≡ length l
length-zeros l = length-replicate (length l) 0

-- what is all zeros beside one list is so beside any list as long
pub zeros_as : {x : List ℕ} (l m : List ℕ) → x ≡ zeros l → length x ≡ length m → x ≡ zeros m
zeros_as l m e n = e ∙ ap (λ (k : ℕ). replicate k 0) (sym (length-zeros l) ∙ sym (ap length e) ∙ n)

-- the loop that zeroes makes all numbers 0
pub zeroed : {s₀ s : List ℕ} {i : ℕ} → Made 0 s₀ s i → length s₀ ≤ i → s ≡ zeros s₀
zeroed {s₀} m ge = made_all m ge ∙ sym (zeros_is s₀)
