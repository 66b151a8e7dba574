-- What handing bytes on comes to. Which bytes a program writes, and whether the system takes them, no contract can say.
use Rattle.std.specs.Prelude.{ℕ, ◌+◌, ◌≡◌, Bool, cond, Err, Ok, Result}
use Rattle.handing.specs.declared.Written.{Written}
use Rattle.handing.specs.declared.Failure.{Failure}

-- so many bytes can be counted
abbrev pub most_bytes : ℕ
most_bytes = 18446744073709551615

-- n bytes more: they were taken, or else that is a failure
abbrev pub handed_as : Written → ℕ → Bool → Result Written Failure
handed_as before n taken = cond taken (Ok (record { bytes = before.bytes + n })) (Err (record { before = before.bytes; bytes = n }))

-- the one or the other
abbrev pub HandedOn : Written → ℕ → Result Written Failure → Type 0
HandedOn before n x = (taken : Bool) × (x ≡ handed_as before n taken)
