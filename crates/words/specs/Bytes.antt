-- Texts of these pages as bytes.
use Rattle.std.specs.Prelude.{ℕ, List, [], ◌∷◌}
use Prim.Native.Char.{code}
use Prim.Native.String.{String, [] as nothing, ◌∷◌ as ◌before◌}

-- a text, as bytes: each of its characters is one byte
abbrev pub bytes : String → List ℕ
bytes nothing = []
bytes (c before t) = code c ∷ bytes t
