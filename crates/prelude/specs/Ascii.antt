-- Text as bytes.
use Prim.Native.Char.{code}
use Rattle.std.specs.Prelude.{ℕ, List, [] as []ᴸ, ◌∷◌ as ◌∷ᴸ◌}
use Prim.Native.String.{String, [], ◌∷◌}

-- the codes of a text's characters, a byte each
abbrev pub ascii : String → List ℕ
ascii [] = []ᴸ
ascii (c ∷ rest) = code c ∷ᴸ ascii rest
