-- The packet error code of a transaction (manual 10.2, 10.4).
use Rattle.std.specs.Prelude.{ℕ, List, ◌∷◌, ◌++◌, [], Option, None, Some, ltb, length}
use Rattle.prelude.specs.Choice.{when◌then◌else◌}
use Rattle.pec.specs.Table.{code_by_table}

-- the most data bytes that a count of one byte can tell (manual 10.4)
abbrev pub max_count : ℕ
max_count = 255

-- the bytes that have the code: address, command, count, data (manual 10.2)
abbrev pub coded : (address command : ℕ) → List ℕ → List ℕ
coded address command bytes = address ∷ command ∷ length bytes ∷ bytes

-- more data have none (manual 10.4)
unfoldable pub transaction_code : (address command : ℕ) → List ℕ → Option ℕ
transaction_code address command bytes =
    when ltb max_count (length bytes) then None else
    Some (code_by_table 0 (coded address command bytes))

-- as it stands on the bus: its code behind it (manual 10.6)
abbrev pub framed : (address command : ℕ) → List ℕ → (code : ℕ) → List ℕ
framed address command bytes code = address ∷ command ∷ length bytes ∷ bytes ++ code ∷ []
