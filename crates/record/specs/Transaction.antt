-- A transaction: what every statement is about (manual 1.1).
use Rattle.std.specs.Prelude.{ℕ, Bool, List}
use Rattle.record.specs.declared.transaction.Attributes.{Attributes}

-- an address, a command, the data that came with it, the code over all three, and the link at that moment (manual 1.1)
pub record Transaction : Type 0 where
  pub address : ℕ
  pub command : ℕ
  pub bytes : List ℕ
  pub code : ℕ
  pub link_up : Bool

-- all of it but the data, and the data (manual 1.1)
abbrev pub attributes : (address command code : ℕ) → (link_up : Bool) → Attributes
attributes address command code link_up = record { address = address; command = command; code = code; link_up = link_up }

abbrev pub transaction : Attributes → List ℕ → Transaction
transaction a bytes = record { address = a.address; command = a.command; bytes = bytes; code = a.code; link_up = a.link_up }

-- where no code is checked, address and code are zero (manual 9.2)
abbrev pub unchecked : (command : ℕ) → List ℕ → (link_up : Bool) → Transaction
unchecked command bytes link_up = transaction (attributes 0 command 0 link_up) bytes
