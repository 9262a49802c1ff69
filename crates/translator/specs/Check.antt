-- Whether a transaction passes the check: whether its code is that of its bytes (manual 10.4, 10.5).
use Rattle.std.specs.Prelude.{ℕ, Bool, true, false, Option, None, Some, eqb}
use Rattle.prelude.specs.Choice.{when◌then◌else◌}
use Rattle.pec.specs.Transaction.{transaction_code}
use Rattle.record.specs.Transaction.{Transaction}
use Rattle.state.specs.State.{is_on}

-- the code is the one that the bytes have, if they have one (manual 10.4)
abbrev pub is_code : Option ℕ → (code : ℕ) → Bool
is_code None code = false
is_code (Some right) code = eqb right code

-- while the check is off every transaction passes, and address and code are not read (manual 10.5)
unfoldable pub passes_check : (check : ℕ) → Transaction → Bool
passes_check check t = when is_on check then is_code (transaction_code t.address t.command t.bytes) t.code else true
