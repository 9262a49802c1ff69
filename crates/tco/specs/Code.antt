-- The code of a transaction in numbers (manual 10.4).
use Rattle.std.specs.Prelude.{ℕ, List, Option, None, Some}
use Rattle.outcome.specs.Outcome.{number_of}
use Rattle.outcome.specs.declared.Outcome.TheVariants.{BadCheck}
use Rattle.pec.specs.Transaction.{transaction_code}
use Rattle.state.specs.State.{success}
use Rattle.tco.specs.declared.CheckCode.{CheckCode}

-- 17 where there is none (manual 10.4)
abbrev pub code_in_numbers : Option ℕ → CheckCode
code_in_numbers None = record { answer = number_of BadCheck; code = 0 }
code_in_numbers (Some code) = record { answer = success; code = code }

abbrev pub check_code : (address command : ℕ) → List ℕ → CheckCode
check_code address command bytes = code_in_numbers (transaction_code address command bytes)
