-- The outcome of a whole journal (manual 9.3, 9.4).
use Rattle.std.specs.Prelude.{ℕ, List, Option, None, Some}
use Rattle.prelude.specs.After.{after}
use Rattle.printout.specs.Printout.{Written, printout, shown, printed}
use Rattle.record.specs.Transaction.{Transaction}
use Rattle.state.specs.declared.Account.{Account}
use Rattle.state.specs.State.{check_number, setup_of, fresh_state}
use Rattle.translator.specs.Replay.{all_transacted, empty_store, settings_at_start}
use Rattle.journal.specs.declared.header.Header.{Header}
use Rattle.journal.specs.Format.{Journal, bad, good, parsed, bad_journal}

-- the account that transactions leave, from a fresh state and fresh settings on (manual 9.4)
abbrev pub account_after : Header → List Transaction → Account
account_after h transactions = (all_transacted (after (fresh_state (setup_of h.maximum (check_number h.check))) empty_store settings_at_start) transactions).result.account

-- the account of a journal, which a bad one has not (manual 9.3, 9.4)
abbrev pub account_in : Journal → Option Account
account_in bad = None
account_in (good h transactions) = Some (account_after h transactions)

-- what is printed: the account, or that the journal is bad (manual 9.3, 9.4)
abbrev pub text_of : Option Account → List ℕ
text_of None = bad_journal
text_of (Some account) = printout account

-- of a whole journal, by its bytes (manual 9.3, 9.4)
unfoldable pub output : List ℕ → List ℕ
output bytes = text_of (account_in (parsed bytes))

-- printed where there is room: an account as `printed` of `printout` has it, which must be sound (manual 9.4)
abbrev pub outcome_printed : Option Account → List ℕ → Written
outcome_printed None out = shown bad_journal out
outcome_printed (Some account) out = printed account out
