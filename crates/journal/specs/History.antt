-- What is printed of a journal is what demand 3 says of its transactions (manual 8.9, 9.4).
use Rattle.std.specs.Prelude.{ℕ, List, map, ◌≡◌, take}
use Rattle.printout.specs.Printout.{printout}
use Rattle.record.specs.Transaction.{Transaction}
use Rattle.translator.specs.Replay.{empty_store, settings_at_start}
use Rattle.history.specs.Calls.{transact, Kept, after, store_needed, settings_needed, most_counted}
use Rattle.history.specs.Demand3.{fresh}
use Rattle.history.specs.Reading.{Entry, counted, setup_for}
use Rattle.history.specs.Runs.{account_for}
use Rattle.journal.specs.declared.header.Header.{Header}
use Rattle.journal.specs.Format.{good, parsed}
use Rattle.journal.specs.Journal.{account_after, output}

-- what a caller keeps who makes a call for each transaction (manual 1.6, 9.4)
abbrev pub kept_after : Header → List Transaction → Kept
kept_after h transactions = after (map (transact store_needed settings_needed) transactions) (fresh h.maximum h.check empty_store settings_at_start)

-- its list; whatever stands behind the last that is counted is answered 14 (manual 8.6, 9.4)
abbrev pub list_of : List Transaction → List Entry
list_of transactions = take most_counted (map counted transactions)

-- the account of a journal is the one that those calls leave, and so the one that the list makes; its printout is what is printed (manual 8.9, 9.4)
pub record FromTheList (bytes : List ℕ) (h : Header) (transactions : List Transaction) : Type 0 where
  pub account_is_kept : account_after h transactions ≡ (kept_after h transactions).state.account
  pub account_is_the_lists : account_after h transactions ≡ account_for (setup_for h.maximum h.check) (list_of transactions)
  pub printed_is_the_lists : output bytes ≡ printout (account_for (setup_for h.maximum h.check) (list_of transactions))

-- of every good journal (manual 9.3)
abbrev pub EveryJournal : Type 0
EveryJournal = (bytes : List ℕ) (h : Header) (transactions : List Transaction) → parsed bytes ≡ good h transactions → FromTheList bytes h transactions
