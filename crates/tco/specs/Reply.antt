-- A transaction on a state where it lies: it leaves there, and replies, what the call by value gives (manual 8.10).
use Rattle.std.specs.Prelude.{List, ◌≡◌, ℕ}
use Rattle.prelude.specs.After.{After, after}
use Rattle.record.specs.Transaction.{Transaction}
use Rattle.state.specs.declared.State.{State}
use Rattle.outcome.specs.declared.Reply.{Reply}
use Rattle.outcome.specs.Outcome.{reply_to}
use Rattle.translator.specs.declared.Transacted.{Transacted}
use Rattle.translator.specs.Transact.{transacted}

-- a state, and the reply that came with it (manual 8.10)
pub record Replied : Type 0 where
  pub state : State
  pub reply : Reply

-- both of these (manual 8.10)
abbrev pub replied : State → Reply → Replied
replied state reply = record { state = state; reply = reply }

-- what the call by value gives, its outcome in numbers (manual 2.1)
abbrev pub in_numbers : After Transacted → After Replied
in_numbers done = after (replied done.result.state (reply_to done.result.outcome)) done.store done.settings

-- what is there afterwards, by what was there before: the contract of `tco_transact` (manual 8.10)
abbrev pub InPlace : (before : State) (store settings : List ℕ) (t : Transaction) (state' : State) (reply : Reply) (store' settings' : List ℕ) → Type 0
InPlace before store settings t state' reply store' settings' =
    after (replied state' reply) store' settings' ≡ in_numbers (transacted before store settings t)
