-- A transaction on a state where it lies is demand 3's call (manual 8.9, 8.10).
use Rattle.std.specs.Prelude.{ℕ, List, take}
use Rattle.record.specs.Transaction.{Transaction}
use Rattle.state.specs.declared.State.{State}
use Rattle.outcome.specs.declared.Reply.{Reply}
use Rattle.history.specs.Calls.{Kept}
use Rattle.history.specs.Contract.{IsStep}
use Rattle.tco.specs.Reply.{InPlace}

-- whatever the contract of `tco_transact` allows, on so much of the store and of the settings as is lent (manual 1.5, 8.10)
abbrev pub EveryStep : Type 0
EveryStep =
    (kept : Kept) (store_lent settings_lent : ℕ) (t : Transaction) (state : State) (reply : Reply) (store settings : List ℕ)
    → InPlace kept.state (take store_lent kept.store) (take settings_lent kept.settings) t state reply store settings
    → IsStep kept store_lent settings_lent t state reply store settings
