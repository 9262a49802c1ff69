-- What ties the steps of demand 3 to the program: `Learnt` is the contract of a function as the prover reads it, over the function's arguments, its result and its slices at exit. A caller who learns it has made the step (manual 1.5, 1.6, 4.4).
use Rattle.std.specs.Prelude.{ℕ, List, ◌++◌, ◌≡◌, take, drop}
use borrow.Fn.Kinds.{Dens, res_t, ended_of}
use contract.Lifetimes.{Lfts}
use denote.Triple.Clauses.{AtExit}
use Rattle.packet.proofs.shown.Kinds as shown_kinds
use Rattle.packet.proofs.shown.Reads as shown_reads
use Rattle.record.specs.Transaction.{Transaction}
use Rattle.state.specs.declared.State.{State}
use Rattle.outcome.specs.declared.Reply.{Reply}
use Rattle.outcome.specs.Outcome.{reply_to}
use Rattle.translator.proofs.transact.Kinds as transact_kinds
use Rattle.translator.proofs.transact.Reads as transact_reads
use Rattle.history.specs.Calls.{Kept, transact, reply_of, packets_of, step, shown_bytes}

-- what a caller keeps, is replied and has sent is what the step of its call says: the state that came back; what was left in the part of the store and of the settings that it lent, before the rest as it was; and the packets sent before, with the one that this reply sends (manual 1.5, 1.6, 2.1)
pub record IsStep (kept : Kept) (store_lent settings_lent : ℕ) (t : Transaction) (state : State) (reply : Reply) (store_left settings_left : List ℕ) : Type 0 where
  pub state_is : state ≡ (step (transact store_lent settings_lent t) kept).state
  pub store_is : store_left ++ drop store_lent kept.store ≡ (step (transact store_lent settings_lent t) kept).store
  pub settings_are : settings_left ++ drop settings_lent kept.settings ≡ (step (transact store_lent settings_lent t) kept).settings
  pub sent_are : kept.sent ++ packets_of reply (store_left ++ drop store_lent kept.store) ≡ (step (transact store_lent settings_lent t) kept).sent
  pub reply_is : reply ≡ reply_of store_lent settings_lent t kept

-- of `translator::transact`, whatever it is lent of what is kept (manual 1.5)
abbrev pub TransactIsStep : Type 0
TransactIsStep =
    (κs : Lfts 3) (a : Dens κs transact_kinds.ps) (result : (res_t transact_kinds.r κs).Denot) (exit : AtExit (ended_of 3 transact_kinds.ps transact_kinds.r) κs)
    (kept : Kept) (store_lent settings_lent : ℕ)
    → a.0 ≡ kept.state → a.1.0.now ≡ take store_lent kept.store → a.1.1.0.now ≡ take settings_lent kept.settings
    → transact_reads.Learnt κs a result exit
    → (let t : Transaction = a.1.1.1.0 in
    IsStep kept store_lent settings_lent t result.state (reply_to result.outcome) exit.1.0.now exit.1.1.0.now)

-- what `packet::shown` shows is what a packet sent is compared by (manual 4.4)
abbrev pub ShownIsCompared : Type 0
ShownIsCompared =
    (κs : Lfts 1) (a : Dens κs shown_kinds.ps) (result : (res_t shown_kinds.r κs).Denot) (exit : AtExit (ended_of 1 shown_kinds.ps shown_kinds.r) κs)
    → shown_reads.Learnt κs a result exit → result.now ≡ shown_bytes a.0.now a.1.0
