-- The transactions of a journal are calls of demand 3.
-- Assumes nothing.
use mathlib.Core.List.{List, [], ◌∷◌, map, append-nil}
use mathlib.Core.Path.{◌≡◌, refl, sym, ap, ◌∙◌, subst}
use native.Mathlib.Omega.{arith}
use lib.ListN.{length, take, drop_of_length-le}
use lib.Seq.{take_all}
use Rattle.prelude.specs.After.{After}
use Rattle.prelude.specs.After as prelude
use Rattle.prelude.specs.Choice.{when◌then◌else◌}
use Rattle.printout.specs.Printout.{printout}
use Rattle.record.specs.Transaction.{Transaction}
use Rattle.settings.specs.Layout.{with_settings}
use Rattle.settings.specs.Enable.{freshened}
use Rattle.state.specs.declared.State.{State}
use Rattle.state.specs.Account.{Formed}
use Rattle.state.specs.declared.Setup.{Setup}
use Rattle.state.specs.State.{check_number, setup_of, fresh_state, made}
use Rattle.state.proofs.FreshStates.{made-fresh}
use Rattle.translator.specs.declared.Transacted.{Transacted}
use Rattle.translator.specs.Transact.{transacted}
use Rattle.translator.specs.Replay.{state_after, all_transacted, empty_store, settings_at_start}
use Rattle.translator.proofs.Properties.{every-transaction}
use Rattle.translator.proofs.Keeping.{every-keeping}
use Rattle.history.specs.Calls.{Call, transact, Kept, step, after, store_needed, settings_needed, has_room, with_room, most_counted}
use Rattle.history.specs.Demand3.{Demand3For, fresh}
use Rattle.history.specs.Reading.{Entry, counted, setup_for}
use Rattle.history.specs.Runs.{account_for}
use Rattle.history.proofs.Demand3.{demand3}
use Rattle.journal.specs.Format.{Journal}
use Rattle.journal.specs.Journal.{account_after, account_in, text_of, output}
use Rattle.journal.specs.History.{kept_after, list_of, EveryJournal}
use Rattle.journal.proofs.RoundTrip.{round_trip}

-- what a replay holds of what a caller keeps
abbrev held : Kept → After State
held kept = prelude.after kept.state kept.store kept.settings

abbrev call_of : Transaction → Call
call_of t = transact store_needed settings_needed t

-- a store and settings that are lent whole
record Whole (kept : Kept) : Type 0 where
  store-whole : length kept.store ≡ store_needed
  settings-whole : length kept.settings ≡ settings_needed
  formed : Formed kept.state.account

module _ (t : Transaction) (kept : Kept) (whole : Whole kept) where
  abbrev left : After Transacted
  left = transacted kept.state kept.store kept.settings t

  step_is : held (step (call_of t) kept) ≡ state_after left
  step_is =
      let all-store : length kept.store ≡ store_needed = whole.store-whole in
      let all-settings : length kept.settings ≡ settings_needed = whole.settings-whole in
      rw (take_all store_needed kept.store (omega arith), take_all settings_needed kept.settings (omega arith), drop_of_length-le kept.store {i = store_needed} (omega arith), drop_of_length-le kept.settings {i = settings_needed} (omega arith), append-nil left.store, append-nil left.settings)

  whole-stays : Whole (step (call_of t) kept)
  whole-stays =
      let keeps : _ = every-keeping kept.state kept.store kept.settings t whole.formed in
      record {
        store-whole = ap (λ (x : After State). length x.store) step_is ∙ keeps.0.same_length ∙ whole.store-whole;
        settings-whole = ap (λ (x : After State). length x.settings) step_is ∙ keeps.1.0 ∙ whole.settings-whole;
        formed = subst (λ (x : After State). Formed x.result.account) (sym step_is) (every-transaction kept.state kept.store kept.settings t whole.formed).account_stays_formed;
      }

replayed-is-calls : (transactions : List Transaction) (kept : Kept) → Whole kept → all_transacted (held kept) transactions ≡ held (after (map call_of transactions) kept)
unfolding all_transacted
replayed-is-calls [] kept whole = refl
replayed-is-calls (t ∷ rest) kept whole =
    ap (λ (x : After State). all_transacted x rest) (sym (step_is t kept whole)) ∙ replayed-is-calls rest (step (call_of t) kept) (whole-stays t kept whole)

-- every call has room
all-have-room : (transactions : List Transaction) → with_room (length empty_store) (length settings_at_start) (map call_of transactions) ≡ map counted transactions
unfolding has_room with_settings when◌then◌else◌
all-have-room [] = refl
all-have-room (t ∷ rest) = ap (λ (entries : List Entry). counted t ∷ entries) (all-have-room rest)

settings-are-fresh : (freshened settings_at_start).settings ≡ settings_at_start
unfolding freshened with_settings when◌then◌else◌
settings-are-fresh = refl

settings-length : length settings_at_start ≡ settings_needed
unfolding with_settings
settings-length = refl

pub every-journal : EveryJournal
unfolding output
every-journal bytes h transactions e =
    let told : _ = round_trip.read_was_written bytes h transactions e in
    let setup : Setup = setup_of h.maximum (check_number h.check) in
    let start : Kept = fresh h.maximum h.check empty_store settings_at_start in
    let state_is : (made h.maximum h.check).state ≡ fresh_state setup = made-fresh h.maximum h.check told.1 told.2 in
    let held-is : held start ≡ prelude.after (fresh_state setup) empty_store settings_at_start = rw (state_is, settings-are-fresh) in
    let whole : Whole start = record {
      store-whole = refl;
      settings-whole = ap length settings-are-fresh ∙ settings-length;
      formed = subst (λ (s : State). Formed s.account) (sym state_is) refl;
    } in
    let kept-is : account_after h transactions ≡ (kept_after h transactions).state.account =
    ap (λ (x : After State). x.result.account) (ap (λ (x : After State). all_transacted x transactions) (sym held-is) ∙ replayed-is-calls transactions start whole) in
    let demand : Demand3For h.maximum h.check empty_store settings_at_start (map call_of transactions) = demand3 h.maximum h.check empty_store settings_at_start (rw settings-length (omega arith)) (map call_of transactions) in
    let listed : account_after h transactions ≡ account_for (setup_for h.maximum h.check) (list_of transactions) =
    kept-is ∙ demand.agrees.account_agrees ∙ ap (account_for (setup_for h.maximum h.check)) (demand.list_is ∙ ap (take most_counted) (all-have-room transactions)) in
    record { account_is_kept = kept-is; account_is_the_lists = listed; printed_is_the_lists = ap (λ (j : Journal). text_of (account_in j)) e ∙ ap printout listed }
