-- What a caller learns from the contracts is the step that demand 3 takes.
-- Assumes nothing.
use Prim.Native.Nat.{ℕ}
use mathlib.Core.Bool.{Bool, true, false}
use mathlib.Core.List.{List, ◌++◌}
use mathlib.Core.Path.{◌≡◌, refl, ap, ◌∙◌}
use lib.Dec.{ltb}
use lib.ListN.{length, drop}
use denote.Ref.{Bor}
use Rattle.prelude.specs.After.{After, after}
use Rattle.prelude.specs.Choice.{when◌then◌else◌}
use Rattle.prelude.specs.Parts.{Slice, slice_of, part_of}
use Rattle.packet.specs.Store.{max_packet, shown}
use Rattle.record.specs.Transaction.{Transaction}
use Rattle.outcome.specs.Outcome.{reply_to}
use Rattle.translator.specs.declared.Transacted.{Transacted}
use Rattle.translator.specs.Transact.{transacted}
use Rattle.history.specs.Calls.{transacted_by, packets_of, shown_bytes}
use Rattle.history.specs.Contract.{TransactIsStep, ShownIsCompared}

pub transact-is-step : TransactIsStep
transact-is-step κs a result exit kept store_lent settings_lent same-state same-store same-settings learnt =
    let t : Transaction = a.1.1.1.0 in
    let same : transacted a.0 a.1.0.now a.1.1.0.now t ≡ transacted_by store_lent settings_lent t kept = rw (same-state, same-store, same-settings) in
    let left_is : after result exit.1.0.now exit.1.1.0.now ≡ transacted_by store_lent settings_lent t kept = learnt ∙ same in
    record {
      state_is = ap (λ (left : After Transacted). left.result.state) left_is;
      store_is = ap (λ (left : After Transacted). left.store ++ drop store_lent kept.store) left_is;
      settings_are = ap (λ (left : After Transacted). left.settings ++ drop settings_lent kept.settings) left_is;
      sent_are = ap (λ (left : After Transacted). kept.sent ++ packets_of (reply_to left.result.outcome) (left.store ++ drop store_lent kept.store)) left_is;
      reply_is = ap (λ (left : After Transacted). reply_to left.result.outcome) left_is;
    }

-- what is shown of a slice are bytes of its contents, wherever it lies
bytes-shown : (store : Bor (List ℕ)) (size : ℕ) → (shown store size).bytes ≡ shown_bytes store.now size
unfolding shown when◌then◌else◌
bytes-shown store size = by_tests (ltb (length store.now) size) (ltb max_packet size)
  where
    by_tests : (short long : Bool)
        → (when short then part_of 0 0 store else when long then part_of 0 0 store else part_of 0 size store).bytes
        ≡ (when short then part_of 0 0 (record { ref_ptr = (0, 0); now = store.now }) else when long then part_of 0 0 (record { ref_ptr = (0, 0); now = store.now }) else part_of 0 size (record { ref_ptr = (0, 0); now = store.now })).bytes
    by_tests true long = refl
    by_tests false true = refl
    by_tests false false = refl

pub shown-is-compared : ShownIsCompared
shown-is-compared κs a result exit learnt =
    let same : slice_of result ≡ shown a.0 a.1.0 = learnt in
    ap (λ (s : Slice). s.bytes) same ∙ bytes-shown a.0 a.1.0
