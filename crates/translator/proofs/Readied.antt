-- What the rules make of a transaction, by whether it can be taken, and that its numbers fit then.
-- Assumes nothing.
use Prim.Native.Nat.{ℕ, ◌≤◌}
use mathlib.Core.List.{List}
use mathlib.Core.Path.{◌≡◌}
use native.Mathlib.Nat.{le_trans}
use lib.ListN.{length}
use borrow.Author.Tests.{eq-eqb, ne_eqb}
use Rattle.std.specs.Prelude.{Ok, Err}
use Rattle.prelude.specs.After.{after}
use Rattle.prelude.proofs.Tests.{if-true, if-false}
use Rattle.packet.specs.Store.{max_packet}
use Rattle.record.specs.Transaction.{Transaction}
use Rattle.state.specs.declared.State.{State}
use Rattle.state.specs.Account.{Formed, limit}
use Rattle.state.specs.State.{max_maximum}
use Rattle.state.proofs.Soundness.{sound-tells}
use Rattle.outcome.specs.declared.Outcome.{Outcome}
use Rattle.outcome.specs.declared.Outcome.TheVariants as outcome
use Rattle.translator.specs.Rows.{AccountFits}
use Rattle.translator.specs.Transact.{with, readiness_of, judged_on, applied, by_readiness, transacted}
use Rattle.translator.proofs.Fits.{sound-fits}
use Rattle.translator.proofs.Ways.{ready-usable, usable-comes}

module _ (s : State) (store settings : List ℕ) (ready : readiness_of s store settings ≡ Ok tt) where
  pub ready-maximum : s.maximum ≤ max_maximum
  ready-maximum = (sound-tells s (ready-usable s store settings ready).state_is_sound).most

  pub ready-room : max_packet ≤ length store
  ready-room = (ready-usable s store settings ready).store-room

  pub ready-fits : Formed s.account → AccountFits s.account
  ready-fits formed = sound-fits s.account formed (sound-tells s (ready-usable s store settings ready).state_is_sound).account-is-sound

module _ (s : State) (store settings : List ℕ) (t : Transaction) where
  pub rejected-is : (o : Outcome) → readiness_of s store settings ≡ Err o → transacted s store settings t ≡ after (with s o) store settings
  unfolding transacted by_readiness
  rejected-is o e = rw e

  module _ (ready : readiness_of s store settings ≡ Ok tt) where
    pub full_is : s.account.beside.total ≡ limit → transacted s store settings t ≡ after (with s outcome.Full) store settings
    unfolding transacted by_readiness
    full_is e = rw ready (if-true _ _ _ (eq-eqb _ _ e))

    pub counted_is : (s.account.beside.total ≡ limit → ⊥) → transacted s store settings t ≡ applied s (judged_on s store settings t)
    unfolding transacted by_readiness
    counted_is n = rw ready (if-false _ _ _ (ne_eqb _ _ n))

    pub judged-few : (judged_on s store settings t).result.bytes ≤ max_maximum
    judged-few = le_trans (usable-comes s store settings t (ready-usable s store settings ready)).few (ready-maximum s store settings ready)
