-- What a state and buffers are that can be used, and that a transaction leaves them so.
-- Assumes nothing.
use Prim.Native.Nat.{ℕ}
use mathlib.Core.List.{List}
use mathlib.Core.Path.{◌≡◌, refl, sym, ap, ◌∙◌}
use native.Mathlib.Omega.{arith}
use Rattle.std.specs.Prelude.{Ok, Err}
use Rattle.prelude.specs.After.{After}
use Rattle.prelude.proofs.Tests.{if-cases}
use Rattle.record.specs.Transaction.{Transaction}
use Rattle.state.specs.declared.State.{State}
use Rattle.state.specs.Account.{Formed}
use Rattle.translator.specs.declared.Transacted.{Transacted}
use Rattle.translator.specs.Transact.{Readiness, readiness_of, by_readiness, transacted}
use Rattle.translator.proofs.Keeping.{every-keeping}
use Rattle.translator.proofs.Properties.{every-transaction}
pub use Rattle.translator.proofs.Ways.{Usable, ready-usable, usable-ready}

module _ (s : State) (store settings : List ℕ) (t : Transaction) where
  abbrev left : After Transacted
  left = transacted s store settings t

  -- no transaction turns the check on or off
  pub check-stays : left.result.state.check ≡ s.check
  unfolding transacted by_readiness
  check-stays = by-readiness (readiness_of s store settings)
    where
      by-readiness : (r : Readiness) → (by_readiness r s store settings t).result.state.check ≡ s.check
      by-readiness (Err o) = refl
      by-readiness (Ok tt) = if-cases (λ (x : After Transacted). x.result.state.check ≡ s.check) _ _ _ (λ _. refl) (λ _. refl)

  pub readiness-stays : Formed s.account → readiness_of left.result.state left.store left.settings ≡ readiness_of s store settings
  unfolding transacted by_readiness
  readiness-stays formed = by-readiness (readiness_of s store settings) refl
    where
      by-readiness : (r : Readiness) → readiness_of s store settings ≡ r → readiness_of left.result.state left.store left.settings ≡ readiness_of s store settings
      by-readiness (Err o) e =
          ap (λ (r : Readiness). let left : After Transacted = by_readiness r s store settings t in readiness_of left.result.state left.store left.settings) e
      by-readiness (Ok tt) e =
          let u : Usable s store settings = ready-usable s store settings e in
          let counts : _ = every-transaction s store settings t formed in
          let keeps : _ = every-keeping s store settings t formed in
          usable-ready _ _ _ (record {
            store-room = omega (arith, keeps.0.same_length, u.store-room);
            settings-room = omega (arith, keeps.1.0, u.settings-room);
            state_is_sound = counts.state_stays_sound u.state_is_sound;
            settings_are_sound = counts.settings_stay_sound u.settings_are_sound;
          })
          ∙ sym e
