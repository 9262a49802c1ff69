-- That what the contract of `tco_transact` says settles the call (manual 8.10).
use Rattle.std.specs.Prelude.{ℕ, List, ◌≡◌}
use Rattle.record.specs.Transaction.{Transaction}
use Rattle.state.specs.declared.State.{State}
use Rattle.outcome.specs.declared.Reply.{Reply}
use Rattle.tco.specs.Reply.{InPlace}

-- one state, reply, store and settings (manual 8.10)
pub record SameCall (s₁ s₂ : State) (r₁ r₂ : Reply) (store₁ store₂ settings₁ settings₂ : List ℕ) : Type 0 where
  pub state : s₁ ≡ s₂
  pub reply : r₁ ≡ r₂
  pub store : store₁ ≡ store₂
  pub settings : settings₁ ≡ settings₂

-- two states, replies, stores and settings that it allows after the same transaction are equal (manual 8.10)
abbrev pub OneInPlace : Type 0
OneInPlace =
    (before : State) (store settings : List ℕ) (t : Transaction) (s₁ s₂ : State) (r₁ r₂ : Reply) (store₁ store₂ settings₁ settings₂ : List ℕ)
    → InPlace before store settings t s₁ r₁ store₁ settings₁
    → InPlace before store settings t s₂ r₂ store₂ settings₂
    → SameCall s₁ s₂ r₁ r₂ store₁ store₂ settings₁ settings₂
