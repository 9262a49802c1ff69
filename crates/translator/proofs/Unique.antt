-- The contract of each public operation allows one result.
-- Assumes nothing.
use mathlib.Core.Path.{refl, ap}
use Rattle.prelude.specs.Unique.{OneResult}
use Rattle.prelude.proofs.Promise.{one-result}
use Rattle.prelude.specs.After.{After}
use Rattle.translator.specs.declared.Transacted.{Transacted}
use Rattle.translator.specs.Replay.{Replayed}
use Rattle.translator.proofs.transact.Kinds as transact_kinds
use Rattle.translator.proofs.transact.Reads as transact_reads
use Rattle.translator.proofs.records.Replay.start.Kinds as replay-start-kinds
use Rattle.translator.proofs.records.Replay.start.Reads as replay-start-reads
use Rattle.translator.proofs.records.Replay.take.Kinds as replay-take-kinds
use Rattle.translator.proofs.records.Replay.take.Reads as replay-take-reads
use Rattle.translator.proofs.records.Replay.account.Kinds as replay-account-kinds
use Rattle.translator.proofs.records.Replay.account.Reads as replay-account-reads

pub transact-unique : OneResult 3 transact_kinds.ps transact_kinds.r transact_reads.Learnt
transact-unique κs a r₁ r₂ w₁ w₂ p q = (ap (λ (x : After Transacted). x.result) (one-result p q), ap (λ (x : After Transacted). (tt, (x.store, (x.settings, (tt, tt))))) (one-result p q))

pub replay-start-unique : OneResult 0 replay-start-kinds.ps replay-start-kinds.r replay-start-reads.Learnt
replay-start-unique κs a r₁ r₂ w₁ w₂ p q = (one-result p q, refl)

pub replay-take-unique : OneResult 2 replay-take-kinds.ps replay-take-kinds.r replay-take-reads.Learnt
replay-take-unique κs a r₁ r₂ w₁ w₂ p q = (ap (λ (x : Replayed). x.stopped) (one-result p q), ap (λ (x : Replayed). (x.replay, (tt, (tt, tt)))) (one-result p q))

pub replay-account-unique : OneResult 1 replay-account-kinds.ps replay-account-kinds.r replay-account-reads.Learnt
replay-account-unique κs a r₁ r₂ w₁ w₂ p q = (one-result p q, refl)
