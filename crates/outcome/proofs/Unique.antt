-- The contract of each public operation allows one result.
-- Assumes nothing.
use mathlib.Core.Path.{refl}
use Rattle.prelude.specs.Unique.{OneResult}
use Rattle.prelude.proofs.Promise.{one-result}
use Rattle.outcome.proofs.ReplyFromOutcome.from.Kinds as reply-kinds
use Rattle.outcome.proofs.ReplyFromOutcome.from.Reads as reply-reads
use Rattle.outcome.proofs.U32FromOutcome.from.Kinds as number-kinds
use Rattle.outcome.proofs.U32FromOutcome.from.Reads as number-reads
use Rattle.outcome.proofs.U32FromCause.from.Kinds as cause-number-kinds
use Rattle.outcome.proofs.U32FromCause.from.Reads as cause-number-reads

pub reply-to-unique : OneResult 0 reply-kinds.ps reply-kinds.r reply-reads.Learnt
reply-to-unique κs a r₁ r₂ w₁ w₂ p q = (one-result p q, refl)

pub number-unique : OneResult 0 number-kinds.ps number-kinds.r number-reads.Learnt
number-unique κs a r₁ r₂ w₁ w₂ p q = (one-result p q, refl)

pub cause-number-unique : OneResult 0 cause-number-kinds.ps cause-number-kinds.r cause-number-reads.Learnt
cause-number-unique κs a r₁ r₂ w₁ w₂ p q = (one-result p q, refl)
