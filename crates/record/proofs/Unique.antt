-- The contract of each public operation allows one result.
-- Assumes nothing.
use mathlib.Core.Path.{refl}
use Rattle.prelude.specs.Unique.{OneResult}
use Rattle.prelude.proofs.Promise.{one-result}
use Rattle.record.proofs.find_at.Kinds as find-at-kinds
use Rattle.record.proofs.find_at.Reads as find-at-reads

pub find-at-unique : OneResult 1 find-at-kinds.ps find-at-kinds.r find-at-reads.Learnt
find-at-unique κs a r₁ r₂ w₁ w₂ p q = (one-result p q, refl)
