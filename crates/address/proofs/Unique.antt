-- The contract of each public operation allows one result.
-- Assumes nothing.
use mathlib.Core.Path.{refl}
use Rattle.prelude.specs.Unique.{OneResult, OneSlice}
use Rattle.prelude.proofs.Promise.{one-result}
use Rattle.address.proofs.in_force.Kinds as in-force-kinds
use Rattle.address.proofs.in_force.Reads as in-force-reads
use Rattle.address.proofs.source_of.Kinds as source-of-kinds
use Rattle.address.proofs.source_of.Reads as source-of-reads

pub in-force-unique : OneSlice 1 in-force-kinds.ps in-force-kinds.r (λ _ slice. slice) in-force-reads.Learnt
in-force-unique κs a r₁ r₂ w₁ w₂ p q = (one-result p q, refl)

pub source-of-unique : OneResult 2 source-of-kinds.ps source-of-kinds.r source-of-reads.Learnt
source-of-unique κs a r₁ r₂ w₁ w₂ p q = (one-result p q, refl)
