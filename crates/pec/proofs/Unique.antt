-- The contract of each public operation allows one result.
-- Assumes nothing.
use mathlib.Core.Path.{refl}
use Rattle.prelude.specs.Unique.{OneResult}
use Rattle.prelude.proofs.Promise.{one-result}
use Rattle.pec.proofs.by_bits.Kinds as by-bits-kinds
use Rattle.pec.proofs.by_bits.Reads as by-bits-reads
use Rattle.pec.proofs.by_table.Kinds as by-table-kinds
use Rattle.pec.proofs.by_table.Reads as by-table-reads
use Rattle.pec.proofs.transaction_code.Kinds as transaction-code-kinds
use Rattle.pec.proofs.transaction_code.Reads as transaction-code-reads

pub by-bits-unique : OneResult 1 by-bits-kinds.ps by-bits-kinds.r by-bits-reads.Learnt
by-bits-unique κs a r₁ r₂ w₁ w₂ p q = (one-result p q, refl)

pub by-table-unique : OneResult 1 by-table-kinds.ps by-table-kinds.r by-table-reads.Learnt
by-table-unique κs a r₁ r₂ w₁ w₂ p q = (one-result p q, refl)

pub transaction-code-unique : OneResult 1 transaction-code-kinds.ps transaction-code-kinds.r transaction-code-reads.Learnt
transaction-code-unique κs a r₁ r₂ w₁ w₂ p q = (one-result p q, refl)
