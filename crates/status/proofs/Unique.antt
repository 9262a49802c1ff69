-- The contract of each public operation allows one result.
-- Assumes nothing.
use mathlib.Core.Path.{refl}
use denote.RattleType.{RattleType}
use denote.Param.Laws.{Laws}
use Rattle.prelude.specs.Unique.{OneResult}
use Rattle.prelude.proofs.Promise.{one-result}
use Rattle.status.proofs.write.Kinds as write-kinds
use Rattle.status.proofs.write.Reads as write-reads
use Rattle.status.proofs.read.Kinds as read-kinds
use Rattle.status.proofs.read.Reads as read-reads
use Rattle.status.proofs.judge.number.Kinds as number-kinds
use Rattle.status.proofs.judge.number.Reads as number-reads
use Rattle.status.proofs.judge.bad_field_number.Kinds as bad-field-number-kinds
use Rattle.status.proofs.judge.bad_field_number.Reads as bad-field-number-reads
use Rattle.status.proofs.judge.U32FromField.from.Kinds as field-number-kinds
use Rattle.status.proofs.judge.U32FromField.from.Reads as field-number-reads

pub write-unique : OneResult 0 write-kinds.ps write-kinds.r write-reads.Learnt
write-unique κs a r₁ r₂ w₁ w₂ p q = (one-result p q, refl)

pub read-unique : OneResult 1 read-kinds.ps read-kinds.r read-reads.Learnt
read-unique κs a r₁ r₂ w₁ w₂ p q = (one-result p q, refl)

pub number-unique : (T : RattleType) (laws : Laws T) → OneResult 2 (number-kinds.ps T laws) (number-kinds.r T laws) (number-reads.Learnt T laws)
number-unique T laws κs a r₁ r₂ w₁ w₂ p q = (one-result p q, refl)

pub bad-field-number-unique : (T : RattleType) (laws : Laws T) → OneResult 2 (bad-field-number-kinds.ps T laws) (bad-field-number-kinds.r T laws) (bad-field-number-reads.Learnt T laws)
bad-field-number-unique T laws κs a r₁ r₂ w₁ w₂ p q = (one-result p q, refl)

pub field-number-unique : OneResult 0 field-number-kinds.ps field-number-kinds.r field-number-reads.Learnt
field-number-unique κs a r₁ r₂ w₁ w₂ p q = (one-result p q, refl)
