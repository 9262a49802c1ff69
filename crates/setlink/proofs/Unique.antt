-- The contract of each public operation allows one result.
-- Assumes nothing.
use mathlib.Core.Path.{refl}
use Rattle.prelude.specs.Unique.{OneResult}
use Rattle.prelude.proofs.Promise.{one-result}
use Rattle.setlink.proofs.decide.Kinds as decide-kinds
use Rattle.setlink.proofs.decide.Reads as decide-reads
use Rattle.setlink.proofs.MediaTryFromU32.try_from.Kinds as try-from-kinds
use Rattle.setlink.proofs.MediaTryFromU32.try_from.Reads as try-from-reads

pub decide-unique : OneResult 0 decide-kinds.ps decide-kinds.r decide-reads.Learnt
decide-unique κs a r₁ r₂ w₁ w₂ p q = (one-result p q, refl)

pub try-from-unique : OneResult 0 try-from-kinds.ps try-from-kinds.r try-from-reads.Learnt
try-from-unique κs a r₁ r₂ w₁ w₂ p q = (one-result p q, refl)
