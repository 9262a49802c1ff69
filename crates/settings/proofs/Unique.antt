-- The contract of each public operation allows one result.
-- Assumes nothing.
use mathlib.Core.Path.{refl, ap}
use Rattle.prelude.specs.Unique.{OneResult}
use Rattle.prelude.proofs.Promise.{one-result}
use Rattle.settings.specs.Enable.{Answer, Answered}
use Rattle.settings.proofs.fresh.Kinds as fresh-kinds
use Rattle.settings.proofs.fresh.Reads as fresh-reads
use Rattle.settings.proofs.is_sound.Kinds as is-sound-kinds
use Rattle.settings.proofs.is_sound.Reads as is-sound-reads
use Rattle.settings.proofs.enable.receive_enable.Kinds as receive-enable-kinds
use Rattle.settings.proofs.enable.receive_enable.Reads as receive-enable-reads
use Rattle.settings.proofs.enable.number.Kinds as number-kinds
use Rattle.settings.proofs.enable.number.Reads as number-reads
use Rattle.settings.proofs.enable.U32FromRefusal.from.Kinds as refusal-number-kinds
use Rattle.settings.proofs.enable.U32FromRefusal.from.Reads as refusal-number-reads
use Rattle.settings.proofs.fresh_number.Kinds as fresh-number-kinds
use Rattle.settings.proofs.fresh_number.Reads as fresh-number-reads

pub fresh-unique : OneResult 1 fresh-kinds.ps fresh-kinds.r fresh-reads.Learnt
fresh-unique κs a r₁ r₂ w₁ w₂ p q = (ap (λ (x : Answered Answer). x.answer) (one-result p q), ap (λ (x : Answered Answer). (x.settings, tt)) (one-result p q))

pub is-sound-unique : OneResult 1 is-sound-kinds.ps is-sound-kinds.r is-sound-reads.Learnt
is-sound-unique κs a r₁ r₂ w₁ w₂ p q = (one-result p q, refl)

pub receive-enable-unique : OneResult 2 receive-enable-kinds.ps receive-enable-kinds.r receive-enable-reads.Learnt
receive-enable-unique κs a r₁ r₂ w₁ w₂ p q = (ap (λ (x : Answered Answer). x.answer) (one-result p q), ap (λ (x : Answered Answer). (x.settings, (tt, tt))) (one-result p q))

pub number-unique : OneResult 0 number-kinds.ps number-kinds.r number-reads.Learnt
number-unique κs a r₁ r₂ w₁ w₂ p q = (one-result p q, refl)

pub fresh-number-unique : OneResult 0 fresh-number-kinds.ps fresh-number-kinds.r fresh-number-reads.Learnt
fresh-number-unique κs a r₁ r₂ w₁ w₂ p q = (one-result p q, refl)

pub refusal-number-unique : OneResult 0 refusal-number-kinds.ps refusal-number-kinds.r refusal-number-reads.Learnt
refusal-number-unique κs a r₁ r₂ w₁ w₂ p q = (one-result p q, refl)
