-- The contract of each public operation allows one result.
-- Assumes nothing.
use mathlib.Core.Path.{refl, ap}
use Prim.Native.Nat.{ℕ}
use mathlib.Core.List.{List}
use Rattle.prelude.specs.Unique.{OneResult, OneSlice}
use Rattle.prelude.proofs.Promise.{one-result}
use Rattle.packet.proofs.fill.Kinds as fill-kinds
use Rattle.packet.proofs.fill.Reads as fill-reads
use Rattle.packet.proofs.sent_length.Kinds as sent-length-kinds
use Rattle.packet.proofs.sent_length.Reads as sent-length-reads
use Rattle.packet.proofs.shown.Kinds as shown_kinds
use Rattle.packet.proofs.shown.Reads as shown_reads

pub fill-unique : OneResult 1 fill-kinds.ps fill-kinds.r fill-reads.Learnt
fill-unique κs a r₁ r₂ w₁ w₂ p q = (refl, ap (λ (l : List ℕ). (l, (tt, tt))) (one-result p q))

pub sent-length-unique : OneResult 0 sent-length-kinds.ps sent-length-kinds.r sent-length-reads.Learnt
sent-length-unique κs a r₁ r₂ w₁ w₂ p q = (one-result p q, refl)

pub shown-unique : OneSlice 1 shown_kinds.ps shown_kinds.r (λ _ slice. slice) shown_reads.Learnt
shown-unique κs a r₁ r₂ w₁ w₂ p q = (one-result p q, refl)
