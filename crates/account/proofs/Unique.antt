-- The contract of each function that decides how reading goes on allows one result.
-- Assumes nothing.
use mathlib.Core.Path.{refl, ap}
use Rattle.prelude.specs.Unique.{OneResult, OneSlice}
use Rattle.prelude.proofs.Promise.{one-result}
use Rattle.account.specs.Buffer.{Moved}
use Rattle.account.specs.Piece.{InBuffer, Stepped}
use Rattle.account.proofs.buffer.front.Kinds as front-kinds
use Rattle.account.proofs.buffer.front.Reads as front_reads
use Rattle.account.proofs.buffer.move_to_front.Kinds as move-to-front-kinds
use Rattle.account.proofs.buffer.move_to_front.Reads as move-to-front-reads
use Rattle.account.proofs.piece.feed_piece.Kinds as feed-piece-kinds
use Rattle.account.proofs.piece.feed_piece.Reads as feed-piece-reads
use Rattle.account.proofs.piece.after_read.Kinds as after-read-kinds
use Rattle.account.proofs.piece.after_read.Reads as after_read_reads

pub front-unique : OneSlice 1 front-kinds.ps front-kinds.r (λ _ slice. slice) front_reads.Learnt
front-unique κs a r₁ r₂ w₁ w₂ p q = (one-result p q, refl)

pub move-to-front-unique : OneResult 1 move-to-front-kinds.ps move-to-front-kinds.r move-to-front-reads.Learnt
move-to-front-unique κs a r₁ r₂ w₁ w₂ p q = (ap (λ (x : Moved). x.count) (one-result p q), ap (λ (x : Moved). (x.buffer, (tt, (tt, tt)))) (one-result p q))

pub feed-piece-unique : OneResult 1 feed-piece-kinds.ps feed-piece-kinds.r feed-piece-reads.Learnt
feed-piece-unique κs a r₁ r₂ w₁ w₂ p q = (ap (λ (x : InBuffer). x.next) (one-result p q), ap (λ (x : InBuffer). (tt, (x.buffer, (tt, tt)))) (one-result p q))

pub after-read-unique : OneResult 1 after-read-kinds.ps after-read-kinds.r after_read_reads.Learnt
after-read-unique κs a r₁ r₂ w₁ w₂ p q = (ap (λ (x : Stepped). x.step) (one-result p q), ap (λ (x : Stepped). (tt, (x.buffer, (tt, tt)))) (one-result p q))
