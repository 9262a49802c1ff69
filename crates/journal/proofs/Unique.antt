-- The contract of each public operation allows one result.
-- Assumes nothing.
use mathlib.Core.Path.{refl, ap}
use Rattle.prelude.specs.Unique.{OneResult}
use Rattle.prelude.proofs.Promise.{one-result}
use Rattle.printout.specs.Printout.{Written}
use Rattle.journal.specs.Feeding.{Fed}
use Rattle.journal.proofs.header.read_header.Kinds as read-header-kinds
use Rattle.journal.proofs.header.read_header.Reads as read-header-reads
use Rattle.journal.proofs.reading.Reading.start.Kinds as start-kinds
use Rattle.journal.proofs.reading.Reading.start.Reads as start-reads
use Rattle.journal.proofs.reading.Reading.feed.Kinds as feed-kinds
use Rattle.journal.proofs.reading.Reading.feed.Reads as feed-reads
use Rattle.journal.proofs.reading.Reading.is_bad.Kinds as is-bad-kinds
use Rattle.journal.proofs.reading.Reading.is_bad.Reads as is-bad-reads
use Rattle.journal.proofs.reading.Reading.conclude.Kinds as conclude-kinds
use Rattle.journal.proofs.reading.Reading.conclude.Reads as conclude-reads
use Rattle.journal.proofs.reading.print_outcome.Kinds as print-outcome-kinds
use Rattle.journal.proofs.reading.print_outcome.Reads as print-outcome-reads
use Rattle.journal.proofs.reading.print_journal.Kinds as print-journal-kinds
use Rattle.journal.proofs.reading.print_journal.Reads as print-journal-reads

pub read-header-unique : OneResult 1 read-header-kinds.ps read-header-kinds.r read-header-reads.Learnt
read-header-unique κs a r₁ r₂ w₁ w₂ p q = (one-result p q, refl)

pub start-unique : OneResult 0 start-kinds.ps start-kinds.r start-reads.Learnt
start-unique κs a r₁ r₂ w₁ w₂ p q = (one-result p q, refl)

pub feed-unique : OneResult 2 feed-kinds.ps feed-kinds.r feed-reads.Learnt
feed-unique κs a r₁ r₂ w₁ w₂ p q = (ap (λ (x : Fed). x.used) (one-result p q), ap (λ (x : Fed). (x.reading, (tt, tt))) (one-result p q))

pub is-bad-unique : OneResult 1 is-bad-kinds.ps is-bad-kinds.r is-bad-reads.Learnt
is-bad-unique κs a r₁ r₂ w₁ w₂ p q = (one-result p q, refl)

pub conclude-unique : OneResult 1 conclude-kinds.ps conclude-kinds.r conclude-reads.Learnt
conclude-unique κs a r₁ r₂ w₁ w₂ p q = (one-result p q, refl)

pub print-outcome-unique : OneResult 1 print-outcome-kinds.ps print-outcome-kinds.r print-outcome-reads.Learnt
print-outcome-unique κs a r₁ r₂ w₁ w₂ p q = (ap (λ (x : Written). x.size) (one-result p q), ap (λ (x : Written). (tt, (x.out, tt))) (one-result p q))

pub print-journal-unique : OneResult 2 print-journal-kinds.ps print-journal-kinds.r print-journal-reads.Learnt
print-journal-unique κs a r₁ r₂ w₁ w₂ p q = (ap (λ (x : Written). x.size) (one-result p q), ap (λ (x : Written). (tt, (x.out, tt))) (one-result p q))
