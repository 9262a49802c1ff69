-- The contract of each public operation allows one result.
-- Assumes nothing.
use mathlib.Core.Path.{ap}
use Rattle.prelude.specs.Unique.{OneResult}
use Rattle.prelude.proofs.Promise.{one-result}
use Rattle.printout.specs.Printout.{Written}
use Rattle.printout.proofs.print.Kinds as print-kinds
use Rattle.printout.proofs.print.Reads as print-reads
use Rattle.printout.proofs.show.Kinds as show-kinds
use Rattle.printout.proofs.show.Reads as show-reads

pub print-unique : OneResult 1 print-kinds.ps print-kinds.r print-reads.Learnt
print-unique κs a r₁ r₂ w₁ w₂ p q = (ap (λ (x : Written). x.size) (one-result p q), ap (λ (x : Written). (tt, (x.out, tt))) (one-result p q))

pub show-unique : OneResult 2 show-kinds.ps show-kinds.r show-reads.Learnt
show-unique κs a r₁ r₂ w₁ w₂ p q = (ap (λ (x : Written). x.size) (one-result p q), ap (λ (x : Written). (tt, (x.out, tt))) (one-result p q))
