-- The contract of each public operation allows one result.
-- Assumes nothing.
use mathlib.Core.Path.{refl, ap}
use Prim.Native.Nat.{ℕ}
use Rattle.prelude.specs.Unique.{OneResult}
use Rattle.prelude.proofs.Promise.{one-result}
use Rattle.prelude.specs.After.{After}
use Rattle.printout.specs.Printout.{Written}
use Rattle.settings.specs.Enable.{Answered}
use Rattle.tco.specs.Unique.{OneInPlace}
use Rattle.tco.proofs.tco_fresh_state.Kinds as fresh-state-kinds
use Rattle.tco.proofs.tco_fresh_state.Reads as fresh-state-reads
use Rattle.tco.proofs.tco_fresh_settings.Kinds as fresh-settings-kinds
use Rattle.tco.proofs.tco_fresh_settings.Reads as fresh-settings-reads
use Rattle.tco.proofs.tco_check_code.Kinds as check-code-kinds
use Rattle.tco.proofs.tco_check_code.Reads as check-code-reads
use Rattle.tco.proofs.tco_shown.Kinds as shown_kinds
use Rattle.tco.proofs.tco_shown.Reads as shown_reads
use Rattle.tco.proofs.tco_mac_in_force.Kinds as mac-in-force-kinds
use Rattle.tco.proofs.tco_mac_in_force.Reads as mac-in-force-reads
use Rattle.tco.proofs.tco_ipv4_in_force.Kinds as ipv4-in-force-kinds
use Rattle.tco.proofs.tco_ipv4_in_force.Reads as ipv4-in-force-reads
use Rattle.tco.proofs.tco_write_status.Kinds as write-status-kinds
use Rattle.tco.proofs.tco_write_status.Reads as write-status-reads
use Rattle.tco.proofs.tco_read_status.Kinds as read-status-kinds
use Rattle.tco.proofs.tco_read_status.Reads as read-status-reads
use Rattle.tco.proofs.tco_set_link.Kinds as set-link-kinds
use Rattle.tco.proofs.tco_set_link.Reads as set-link-reads
use Rattle.tco.proofs.tco_print_account.Kinds as print-account-kinds
use Rattle.tco.proofs.tco_print_account.Reads as print-account-reads
use Rattle.tco.specs.Reply.{Replied}

pub fresh-state-unique : OneResult 0 fresh-state-kinds.ps fresh-state-kinds.r fresh-state-reads.Learnt
fresh-state-unique κs a r₁ r₂ w₁ w₂ p q = (one-result p q, refl)

pub fresh-settings-unique : OneResult 1 fresh-settings-kinds.ps fresh-settings-kinds.r fresh-settings-reads.Learnt
fresh-settings-unique κs a r₁ r₂ w₁ w₂ p q = (ap (λ (x : Answered ℕ). x.answer) (one-result p q), ap (λ (x : Answered ℕ). (x.settings, tt)) (one-result p q))

pub check-code-unique : OneResult 1 check-code-kinds.ps check-code-kinds.r check-code-reads.Learnt
check-code-unique κs a r₁ r₂ w₁ w₂ p q = (one-result p q, refl)

pub shown-unique : OneResult 1 shown_kinds.ps shown_kinds.r shown_reads.Learnt
shown-unique κs a r₁ r₂ w₁ w₂ p q = (one-result p q, refl)

pub mac-in-force-unique : OneResult 2 mac-in-force-kinds.ps mac-in-force-kinds.r mac-in-force-reads.Learnt
mac-in-force-unique κs a r₁ r₂ w₁ w₂ p q = (one-result p q, refl)

pub ipv4-in-force-unique : OneResult 2 ipv4-in-force-kinds.ps ipv4-in-force-kinds.r ipv4-in-force-reads.Learnt
ipv4-in-force-unique κs a r₁ r₂ w₁ w₂ p q = (one-result p q, refl)

pub write-status-unique : OneResult 0 write-status-kinds.ps write-status-kinds.r write-status-reads.Learnt
write-status-unique κs a r₁ r₂ w₁ w₂ p q = (one-result p q, refl)

pub read-status-unique : OneResult 1 read-status-kinds.ps read-status-kinds.r read-status-reads.Learnt
read-status-unique κs a r₁ r₂ w₁ w₂ p q = (one-result p q, refl)

pub set-link-unique : OneResult 0 set-link-kinds.ps set-link-kinds.r set-link-reads.Learnt
set-link-unique κs a r₁ r₂ w₁ w₂ p q = (one-result p q, refl)

pub print-account-unique : OneResult 1 print-account-kinds.ps print-account-kinds.r print-account-reads.Learnt
print-account-unique κs a r₁ r₂ w₁ w₂ p q = (ap (λ (x : Written). x.size) (one-result p q), ap (λ (x : Written). (tt, (x.out, tt))) (one-result p q))

pub transact-unique : OneInPlace
transact-unique before store settings t s₁ s₂ r₁ r₂ store₁ store₂ settings₁ settings₂ p q = record {
  state = ap (λ (x : After Replied). x.result.state) (one-result p q);
  reply = ap (λ (x : After Replied). x.result.reply) (one-result p q);
  store = ap (λ (x : After Replied). x.store) (one-result p q);
  settings = ap (λ (x : After Replied). x.settings) (one-result p q);
}
