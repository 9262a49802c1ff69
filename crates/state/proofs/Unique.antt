-- The contract of each public operation allows one result.
-- Assumes nothing.
use mathlib.Core.Path.{refl}
use Rattle.prelude.specs.Unique.{OneResult}
use Rattle.prelude.proofs.Promise.{one-result}
use Rattle.state.proofs.fresh.Kinds as fresh-kinds
use Rattle.state.proofs.fresh.Reads as fresh-reads
use Rattle.state.proofs.State.setup.Kinds as setup-kinds
use Rattle.state.proofs.State.setup.Reads as setup-reads
use Rattle.state.proofs.sound.is_sound.Kinds as is-sound-kinds
use Rattle.state.proofs.sound.is_sound.Reads as is-sound-reads
use Rattle.state.proofs.sound.is_account_sound.Kinds as is-account-sound-kinds
use Rattle.state.proofs.sound.is_account_sound.Reads as is-account-sound-reads
use Rattle.state.proofs.sound.are_sound.Kinds as are-sound-kinds
use Rattle.state.proofs.sound.are_sound.Reads as are-sound-reads
use Rattle.state.proofs.grid.rows_of.Kinds as rows-of-kinds
use Rattle.state.proofs.grid.rows_of.Reads as rows-of-reads
use Rattle.state.proofs.grid.flat_of.Kinds as flat-of-kinds
use Rattle.state.proofs.grid.flat_of.Reads as flat-of-reads

pub fresh-unique : OneResult 0 fresh-kinds.ps fresh-kinds.r fresh-reads.Learnt
fresh-unique κs a r₁ r₂ w₁ w₂ p q = (one-result p q, refl)

pub setup-unique : OneResult 0 setup-kinds.ps setup-kinds.r setup-reads.Learnt
setup-unique κs a r₁ r₂ w₁ w₂ p q = (one-result p q, refl)

pub is-sound-unique : OneResult 0 is-sound-kinds.ps is-sound-kinds.r is-sound-reads.Learnt
is-sound-unique κs a r₁ r₂ w₁ w₂ p q = (one-result p q, refl)

pub is-account-sound-unique : OneResult 0 is-account-sound-kinds.ps is-account-sound-kinds.r is-account-sound-reads.Learnt
is-account-sound-unique κs a r₁ r₂ w₁ w₂ p q = (one-result p q, refl)

pub are-sound-unique : OneResult 1 are-sound-kinds.ps are-sound-kinds.r are-sound-reads.Learnt
are-sound-unique κs a r₁ r₂ w₁ w₂ p q = (one-result p q, refl)

pub rows-of-unique : OneResult 0 rows-of-kinds.ps rows-of-kinds.r rows-of-reads.Learnt
rows-of-unique κs a r₁ r₂ w₁ w₂ p q = (one-result p q, refl)

pub flat-of-unique : OneResult 0 flat-of-kinds.ps flat-of-kinds.r flat-of-reads.Learnt
flat-of-unique κs a r₁ r₂ w₁ w₂ p q = (one-result p q, refl)
