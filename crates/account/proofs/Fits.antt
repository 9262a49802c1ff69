-- The bytes that were not used yet are in the buffer, whatever a read gave.
-- Assumes nothing.
use Prim.Native.Nat.{ℕ, ◌≤◌}
use mathlib.Core.List.{List}
use mathlib.Core.Path.{◌≡◌, refl, sym, subst}
use lib.ListN.{length}
use Rattle.std.specs.Prelude.{Result, Ok, Err, Option, Some}
use Rattle.std.specs.declared.io.Error.{Error}
use Rattle.prelude.proofs.Tests.{if-cases}
use Rattle.account.specs.declared.piece.Next.{Next}
use Rattle.account.specs.Piece.{InBuffer, Stepped, stepped, piece_fed, after_read}
use Rattle.account.proofs.Moving.{moved-fits}

abbrev goes-on : Next → Result (Option Next) Error
goes-on next = Ok (Some next)

abbrev Fits : Stepped → Type 0
Fits s = (next : Next) → s.step ≡ goes-on next → next.unused ≤ length s.buffer

fits-fed : (s : InBuffer) (next : Next) → goes-on s.next ≡ goes-on next → s.next.unused ≤ length s.buffer → next.unused ≤ length s.buffer
fits-fed s next e fits = let same : s.next ≡ next = cc in subst (λ (n : Next). n.unused ≤ length s.buffer) same fits

fits-after : (next : Next) (read : Result ℕ Error) (buffer : List ℕ) → Fits (after_read next read buffer)
unfolding after_read piece_fed
fits-after next (Err error) buffer = λ _ e. absurd (cc)
fits-after next (Ok count) buffer = if-cases Fits _ _ _ (λ _ _ e. absurd (cc)) (λ _ after e. fits-fed _ after e (moved-fits _ _ buffer))

pub unused-fits : (next after : Next) (read : Result ℕ Error) (before buffer : List ℕ) → stepped (goes-on after) buffer ≡ after_read next read before → after.unused ≤ length buffer
unused-fits next after read before buffer e = subst Fits (sym e) (fits-after next read before) after refl
