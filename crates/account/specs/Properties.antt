-- What the program prints, however its input comes in (manual 9.5, 9.6).
use Rattle.std.specs.Prelude.{ℕ, ◌-◌, ◌≤◌, ◌<◌, true, List, [], ◌++◌, ◌≡◌, length, take}
use Rattle.prelude.specs.Parts.{AreBytes, part}
use Rattle.printout.specs.Printout.{shown}
use Rattle.journal.specs.Feeding.{started, concluded}
use Rattle.journal.specs.Format.{parsed}
use Rattle.journal.specs.Journal.{account_in, output, outcome_printed}
use Rattle.journal.specs.Properties.{max_record}
use Rattle.account.specs.Piece.{InBuffer, in_buffer, next_at, piece_fed}

-- a read leaves the bytes that were not used yet and puts others behind them; what is there then is fed (manual 9.5)
pub record Reads (before : InBuffer) (piece : List ℕ) (after : InBuffer) : Type 0 where
  pub filled : List ℕ
  pub end : ℕ
  pub unused_stay : take before.next.unused filled ≡ take before.next.unused before.buffer
  pub behind_them : part before.next.unused (end - before.next.unused) filled ≡ piece
  pub forward : before.next.unused ≤ end
  pub inside : end ≤ length filled
  pub is_fed : after ≡ piece_fed before.next.reading end filled

-- the bytes that some reads gave, and how far reading is then (manual 9.5)
pub data Session : List ℕ → InBuffer → Type 0 where
  begins : (buffer : List ℕ) → Session [] (in_buffer (next_at started 0) buffer)
  goes_on : {bytes piece : List ℕ} {before after : InBuffer} → Session bytes before → Reads before piece after → Session (bytes ++ piece) after

-- when nothing comes any more, the account is that of all the bytes, and none where they are no journal; what is printed of it is their output (manual 9.5)
pub record EverySession : Type 0 where
  pub account_is : (bytes : List ℕ) (s : InBuffer) → Session bytes s → concluded s.next.reading s.next.unused ≡ account_in (parsed bytes)
  pub printed_is : (bytes : List ℕ) (s : InBuffer) (out : List ℕ) → Session bytes s → outcome_printed (concluded s.next.reading s.next.unused) out ≡ shown (output bytes) out

-- fewer bytes than the longest record of any version has are not used yet, so there is room behind them, and a read of no bytes is the end (manual 9.5)
abbrev pub AlwaysRoom : Type 0
AlwaysRoom = (bytes : List ℕ) (s : InBuffer) → AreBytes bytes → Session bytes s → s.next.unused < max_record true
