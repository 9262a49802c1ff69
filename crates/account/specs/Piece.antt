-- How reading goes on (manual 9.5).
use Rattle.std.specs.Prelude.{ℕ, ◌+◌, Bool, List, [], Result, Ok, Err, Option, Some, None, eqb, ltb, length, take}
use Rattle.std.specs.declared.io.Error.{Error}
use Rattle.prelude.specs.Choice.{when◌then◌else◌}
use Rattle.journal.specs.declared.reading.Reading.{Reading}
use Rattle.journal.specs.Feeding.{Fed, fed, is_bad}
use Rattle.account.specs.declared.piece.Next.{Next}
use Rattle.account.specs.Buffer.{Moved, moved_to_front}

-- a reading, and how many bytes it has not used (manual 9.5)
abbrev pub next_at : Reading → ℕ → Next
next_at reading unused = record { reading = reading; unused = unused }

-- how reading goes on, and what the buffer holds: at its start the bytes that were not used yet (manual 9.5)
pub record InBuffer : Type 0 where
  pub next : Next
  pub buffer : List ℕ

-- both of these (manual 9.5)
abbrev pub in_buffer : Next → List ℕ → InBuffer
in_buffer next buffer = record { next = next; buffer = buffer }

-- of a bad journal everything is used, so that it is read to its end (manual 9.5)
abbrev pub used_of : Bool → ℕ → ℕ → ℕ
used_of is_bad used end = when is_bad then end else used

-- the first bytes of a buffer, or none where there are fewer (manual 9.5)
abbrev pub first_of : ℕ → List ℕ → List ℕ
first_of size buffer = when ltb (length buffer) size then [] else take size buffer

-- a reading behind a piece, and a buffer in which bytes were moved (manual 9.5)
abbrev pub after_piece : Fed → Moved → InBuffer
after_piece f m = in_buffer (next_at f.reading m.count) m.buffer

-- those moved to the start are the ones that it did not use (manual 9.5)
abbrev pub unused_moved : Fed → ℕ → List ℕ → InBuffer
unused_moved f end buffer = after_piece f (moved_to_front (used_of (is_bad f.reading) f.used end) end buffer)

-- the first bytes of a buffer, fed (manual 9.5)
unfoldable pub piece_fed : Reading → ℕ → List ℕ → InBuffer
piece_fed reading end buffer = unused_moved (fed reading (first_of end buffer)) end buffer

-- what a read leads to, and what the buffer holds then (manual 9.5)
pub record Stepped : Type 0 where
  pub step : Result (Option Next) Error
  pub buffer : List ℕ

-- both of these (manual 9.5)
abbrev pub stepped : Result (Option Next) Error → List ℕ → Stepped
stepped step buffer = record { step = step; buffer = buffer }

-- reading goes on from there (manual 9.5)
abbrev pub on_from : InBuffer → Stepped
on_from s = stepped (Ok (Some s.next)) s.buffer

-- a read that failed ends reading, at no bytes nothing comes any more, and others are fed behind the unused ones (manual 9.5)
unfoldable pub after_read : Next → Result ℕ Error → List ℕ → Stepped
after_read next (Err error) buffer = stepped (Err error) buffer
after_read next (Ok count) buffer = when eqb count 0 then stepped (Ok None) buffer else on_from (piece_fed next.reading (next.unused + count) buffer)
