-- What follows from the definitions, whatever the bytes (manual 9.1 to 9.5).
use Rattle.std.specs.Prelude.{ℕ, ◌+◌, ◌≤◌, ◌<◌, Bool, true, false, List, All, [], ◌∷◌, ◌++◌, None, Ok, ◌≡◌, length, drop}
use Rattle.prelude.specs.Parts.{AreBytes}
use Rattle.printout.specs.Printout.{shown}
use Rattle.record.specs.Properties.{Writable}
use Rattle.record.specs.Records.{check_size, head_size}
use Rattle.record.specs.Transaction.{Transaction}
use Rattle.state.specs.State.{max_maximum, is_on}
use Rattle.journal.specs.declared.header.Header.{Header}
use Rattle.journal.specs.declared.reading.Reading.{Reading}
use Rattle.journal.specs.declared.reading.Stage.{Stage}
use Rattle.journal.specs.declared.reading.Stage.TheVariants as stage
use Rattle.journal.specs.Feeding.{Fed, fed, started, is_bad, concluded}
use Rattle.journal.specs.Format.{header_size, header_in, good, journal_of, parsed}
use Rattle.journal.specs.Journal.{account_in, output, outcome_printed}

-- exactly what a writer writes is read, and read as what was written: any other bytes are bad (manual 9.1, 9.2, 9.3)
pub record RoundTrip : Type 0 where
  pub written_is_read : (h : Header) (transactions : List Transaction) → 1 ≤ h.maximum → h.maximum ≤ max_maximum → All (Writable h.check) transactions
      → parsed (journal_of h transactions) ≡ good h transactions
  pub read_was_written : (bytes : List ℕ) (h : Header) (transactions : List Transaction) → parsed bytes ≡ good h transactions
      → (bytes ≡ journal_of h transactions) × (1 ≤ h.maximum) × (h.maximum ≤ max_maximum) × All (Writable h.check) transactions

-- a reading, and the bytes that it has not used yet (manual 9.5)
pub record Progress : Type 0 where
  pub reading : Reading
  pub unused : List ℕ

-- both of these, once some bytes were fed (manual 9.5)
abbrev pub progress : Fed → List ℕ → Progress
progress f bytes = record { reading = f.reading; unused = drop f.used bytes }

-- the bytes not used yet are put before the next piece, and fed with it (manual 9.5)
abbrev pub fed_on : Progress → List ℕ → Progress
fed_on p piece = progress (fed p.reading (p.unused ++ piece)) (p.unused ++ piece)

-- one piece after another (manual 9.5)
unfoldable pub fed_pieces : Progress → List (List ℕ) → Progress
fed_pieces p [] = p
fed_pieces p (piece ∷ rest) = fed_pieces (fed_on p piece) rest

-- the pieces as one (manual 9.5)
abbrev pub joined : List (List ℕ) → List ℕ
joined [] = []
joined (piece ∷ rest) = piece ++ joined rest

-- before the first (manual 9.5)
abbrev pub at_start : Progress
at_start = record { reading = started; unused = [] }

-- the most bytes of a record: its head, as much data as its length byte can tell, and its code, which version 1 has not (manual 9.2)
abbrev pub max_record : (check : Bool) → ℕ
max_record check = head_size check + 255 + check_size check

-- of what comes next: of the header, or of a record of the version; a bad journal has nothing to come (manual 9.1, 9.2, 9.3)
abbrev pub max_next : Stage → (check : Bool) → ℕ
max_next stage.Start check = header_size
max_next stage.Records check = max_record check
max_next stage.Bad check = 0

-- of what comes next in a reading (manual 9.5)
abbrev pub max_awaited : Reading → ℕ
max_awaited reading = max_next reading.stage (is_on reading.replay.state.check)

-- what a reading that is not bad leaves unused is less than that, behind a header a record of its version: fewer than 258 bytes in version 1, and than 260 in version 2 (manual 9.5)
pub record LessThanARecord : Type 0 where
  pub left_in : (reading : Reading) (part : List ℕ) → AreBytes part → is_bad (fed reading part).reading ≡ false
      → length part < (fed reading part).used + max_awaited (fed reading part).reading
  pub by_version : (part : List ℕ) (h : Header) → header_in part ≡ Ok h → is_on (fed started part).reading.replay.state.check ≡ h.check
  pub in_numbers : (max_record false ≡ 258) × (max_record true ≡ 260)

-- However a journal is cut into pieces, it is read as the whole is: the same replay and bytes left. What is bad stays bad, and in the end comes the whole journal's account, or none where it is bad; what is printed of that is the journal's output (manual 9.3, 9.4).
pub record InPieces : Type 0 where
  pub two_pieces : (p : Progress) (piece next : List ℕ) → fed_on (fed_on p piece) next ≡ fed_on p (piece ++ next)
  pub any_pieces : (pieces : List (List ℕ)) → fed_pieces at_start pieces ≡ fed_on at_start (joined pieces)
  pub bad_stays : (p : Progress) (piece : List ℕ) → is_bad p.reading ≡ true → (fed_on p piece).reading ≡ p.reading
  pub bad_has_none : (reading : Reading) (unused : ℕ) → is_bad reading ≡ true → concluded reading unused ≡ None
  pub account_in_the_end : (pieces : List (List ℕ)) →
      let p : Progress = fed_pieces at_start pieces in
      concluded p.reading (length p.unused) ≡ account_in (parsed (joined pieces))
  pub printed_in_the_end : (bytes out : List ℕ) → outcome_printed (account_in (parsed bytes)) out ≡ shown (output bytes) out
