-- A journal that is fed in pieces: what one call takes of a piece, and the account in the end (manual 9.3, 9.4).
use Rattle.std.specs.Prelude.{ℕ, Bool, true, false, List, Result, Ok, Err, Option, None, Some, eqb, drop}
use Rattle.prelude.specs.Choice.{when◌then◌else◌}
use Rattle.record.specs.declared.Stop.{Stop}
use Rattle.record.specs.declared.Stop.TheVariants as stop
use Rattle.state.specs.declared.Account.{Account}
use Rattle.state.specs.State.{max_maximum}
use Rattle.translator.specs.declared.records.Replay.{Replay}
use Rattle.translator.specs.Replay.{Replayed, fresh_replay, replayed}
use Rattle.journal.specs.Format.{header_size, header_in}
use Rattle.journal.specs.declared.header.Header.{Header}
use Rattle.journal.specs.declared.header.HeaderError.{HeaderError}
use Rattle.journal.specs.declared.header.HeaderError.TheVariants as error
use Rattle.journal.specs.declared.reading.Reading.{Reading}
use Rattle.journal.specs.declared.reading.Stage.{Stage}
use Rattle.journal.specs.declared.reading.Stage.TheVariants as stage

-- where a reading stands, and what it has replayed (manual 9.4)
abbrev pub reading_at : Stage → Replay → Reading
reading_at stage replay = record { stage = stage; replay = replay }

-- a reading that went on, and how many bytes of the part it used (manual 9.5)
pub record Fed : Type 0 where
  pub reading : Reading
  pub used : ℕ

-- both of these (manual 9.4)
abbrev pub fed_to : Reading → ℕ → Fed
fed_to reading used = record { reading = reading; used = used }

-- nothing is read yet (manual 9.1)
abbrev pub started : Reading
started = reading_at stage.Start (fresh_replay max_maximum false)

-- a bad link byte is bad for good (manual 9.3)
abbrev pub stage_after : Stop → Stage
stage_after stop.Cut = stage.Records
stage_after stop.BadLink = stage.Bad

-- a reading once records were replayed (manual 9.2)
abbrev pub records_fed : Replayed → Fed
records_fed r = fed_to (reading_at (stage_after r.stopped.stop) r.replay) r.stopped.at

-- a header that is cut waits for more; behind a good one come the records, on a fresh state for its maximum, with the check as its version says (manual 9.4)
unfoldable pub by_header : Result Header HeaderError → Replay → List ℕ → Fed
by_header (Err error.Cut) replay part = fed_to (reading_at stage.Start replay) 0
by_header (Err error.Bad) replay part = fed_to (reading_at stage.Bad replay) 0
by_header (Ok h) replay part = records_fed (replayed (fresh_replay h.maximum h.check) header_size (drop header_size part))

-- what one call takes of a part (manual 9.1, 9.2)
unfoldable pub by_stage : Stage → Replay → List ℕ → Fed
by_stage stage.Start replay part = by_header (header_in part) replay part
by_stage stage.Records replay part = records_fed (replayed replay 0 part)
by_stage stage.Bad replay part = fed_to (reading_at stage.Bad replay) 0

-- the same of a reading (manual 9.1, 9.2)
abbrev pub fed : Reading → List ℕ → Fed
fed reading part = by_stage reading.stage reading.replay part

-- the journal is bad, whatever follows (manual 9.3)
abbrev pub is_bad_stage : Stage → Bool
is_bad_stage stage.Start = false
is_bad_stage stage.Records = false
is_bad_stage stage.Bad = true

-- the same of a reading (manual 9.3)
abbrev pub is_bad : Reading → Bool
is_bad reading = is_bad_stage reading.stage

-- the account where no byte is left, if there is one (manual 9.3, 9.4)
abbrev pub account_at : Stage → Replay → Option Account
account_at stage.Start replay = None
account_at stage.Records replay = Some replay.state.account
account_at stage.Bad replay = None

-- a journal of which a byte is left is bad: what it begins is cut (manual 9.3)
unfoldable pub concluded : Reading → ℕ → Option Account
concluded reading unused = when eqb unused 0 then account_at reading.stage reading.replay else None
