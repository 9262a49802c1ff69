-- What a transaction comes to: its outcome, the row in which it ends the packet that was open, and what it writes (manual 3, 4.1, 5.6, 10.5).
use Rattle.std.specs.Prelude.{ℕ, Bool, List, Option, None, Some, Ok, Err, ltb, length}
use Rattle.prelude.specs.After.{After, after}
use Rattle.prelude.specs.Choice.{when◌then◌else◌}
use Rattle.record.specs.Transaction.{Transaction}
use Rattle.settings.specs.Enable.{Answer, Answered, answered, receive_enabled}
use Rattle.state.specs.declared.Setup.{Setup}
use Rattle.state.specs.declared.row.Row.{Row}
use Rattle.state.specs.declared.row.Row.TheVariants as row
use Rattle.outcome.specs.declared.Cause.TheVariants as cause
use Rattle.outcome.specs.declared.Outcome.{Outcome}
use Rattle.outcome.specs.declared.Outcome.TheVariants as outcome
use Rattle.translator.specs.declared.command.Class.{Class}
use Rattle.translator.specs.declared.command.Class.TheVariants as class
use Rattle.translator.specs.declared.fragment.Joins.{Joins}
use Rattle.translator.specs.declared.judged.Judged.{Judged}
use Rattle.translator.specs.Check.{passes_check}
use Rattle.translator.specs.Command.{commands, class_in, has_both_flags}
use Rattle.translator.specs.Joining.{Stored, stored, joined}

-- an outcome, the row in which the packet that was open ends, if it ends, and the data bytes that are counted (manual 8.3, 8.4)
abbrev pub judged : Outcome → Option Row → ℕ → Judged
judged o ends size = record { outcome = o; ends = ends; bytes = size }

-- what was judged, and the store afterwards (manual 2.4, 4.1)
abbrev pub JudgedWithStore : Type 0
JudgedWithStore = Stored Judged

-- a packet that is open ends in the row; where none is, none ends (manual 8.4)
unfoldable pub ends_in : Row → ℕ → Option Row
ends_in fate open_fragments = when ltb 0 open_fragments then Some fate else None

-- a fragment of a bad length is answered 3 and breaks the open packet (manual 3.5)
unfoldable pub bad_length : ℕ → Judged
bad_length open_fragments = judged (outcome.Discarded cause.BadLength) (ends_in row.Broken open_fragments) 0

-- the packet that a fragment joins: its bytes so far, and the row in which the packet that was open ends, if it ends (manual 3.2, 3.3)
abbrev pub joining : ℕ → Option Row → Joins
joining at ends = record { at = at; ends = ends }

-- a First begins a packet and supersedes the one that is open; another joins the one that is open, behind its bytes, or is aborted (manual 3.2, 3.3)
unfoldable pub sequence_of : Bool → ℕ → ℕ → Option Joins
sequence_of first open_fragments open_bytes =
    when first then Some (joining 0 (ends_in row.Superseded open_fragments)) else
    when ltb 0 open_fragments then Some (joining open_bytes None) else
    None

-- one that joins is judged by its packet; an aborted one leaves the store as it was (manual 2.1, 3.3)
unfoldable pub by_sequence : Option Joins → List ℕ → Bool → Bool → List ℕ → JudgedWithStore
by_sequence (Some p) bytes last link_up store =
    stored (judged (joined p.at bytes last link_up store).result p.ends (length bytes)) (joined p.at bytes last link_up store).store
by_sequence None bytes last link_up store = stored (judged (outcome.Discarded cause.Aborted) None (length bytes)) store

-- the length is judged before the sequence (manual 2.2, 3.5)
unfoldable pub fragment : (maximum open_fragments open_bytes : ℕ) → List ℕ → (first last link_up : Bool) → List ℕ → JudgedWithStore
fragment maximum open_fragments open_bytes bytes first last link_up store =
    when ltb (length bytes) 1 then stored (bad_length open_fragments) store else
    when ltb maximum (length bytes) then stored (bad_length open_fragments) store else
    by_sequence (sequence_of first open_fragments open_bytes) bytes last link_up store

-- a Receive Enable flushes, whatever it is answered (manual 3.4)
abbrev pub enabled_as : Answer → Option Row → Judged
enabled_as (Ok taken) ends = judged outcome.Taken ends 0
enabled_as (Err refusal) ends = judged (outcome.Refused refusal) ends 0

unfoldable pub enable : ℕ → List ℕ → List ℕ → Answered Judged
enable open_fragments bytes settings =
    answered (enabled_as (receive_enabled settings bytes).answer (ends_in row.Flushed open_fragments)) (receive_enabled settings bytes).settings

-- an unknown command flushes where F and L are both set, and else ends nothing (manual 3.4)
unfoldable pub unknown : ℕ → ℕ → Judged
unknown open_fragments command =
    when has_both_flags command then judged outcome.Unknown (ends_in row.Flushed open_fragments) 0 else
    judged outcome.Unknown None 0

-- a fragment leaves the settings alone (manual 2.1)
abbrev pub in_store : JudgedWithStore → List ℕ → After Judged
in_store s settings = after s.result s.store settings

-- by the class of its command; a command leaves the store alone (manual 2.2)
unfoldable pub by_class : Class → (maximum open_fragments open_bytes : ℕ) → Transaction → List ℕ → List ℕ → After Judged
by_class (class.Fragment first last) maximum f b t store settings = in_store (fragment maximum f b t.bytes first last t.link_up store) settings
by_class class.Enable maximum f b t store settings = after (enable f t.bytes settings).answer store (enable f t.bytes settings).settings
by_class class.Unknown maximum f b t store settings = after (unknown f t.command) store settings

-- a transaction that does not pass the check is answered 17, breaks the open packet and writes nothing (manual 3.7, 10.5)
unfoldable pub bad_check : ℕ → Judged
bad_check open_fragments = judged outcome.BadCheck (ends_in row.Broken open_fragments) 0

-- the check comes before anything reads the command (manual 2.2, 10.5)
unfoldable pub judge : Setup → (open_fragments open_bytes : ℕ) → Transaction → List ℕ → List ℕ → After Judged
judge setup f b t store settings =
    when passes_check setup.check t then by_class (class_in commands t.command) setup.maximum f b t store settings else
    after (bad_check f) store settings
