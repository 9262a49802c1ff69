-- The examples are what the definitions compute.
-- Assumes nothing.
use mathlib.Core.Path.{refl}
use Rattle.packet.specs.Store.{sent_length, filled}
use Rattle.pec.specs.Code.{after_bytes}
use Rattle.pec.specs.Table.{table_step}
use Rattle.pec.specs.Transaction.{transaction_code}
use Rattle.prelude.specs.Choice.{when◌then◌else◌}
use Rattle.prelude.specs.Parts.{put}
use Rattle.printout.specs.Printout.{decimal_in, field, fields, fate_lines, open_packets, count_lines, printout}
use Rattle.record.specs.Records.{found_at, records_after}
use Rattle.settings.specs.Enable.{short_form_answered, receive_enabled}
use Rattle.settings.specs.Layout as settings_layout
use Rattle.state.specs.Account.{all_fragments}
use Rattle.state.specs.Sound as state-sound
use Rattle.translator.specs.Check.{passes_check}
use Rattle.translator.specs.Command.{class_in, has_both_flags}
use Rattle.translator.specs.Counting.{add_to, left_open, grid_after, counted}
use Rattle.translator.specs.Joining.{completed_of, filled_if, completed, joined}
use Rattle.translator.specs.Judge.{ends_in, bad_length, sequence_of, by_sequence, fragment, enable, unknown, by_class, bad_check, judge}
use Rattle.translator.specs.Replay.{all_transacted}
use Rattle.translator.specs.Transact.{readiness_of, by_readiness, transacted}
use Rattle.journal.specs.Example.{Example, ExampleWithCodes, ByteByByte, Checked, Versions, CutIsBad, EveryRow, DifferentNumbers}
use Rattle.journal.specs.Format.{is_named, check_for, header_for, header_in, parsed}
use Rattle.journal.specs.Journal.{output}

-- together, since they compute by the same definitions
examples : Example × (ByteByByte × (EveryRow × (Checked × ExampleWithCodes)))
unfolding output parsed is_named header_in header_for check_for found_at records_after all_transacted printout fate_lines count_lines open_packets fields field decimal_in
    transacted readiness_of by_readiness judge bad_check passes_check transaction_code table_step after_bytes by_class fragment by_sequence joined completed completed_of filled_if bad_length sequence_of enable unknown ends_in class_in has_both_flags add_to left_open grid_after counted
    state-sound.row_sound state-sound.rows_sound state-sound.singles_sound state-sound.open_sound state-sound.sum_holds state-sound.account_sound state-sound.sound all_fragments
    sent_length filled put receive_enabled short_form_answered settings_layout.allowed settings_layout.with_settings settings_layout.settings_in settings_layout.has_its_mac settings_layout.sound when◌then◌else◌
examples = (refl, (refl, (refl, (refl, refl))))

pub example : Example
example = examples.0

pub byte-by-byte : ByteByByte
byte-by-byte = examples.1.0

pub every-row : EveryRow
every-row = examples.1.1.0

pub checked : Checked
checked = examples.1.1.1.0

pub example-with-codes : ExampleWithCodes
example-with-codes = examples.1.1.1.1

pub versions : Versions
unfolding parsed is_named header_in header_for check_for found_at records_after when◌then◌else◌
versions = record { one = refl; two = refl; zero_is_bad = refl; three_is_bad = refl; high_bytes_are_bad = (refl, refl, refl, refl) }

pub cut-is-bad : CutIsBad
unfolding output parsed is_named header_in header_for check_for found_at records_after when◌then◌else◌
cut-is-bad = (refl, refl)

pub different-numbers : DifferentNumbers
unfolding printout fate_lines count_lines open_packets fields field decimal_in
    state-sound.row_sound state-sound.rows_sound state-sound.singles_sound state-sound.open_sound state-sound.sum_holds state-sound.account_sound all_fragments when◌then◌else◌
different-numbers = (refl, refl)
