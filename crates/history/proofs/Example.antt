-- The examples are what the history computes.
-- Assumes nothing.
use mathlib.Core.Path.{refl}
use Rattle.pec.specs.Division.{brought_down, divided, bits_of, all_bits, remainder}
use Rattle.prelude.specs.Choice.{when◌then◌else◌}
use Rattle.history.specs.Lines.{in_line}
use Rattle.history.specs.Packets.{sent_length}
use Rattle.history.specs.Reading.{is_fragment, is_length_allowed, is_code_right, is_code_bad, maximum_for}
use Rattle.history.specs.Settings.{is_form, is_control_allowed, sets_mac, sets_address, enable_answer}
use Rattle.history.specs.Runs.{command_answer, command_role, role_of, last_answer, amount}
use Rattle.history.specs.Replies.{last_reply}
use Rattle.history.specs.Example.{AsPrinted, AsChecked}

pub as-printed : AsPrinted
unfolding when◌then◌else◌ in_line sent_length is_fragment is_length_allowed is_code_bad maximum_for is_form is_control_allowed sets_mac sets_address enable_answer command_answer command_role role_of last_answer amount last_reply
as-printed = record { cells_are = refl; lines_are = refl; replies_are = refl; settings_are = refl; total_is = refl }

pub as-checked : AsChecked
unfolding when◌then◌else◌ in_line sent_length is_fragment is_length_allowed is_code_right is_code_bad maximum_for is_form is_control_allowed sets_mac sets_address enable_answer command_answer command_role role_of last_answer amount last_reply brought_down divided bits_of all_bits remainder
as-checked = record { lines_are = refl; replies_are = refl; settings_are = refl; total_is = refl }
