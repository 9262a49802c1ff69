-- Each worked example is what the rules compute.
-- Assumes nothing.
use mathlib.Core.Path.{refl}
use Rattle.prelude.specs.Choice.{when◌then◌else◌}
use Rattle.prelude.specs.Parts.{put}
use Rattle.setlink.specs.Decide.{negotiated_reason, forced_reason, parameter_reason, reason_before_media, media_reason, media_reason_on_fibre, reason, settled, decided}
use Rattle.setlink.specs.Word.{takes, fits, any_fits}
use Rattle.status.specs.Block as block
use Rattle.status.specs.Judged as status
use Rattle.settings.specs.Layout as settings_layout
use Rattle.settings.specs.Enable.{short_form_answered, long_form_answered, receive_enabled, freshened}
use Rattle.address.specs.Address.{is_in_settings, source_of, in_force}
use Rattle.pec.specs.Code.{after_bytes}
use Rattle.pec.specs.Division.{brought_down, divided, bits_of, all_bits, remainder}
use Rattle.pec.specs.Table.{table_step}
use Rattle.pec.specs.Transaction.{transaction_code}
use Rattle.record.specs.Records.{found_at, records_after}
use Rattle.packet.specs.Store.{filled, sent_length}
use Rattle.state.specs.Account.{all_fragments}
use Rattle.state.specs.Sound as state
use Rattle.state.specs.State.{made}
use Rattle.translator.specs.Check.{passes_check}
use Rattle.translator.specs.Command.{class_in, has_both_flags}
use Rattle.translator.specs.Counting.{add_to, left_open, grid_after, counted}
use Rattle.translator.specs.Joining.{completed_of, filled_if, completed, joined}
use Rattle.translator.specs.Judge.{ends_in, bad_length, sequence_of, by_sequence, fragment, enable, unknown, by_class, bad_check, judge}
use Rattle.translator.specs.Transact.{readiness_of, by_readiness, transacted}
use Rattle.worked.specs.Cases.{run_on, cells_in}
use Rattle.worked.specs.Table.{Worked}

pub worked : Worked
unfolding run_on cells_in transacted readiness_of by_readiness judge passes_check bad_check by_class fragment by_sequence joined completed filled_if completed_of bad_length sequence_of ends_in enable unknown class_in has_both_flags
    add_to left_open grid_after counted state.account_sound state.open_sound state.row_sound state.rows_sound state.singles_sound state.sum_holds state.sound all_fragments made
    filled sent_length put short_form_answered long_form_answered receive_enabled freshened
    settings_layout.allowed settings_layout.settings_in settings_layout.with_settings settings_layout.has_its_mac settings_layout.sound
    is_in_settings source_of in_force found_at records_after
    transaction_code table_step after_bytes remainder all_bits bits_of divided brought_down
    decided settled reason reason_before_media media_reason_on_fibre media_reason parameter_reason negotiated_reason forced_reason any_fits fits takes
    status.bad_length status.bad_index status.judged block.written block.block block.told block.if_done block.block_back block.mng_status block.judged_block block.parsed block.fields_back when◌then◌else◌
worked =
    ((refl, refl), (refl, ((refl, refl), ((refl, refl), (refl, ((refl, refl), ((refl, refl), ((refl, refl), ((refl, refl), (refl, (refl, (refl, (refl, (refl, (refl, (refl, (refl, (refl, (refl, (refl, (refl, (refl, (refl, (refl, (refl, (refl, ((refl, refl), ((refl, refl), ((refl, refl), ((refl, refl), ((refl, refl), ((refl, refl), ((refl, refl), ((refl, refl), ((refl, refl), ((refl, refl), ((refl, refl), ((refl, refl), ((refl, refl), ((refl, refl), ((refl, refl), ((refl, refl), ((refl, refl), ((refl, refl), ((refl, refl), ((refl, refl), ((refl, refl), ((refl, refl), ((refl, refl), ((refl, refl), ((refl, refl), ((refl, refl), ((refl, refl), ((refl, refl), ((refl, refl), ((refl, refl), ((refl, refl), ((refl, refl), ((refl, refl), ((refl, refl), ((refl, refl), ((refl, refl), ((refl, refl), ((refl, refl), ((refl, refl), (refl, (refl, (refl, (refl, (refl, (refl, (refl, (refl, (refl, (refl, (refl, (refl, (refl, (refl, (refl, (refl, (refl, (refl, (refl, (refl, (refl, (refl, (refl, (refl, (refl, ((refl, refl), ((refl, refl), (refl, (refl, (refl, (refl, (refl, (refl, (refl, (refl, (refl, (refl, ((refl, refl), (refl, (refl, (refl, (refl, (refl, (refl, (refl, (refl, (refl, (refl, (refl, ((refl, refl), ((refl, refl), (refl, (refl, (refl, (refl, (refl, (refl, (refl, (refl, (refl, (refl, (refl, (refl, (refl, (refl, (refl, (refl, (refl, (refl, (refl, (refl, (refl, (refl, (refl, (refl, (refl, (refl, (refl, (refl, (refl, (refl, (refl, (refl, (refl, (refl, (refl, (refl, (refl, (refl, (refl, (refl, (refl, (refl, (refl, (refl, (refl, (refl, (refl, (refl, (refl, (refl, (refl, (refl, (refl, (refl, (refl, (refl, (refl, (refl, (refl, (refl, (refl, (refl, (refl, (refl, (refl, (refl, (refl, (refl, (refl, (refl, (refl, (refl, (refl, (refl, (refl, (refl, (refl, (refl, (refl, (refl, (refl, (refl, (refl, (refl, (refl, (refl, (refl, (refl, (refl, (refl, (refl, (refl, (refl, (refl, (refl, (refl, (refl, (refl, (refl, (refl, (refl, (refl, (refl, (refl, (refl, (refl, (refl, (refl, (refl, (refl, (refl, (refl, (refl, (refl, (refl, (refl, (refl, (refl, (refl, (refl, (refl, (refl, (refl, (refl, (refl, (refl, (refl, (refl, (refl, (refl, (refl, (refl, (refl, (refl, (refl, (refl, tt))))))))))))))))))))))))))))))))))))))))))))))))))))))))))))))))))))))))))))))))))))))))))))))))))))))))))))))))))))))))))))))))))))))))))))))))))))))))))))))))))))))))))))))))))))))))))))))))))))))))))))))))))))))))))))))))))))))))))))))))))))))))))))
