-- The decision on Set Link: its checks, one after the other (manual 7.3).
use Rattle.std.specs.Prelude.{ℕ, ◌/◌, ◌^◌, Bool, Result, Ok, Err, eqb, ltb}
use Rattle.prelude.specs.Bits.{bits, is_set}
use Rattle.prelude.specs.Choice.{when◌then◌else◌}
use Rattle.setlink.specs.declared.Media.{Media}
use Rattle.setlink.specs.declared.Media.TheVariants.{Copper, Fibre}
use Rattle.setlink.specs.declared.Decision.{Decision}
use Rattle.setlink.specs.declared.Reason.{Reason}
use Rattle.setlink.specs.declared.Reason.TheVariants as why
use Rattle.setlink.specs.Word.{auto_negotiation, speed1000, speed10g, half_duplex, no_speed, speeds, duplexes, pairs, any_fits}

-- response codes of DSP0222 (manual 7.3)
abbrev pub completed : ℕ
completed = 0x0000

abbrev pub failed : ℕ
failed = 0x0001

-- its reason codes (manual 7.3)
abbrev pub no_reason : ℕ
no_reason = 0x0000

abbrev pub invalid_parameter : ℕ
invalid_parameter = 0x0002

abbrev pub host_conflict : ℕ
host_conflict = 0x0901

abbrev pub media_conflict : ℕ
media_conflict = 0x0902

abbrev pub parameter_conflict : ℕ
parameter_conflict = 0x0903

abbrev pub speed_conflict : ℕ
speed_conflict = 0x0905

-- the code of a refusal (manual 7.3)
abbrev pub code_of : Reason → ℕ
code_of why.InvalidParameter = invalid_parameter
code_of why.HostConflict = host_conflict
code_of why.MediaConflict = media_conflict
code_of why.ParameterConflict = parameter_conflict
code_of why.SpeedConflict = speed_conflict

-- the code that a check is answered with (manual 7.3)
abbrev pub code_answered : Result Unit Reason → ℕ
code_answered (Ok _) = no_reason
code_answered (Err reason) = code_of reason

-- check 3: auto-negotiation wants a pair that copper takes, whatever the medium (manual 7.2, 7.3)
unfoldable pub negotiated_reason : ℕ → ℕ
negotiated_reason word = when any_fits Copper word pairs then no_reason else invalid_parameter

-- check 4: a forced link, which has a speed by check 2, wants no second one, one duplex, no half duplex from 1000 up, and not 10G (manual 7.3)
unfoldable pub forced_reason : ℕ → ℕ
forced_reason word =
    when ltb 1 (speeds word) then speed_conflict else
    when eqb (duplexes word) 0 then invalid_parameter else
    when ltb 1 (duplexes word) then invalid_parameter else
    when is_set half_duplex word then
    (when is_set speed1000 word then parameter_conflict else
    when is_set speed10g word then parameter_conflict else
    no_reason)
    else
    when is_set speed10g word then invalid_parameter else
    no_reason

-- by whether the link is negotiated or forced (manual 7.1, 7.3)
unfoldable pub parameter_reason : ℕ → ℕ
parameter_reason word = when is_set auto_negotiation word then negotiated_reason word else forced_reason word

-- checks 1 to 4, which do not read the medium: why they refuse a word, or no reason. A word has 32 bits, so that its quotient by 2 ^ 12 is the number in bits 12 to 31 (manual 7.1, 7.3)
unfoldable pub reason_before_media : ℕ → Bool → ℕ
reason_before_media word host_present =
    when host_present then host_conflict else
    when ltb 0 (bits 5 3 word) then invalid_parameter else
    when ltb 0 (word / 2 ^ 12) then invalid_parameter else
    when no_speed word then invalid_parameter else
    parameter_reason word

-- check 5: a word that selects no pair that the medium takes is refused (manual 7.3)
unfoldable pub media_reason : Media → ℕ → ℕ
media_reason media word = when any_fits media word pairs then no_reason else media_conflict

-- check 5 where it is made, on fibre alone: on copper it refuses no word that passed the others, as Copper.antt states (manual 7.5)
unfoldable pub media_reason_on_fibre : Media → ℕ → ℕ
media_reason_on_fibre Copper word = no_reason
media_reason_on_fibre Fibre word = media_reason Fibre word

-- why a word is refused, or no reason: the first check that refuses it (manual 7.3, 7.5)
unfoldable pub reason : ℕ → Bool → Media → ℕ
reason word host_present media =
    when ltb 0 (reason_before_media word host_present) then reason_before_media word host_present else
    media_reason_on_fibre media word

-- without a reason the word comes into force; with one the word in force stays (manual 7.3, 7.4)
unfoldable pub settled : (in_force word why : ℕ) → Decision
settled in_force word why =
    when eqb why no_reason then record { response = completed; reason = no_reason; in_force = word } else
    record { response = failed; reason = why; in_force = in_force }

-- the decision on a word, with the word in force, the host and the medium (manual 7.3, 7.4)
unfoldable pub decided : ℕ → ℕ → Bool → Media → Decision
decided in_force word host_present media = settled in_force word (reason word host_present media)

-- the word in force before the first Set Link (manual 7.4)
abbrev pub fresh_word : ℕ
fresh_word = 0
