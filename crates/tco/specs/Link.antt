-- Set Link over a medium that is told by a number (manual 7.2, 7.3).
use Rattle.std.specs.Prelude.{ℕ, Bool, Result, Ok, Err}
use Rattle.setlink.specs.declared.Decision.{Decision}
use Rattle.setlink.specs.declared.Media.{Media}
use Rattle.setlink.specs.declared.UnknownMedia.{UnknownMedia}
use Rattle.setlink.specs.Word.{media_of}
use Rattle.setlink.specs.Decide.{failed, invalid_parameter, decided}

-- a number that names no medium is an invalid parameter before any check, and the word in force stays (manual 7.3, 7.4)
abbrev pub decided_if : ℕ → ℕ → Bool → Result Media UnknownMedia → Decision
decided_if in_force word host_present (Ok media) = decided in_force word host_present media
decided_if in_force word host_present (Err _) = record { response = failed; reason = invalid_parameter; in_force = in_force }

abbrev pub decided_over : ℕ → ℕ → Bool → ℕ → Decision
decided_over in_force word host_present media = decided_if in_force word host_present (media_of media)
