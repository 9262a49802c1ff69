use Rattle.std.proofs.Common.{◌∙◌, sym}
use Rattle.settings.proofs.Sound.{sound-tells}
use Rattle.address.proofs.source_of.Goals as goal

pub is_in_settings-requires : goal.is_in_settings-requires
is_in_settings-requires c = (sound-tells _ (sym c.is_sound.ensures ∙ c.if-not-is_sound.false)).has_room
