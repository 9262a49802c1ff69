use Rattle.std.proofs.Common.{◌∙◌, sym}
use Rattle.address.proofs.Sources.{sources-have-room}
use Rattle.address.proofs.in_force.Goals as goal

pub settings_part-requires : goal.settings_part-requires
settings_part-requires c = (sources-have-room _ _ _ _ (sym c.source_of.ensures ∙ c.in-Some-Settings.is)).0

pub flash_part-requires : goal.flash_part-requires
flash_part-requires c = (sources-have-room _ _ _ _ (sym c.source_of.ensures ∙ c.in-Some-Flash.is)).1
