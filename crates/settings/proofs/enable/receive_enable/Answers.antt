use Rattle.std.proofs.Common.{◌∙◌, sym}
use Rattle.settings.proofs.Sound.{sound-tells}
use Rattle.settings.proofs.enable.receive_enable.Goals as goal

pub short_form-requires-clause-kept_at_bound : goal.short_form-requires-clause-kept_at_bound
short_form-requires-clause-kept_at_bound c = (sound-tells _ (sym c.is_sound.ensures ∙ c.if-not-is_sound.false)).kept-is-bits
