use Rattle.std.proofs.Common.{sym}
use Rattle.prelude.proofs.Tests.{tests}
use Rattle.settings.proofs.Writes.{short-form-written}
use Rattle.settings.specs.Enable.{short_form_answered}
use Rattle.settings.proofs.enable.short_form.Goals as goal

pub returns : goal.returns
unfolding short_form_answered
returns c = rw (short-form-written c.args.settings.now c.requires.size_in_bounds c.requires.kept_at_bound c.args.control) (search (tests, sym c.is_allowed.ensures, sym c.has_its_mac.ensures))
