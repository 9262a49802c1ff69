use Rattle.std.proofs.Common.{◌∙◌, sym, arith}
use Rattle.prelude.proofs.Lists.{copied-over-part}
use Rattle.prelude.proofs.Tests.{if-true}
use Rattle.settings.proofs.enable.put_if.Goals as goal

pub returns-then-is_given : goal.returns-then-is_given
returns-then-is_given c = copied-over-part _ _ _ _ _ (omega arith) c.copy_from_slice.ensures.after ∙ sym (if-true _ _ _ c.if-is_given.true)
