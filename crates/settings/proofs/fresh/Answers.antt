use Rattle.std.proofs.Common.{sym, le-ltb}
use Rattle.prelude.proofs.Tests.{if-false}
use Rattle.settings.proofs.Writes.{fresh-written}
use Rattle.settings.specs.Enable.{freshened}
use Rattle.settings.proofs.fresh.Goals as goal

pub returns : goal.returns
unfolding freshened
returns c = rw (c.copy_from_slice.ensures.after, fresh-written c.args.settings.now) (sym (if-false _ _ _ (le-ltb _ _ c.if-settings-lt-SIZE.false)))
