use Rattle.std.proofs.Common.{◌≤◌, length, arith}
use Rattle.account.proofs.Fits.{unused-fits}
use Rattle.account.proofs.Streams.print_account.Goals as goal

pub reads-preserved : goal.reads-preserved
reads-preserved g c =
    let fits : c.in-Ok-Some.after.unused ≤ length c.after_read.new.buffer = unused-fits _ _ _ _ _ (rw c.in-Ok-Some.field-0-is at c.in-Ok-Some.ensures) in
    (omega arith, omega arith)
