use Rattle.settings.proofs.Writes.{kept-bits-weighed}
use Rattle.settings.proofs.enable.kept_bits.Goals as goal

pub returns : goal.returns
returns c = rw (c.from.ensures, c.from-2.ensures) (kept-bits-weighed c.args.mac c.args.ipv4)
