use Rattle.std.proofs.Common.{◌≡◌, ◌≤◌, length}
use Rattle.account.proofs.Streams.print_account.Given as goal

abbrev pub invariant-reads : goal.invariant-reads
invariant-reads g l = (65536 ≡ length l.buffer) × (l.next.unused ≤ 65536)
