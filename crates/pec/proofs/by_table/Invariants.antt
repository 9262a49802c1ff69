-- What is left of the bytes gives the code that all of them give.
use Rattle.std.proofs.Common.{◌≡◌, ◌<◌, drop}
use Rattle.pec.specs.Table.{code_by_table}
use Rattle.pec.proofs.by_table.Given as goal

abbrev pub invariant-loop-byte : goal.invariant-loop-byte
invariant-loop-byte l = (l.crc < 256) × (code_by_table l.crc (drop l.byte-index l.bytes) ≡ code_by_table l.start l.bytes)
