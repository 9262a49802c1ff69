-- What is left of the bytes gives the code that all of them give.
use Rattle.std.proofs.Common.{◌≡◌, drop}
use Rattle.pec.specs.Code.{code_by_bits}
use Rattle.pec.proofs.by_bits.Given as goal

abbrev pub invariant-loop-byte : goal.invariant-loop-byte
invariant-loop-byte l = code_by_bits l.crc (drop l.byte-index l.bytes) ≡ code_by_bits l.start l.bytes
