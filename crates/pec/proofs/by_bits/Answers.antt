use Rattle.std.proofs.Common.{sym, ◌∙◌, rules}
use Rattle.pec.specs.Code.{byte_step}
use Rattle.pec.proofs.Runs.{after-bytes-more, after-bytes-all}
use Rattle.pec.proofs.by_bits.Goals as goal

pub loop-byte-preserved : goal.loop-byte-preserved
loop-byte-preserved c =
    let step : _ = after-bytes-more byte_step c.loop-byte.crc c.args.bytes.now c.loop-byte.byte-index (search rules) in
    rw c.byte_step-crc.ensures (sym step ∙ c.loop-byte.invariant)

pub returns : goal.returns
returns c = sym (after-bytes-all byte_step c.loop-byte.crc c.args.bytes.now c.loop-byte.byte-index (search rules)) ∙ c.loop-byte.invariant
