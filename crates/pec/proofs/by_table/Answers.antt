use Rattle.std.proofs.Common.{sym, ◌∙◌, rules}
use Rattle.pec.specs.Table.{table_step}
use Rattle.pec.proofs.Entries.{table-step-lt}
use Rattle.pec.proofs.Runs.{after-bytes-more, after-bytes-all}
use Rattle.pec.proofs.by_table.Goals as goal

pub loop-byte-preserved : goal.loop-byte-preserved
loop-byte-preserved c =
    let step : _ = after-bytes-more table_step c.loop-byte.crc c.args.bytes.now c.loop-byte.byte-index (search rules) in
    rw c.table_step-crc.ensures (table-step-lt c.loop-byte.crc _, sym step ∙ c.loop-byte.invariant.1)

pub returns : goal.returns
returns c = sym (after-bytes-all table_step c.loop-byte.crc c.args.bytes.now c.loop-byte.byte-index (search rules)) ∙ c.loop-byte.invariant.1
