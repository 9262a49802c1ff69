use Rattle.std.proofs.Common.{◌≡◌, ◌-◌, length, drop}
use Rattle.translator.specs.Held.{Placed, held}
use Rattle.translator.specs.Replay.{records_taken, replayed}
use Rattle.translator.specs.Transact.{readiness_of}
use Rattle.translator.proofs.records.Replay.take.Given as goal

abbrev pub invariant-loop-record : goal.invariant-loop-record
invariant-loop-record l =
    Placed l.rows
    × (l.readiness ≡ readiness_of (held l.rows l.beside l.setup) l.self.store l.self.settings)
    × (records_taken (held l.rows l.beside l.setup) l.self.store l.self.settings l.at (drop l.at l.part) ≡ replayed l.fn.self l.fn.from (drop l.fn.from l.part))

abbrev pub decreases-loop-record : goal.decreases-loop-record
decreases-loop-record l = length l.part - l.at
