-- What the fill leaves alone of the store.
use Rattle.std.specs.Prelude.{ℕ, List}
use Rattle.prelude.specs.Parts.{ChangesOnly}
use Rattle.packet.specs.Store.{min_sent, filled}

-- no byte changes but those from the total up to 60 (manual 4.1, 4.3)
abbrev pub LeavesTheRest : Type 0
LeavesTheRest = (store : List ℕ) (total : ℕ) → ChangesOnly total min_sent store (filled store total)
