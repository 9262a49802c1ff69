use Rattle.std.proofs.Common.{◌≡◌, ◌+◌, true}
use Rattle.state.specs.Account.{all_fragments}
use Rattle.state.specs.Grid.{flat_of}
use Rattle.state.specs.Sound.{rows_sound}
use Rattle.state.proofs.sound.are_rows_sound.Given as goal

abbrev pub invariant-loop-row : goal.invariant-loop-row
invariant-loop-row l = (rows_sound l.row (flat_of l.rows) ≡ true) × (l.left + all_fragments l.row (flat_of l.rows) ≡ l.wanted)
