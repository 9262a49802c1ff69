-- When an account and when a state is sound (manual 8.7, 8.8).
use Rattle.std.specs.Prelude.{ℕ, zero, suc, ◌+◌, ◌*◌, Bool, true, List, eqb, leb}
use Rattle.prelude.specs.Choice.{◌and◌}
use Rattle.state.specs.declared.Account.{Account}
use Rattle.state.specs.declared.State.{State}
use Rattle.state.specs.Account.{limit, row_count, aborted, badlength, badcheck, packets_in, fragments_in, bytes_in, all_fragments}
use Rattle.state.specs.State.{max_maximum, check_on}

-- a row has no more packets than fragments, and at most 240 bytes for each fragment (manual 8.7)
unfoldable pub row_sound : ℕ → ℕ → ℕ → Bool
row_sound packets fragments bytes = leb packets fragments and leb bytes (max_maximum * fragments)

-- the first n rows (manual 8.7)
unfoldable pub rows_sound : ℕ → List ℕ → Bool
rows_sound zero grid = true
rows_sound (suc row) grid = rows_sound row grid and row_sound (packets_in row grid) (fragments_in row grid) (bytes_in row grid)

-- a row of single fragments has no packets (manual 8.7)
abbrev pub has_no_packets : ℕ → List ℕ → Bool
has_no_packets row grid = eqb (packets_in row grid) 0

-- badlength and badcheck have no bytes either (manual 8.7)
unfoldable pub singles_sound : List ℕ → Bool
singles_sound grid =
    has_no_packets aborted grid and has_no_packets badlength grid and eqb (bytes_in badlength grid) 0
    and has_no_packets badcheck grid and eqb (bytes_in badcheck grid) 0

-- the open packet has at least one byte and at most 240 for each fragment (manual 8.7)
unfoldable pub open_sound : ℕ → ℕ → Bool
open_sound fragments bytes = leb fragments bytes and leb bytes (max_maximum * fragments)

-- the total counts every fragment of the grid, the open ones and the commands (manual 8.6)
unfoldable pub sum_holds : List ℕ → ℕ → ℕ → ℕ → ℕ → Bool
sum_holds grid open_fragments taken refused total = eqb (all_fragments row_count grid + open_fragments + taken + refused) total

-- all of these (manual 8.7)
unfoldable pub account_sound : Account → Bool
account_sound a =
    leb a.beside.total limit
    and rows_sound row_count a.grid
    and singles_sound a.grid
    and open_sound a.beside.open_fragments a.beside.open_bytes
    and sum_holds a.grid a.beside.open_fragments a.beside.taken a.beside.refused a.beside.total

-- the maximum is allowed, and bounds the open packet; the check is on or off (manual 8.8, 10.1)
unfoldable pub sound : State → Bool
sound s =
    account_sound s.account
    and leb 1 s.maximum
    and leb s.maximum max_maximum
    and leb s.account.beside.open_bytes (s.maximum * s.account.beside.open_fragments)
    and leb s.check check_on
