-- The account: its grid of rows and columns, and the numbers beside it (manual 8.2, 8.5, 8.6).
use Rattle.std.specs.Prelude.{ℕ, zero, suc, ◌+◌, ◌*◌, Bool, List, Option, None, Some, ◌≡◌, ltb, length, get_or}
use Rattle.state.specs.declared.Account.{Account}
use Rattle.state.specs.declared.Beside.{Beside}
use Rattle.state.specs.declared.row.Row.{Row}
use Rattle.state.specs.declared.row.Row.TheVariants as row

-- the total at which an account is full (manual 8.6)
abbrev pub limit : ℕ
limit = 4294967295

-- the rows, in the order of the grid and of the printout (manual 8.2)
abbrev pub sent : ℕ
sent = 0

abbrev pub superseded : ℕ
superseded = 1

abbrev pub flushed : ℕ
flushed = 2

abbrev pub broken : ℕ
broken = 3

abbrev pub over : ℕ
over = 4

abbrev pub short : ℕ
short = 5

abbrev pub linkdown : ℕ
linkdown = 6

abbrev pub aborted : ℕ
aborted = 7

abbrev pub badlength : ℕ
badlength = 8

abbrev pub badcheck : ℕ
badcheck = 9

abbrev pub row_count : ℕ
row_count = 10

-- the number of a row (manual 8.2)
abbrev pub place_of : Row → ℕ
place_of row.Sent = sent
place_of row.Superseded = superseded
place_of row.Flushed = flushed
place_of row.Broken = broken
place_of row.Over = over
place_of row.Short = short
place_of row.LinkDown = linkdown
place_of row.Aborted = aborted
place_of row.BadLength = badlength
place_of row.BadCheck = badcheck

-- in the place of a row's number where there is no row (manual 8.4)
abbrev pub no_row : ℕ
no_row = row_count

-- the number of a row that is given, or `no_row` (manual 8.4)
abbrev pub row_number : Option Row → ℕ
row_number None = no_row
row_number (Some row) = place_of row

-- packets, fragments and bytes (manual 8.2)
abbrev pub columns : ℕ
columns = 3

-- the cells of a row, in a grid that is one list (manual 8.2)
abbrev pub packets_in : ℕ → List ℕ → ℕ
packets_in row grid = get_or grid (row * columns) 0

abbrev pub fragments_in : ℕ → List ℕ → ℕ
fragments_in row grid = get_or grid (row * columns + 1) 0

abbrev pub bytes_in : ℕ → List ℕ → ℕ
bytes_in row grid = get_or grid (row * columns + 2) 0

-- the fragments of the first n rows (manual 8.6)
unfoldable pub all_fragments : ℕ → List ℕ → ℕ
all_fragments zero grid = 0
all_fragments (suc row) grid = all_fragments row grid + fragments_in row grid

-- the numbers beside the grid, and an account of both (manual 8.5)
abbrev pub besides : (open_fragments open_bytes taken refused total : ℕ) → Beside
besides open_fragments open_bytes taken refused total =
    record { open_fragments = open_fragments; open_bytes = open_bytes; taken = taken; refused = refused; total = total }

abbrev pub account_of : List ℕ → Beside → Account
account_of grid beside = record { grid = grid; beside = beside }

-- a packet is open where it has a fragment (manual 3.1)
abbrev pub is_open : Account → Bool
is_open a = ltb 0 a.beside.open_fragments

-- an account as the program holds one: its grid has its rows and columns (manual 8.2)
abbrev pub Formed : Account → Type 0
Formed a = length a.grid ≡ row_count * columns
