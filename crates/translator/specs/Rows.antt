-- Internal: what the code that counts in rows of three promises, and what it is handed. Nobody has to believe these definitions.
use Rattle.std.specs.Prelude.{ℕ, ◌+◌, ◌*◌, ◌<◌, ◌≤◌, ◌^◌, List, [], ◌∷◌, ◌≡◌, ltb, length, set}
use Rattle.prelude.specs.Choice.{when◌then◌else◌}
use Rattle.state.specs.declared.Account.{Account}
use Rattle.state.specs.declared.Beside.{Beside}
use Rattle.state.specs.Account.{Formed, limit, row_count, row_number}
use Rattle.state.specs.Grid.{cell, rows_of}
use Rattle.state.specs.State.{max_maximum}
use Rattle.translator.specs.declared.tally.Tally.{Tally}

-- so many packets, fragments and bytes more in a row, if it is one
unfoldable pub in_rows : List (List ℕ) → ℕ → ℕ → ℕ → ℕ → List (List ℕ)
in_rows r row packets fragments bytes =
    when ltb row row_count then set r row ((cell r row 0 + packets) ∷ (cell r row 1 + fragments) ∷ (cell r row 2 + bytes) ∷ [])
    else r

-- the rows after a transaction: its own, then the one in which the open packet ends
unfoldable pub rows_after : ℕ → Beside → Tally → List (List ℕ) → List (List ℕ)
rows_after ends b t r =
    in_rows (in_rows r (row_number t.row) t.added_packets t.added_fragments t.added_bytes) ends 1 b.open_fragments b.open_bytes

-- the cells of a row take so much more
abbrev pub Room : ℕ → ℕ → ℕ → ℕ → List (List ℕ) → Type 0
Room row packets fragments bytes r =
    row < row_count → (cell r row 0 + packets < 2 ^ 64) × (cell r row 1 + fragments < 2 ^ 64) × (cell r row 2 + bytes < 2 ^ 64)

-- the most bytes that an account can count, of which each number of it is at most as many
abbrev pub most : ℕ
most = max_maximum * limit

-- rows of which each cell is at most so much
pub record RowsFit (r : List (List ℕ)) : Type 0 where
  pub all_rows : length r ≡ row_count
  pub cells : (row : ℕ) → row < row_count → (cell r row 0 ≤ most) × (cell r row 1 ≤ most) × (cell r row 2 ≤ most)

pub record BesideFits (b : Beside) : Type 0 where
  pub held_fragments : b.open_fragments ≤ limit
  pub held_bytes : b.open_bytes ≤ most
  pub taken : b.taken ≤ limit
  pub refused : b.refused ≤ limit
  pub total : b.total ≤ limit

pub record TallyFits (t : Tally) : Type 0 where
  pub packets : t.added_packets ≤ most + max_maximum
  pub fragments : t.added_fragments ≤ most + max_maximum
  pub bytes : t.added_bytes ≤ most + max_maximum
  pub taken : t.added_taken ≤ 1
  pub refused : t.added_refused ≤ 1

-- no cell grows past what fits, in the transaction's own row and in the one in which the packet ends
pub record CountFits (ends : ℕ) (b : Beside) (t : Tally) (r : List (List ℕ)) : Type 0 where
  pub own : Room (row_number t.row) t.added_packets t.added_fragments t.added_bytes r
  pub ended : Room ends 1 b.open_fragments b.open_bytes (in_rows r (row_number t.row) t.added_packets t.added_fragments t.added_bytes)

-- an account in which one transaction more can be counted
pub record AccountFits (a : Account) : Type 0 where
  pub formed : Formed a
  pub rows : RowsFit (rows_of a.grid)
  pub beside : BesideFits a.beside
