-- Counting in rows of three is counting in the grid.
-- Assumes nothing.
use Prim.Native.Nat.{ℕ, ◌*◌, ◌<◌}
use mathlib.Core.Bool.{Bool, true, false}
use mathlib.Core.List.{List}
use mathlib.Core.Path.{◌≡◌, refl, ap, subst, ◌∙◌}
use lib.Dec.{ltb}
use lib.ListN.{length}
use borrow.Author.Tests.{ltb-true}
use Rattle.prelude.specs.Choice.{when◌then◌else◌}
use Rattle.prelude.proofs.Lists.{elements, all-elements}
use Rattle.state.specs.declared.Beside.{Beside}
use Rattle.state.specs.Account.{row_count, columns, row_number}
use Rattle.state.specs.Grid.{rows_of, flat_of}
use Rattle.state.proofs.Rows.{each-row, flat_rows}
use Rattle.translator.specs.declared.tally.Tally.{Tally}
use Rattle.translator.specs.Counting.{add_to, grid_after}
use Rattle.translator.specs.Rows.{in_rows, rows_after}
use Rattle.translator.proofs.Added.{added-formed}

-- adding to a row, as rows and as one list
module _ (grid : List ℕ) (row packets fragments bytes : ℕ) (formed : length grid ≡ row_count * columns) where
  at_row : row < row_count → in_rows (rows_of grid) row packets fragments bytes ≡ rows_of (add_to row packets fragments bytes grid)
  unfolding in_rows add_to when◌then◌else◌
  at_row =
      subst (λ (g : List ℕ). row < row_count → in_rows (rows_of grid) row packets fragments bytes ≡ rows_of (add_to row packets fragments bytes g)) (all-elements (row_count * columns) grid formed)
      (each-row (λ (r : ℕ). in_rows (rows_of grid) r packets fragments bytes ≡ rows_of (add_to r packets fragments bytes (elements (row_count * columns) 0 grid))) refl refl refl refl refl refl refl refl refl refl row)

  pub rows-added : in_rows (rows_of grid) row packets fragments bytes ≡ rows_of (add_to row packets fragments bytes grid)
  unfolding in_rows add_to when◌then◌else◌
  rows-added = by-test (ltb row row_count) refl
    where
      by-test : (t : Bool) → ltb row row_count ≡ t → in_rows (rows_of grid) row packets fragments bytes ≡ rows_of (add_to row packets fragments bytes grid)
      by-test true l = at_row (ltb-true _ _ l)
      by-test false l = rw l

module _ (grid : List ℕ) (ends : ℕ) (b : Beside) (t : Tally) (formed : length grid ≡ row_count * columns) where
  own-formed : length (add_to (row_number t.row) t.added_packets t.added_fragments t.added_bytes grid) ≡ row_count * columns
  own-formed = added-formed grid (row_number t.row) t.added_packets t.added_fragments t.added_bytes formed

  grid-after-formed : length (grid_after ends b t grid) ≡ row_count * columns
  unfolding grid_after
  grid-after-formed = added-formed _ ends 1 b.open_fragments b.open_bytes own-formed

  pub rows-after-are : rows_after ends b t (rows_of grid) ≡ rows_of (grid_after ends b t grid)
  unfolding rows_after grid_after
  rows-after-are =
      rw (rows-added grid (row_number t.row) t.added_packets t.added_fragments t.added_bytes formed)
      (rows-added _ ends 1 b.open_fragments b.open_bytes own-formed)

  pub flat_after : flat_of (rows_after ends b t (rows_of grid)) ≡ grid_after ends b t grid
  flat_after = ap flat_of rows-after-are ∙ flat_rows (grid_after ends b t grid) grid-after-formed
