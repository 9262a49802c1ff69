-- The grid as rows of three, as it is counted in, and as one list (manual 8.2).
use Rattle.std.specs.Prelude.{ℕ, zero, suc, ◌+◌, List, [], ◌∷◌, get_or}
use Rattle.state.specs.Account.{row_count, columns}

-- n rows of a grid, from place `at` on (manual 8.2)
abbrev pub rows_from : ℕ → ℕ → List ℕ → List (List ℕ)
rows_from zero at grid = []
rows_from (suc n) at grid = (get_or grid at 0 ∷ get_or grid (at + 1) 0 ∷ get_or grid (at + 2) 0 ∷ []) ∷ rows_from n (at + columns) grid

abbrev pub rows_of : List ℕ → List (List ℕ)
rows_of grid = rows_from row_count 0 grid

abbrev pub cell : List (List ℕ) → ℕ → ℕ → ℕ
cell r row column = get_or (get_or r row []) column 0

-- n rows, from `row` on, as one list (manual 8.2)
abbrev pub flat_from : ℕ → ℕ → List (List ℕ) → List ℕ
flat_from zero row r = []
flat_from (suc n) row r = cell r row 0 ∷ cell r row 1 ∷ cell r row 2 ∷ flat_from n (row + 1) r

abbrev pub flat_of : List (List ℕ) → List ℕ
flat_of r = flat_from row_count 0 r
