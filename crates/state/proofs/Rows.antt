-- The grid as rows of three and as one list.
-- Assumes nothing.
use Prim.Native.Nat.{ℕ, zero, suc, ◌*◌, ◌<◌}
use mathlib.Core.List.{List}
use mathlib.Core.Path.{◌≡◌, refl}
use native.Mathlib.Omega.{arith}
use lib.ListN.{length}
use Rattle.prelude.proofs.Lists.{all-elements}
use Rattle.state.specs.Account.{row_count, columns, packets_in, fragments_in, bytes_in}
use Rattle.state.specs.Grid.{rows_of, flat_of, cell}

-- what holds of each row, one by one
pub each-row : (P : ℕ → Type 0) → P 0 → P 1 → P 2 → P 3 → P 4 → P 5 → P 6 → P 7 → P 8 → P 9 → (row : ℕ) → row < row_count → P row
each-row P p0 p1 p2 p3 p4 p5 p6 p7 p8 p9 zero h = p0
each-row P p0 p1 p2 p3 p4 p5 p6 p7 p8 p9 (suc zero) h = p1
each-row P p0 p1 p2 p3 p4 p5 p6 p7 p8 p9 (suc (suc zero)) h = p2
each-row P p0 p1 p2 p3 p4 p5 p6 p7 p8 p9 (suc (suc (suc zero))) h = p3
each-row P p0 p1 p2 p3 p4 p5 p6 p7 p8 p9 (suc (suc (suc (suc zero)))) h = p4
each-row P p0 p1 p2 p3 p4 p5 p6 p7 p8 p9 (suc (suc (suc (suc (suc zero))))) h = p5
each-row P p0 p1 p2 p3 p4 p5 p6 p7 p8 p9 (suc (suc (suc (suc (suc (suc zero)))))) h = p6
each-row P p0 p1 p2 p3 p4 p5 p6 p7 p8 p9 (suc (suc (suc (suc (suc (suc (suc zero))))))) h = p7
each-row P p0 p1 p2 p3 p4 p5 p6 p7 p8 p9 (suc (suc (suc (suc (suc (suc (suc (suc zero)))))))) h = p8
each-row P p0 p1 p2 p3 p4 p5 p6 p7 p8 p9 (suc (suc (suc (suc (suc (suc (suc (suc (suc zero))))))))) h = p9
each-row P p0 p1 p2 p3 p4 p5 p6 p7 p8 p9 (suc (suc (suc (suc (suc (suc (suc (suc (suc (suc k)))))))))) h = absurd (omega arith)

-- the cells of a row, in the list that the rows make
pub cell-flat : (r : List (List ℕ)) (row : ℕ) → row < row_count
    → (packets_in row (flat_of r) ≡ cell r row 0) × (fragments_in row (flat_of r) ≡ cell r row 1) × (bytes_in row (flat_of r) ≡ cell r row 2)
cell-flat r =
    each-row (λ (row : ℕ). (packets_in row (flat_of r) ≡ cell r row 0) × (fragments_in row (flat_of r) ≡ cell r row 1) × (bytes_in row (flat_of r) ≡ cell r row 2))
    (refl, refl, refl) (refl, refl, refl) (refl, refl, refl) (refl, refl, refl) (refl, refl, refl) (refl, refl, refl) (refl, refl, refl) (refl, refl, refl) (refl, refl, refl) (refl, refl, refl)

-- rows written out and back
pub flat_rows : (grid : List ℕ) → length grid ≡ row_count * columns → flat_of (rows_of grid) ≡ grid
flat_rows grid e = all-elements (row_count * columns) grid e
