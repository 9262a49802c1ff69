-- The rows have room for one transaction more.
-- Assumes nothing.
use Prim.Native.Nat.{ℕ, ◌+◌, ◌≤◌, ◌<◌}
use mathlib.Core.List.{List, [], ◌∷◌}
use mathlib.Core.Logic.{◌⊎◌, inl, inr}
use mathlib.Core.Path.{◌≡◌}
use native.Mathlib.Omega.{arith}
use lib.Dec.{ltb}
use lib.ListN.{length, get_or, set}
use lib.Seq.{get_or-set_same, get_or-set_other}
use borrow.Author.Tests.{ltb-true}
use Rattle.prelude.proofs.Tests.{if-cases}
use Rattle.state.specs.declared.Beside.{Beside}
use Rattle.state.specs.Account.{row_count, row_number}
use Rattle.state.specs.Grid.{cell}
use Rattle.state.specs.State.{max_maximum}
use Rattle.translator.specs.declared.tally.Tally.{Tally}
use Rattle.translator.specs.Rows.{RowsFit, BesideFits, TallyFits, Room, in_rows, most}
use Rattle.std.proofs.lemmas.Bool.{cases_eq}

-- each cell of a row is at most so much
abbrev Within : ℕ → List ℕ → Type 0
Within n cells = (get_or cells 0 0 ≤ n) × (get_or cells 1 0 ≤ n) × (get_or cells 2 0 ≤ n)

pub own_room : (r : List (List ℕ)) (t : Tally) → RowsFit r → TallyFits t → Room (row_number t.row) t.added_packets t.added_fragments t.added_bytes r
own_room r t fits adds l =
    let cells : _ = fits.cells (row_number t.row) l in
    (omega (arith, adds.packets, cells.0), omega (arith, adds.fragments, cells.1), omega (arith, adds.bytes, cells.2))

-- after so much was added to a row, any row has at most so much more
added-within : (r : List (List ℕ)) (row packets fragments bytes other n m : ℕ) → length r ≡ row_count → (row < row_count → Within n (get_or r row [])) → Within n (get_or r other []) → packets ≤ m → fragments ≤ m → bytes ≤ m
    → Within (n + m) (get_or (in_rows r row packets fragments bytes) other [])
unfolding in_rows
added-within r row packets fragments bytes other n m rows here there p f b =
    if-cases (λ (s : List (List ℕ)). Within (n + m) (get_or s other [])) (ltb row row_count) _ _ (λ l. at_row (ltb-true _ _ l) (cases_eq other row)) (λ _. (omega arith, omega arith, omega arith))
  where
    more : List ℕ
    more = (cell r row 0 + packets) ∷ (cell r row 1 + fragments) ∷ (cell r row 2 + bytes) ∷ []

    at_row : row < row_count → (other ≡ row) ⊎ (other ≡ row → ⊥) → Within (n + m) (get_or (set r row more) other [])
    at_row l (inl e) =
        let cells : Within n (get_or r row []) = here l in
        rw (e, get_or-set_same r row more [] (omega arith)) (omega arith, omega arith, omega arith)
    at_row l (inr e) = rw (get_or-set_other r row other more [] e) (omega arith, omega arith, omega arith)

pub ended-room : (r : List (List ℕ)) (ends : ℕ) (b : Beside) (t : Tally) → RowsFit r → BesideFits b → TallyFits t
    → Room ends 1 b.open_fragments b.open_bytes (in_rows r (row_number t.row) t.added_packets t.added_fragments t.added_bytes)
ended-room r ends b t fits beside adds l =
    let cells : Within (most + (most + max_maximum)) (get_or (in_rows r (row_number t.row) t.added_packets t.added_fragments t.added_bytes) ends []) =
    added-within r (row_number t.row) _ _ _ ends most (most + max_maximum) fits.all_rows (fits.cells (row_number t.row)) (fits.cells ends l) adds.packets adds.fragments adds.bytes in
    (omega arith, omega (arith, beside.held_fragments), omega (arith, beside.held_bytes))
