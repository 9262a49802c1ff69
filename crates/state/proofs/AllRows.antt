-- Rows of the grid, one after the other.
-- Assumes nothing.
use Prim.Native.Nat.{ℕ, zero, suc, ◌+◌, ◌*◌, ◌≤◌, ◌<◌}
use mathlib.Core.Bool.{Bool, true, false}
use mathlib.Core.List.{List}
use mathlib.Core.Logic.{⊎_elim}
use mathlib.Core.Path.{◌≡◌, refl, sym, ap, ◌∙◌}
use native.Mathlib.Nat.{le_of_suc-le-suc, not-suc-le-zero, eq-or-lt_of_le}
use native.Mathlib.Numerals.{add-one}
use native.Mathlib.Omega.{arith}
use lib.Dec.{eqb}
use borrow.Author.Tests.{le-leb, eqb-true, ne_eqb}
use Rattle.prelude.specs.Choice.{when◌then◌else◌, ◌and◌}
use Rattle.prelude.proofs.Tests.{if-true, if-false, if-first, if-second, eqb-iff}
use Rattle.state.specs.Account.{row_count, badcheck, packets_in, fragments_in, bytes_in, all_fragments}
use Rattle.state.specs.Grid.{flat_of, cell}
use Rattle.state.specs.Sound.{row_sound, rows_sound, singles_sound}
use Rattle.state.specs.State.{max_maximum}
use Rattle.state.proofs.Rows.{cell-flat}

-- the test of a row in the grid
abbrev pub row_sound_at : ℕ → List ℕ → Bool
row_sound_at row grid = row_sound (packets_in row grid) (fragments_in row grid) (bytes_in row grid)

-- the same in rows
pub row-flat : (r : List (List ℕ)) (row : ℕ) → row < row_count → row_sound_at row (flat_of r) ≡ row_sound (cell r row 0) (cell r row 1) (cell r row 2)
row-flat r row h =
    let cells : _ = cell-flat r row h in
    rw (cells.0, cells.1, cells.2) refl

pub and-false : (a b : Bool) → b ≡ false → (a and b) ≡ false
unfolding when◌then◌else◌
and-false true b h = h
and-false false b h = refl

pub rows-sound-next : (row : ℕ) (grid : List ℕ) → rows_sound row grid ≡ true → row_sound_at row grid ≡ true → rows_sound (row + 1) grid ≡ true
unfolding rows_sound
rows-sound-next row grid before this = rw (add-one row) (if-true _ _ _ before ∙ this)

pub row-unsound : (n row : ℕ) (grid : List ℕ) → row < n → row_sound_at row grid ≡ false → rows_sound n grid ≡ false
unfolding rows_sound
row-unsound zero row grid l h = absurd (not-suc-le-zero l)
row-unsound (suc n) row grid l h =
    ⊎_elim
    (λ e. and-false (rows_sound n grid) (row_sound_at n grid) (ap (λ (r : ℕ). row_sound_at r grid) (sym e) ∙ h))
    (λ lt. if-false _ _ _ (row-unsound n row grid lt h))
    (eq-or-lt_of_le (le_of_suc-le-suc l))

pub row-sound-at : (n row : ℕ) (grid : List ℕ) → row < n → rows_sound n grid ≡ true → row_sound_at row grid ≡ true
unfolding rows_sound
row-sound-at zero row grid l h = absurd (not-suc-le-zero l)
row-sound-at (suc n) row grid l h =
    ⊎_elim
    (λ e. ap (λ (r : ℕ). row_sound_at r grid) e ∙ if-second (rows_sound n grid) (row_sound_at n grid) h)
    (λ lt. row-sound-at n row grid lt (if-first (rows_sound n grid) (row_sound_at n grid) h))
    (eq-or-lt_of_le (le_of_suc-le-suc l))

pub all-fragments-next : (row : ℕ) (grid : List ℕ) → all_fragments (row + 1) grid ≡ all_fragments row grid + fragments_in row grid
unfolding all_fragments
all-fragments-next row grid = rw (add-one row)

pub all-fragments-grow : (m n : ℕ) (grid : List ℕ) → m ≤ n → all_fragments m grid ≤ all_fragments n grid
unfolding all_fragments
all-fragments-grow zero n grid h = omega arith
all-fragments-grow (suc m) zero grid h = absurd (not-suc-le-zero h)
all-fragments-grow (suc m) (suc n) grid h =
    ⊎_elim
    (λ e. let same : all_fragments (suc m) grid ≡ all_fragments (suc n) grid = ap (λ (r : ℕ). all_fragments r grid) e in omega arith)
    (λ lt. omega (arith, all-fragments-grow (suc m) n grid (le_of_suc-le-suc lt)))
    (eq-or-lt_of_le h)

-- a row without packets and bytes is sound
empty-row-sound : (packets fragments bytes : ℕ) → packets ≡ 0 → bytes ≡ 0 → row_sound packets fragments bytes ≡ true
unfolding row_sound
empty-row-sound packets fragments bytes p b =
    if-true _ _ _ (le-leb packets fragments (omega arith)) ∙ le-leb bytes (max_maximum * fragments) (omega arith)

-- the last row is, where those of single fragments are as they have to be
pub badcheck-sound : (grid : List ℕ) → singles_sound grid ≡ true → row_sound_at badcheck grid ≡ true
unfolding singles_sound
badcheck-sound grid h =
    let last : _ = if-second _ _ (if-second _ _ (if-second _ _ h)) in
    empty-row-sound _ _ _ (eqb-true _ _ (if-first _ _ last)) (eqb-true _ _ (if-second _ _ last))

-- what is left of the number wanted once the fragments of some rows are taken from it
module _ (grid : List ℕ) (wanted row left : ℕ) (taken : left + all_fragments row grid ≡ wanted) where
  pub too_many : row < row_count → left < fragments_in row grid → eqb (all_fragments row_count grid) wanted ≡ false
  too_many l more =
      ne_eqb (all_fragments row_count grid) wanted (λ e. omega (arith, e, all-fragments-next row grid, all-fragments-grow (row + 1) row_count grid (omega arith)))

  pub last-is-left : row ≡ badcheck → eqb (fragments_in badcheck grid) left ≡ eqb (all_fragments row_count grid) wanted
  last-is-left e =
      let all : all_fragments row_count grid ≡ all_fragments badcheck grid + fragments_in badcheck grid = all-fragments-next badcheck grid in
      let before : left + all_fragments badcheck grid ≡ wanted = rw e at taken in
      eqb-iff (fragments_in badcheck grid) left (all_fragments row_count grid) wanted (λ e. omega arith) (λ e. omega arith)
