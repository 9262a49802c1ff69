-- How long a printout is at most.
-- Assumes nothing.
use Prim.Native.Nat.{ℕ, zero, suc, ◌+◌, ◌*◌, ◌/◌, ◌≤◌}
use Prim.Native.String.{String}
use mathlib.Core.Bool.{Bool}
use mathlib.Core.List.{List, [], ◌∷◌, ◌++◌}
use mathlib.Core.Path.{◌∙◌, refl}
use native.Mathlib.Omega.{arith}
use lib.Dec.{leb}
use lib.ListN.{length, length-append}
use borrow.Author.Tests.{le-ltb, leb-true}
use Rattle.std.specs.List.{AllPass}
use Rattle.std.proofs.lemmas.List.Sums.{AllPass-from_list_all}
use Rattle.state.specs.declared.Beside.{Beside}
use Rattle.state.specs.Account.{columns}
use Rattle.prelude.specs.Ascii.{ascii}
use Rattle.prelude.proofs.Tests.{if-true, if-false, if-cases}
use Rattle.printout.specs.Printout.{max_digits, decimal_in, field, fields, fates, cells_of, line_of, fate_lines, open_packets, count_lines, printout, shown, printed}
use Rattle.printout.specs.Properties.{EveryPrintout, EveryBuffer}

-- the most bytes of a row's name, of a number with its space, and of a line behind its name
abbrev max_name : ℕ
max_name = 10

abbrev max_field : ℕ
max_field = 1 + max_digits

abbrev max_cells : ℕ
max_cells = columns * max_field + 1

abbrev max_count : ℕ
max_count = max_field + 1

-- of a row's line, and of the lines behind the rows
abbrev max_fate : ℕ
max_fate = max_name + max_cells

abbrev max_counts : ℕ
max_counts = 151

both-short : (first second : List ℕ) (m n : ℕ) → length first ≤ m → length second ≤ n → length (first ++ second) ≤ m + n
both-short first second m n h k = simp length-append (omega arith)

decimal-short : (places n : ℕ) → length (decimal_in places n) ≤ places
unfolding decimal_in
decimal-short zero n = omega arith
decimal-short (suc places) n =
    let rest : length (decimal_in places (n / 10)) ≤ places = decimal-short places (n / 10) in
    if-cases (λ (l : List ℕ). length l ≤ suc places) _ _ _ (λ _. omega arith) (λ _. simp length-append (omega arith))

field-short : (n : ℕ) → length (field n) ≤ max_field
unfolding field
field-short n = let short : _ = decimal-short 20 n in omega arith

fields-short : (numbers : List ℕ) → length (fields numbers) ≤ max_field * length numbers + 1
unfolding fields
fields-short [] = omega arith
fields-short (n ∷ rest) =
    let first : _ = field-short n in
    let others : _ = fields-short rest in
    simp length-append (omega arith)

line-short : (name numbers : List ℕ) → length (line_of name numbers) ≤ length name + (max_field * length numbers + 1)
line-short name numbers = let short : _ = fields-short numbers in simp length-append (omega arith)

-- every name of a row is short enough
abbrev short_name : String × ℕ → Bool
short_name fate = leb (length (ascii fate.0)) max_name

fates-short : (lines : List (String × ℕ)) (grid : List ℕ) → AllPass short_name lines → length (fate_lines lines grid) ≤ length lines * max_fate
unfolding fate_lines
fates-short [] grid each = omega arith
fates-short (fate ∷ rest) grid each =
    let name : length (ascii fate.0) ≤ max_name = leb-true _ _ (each 0 fate (omega arith)) in
    let line : _ = line-short (ascii fate.0) (cells_of fate.1 grid) in
    let others : _ = fates-short rest grid (λ k d l. each (suc k) d (omega arith)) in
    let both : _ = both-short (line_of (ascii fate.0) (cells_of fate.1 grid)) (fate_lines rest grid) _ _ line others in
    omega arith

counts-short : (b : Beside) → length (count_lines b) ≤ max_counts
unfolding count_lines
counts-short b =
    let refused-total : _ = both-short (line "refused" b.refused) (line "total" b.total) (7 + max_count) (5 + max_count) (line-short (ascii "refused") (b.refused ∷ [])) (line-short (ascii "total") (b.total ∷ [])) in
    let commands : _ = both-short (line "taken" b.taken) (line "refused" b.refused ++ line "total" b.total) (5 + max_count) (12 + max_count + max_count) (line-short (ascii "taken") (b.taken ∷ [])) refused-total in
    both-short (line_of (ascii "open") opened) (line "taken" b.taken ++ (line "refused" b.refused ++ line "total" b.total)) (4 + max_cells) (17 + max_count + max_count + max_count) (line-short (ascii "open") opened) commands
  where
    line : String → ℕ → List ℕ
    line name number = line_of (ascii name) (number ∷ [])

    opened : List ℕ
    opened = open_packets b.open_fragments ∷ b.open_fragments ∷ b.open_bytes ∷ []

pub every-printout : EveryPrintout
unfolding printout
every-printout a =
    let lines : _ = both-short (fate_lines fates a.grid) (count_lines a.beside) _ _ (fates-short fates a.grid (AllPass-from_list_all short_name fates refl)) (counts-short a.beside) in
    omega arith

pub every-buffer : EveryBuffer
unfolding printed shown
every-buffer a out sound room =
    let short : _ = every-printout a in
    if-true _ _ _ sound ∙ if-false _ _ _ (le-ltb (length out) (length (printout a)) (omega arith))
