-- The lines and columns of the account (manual 8.2, 8.3, 8.5).
use Rattle.std.specs.Prelude.{ℕ, Bool, not, List, [], ◌∷◌, ◌++◌, map, eqb, get_or}
use Rattle.prelude.specs.Choice.{when◌then◌else◌}

-- the rows of the grid (manual 8.2)
pub data Fate : Type 0 where
  sent superseded flushed broken over short linkdown aborted badlength badcheck : Fate

-- in the grid's order (manual 8.2)
abbrev pub fates : List Fate
fates = sent ∷ superseded ∷ flushed ∷ broken ∷ over ∷ short ∷ linkdown ∷ aborted ∷ badlength ∷ badcheck ∷ []

abbrev pub row_of : Fate → ℕ
row_of sent = 0
row_of superseded = 1
row_of flushed = 2
row_of broken = 3
row_of over = 4
row_of short = 5
row_of linkdown = 6
row_of aborted = 7
row_of badlength = 8
row_of badcheck = 9

-- where a transaction stands: in a row, beside the grid, or in no line (manual 8.5)
pub data Line : Type 0 where
  row : Fate → Line
  opened taken refused nowhere : Line

-- every line, once (manual 8.5)
abbrev pub lines : List Line
lines = map row fates ++ (opened ∷ taken ∷ refused ∷ [])

-- two lines are one where they have one number (manual 8.5)
abbrev pub line_number : Line → ℕ
line_number (row fate) = row_of fate
line_number opened = 10
line_number taken = 11
line_number refused = 12
line_number nowhere = 13

abbrev pub is_line : Line → Line → Bool
is_line line other = eqb (line_number line) (line_number other)

-- a count, where it belongs to the line that is asked for (manual 8.3)
unfoldable pub in_line : Line → ℕ → Line → ℕ
in_line line count asked = when is_line line asked then count else 0

-- the lines of the answers 0 to 17; those from 12 to 16 stand in none (manual 8.3)
abbrev pub answer_lines : List Line
answer_lines =
    opened ∷ row sent ∷ row aborted ∷ row badlength ∷ row over ∷ row short ∷ row linkdown
    ∷ refused ∷ refused ∷ refused ∷ refused ∷ taken
    ∷ nowhere ∷ nowhere ∷ nowhere ∷ nowhere ∷ nowhere ∷ row badcheck ∷ []

abbrev pub line_of : (answer : ℕ) → Line
line_of answer = get_or answer_lines answer nowhere

-- a transaction is counted where its answer stands in a line (manual 2.3, 8.1)
unfoldable pub is_counted : (answer : ℕ) → Bool
is_counted answer = not (is_line (line_of answer) nowhere)

-- the columns (manual 8.2)
pub data Column : Type 0 where
  packets fragments bytes : Column

-- the grid, as one list: of each row its packets, fragments and bytes (manual 8.2)
abbrev pub grid_of : (Line → Column → ℕ) → List Fate → List ℕ
grid_of count [] = []
grid_of count (fate ∷ rest) = count (row fate) packets ∷ count (row fate) fragments ∷ count (row fate) bytes ∷ grid_of count rest
