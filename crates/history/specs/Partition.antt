-- The line of every place of the list: each has one, and no place is left out (manual 8.6, 8.9).
use Rattle.std.specs.Prelude.{ℕ, ◌+◌, List, [], ◌∷◌, ◌≡◌, length}
use Rattle.history.specs.Lines.{Line, lines, line_of, fragments, in_line}
use Rattle.history.specs.Reading.{Entry, total, Setup}
use Rattle.history.specs.Runs.{Role, begins, goes_on, ends, passes, so_far, roles, run_from, begun, count_in, items_of}

-- the line of a place: that of the run which begins there, or which goes on there behind these fragments, or that of its answer (manual 8.9)
abbrev pub line_from : List (List ℕ) → (later : List Role) → Line
line_from [] later = line_of 2
line_from (first ∷ pieces) later = (run_from (first ∷ pieces) later).line

abbrev pub line_at : (earlier : List Role) → Role → (later : List Role) → Line
line_at earlier (begins last piece link_up) later = (begun last piece link_up later).line
line_at earlier (goes_on last piece link_up) later = line_from (so_far earlier) (goes_on last piece link_up ∷ later)
line_at earlier (ends fate answer) later = line_of answer
line_at earlier (passes answer) later = line_of answer

abbrev pub lines_after : (earlier later : List Role) → List Line
lines_after earlier [] = []
lines_after earlier (role ∷ later) = line_at earlier role later ∷ lines_after (role ∷ earlier) later

abbrev pub lines_of : Setup → List Entry → List Line
lines_of setup entries = lines_after [] (roles setup entries)

-- how many places stand in a line (manual 8.6)
abbrev pub places_in : List Line → Line → ℕ
places_in [] line = 0
places_in (l ∷ ls) line = in_line l 1 line + places_in ls line

-- the sum over lines (manual 8.6)
abbrev pub sum_over : List Line → (Line → ℕ) → ℕ
sum_over [] count = 0
sum_over (line ∷ rest) count = count line + sum_over rest count

-- each entry that counts has a line, a line has as many fragments or commands as places stand in it, and all lines have T (manual 8.6)
pub record InOneLine (setup : Setup) (entries : List Entry) : Type 0 where
  pub a_line_each : length (lines_of setup entries) ≡ total entries
  pub counts_are_places : (line : Line) → count_in (items_of setup entries) line fragments ≡ places_in (lines_of setup entries) line
  pub all_lines : sum_over lines (λ (line : Line). count_in (items_of setup entries) line fragments) ≡ total entries

abbrev pub Partition : Type 0
Partition = (setup : Setup) (entries : List Entry) → InOneLine setup entries
