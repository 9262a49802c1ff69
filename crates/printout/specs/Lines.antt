-- Internal: what the functions promise that put a piece behind a text. Nobody has to believe these definitions.
use Rattle.std.specs.Prelude.{ℕ, List, get_or, take}
use Rattle.prelude.specs.Ascii.{ascii}
use Rattle.state.specs.declared.row.Row.{Row}
use Rattle.state.specs.Account.{place_of}
use Rattle.printout.specs.Printout.{line_of, fates, cells_of, max_printout}

-- as much of a text as there is room for (manual 9.4)
unfoldable pub cut : List ℕ → List ℕ
cut text = take max_printout text

-- the name of a row (manual 8.2)
abbrev pub name_of : Row → List ℕ
name_of row = ascii (get_or fates (place_of row) ("", 0)).0

-- the line of a row (manual 9.4)
abbrev pub row_line : List ℕ → Row → List ℕ
row_line grid row = line_of (name_of row) (cells_of (place_of row) grid)
