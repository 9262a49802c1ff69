-- The printout of an account, and how it stands in a buffer (manual 9.4).
use Rattle.std.specs.Prelude.{ℕ, zero, suc, ◌/◌, ◌%◌, List, [], ◌∷◌, ◌++◌, ltb, length, drop}
use Prim.Native.String.{String}
use Rattle.io.specs.Digits.{hex_digit_ascii}
use Rattle.prelude.specs.Choice.{when◌then◌else◌}
use Rattle.state.specs.declared.Account.{Account}
use Rattle.state.specs.declared.Beside.{Beside}
use Rattle.state.specs.Account.{sent, superseded, flushed, broken, over, short, linkdown, aborted, badlength, badcheck, packets_in, fragments_in, bytes_in}
use Rattle.state.specs.Sound.{account_sound}
use Rattle.prelude.specs.Ascii.{ascii}

-- a number of at most so many digits in decimal, with no zeros in front (manual 9.4)
unfoldable pub decimal_in : ℕ → ℕ → List ℕ
decimal_in zero n = []
decimal_in (suc places) n = when ltb n 10 then hex_digit_ascii n ∷ [] else decimal_in places (n / 10) ++ (hex_digit_ascii (n % 10) ∷ [])

-- as many as a number of 64 bits has at most (manual 8.2)
abbrev pub max_digits : ℕ
max_digits = 20

-- a number in decimal (manual 9.4)
abbrev pub decimal : ℕ → List ℕ
decimal n = decimal_in max_digits n

-- a space, and the number (manual 9.4)
unfoldable pub field : ℕ → List ℕ
field n = ascii " " ++ decimal n

-- the numbers of a line, and its end (manual 9.4)
unfoldable pub fields : List ℕ → List ℕ
fields [] = ascii "\n"
fields (n ∷ rest) = field n ++ fields rest

-- a name and its numbers (manual 9.4)
abbrev pub line_of : List ℕ → List ℕ → List ℕ
line_of name numbers = name ++ fields numbers

-- the names of the rows of the grid (manual 8.2)
abbrev pub fates : List (String × ℕ)
fates =
    ("sent", sent) ∷ ("superseded", superseded) ∷ ("flushed", flushed) ∷ ("broken", broken) ∷ ("over", over)
    ∷ ("short", short) ∷ ("linkdown", linkdown) ∷ ("aborted", aborted) ∷ ("badlength", badlength) ∷ ("badcheck", badcheck) ∷ []

-- packets, fragments and bytes of a row (manual 8.2)
abbrev pub cells_of : ℕ → List ℕ → List ℕ
cells_of row grid = packets_in row grid ∷ fragments_in row grid ∷ bytes_in row grid ∷ []

-- what the numbers of a row are (manual 9.4)
abbrev pub heading : List ℕ
heading = ascii "fate packets fragments bytes\n"

-- a line for each row (manual 9.4)
unfoldable pub fate_lines : List (String × ℕ) → List ℕ → List ℕ
fate_lines [] grid = []
fate_lines (fate ∷ rest) grid = line_of (ascii fate.0) (cells_of fate.1 grid) ++ fate_lines rest grid

-- one packet is open where it has a fragment (manual 3.1, 9.4)
unfoldable pub open_packets : ℕ → ℕ
open_packets open_fragments = when ltb 0 open_fragments then 1 else 0

-- the lines of the numbers beside the grid (manual 8.5)
unfoldable pub count_lines : Beside → List ℕ
count_lines b =
    line_of (ascii "open") (open_packets b.open_fragments ∷ b.open_fragments ∷ b.open_bytes ∷ [])
    ++ (line_of (ascii "taken") (b.taken ∷ [])
    ++ (line_of (ascii "refused") (b.refused ∷ [])
    ++ line_of (ascii "total") (b.total ∷ [])))

-- a heading, the rows and the numbers beside them (manual 9.4)
unfoldable pub printout : Account → List ℕ
printout a = heading ++ (fate_lines fates a.grid ++ count_lines a.beside)

-- no printout has more bytes (manual 9.4)
abbrev pub max_printout : ℕ
max_printout = 920

-- how many bytes of a buffer were written, and what it holds then (manual 9.4)
pub record Written : Type 0 where
  pub size : ℕ
  pub out : List ℕ

-- both of these (manual 9.4)
abbrev pub written : ℕ → List ℕ → Written
written size out = record { size = size; out = out }

-- a text at the start of a buffer, or nothing where it does not fit (manual 9.4)
unfoldable pub shown : List ℕ → List ℕ → Written
shown text out = when ltb (length out) (length text) then written 0 out else written (length text) (text ++ drop (length text) out)

-- nothing too where the account is not sound (manual 9.4, 8.7)
unfoldable pub printed : Account → List ℕ → Written
printed a out = when account_sound a then shown (printout a) out else written 0 out
