-- A journal: its header and its records (manual 9.1, 9.2, 9.3).
use Rattle.std.specs.Prelude.{ℕ, ◌+◌, ◌*◌, Bool, true, false, List, [], ◌∷◌, ◌++◌, Option, None, Some, Result, Ok, Err, eqb, ltb, length, get_or, drop}
use Rattle.prelude.specs.Ascii.{ascii}
use Rattle.prelude.specs.Choice.{when◌then◌else◌, ◌and◌}
use Rattle.record.specs.Records.{records_of, records_in}
use Rattle.record.specs.Transaction.{Transaction}
use Rattle.state.specs.State.{max_maximum}
use Rattle.journal.specs.declared.header.Header.{Header}
use Rattle.journal.specs.declared.header.HeaderError.{HeaderError}
use Rattle.journal.specs.declared.header.HeaderError.TheVariants as error

-- What a writer writes: the three letters, and the version as a word with its low byte first, by whether the check is on (manual 9.1)
abbrev pub name : List ℕ
name = ascii "TCO"

abbrev pub version_of : (check : Bool) → ℕ
version_of false = 1
version_of true = 2

-- a fragment maximum, and whether the check is on (manual 9.1)
abbrev pub header : (maximum : ℕ) → (check : Bool) → Header
header maximum check = record { maximum = maximum; check = check }

-- the maximum behind both (manual 9.1)
abbrev pub header_of : Header → List ℕ
header_of h = name ++ (version_of h.check ∷ 0 ∷ h.maximum ∷ [])

-- the places of version and maximum (manual 9.1)
abbrev pub version_at : ℕ
version_at = 3

abbrev pub maximum_at : ℕ
maximum_at = version_at + 2

-- how many bytes a header has (manual 9.1)
abbrev pub header_size : ℕ
header_size = maximum_at + 1

-- the records follow with nothing between (manual 9.1, 9.2)
abbrev pub journal_of : Header → List Transaction → List ℕ
journal_of h transactions = header_of h ++ records_of h.check transactions

-- How it is read: whether some bytes begin with the three letters (manual 9.1)
unfoldable pub is_named : List ℕ → Bool
is_named bytes =
    eqb (get_or bytes 0 0) (get_or name 0 0) and eqb (get_or bytes 1 0) (get_or name 1 0) and eqb (get_or bytes 2 0) (get_or name 2 0)

-- the version of some bytes, and the check by it; any other version is bad (manual 9.1, 9.3)
abbrev pub version_in : List ℕ → ℕ
version_in bytes = get_or bytes version_at 0 + get_or bytes (version_at + 1) 0 * 256

unfoldable pub check_for : (version : ℕ) → Option Bool
check_for version = when eqb version 1 then Some false else when eqb version 2 then Some true else None

-- a maximum that is allowed, behind a version that is (manual 9.1, 9.3)
unfoldable pub header_for : Option Bool → (maximum : ℕ) → Result Header HeaderError
header_for None maximum = Err error.Bad
header_for (Some check) maximum =
    when ltb maximum 1 then Err error.Bad else
    when ltb max_maximum maximum then Err error.Bad else
    Ok (header maximum check)

-- what some bytes begin with, taken as a header: cut, bad, or what it says (manual 9.1, 9.3)
unfoldable pub header_in : List ℕ → Result Header HeaderError
header_in bytes =
    when ltb (length bytes) header_size then Err error.Cut else
    when is_named bytes then header_for (check_for (version_in bytes)) (get_or bytes maximum_at 0) else
    Err error.Bad

-- a whole journal (manual 9.3)
pub data Journal : Type 0 where
  bad : Journal
  good : Header → List Transaction → Journal

-- it is good where all of it is a header and whole records (manual 9.3)
abbrev pub with_header : Result Header HeaderError → List ℕ → Journal
with_header (Err why) rest = bad
with_header (Ok h) rest =
    when eqb (records_in h.check rest).used (length rest) then good h (records_in h.check rest).transactions else bad

-- a whole journal, by its bytes (manual 9.1, 9.2, 9.3)
unfoldable pub parsed : List ℕ → Journal
parsed bytes = with_header (header_in bytes) (drop header_size bytes)

-- what is printed of a bad one (manual 9.3)
abbrev pub bad_journal : List ℕ
bad_journal = ascii "bad journal\n"
