-- The records of a journal, as they are written and read: with address and code where the check is on (manual 9.2, 9.3).
use Rattle.std.specs.Prelude.{ℕ, zero, suc, ◌+◌, ◌-◌, Bool, true, false, List, [], ◌∷◌, ◌++◌, eqb, ltb, length, get_or, Result, Ok, Err}
use Rattle.prelude.specs.Choice.{when◌then◌else◌}
use Rattle.prelude.specs.Parts.{part}
use Rattle.record.specs.declared.Record.{Record}
use Rattle.record.specs.declared.Stop.{Stop}
use Rattle.record.specs.declared.Stop.TheVariants as stop
use Rattle.record.specs.Transaction.{Transaction, transaction}

-- How a record is written, over numbers: they are bytes where each is below 256, and a record has at most 255 bytes of data. The link byte (manual 9.2)
abbrev pub link_byte : Bool → ℕ
link_byte true = 1
link_byte false = 0

-- command, link, length and data (manual 9.2)
abbrev pub body_of : Transaction → List ℕ
body_of t = t.command ∷ link_byte t.link_up ∷ length t.bytes ∷ t.bytes

-- the address before them and the code behind, where the check is on (manual 9.2)
abbrev pub record_of : (check : Bool) → Transaction → List ℕ
record_of false t = body_of t
record_of true t = t.address ∷ (body_of t ++ t.code ∷ [])

abbrev pub records_of : (check : Bool) → List Transaction → List ℕ
records_of check [] = []
records_of check (t ∷ rest) = record_of check t ++ records_of check rest

-- How it is read: address and code are a byte each where the check is on, and are not there where it is off (manual 9.2)
abbrev pub check_size : (check : Bool) → ℕ
check_size false = 0
check_size true = 1

abbrev pub byte_if : (check : Bool) → List ℕ → (at : ℕ) → ℕ
byte_if false bytes at = 0
byte_if true bytes at = get_or bytes at 0

-- command, link and length, and the address before them (manual 9.2)
abbrev pub head_size : (check : Bool) → ℕ
head_size check = check_size check + 3

-- a record that stands at a place, with so many bytes of data (manual 9.2)
abbrev pub record_at : (check : Bool) → List ℕ → (at size : ℕ) → Record
record_at check bytes at size =
    record {
      attributes = record {
        address = byte_if check bytes at;
        command = get_or bytes (at + check_size check) 0;
        code = byte_if check bytes (at + head_size check + size);
        link_up = eqb (get_or bytes (at + check_size check + 1) 0) 1;
      };
      start = at + head_size check;
      end = at + head_size check + size;
      next = at + head_size check + size + check_size check;
    }

-- what stands at a place of some bytes, taken as a record; the link byte is judged as soon as it is there (manual 9.3)
unfoldable pub found_at : (check : Bool) → List ℕ → (at : ℕ) → Result Record Stop
found_at check bytes at =
    when ltb (length bytes) at then Err stop.Cut else
    when ltb (length bytes - at) (check_size check + 2) then Err stop.Cut else
    when ltb 1 (get_or bytes (at + check_size check + 1) 0) then Err stop.BadLink else
    when ltb (length bytes - at) (head_size check) then Err stop.Cut else
    when ltb (length bytes - at - head_size check) (get_or bytes (at + check_size check + 2) 0 + check_size check) then Err stop.Cut else
    Ok (record_at check bytes at (get_or bytes (at + check_size check + 2) 0))

-- the whole records that some bytes begin with, how many bytes they are, and whether a bad link byte comes next (manual 9.2, 9.3)
pub record Records : Type 0 where
  pub transactions : List Transaction
  pub used : ℕ
  pub bad_link : Bool

abbrev pub none : Bool → Records
none bad_link = record { transactions = []; used = 0; bad_link = bad_link }

-- the transaction that a record in these bytes is (manual 9.2)
abbrev pub transaction_in : List ℕ → Record → Transaction
transaction_in bytes r = transaction r.attributes (part r.start (r.end - r.start) bytes)

-- a record at the front of these bytes, and those behind it; or why there is none (manual 9.2, 9.3)
abbrev pub found_then : List ℕ → Result Record Stop → Records → Records
found_then bytes (Err stop.Cut) later = none false
found_then bytes (Err stop.BadLink) later = none true
found_then bytes (Ok r) later =
    record {
      transactions = transaction_in bytes r ∷ later.transactions;
      used = r.next + later.used;
      bad_link = later.bad_link;
    }

-- how many bytes behind the first one belong to what was found (manual 9.2)
abbrev pub skipped_by : Result Record Stop → ℕ
skipped_by (Err _) = 0
skipped_by (Ok r) = r.next - 1

-- where the first `skipped` bytes belong to a record that is counted already (manual 9.2)
unfoldable pub records_after : (check : Bool) → (skipped : ℕ) → List ℕ → Records
records_after check (suc skipped) [] = none false
records_after check (suc skipped) (byte ∷ rest) = records_after check skipped rest
records_after check zero [] = none false
records_after check zero (byte ∷ rest) =
    found_then (byte ∷ rest) (found_at check (byte ∷ rest) 0) (records_after check (skipped_by (found_at check (byte ∷ rest) 0)) rest)

-- of all the bytes (manual 9.2)
abbrev pub records_in : (check : Bool) → List ℕ → Records
records_in check bytes = records_after check 0 bytes
