-- What follows from the definitions, for bytes of any number (manual 10.2, 10.3, 10.6).
use Rattle.std.specs.Prelude.{ℕ, ◌+◌, ◌≤◌, ◌<◌, List, ◌++◌, Some, ◌≡◌, length, get_or}
use Rattle.prelude.specs.Parts.{AreBytes}
use Rattle.prelude.specs.Ascii.{ascii}
use Rattle.pec.specs.Code.{bit_steps, code_by_bits}
use Rattle.pec.specs.Division.{all_bits, remainder}
use Rattle.pec.specs.Table.{table, code_by_table}
use Rattle.pec.specs.Transaction.{transaction_code, framed}

-- each entry of the table is what eight bit steps make of its place; so bits and table give one code, and from 0 on it is the remainder of long division (manual 10.3)
pub record OneCode : Type 0 where
  pub entries : (byte : ℕ) → byte < 256 → get_or table byte 0 ≡ bit_steps 8 byte
  pub by_table : (crc : ℕ) (bytes : List ℕ) → code_by_table crc bytes ≡ code_by_bits crc bytes
  pub by_division : (bytes : List ℕ) → code_by_bits 0 bytes ≡ remainder bytes
  -- the code of some bytes goes on from that of the bytes before them (manual 10.3)
  pub continues : (crc : ℕ) (xs ys : List ℕ) → code_by_bits crc (xs ++ ys) ≡ code_by_bits (code_by_bits crc xs) ys

-- the published check value of this code is that of the digits from 1 to 9: bits, table and division give it (manual 10.2)
pub record CheckValue : Type 0 where
  pub by_bits : code_by_bits 0 (ascii "123456789") ≡ 0xF4
  pub by_table : code_by_table 0 (ascii "123456789") ≡ 0xF4
  pub by_division : remainder (ascii "123456789") ≡ 0xF4

-- they differ in the place, and in no other (manual 10.6)
pub record DifferAt (place : ℕ) (xs ys : List ℕ) : Type 0 where
  pub elsewhere : (other : ℕ) → (other ≡ place → ⊥) → get_or xs other 0 ≡ get_or ys other 0
  pub there : get_or xs place 0 ≡ get_or ys place 0 → ⊥

-- their bits, the highest of each byte first, differ, and only in the eight from the place on (manual 10.6)
pub record DifferWithin (place : ℕ) (xs ys : List ℕ) : Type 0 where
  pub before : (other : ℕ) → other < place → get_or (all_bits xs) other 0 ≡ get_or (all_bits ys) other 0
  pub behind : (other : ℕ) → place + 8 ≤ other → get_or (all_bits xs) other 0 ≡ get_or (all_bits ys) other 0
  pub somewhere : all_bits xs ≡ all_bits ys → ⊥

-- lists as long as each other that differ so have different codes (manual 10.6)
pub record Tells : Type 0 where
  pub one_byte : (xs ys : List ℕ) (place : ℕ) → AreBytes xs → AreBytes ys → length xs ≡ length ys → DifferAt place xs ys
      → code_by_table 0 xs ≡ code_by_table 0 ys → ⊥
  pub eight_bits : (xs ys : List ℕ) (place : ℕ) → length xs ≡ length ys → DifferWithin place xs ys
      → code_by_table 0 xs ≡ code_by_table 0 ys → ⊥

-- of two transactions as they stand on the bus, one at most has its code (manual 10.6)
abbrev pub NotBoth : (address command : ℕ) (bytes : List ℕ) (code : ℕ) (address' command' : ℕ) (bytes' : List ℕ) (code' : ℕ) → Type 0
NotBoth address command bytes code address' command' bytes' code' =
    transaction_code address command bytes ≡ Some code → transaction_code address' command' bytes' ≡ Some code' → ⊥

-- so it is where two with the same number of data bytes differ so, whatever was changed, address, command, data or the code itself (manual 10.6)
pub record Noticed : Type 0 where
  pub one_byte : (address command : ℕ) (bytes : List ℕ) (code : ℕ) (address' command' : ℕ) (bytes' : List ℕ) (code' : ℕ) (place : ℕ)
      → AreBytes (framed address command bytes code) → AreBytes (framed address' command' bytes' code') → length bytes ≡ length bytes'
      → DifferAt place (framed address command bytes code) (framed address' command' bytes' code')
      → NotBoth address command bytes code address' command' bytes' code'
  pub eight_bits : (address command : ℕ) (bytes : List ℕ) (code : ℕ) (address' command' : ℕ) (bytes' : List ℕ) (code' : ℕ) (place : ℕ)
      → length bytes ≡ length bytes'
      → DifferWithin place (framed address command bytes code) (framed address' command' bytes' code')
      → NotBoth address command bytes code address' command' bytes' code'
