-- What is told in numbers: a part is the one that the other crates show, in the same place and with the same bytes; of status data the first bad field; of a transaction the code with which it passes the check, and that a fault fails it (manual 4.4, 5.9, 6.6, 10.5, 10.6).
use Rattle.std.specs.Prelude.{ℕ, ◌≤◌, ◌<◌, true, false, List, ◌∷◌, ◌≡◌, eqb, length}
use Rattle.std.specs.Borrow.{Bor}
use Rattle.prelude.specs.Choice.{when◌then◌else◌}
use Rattle.prelude.specs.Parts.{AreBytes, Slice, part_of}
use Rattle.address.specs.declared.Address.TheVariants.{Mac, Ipv4}
use Rattle.address.specs.Address.{in_force}
use Rattle.packet.specs.Store.{shown}
use Rattle.pec.specs.Division.{remainder}
use Rattle.pec.specs.Properties.{DifferAt, DifferWithin}
use Rattle.pec.specs.Transaction.{framed}
use Rattle.record.specs.declared.transaction.Attributes.{Attributes}
use Rattle.record.specs.Transaction.{transaction}
use Rattle.state.specs.State.{check_on}
use Rattle.status.specs.declared.Fields.{Fields}
use Rattle.status.specs.Block.{block_back, fields_back}
use Rattle.status.specs.Properties.{GoodToWrite, GoodToRead, TellsFirstBad}
use Rattle.translator.specs.Check.{passes_check}
use Rattle.tco.specs.declared.Part.{Part}
use Rattle.tco.specs.Code.{check_code}
use Rattle.tco.specs.Part.{shown_length, in_flash, mac_in_force, ipv4_in_force}
use Rattle.tco.specs.Status.{written_in_numbers, read_in_numbers}

-- the part that the numbers tell (manual 5.9)
abbrev pub part_at : Part → Bor (List ℕ) → Bor (List ℕ) → Slice
part_at p settings flash = part_of p.start p.length (when eqb p.source in_flash then flash else settings)

-- of the store and of both addresses (manual 4.4, 5.9)
pub record EveryPart : Type 0 where
  pub packet : (store : Bor (List ℕ)) (n : ℕ) → part_of 0 (shown_length store n) store ≡ shown store n
  pub mac : (settings flash : Bor (List ℕ)) → part_at (mac_in_force settings.now flash.now) settings flash ≡ in_force Mac settings flash
  pub ipv4 : (settings flash : Bor (List ℕ)) → part_at (ipv4_in_force settings.now flash.now) settings flash ≡ in_force Ipv4 settings flash

-- of status data, whatever is written or read (manual 6.6)
pub record EveryStatus : Type 0 where
  pub writing : (f : Fields) → TellsFirstBad (GoodToWrite f) (written_in_numbers f).answer (written_in_numbers f).field
  pub reading : (b : List ℕ) → AreBytes b → TellsFirstBad (GoodToRead b) (read_in_numbers b).answer (read_in_numbers b).field
  -- beside it what the writer and the reader give
  pub block_is : (f : Fields) → (written_in_numbers f).block ≡ block_back f
  pub fields_are : (b : List ℕ) → (read_in_numbers b).fields ≡ fields_back b

-- of a code: more data than a count can tell are answered 17 and have none, and any others are told the remainder of long division; a transaction passes the check with it and with no other, and with none where none is told (manual 10.2, 10.4, 10.5)
pub record EveryCode : Type 0 where
  pub too_many : (address command : ℕ) (bytes : List ℕ) → 255 < length bytes → check_code address command bytes ≡ record { answer = 17; code = 0 }
  pub else_told : (address command : ℕ) (bytes : List ℕ) → length bytes ≤ 255
      → check_code address command bytes ≡ record { answer = 0; code = remainder (address ∷ command ∷ length bytes ∷ bytes) }
  pub passes_with_it : (a : Attributes) (bytes : List ℕ) → check_code a.address a.command bytes ≡ record { answer = 0; code = a.code } → passes_check check_on (transaction a bytes) ≡ true
  pub with_no_other : (a : Attributes) (bytes : List ℕ) → passes_check check_on (transaction a bytes) ≡ true → check_code a.address a.command bytes ≡ record { answer = 0; code = a.code }
  pub with_none : (a : Attributes) (bytes : List ℕ) → 255 < length bytes → passes_check check_on (transaction a bytes) ≡ false

-- a transaction with its code, as it stands on the bus (manual 10.6)
abbrev pub on_bus : Attributes → List ℕ → List ℕ
on_bus a bytes = framed a.address a.command bytes a.code

-- a fault in one byte, or within eight neighbouring bits, fails the check: of two with as many data bytes that differ so, one at most passes (manual 10.6)
pub record EveryFault : Type 0 where
  pub one_byte : (a a' : Attributes) (bytes bytes' : List ℕ) (place : ℕ)
      → AreBytes (on_bus a bytes) → AreBytes (on_bus a' bytes') → length bytes ≡ length bytes' → DifferAt place (on_bus a bytes) (on_bus a' bytes')
      → passes_check check_on (transaction a bytes) ≡ true → passes_check check_on (transaction a' bytes') ≡ false
  pub eight_bits : (a a' : Attributes) (bytes bytes' : List ℕ) (place : ℕ)
      → length bytes ≡ length bytes' → DifferWithin place (on_bus a bytes) (on_bus a' bytes')
      → passes_check check_on (transaction a bytes) ≡ true → passes_check check_on (transaction a' bytes') ≡ false
