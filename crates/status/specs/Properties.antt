-- Exactly what the writer writes is read, and read as what was written; and every answer, by a second description of fields and block that uses none of the rules (manual 6).
use Rattle.std.specs.Prelude.{ℕ, zero, suc, ◌+◌, ◌*◌, ◌/◌, ◌%◌, ◌^◌, ◌<◌, ◌≤◌, Bool, false, List, [], ◌∷◌, ◌↔◌, ◌≡◌, Ok, Err, IsOk, eqb, length, get_or, replicate, map}
use Rattle.prelude.specs.Parts.{AreBytes}
use Rattle.status.specs.declared.Fields.{Fields}
use Rattle.status.specs.declared.judge.Field.{Field}
use Rattle.status.specs.declared.judge.Field.TheVariants.{BlockSize, Length, PacketStatus, MngReserved, DecisionIndex, VlanIndex}
use Rattle.status.specs.Judged.{field_number, number_of, bad_field_number}
use Rattle.status.specs.Block.{written, block_back, parsed, fields_back}

-- a VLAN tag is any two bytes (manual 6.4)
abbrev pub HasTag : Fields → Type 0
HasTag f = f.vlan < 2 ^ 16

-- what is written is read back, and nothing else is read (manual 6.6)
pub record RoundTrip : Type 0 where
  pub written_is_read : (f : Fields) (b : List ℕ) → HasTag f → written f ≡ Ok b → parsed b ≡ Ok f
  pub read_is_written : (b : List ℕ) (f : Fields) → AreBytes b → parsed b ≡ Ok f → written f ≡ Ok b
  pub read_iff_written : (b : List ℕ) → AreBytes b → IsOk (parsed b) ↔ ((f : Fields) × HasTag f × written f ≡ Ok b)

-- the fields of a block, byte for byte (manual 6.1)
abbrev pub fields_in : List ℕ → Fields
fields_in b =
    record {
      length = get_or b 0 0 + 256 * get_or b 1 0;
      vlan = get_or b 4 0 + 256 * get_or b 5 0;
      decision_match = eqb (get_or b 7 0 % 2) 1;
      decision_index = get_or b 6 0 / 16;
      vlan_match = eqb (get_or b 6 0 / 8 % 2) 1;
      vlan_index = get_or b 6 0 % 8;
    }

-- what comes back: the fields that the bytes hold, and zeros with every refusal (manual 6.6)
pub record ComesBack : Type 0 where
  pub read : (b : List ℕ) (f : Fields) → AreBytes b → parsed b ≡ Ok f → (f ≡ fields_in b) × (fields_back b ≡ f)
  pub written_back : (f : Fields) (b : List ℕ) → written f ≡ Ok b → block_back f ≡ b
  pub not_read :
      (b : List ℕ) (field : Field) → parsed b ≡ Err field
      → fields_back b ≡ record { length = 0; vlan = 0; decision_match = false; decision_index = 0; vlan_match = false; vlan_index = 0 }
  pub not_written : (f : Fields) (field : Field) → written f ≡ Err field → block_back f ≡ replicate 8 0

-- an index names one of eight filters, and is 0 where none matched (manual 6.5)
abbrev pub GoodIndex : Bool → ℕ → Type 0
GoodIndex matched index = (index < 8) × (matched ≡ false → index ≡ 0)

-- when each field is good to write; a writer is given no block, packet status or reserved bits of an MNG status that could be bad (manual 6.2, 6.3, 6.5)
abbrev pub GoodToWrite : Fields → Field → Type 0
GoodToWrite f BlockSize = Unit
GoodToWrite f Length = (1 ≤ f.length) × (f.length ≤ 1536)
GoodToWrite f PacketStatus = Unit
GoodToWrite f MngReserved = Unit
GoodToWrite f DecisionIndex = GoodIndex f.decision_match f.decision_index
GoodToWrite f VlanIndex = GoodIndex f.vlan_match f.vlan_index

-- when each field is good to read, byte for byte (manual 6.1 to 6.5)
abbrev pub GoodToRead : List ℕ → Field → Type 0
GoodToRead b BlockSize = length b ≡ 8
GoodToRead b Length = GoodToWrite (fields_in b) Length
GoodToRead b PacketStatus = (get_or b 2 0 ≡ 0x01) × (get_or b 3 0 ≡ 0x00)
GoodToRead b MngReserved = get_or b 7 0 ≤ 1
GoodToRead b DecisionIndex = GoodToWrite (fields_in b) DecisionIndex
GoodToRead b VlanIndex = GoodToWrite (fields_in b) VlanIndex

-- the order in which they are judged (manual 6.6)
abbrev pub in_order : List Field
in_order = BlockSize ∷ Length ∷ PacketStatus ∷ MngReserved ∷ DecisionIndex ∷ VlanIndex ∷ []

-- the field at a place of it, counted from 0
abbrev pub field_at : ℕ → Field
field_at place = get_or in_order place BlockSize

-- the numbers told: 0 and 0 where every field is good; else 15 and the number, from 1 on, of a field that is not good and before which all are (manual 2.1, 6.6)
abbrev pub TellsFirstBad : (Field → Type 0) → (answer field : ℕ) → Type 0
TellsFirstBad Good answer zero = (answer ≡ 0) × ((place : ℕ) → place < length in_order → Good (field_at place))
TellsFirstBad Good answer (suc place) = (answer ≡ 15) × (place < length in_order) × (Good (field_at place) → ⊥) × ((earlier : ℕ) → earlier < place → Good (field_at earlier))

-- whatever is written or read, where a field's number is its place in the order, counted from 1 (manual 6.6)
pub record FirstBadTold : Type 0 where
  pub numbered : map field_number in_order ≡ 1 ∷ 2 ∷ 3 ∷ 4 ∷ 5 ∷ 6 ∷ []
  pub writing : (f : Fields) → TellsFirstBad (GoodToWrite f) (number_of (written f)) (bad_field_number (written f))
  pub reading : (b : List ℕ) → AreBytes b → TellsFirstBad (GoodToRead b) (number_of (parsed b)) (bad_field_number (parsed b))
