-- Which field of status data is bad first, alike for fields to write and for a block to read; the size of a block is judged before, by the reader alone (manual 6.2 to 6.6).
use Rattle.std.specs.Prelude.{ℕ, Bool, not, Result, Ok, Err, eqb, ltb}
use Rattle.prelude.specs.Choice.{when◌then◌else◌, ◌or◌}
use Rattle.status.specs.declared.Fields.{Fields}
use Rattle.status.specs.declared.judge.Field.{Field}
use Rattle.status.specs.declared.judge.Field.TheVariants.{BlockSize, Length, PacketStatus, MngReserved, DecisionIndex, VlanIndex}

-- the fields by their numbers, in the order in which they are judged (manual 6.6)
abbrev pub field_number : Field → ℕ
field_number BlockSize = 1
field_number Length = 2
field_number PacketStatus = 3
field_number MngReserved = 4
field_number DecisionIndex = 5
field_number VlanIndex = 6

-- the answer number (manual 2.1, 2.5)
abbrev pub number_of : {A : Type 0} → Result A Field → ℕ
number_of (Ok _) = 0
number_of (Err field) = 15

-- the number of the bad field that comes with the answer, 0 where none is bad (manual 6.6)
abbrev pub bad_field_number : {A : Type 0} → Result A Field → ℕ
bad_field_number (Ok _) = 0
bad_field_number (Err field) = field_number field

-- the largest length, the one packet status, and the largest indices (manual 6.2, 6.3, 6.5)
abbrev pub max_length : ℕ
max_length = 1536

abbrev pub packet_status : ℕ
packet_status = 0x0001

abbrev pub max_decision_index : ℕ
max_decision_index = 7

abbrev pub max_vlan_index : ℕ
max_vlan_index = 7

-- a length word is bad if it is 0 or above the largest length, as it is with either reserved bit (manual 6.2)
unfoldable pub bad_length : ℕ → Bool
bad_length word = ltb word 1 or ltb max_length word

-- an index is bad above its largest where it is matched, and above 0 where it is not (manual 6.5)
unfoldable pub bad_index : Bool → ℕ → ℕ → Bool
bad_index matched index max = ltb (when matched then max else 0) index

-- the first bad one of fields, a packet status and the reserved bits of an MNG status; any VLAN tag is good (manual 6.4, 6.6)
unfoldable pub judged : Fields → (status reserved : ℕ) → Result Unit Field
judged f status reserved =
    when bad_length f.length then Err Length else
    when not (eqb status packet_status) then Err PacketStatus else
    when ltb 0 reserved then Err MngReserved else
    when bad_index f.decision_match f.decision_index max_decision_index then Err DecisionIndex else
    when bad_index f.vlan_match f.vlan_index max_vlan_index then Err VlanIndex else
    Ok tt
