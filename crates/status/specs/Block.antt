-- The eight bytes of status data: the block that fields are written as, and the fields that a block is read as (manual 6).
use Rattle.std.specs.Prelude.{ℕ, ◌+◌, ◌*◌, ◌/◌, ◌%◌, ◌^◌, Bool, false, List, [], ◌∷◌, Result, Ok, Err, eqb, length, get_or, replicate}
use Rattle.prelude.specs.Bits.{bits, is_set}
use Rattle.prelude.specs.Choice.{when◌then◌else◌}
use Rattle.status.specs.declared.Fields.{Fields}
use Rattle.status.specs.declared.judge.Field.{Field}
use Rattle.status.specs.declared.judge.Field.TheVariants.{BlockSize}
use Rattle.status.specs.Judged.{packet_status, judged}

-- where the parts of the MNG status lie (manual 6.1)
abbrev pub decision_match_at : ℕ
decision_match_at = 8

abbrev pub decision_index_at : ℕ
decision_index_at = 4

abbrev pub vlan_match_at : ℕ
vlan_match_at = 3

abbrev pub mng_reserved_at : ℕ
mng_reserved_at = 9

-- a match bit, by its weight (manual 6.1)
abbrev pub match_bit : Bool → ℕ → ℕ
match_bit matched weight = when matched then weight else 0

-- the MNG status (manual 6.1)
unfoldable pub mng_status : Fields → ℕ
mng_status f =
    match_bit f.decision_match (2 ^ decision_match_at) + f.decision_index * 2 ^ decision_index_at
    + match_bit f.vlan_match (2 ^ vlan_match_at) + f.vlan_index

-- a word as two bytes (manual 6.1)
abbrev pub low : ℕ → ℕ
low word = word % 256

abbrev pub high : ℕ → ℕ
high word = word / 256

-- the four words in their order (manual 6.1)
unfoldable pub block : Fields → List ℕ
block f =
    low f.length ∷ high f.length
    ∷ low packet_status ∷ high packet_status
    ∷ low f.vlan ∷ high f.vlan
    ∷ low (mng_status f) ∷ high (mng_status f)
    ∷ []

-- how many bytes these are (manual 6.1)
abbrev pub block_size : ℕ
block_size = 8

-- what a writer or a reader is told: what it asked for, or the first bad field (manual 6.6)
unfoldable pub told : {A : Type 0} → Result Unit Field → A → Result A Field
told (Ok _) a = Ok a
told (Err field) a = Err field

-- what comes back with the answer number: zeros where a field is bad (manual 6.6)
unfoldable pub if_done : {A : Type 0} → Result Unit Field → A → (zeros : A) → A
if_done (Ok _) a zeros = a
if_done (Err field) a zeros = zeros

-- a writer is given no packet status and no reserved bits of an MNG status, so that neither can be bad (manual 6.3, 6.6)
unfoldable pub written : Fields → Result (List ℕ) Field
written f = told (judged f packet_status 0) (block f)

-- the block that comes back to a writer (manual 6.6)
unfoldable pub block_back : Fields → List ℕ
block_back f = if_done (judged f packet_status 0) (block f) (replicate block_size 0)

-- a field of two bytes, from place i on (manual 6.1)
abbrev pub word_at : List ℕ → ℕ → ℕ
word_at b i = get_or b i 0 + 256 * get_or b (i + 1) 0

-- the fields in the words of a block but the second, which is the packet status; the length is its whole word, with the reserved bits (manual 6.1, 6.2)
abbrev pub fields_of : (length_word vlan mng : ℕ) → Fields
fields_of length_word vlan mng =
    record {
      length = length_word;
      vlan = vlan;
      decision_match = is_set decision_match_at mng;
      decision_index = bits decision_index_at 4 mng;
      vlan_match = is_set vlan_match_at mng;
      vlan_index = mng % 2 ^ vlan_match_at;
    }

-- the reserved bits of an MNG status, all that lie above the decision match (manual 6.1)
abbrev pub mng_reserved : ℕ → ℕ
mng_reserved mng = mng / 2 ^ mng_reserved_at

-- all fields zero (manual 6.6)
abbrev pub no_fields : Fields
no_fields = record { length = 0; vlan = 0; decision_match = false; decision_index = 0; vlan_match = false; vlan_index = 0 }

-- the fields in a block (manual 6.1)
abbrev pub fields_at : List ℕ → Fields
fields_at b = fields_of (word_at b 0) (word_at b 4) (word_at b 6)

-- the size is judged before any word, and the words as they stand (manual 6.6)
unfoldable pub judged_block : List ℕ → Result Unit Field
judged_block b =
    when eqb (length b) block_size then judged (fields_at b) (word_at b 2) (mng_reserved (word_at b 6)) else
    Err BlockSize

-- the fields of a block, or the first that is bad (manual 6.6)
unfoldable pub parsed : List ℕ → Result Fields Field
parsed b = told (judged_block b) (fields_at b)

-- the fields that come back to a reader (manual 6.6)
unfoldable pub fields_back : List ℕ → Fields
fields_back b = if_done (judged_block b) (fields_at b) no_fields
