-- The history's own reading of a transaction (manual 1, 3, 10). Nothing of the rules is used: their constants stand here again on purpose.
use Rattle.std.specs.Prelude.{ℕ, ◌+◌, Bool, not, List, [], ◌∷◌, eqb, leb, length}
use Rattle.prelude.specs.Bits.{is_set}
use Rattle.prelude.specs.Choice.{when◌then◌else◌, ◌and◌, ◌or◌}
use Rattle.pec.specs.Division.{remainder}
use Rattle.record.specs.Transaction.{Transaction}

-- an entry of the list (manual 8.1)
pub data Entry : Type 0 where
  counted : Transaction → Entry

-- T: the entries that count (manual 8.6)
abbrev pub total : List Entry → ℕ
total [] = 0
total (counted t ∷ later) = 1 + total later

-- what is fixed at the start: the fragment maximum, and whether codes are checked (manual 1.2, 10.1)
pub record Setup : Type 0 where
  pub maximum : ℕ
  pub check : Bool

-- the fragment maximum is 1 to 240, and 240 where another was asked for (manual 1.2)
abbrev pub largest_maximum : ℕ
largest_maximum = 240

unfoldable pub maximum_for : (asked : ℕ) → ℕ
maximum_for asked = when leb 1 asked and leb asked largest_maximum then asked else largest_maximum

abbrev pub setup_for : (asked : ℕ) → (check : Bool) → Setup
setup_for asked check = record { maximum = maximum_for asked; check = check }

-- whether a transaction's code is the remainder of its address, command, count and data, and these are no more than a byte counts (manual 10.2, 10.4)
unfoldable pub is_code_right : Transaction → Bool
is_code_right t = leb (length t.bytes) 255 and eqb (remainder (t.address ∷ t.command ∷ length t.bytes ∷ t.bytes)) t.code

-- a code is bad where codes are checked and it is not right; where they are not checked, none is (manual 10.5)
unfoldable pub is_code_bad : Setup → Transaction → Bool
is_code_bad setup t = setup.check and not (is_code_right t)

-- F and L (manual 1.3)
abbrev pub has_f : (command : ℕ) → Bool
has_f command = is_set 7 command

abbrev pub has_l : (command : ℕ) → Bool
has_l command = is_set 6 command

-- first, middle and last fragment, and a whole packet in one (manual 1.4)
unfoldable pub is_fragment : (command : ℕ) → Bool
is_fragment command = eqb command 0x84 or eqb command 0x04 or eqb command 0x44 or eqb command 0xC4

abbrev pub is_receive_enable : (command : ℕ) → Bool
is_receive_enable command = eqb command 0xCA

-- a fragment has a byte, and no more than the maximum (manual 3.5)
unfoldable pub is_length_allowed : Setup → (fragment : List ℕ) → Bool
is_length_allowed setup fragment = leb 1 (length fragment) and leb (length fragment) setup.maximum
