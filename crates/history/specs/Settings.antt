-- The settings that the list leaves, found by looking back for what set each part last (manual 5). Nothing of the rules is used: offsets, bits and constants stand here again on purpose.
use Rattle.std.specs.Prelude.{ℕ, ◌+◌, Bool, true, false, not, List, [], ◌∷◌, ◌++◌, ◌≡◌, eqb, length, get_or, take, drop, replicate}
use Rattle.prelude.specs.Bits.{bits, is_set}
use Rattle.prelude.specs.Choice.{when◌then◌else◌, ◌and◌, ◌or◌}
use Rattle.record.specs.Transaction.{Transaction}
use Rattle.history.specs.Reading.{Entry, counted, Setup, is_code_bad, is_receive_enable}

-- the two forms of Receive Enable (manual 5.2)
abbrev pub is_short_form : (form : List ℕ) → Bool
is_short_form form = eqb (length form) 1

abbrev pub is_long_form : (form : List ℕ) → Bool
is_long_form form = eqb (length form) 14

-- the control byte, its bit CBDM, and when it is allowed (manual 5.1)
abbrev pub control_of : (form : List ℕ) → ℕ
control_of form = get_or form 0 0

abbrev pub has_cbdm : (form : List ℕ) → Bool
has_cbdm form = is_set 7 (control_of form)

unfoldable pub is_control_allowed : (control : ℕ) → Bool
is_control_allowed control = is_set 6 control and not (eqb (bits 4 2 control) 3) and (is_set 0 control or not (is_set 7 control))

-- what a long form sets: the MAC where CBDM is set, the address where bit 3 is (manual 5.5)
unfoldable pub sets_mac : (form : List ℕ) → Bool
sets_mac form = is_long_form form and has_cbdm form

unfoldable pub sets_address : (form : List ℕ) → Bool
sets_address form = is_long_form form and is_set 3 (control_of form)

-- of forms, newest first: whether one sets a part, and the newest that does; a fresh record is as a long form would leave it (manual 5.4)
abbrev pub is_kept : (sets : List ℕ → Bool) → List (List ℕ) → Bool
is_kept sets [] = false
is_kept sets (form ∷ forms) = when sets form then true else is_kept sets forms

abbrev pub fresh_form : List ℕ
fresh_form = 0x40 ∷ replicate 13 0

abbrev pub newest : (sets : List ℕ → Bool) → List (List ℕ) → List ℕ
newest sets [] = fresh_form
newest sets (form ∷ forms) = when sets form then form else newest sets forms

-- the 15 bytes: control, the two kept bits, MAC, address, and the bytes kept unread (manual 5.3)
abbrev pub settings_of : List (List ℕ) → List ℕ
settings_of forms =
    control_of (newest (λ form. true) forms)
    ∷ ((when is_kept sets_mac forms then 1 else 0) + (when is_kept sets_address forms then 2 else 0))
    ∷ take 6 (drop 1 (newest sets_mac forms)) ++ (take 4 (drop 7 (newest sets_address forms)) ++ take 3 (drop 11 (newest is_long_form forms)))

-- 8, 9, 10 and else 11 (manual 5.6)
unfoldable pub enable_answer : (mac_kept : Bool) (form : List ℕ) → ℕ
enable_answer mac_kept form =
    when not (is_short_form form or is_long_form form) then 8 else
    when not (is_control_allowed (control_of form)) then 9 else
    when has_cbdm form and is_short_form form and not mac_kept then 10 else
    11

-- a form came, and its code was not bad (manual 5.2, 10.5)
unfoldable pub is_form : Setup → Transaction → Bool
is_form setup t = is_receive_enable t.command and not (is_code_bad setup t)

-- of entries, newest first: the forms that were taken, newest first, and whether a MAC is kept (manual 5.5)
abbrev pub taken_forms : Setup → (earlier : List Entry) → List (List ℕ)
taken_forms setup [] = []
taken_forms setup (counted t ∷ earlier) =
    when is_form setup t and eqb (enable_answer (is_kept sets_mac (taken_forms setup earlier)) t.bytes) 11 then t.bytes ∷ taken_forms setup earlier
    else taken_forms setup earlier

abbrev pub is_mac_kept : Setup → (earlier : List Entry) → Bool
is_mac_kept setup earlier = is_kept sets_mac (taken_forms setup earlier)

-- a long form with CBDM and an allowed control byte stands in the list (manual 8.9)
abbrev pub has_mac_form : Setup → List Entry → Bool
has_mac_form setup [] = false
has_mac_form setup (counted t ∷ earlier) =
    (is_form setup t and is_long_form t.bytes and has_cbdm t.bytes and is_control_allowed (control_of t.bytes)) or has_mac_form setup earlier

-- exactly then a MAC is kept (manual 8.9)
abbrev pub MacIsKept : Type 0
MacIsKept = (setup : Setup) (earlier : List Entry) → is_mac_kept setup earlier ≡ has_mac_form setup earlier
