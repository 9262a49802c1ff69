-- The worked examples, one table under one statement: W1 to W13, C1 to C4, and edges at which rules, code and history could be wrong alike.
-- Maximum 240, link up and everything fresh, the check off, unless said (manual W.1, W.2).
use Rattle.std.specs.Prelude.{ℕ, ◌+◌, ◌^◌, Bool, true, false, List, [], ◌∷◌, map, ◌++◌, take, replicate}
use Rattle.setlink.specs.declared.Media.TheVariants.{Copper, Fibre}
use Rattle.status.specs.declared.Fields.{Fields}
use Rattle.record.specs.Transaction.{Transaction, attributes, transaction, unchecked}
use Rattle.state.specs.declared.State.{State}
use Rattle.state.specs.Account.{sent, superseded, flushed, broken, over, short, linkdown, aborted, badlength, badcheck}
use Rattle.worked.specs.Cases.{Answer, Case, answered, counted, stored, enabled, rejected, resumed, checked, account_is, maximum, addresses, link, writes, reads, journal, AllHold, up, down, pattern, patterned, with_right_code, with_wrong_code, coded, right, wrong, unwritten, line, counting, with_open, with_check, on, accepted, refused}

-- length 64, VLAN 0, decision 7 matched (manual 6.1)
abbrev pub decision7 : Fields
decision7 = record { length = 64; vlan = 0; decision_match = true; decision_index = 7; vlan_match = false; vlan_index = 0 }

-- so many bytes, VLAN tag 0x0123, VLAN index 5 matched (manual 6.1)
abbrev pub vlan5 : (size : ℕ) → Fields
vlan5 size = record { length = size; vlan = 0x0123; decision_match = false; decision_index = 0; vlan_match = true; vlan_index = 5 }

-- 64 bytes, VLAN 0, and two indices, each with whether it is matched (manual 6.5)
abbrev pub indices : (decision_match : Bool) → (decision : ℕ) → (vlan_match : Bool) → (vlan : ℕ) → Fields
indices decision_match decision vlan_match vlan =
    record { length = 64; vlan = 0; decision_match = decision_match; decision_index = decision; vlan_match = vlan_match; vlan_index = vlan }

abbrev pub no_fields : Fields
no_fields = record { length = 0; vlan = 0; decision_match = false; decision_index = 0; vlan_match = false; vlan_index = 0 }

-- bad in length, decision index and VLAN index (manual 6.2, 6.5)
abbrev pub all_bad : Fields
all_bad = record { length = 0; vlan = 0; decision_match = true; decision_index = 8; vlan_match = false; vlan_index = 1 }

-- fresh settings, byte for byte; settings that are not sound; a state that is not sound, and one whose account is full (manual 5.4, 5.7, 8.6, 8.7)
abbrev pub fresh_bytes : List ℕ
fresh_bytes = 0x40 ∷ replicate 14 0

abbrev pub unsound_bytes : List ℕ
unsound_bytes = replicate 15 0

abbrev pub unsound_state : State
unsound_state = counting 241 [] 0 0 0

abbrev pub full_state : State
full_state = counting 240 [] 4294967295 0 4294967295

-- a fresh state with the check off, and with the check on (manual 8.8, 10.1)
abbrev pub fresh_off : State
fresh_off = counting 240 [] 0 0 0

abbrev pub fresh_on : State
fresh_on = on fresh_off

-- a long form with CBDM, EN_ARP_RES and RCV_EN, and the settings that it leaves; a Flash block (manual 5.5, 5.8)
abbrev pub long_form : List ℕ
long_form = 0xC9 ∷ 0x02 ∷ 0x11 ∷ 0x22 ∷ 0x33 ∷ 0x44 ∷ 0x55 ∷ 10 ∷ 20 ∷ 30 ∷ 40 ∷ 0xA1 ∷ 0xA2 ∷ 0xA3 ∷ []

abbrev pub long_form_left : List ℕ
long_form_left = 0xC9 ∷ 0x03 ∷ 0x02 ∷ 0x11 ∷ 0x22 ∷ 0x33 ∷ 0x44 ∷ 0x55 ∷ 10 ∷ 20 ∷ 30 ∷ 40 ∷ 0xA1 ∷ 0xA2 ∷ 0xA3 ∷ []

abbrev pub flash : List ℕ
flash = 0x06 ∷ 0x77 ∷ 0x88 ∷ 0x99 ∷ 0xAA ∷ 0xBB ∷ 192 ∷ 168 ∷ 1 ∷ 2 ∷ []

-- settings with these control and kept bytes, and a MAC and an IPv4 in their places (manual 5.3)
abbrev pub holding : (control kept : ℕ) → List ℕ
holding control kept = control ∷ kept ∷ 0x02 ∷ 0x11 ∷ 0x22 ∷ 0x33 ∷ 0x44 ∷ 0x55 ∷ 10 ∷ 20 ∷ 30 ∷ 40 ∷ replicate 3 0

-- to a fresh state with the check on, where the settings stay fresh (manual 10.1)
abbrev pub while_on : List Transaction → List Answer → State → (start : List ℕ) → Case
while_on transactions expected left start = checked fresh_on transactions expected (on left) start fresh_bytes

-- answered 13 where all else is in order
abbrev pub unsound : State → Case
unsound state = rejected state 1536 fresh_bytes 13

abbrev pub unsound_settings : (settings : List ℕ) → Case
unsound_settings settings = rejected (counting 240 [] 0 0 0) 1536 settings 13

-- manual W.1
abbrev pub cases : List Case
cases =
    -- W1, W2: the least packet that is sent, and one byte less
    stored (up 0xC4 17 ∷ []) ((1, 60) ∷ []) (pattern 0 17 ++ replicate 43 0 ++ unwritten 4)
    ∷ answered (up 0xC4 16 ∷ []) ((5, 0) ∷ [])
    -- W3, W4: the largest packet that is sent, and one byte more
    ∷ stored (up 0x84 240 ∷ replicate 5 (up 0x04 240) ++ (up 0x44 96 ∷ [])) (replicate 6 (0, 0) ++ ((1, 1536) ∷ [])) (pattern 0 1536)
    ∷ counted (up 0x84 240 ∷ replicate 5 (up 0x04 240) ++ (up 0x44 97 ∷ [])) (replicate 6 (0, 0) ++ ((4, 0) ∷ [])) (counting 240 (line over 1 7 1537 ∷ []) 0 0 7)
    -- W5: a middle fragment that meets no open packet
    ∷ answered (up 0x04 3 ∷ []) ((2, 0) ∷ [])
    -- W6: a Receive Enable of two bytes flushes
    ∷ counted (up 0x84 20 ∷ up 0xCA 2 ∷ up 0x44 20 ∷ []) ((0, 0) ∷ (8, 0) ∷ (2, 0) ∷ []) (counting 240 (line flushed 1 1 20 ∷ line aborted 0 1 20 ∷ []) 0 1 3)
    -- W7: a middle fragment without bytes breaks
    ∷ counted (up 0x84 20 ∷ up 0x04 0 ∷ up 0x44 20 ∷ []) ((0, 0) ∷ (3, 0) ∷ (2, 0) ∷ []) (counting 240 (line broken 1 1 20 ∷ line aborted 0 1 20 ∷ line badlength 0 1 0 ∷ []) 0 0 3)
    -- W8: the link counts at the Last
    ∷ counted (up 0x84 20 ∷ down 0x44 20 ∷ []) ((0, 0) ∷ (6, 0) ∷ []) (counting 240 (line linkdown 1 2 40 ∷ []) 0 0 2)
    ∷ counted (down 0x84 20 ∷ up 0x44 20 ∷ []) ((0, 0) ∷ (1, 60) ∷ []) (counting 240 (line sent 1 2 40 ∷ []) 0 0 2)
    -- C1: a middle fragment with a wrong code breaks the open packet, and nothing of it is written: the codes as numbers
    ∷ while_on (coded 0x84 (pattern 0 20) 0xFE ∷ coded 0x04 (pattern 20 20) 0x2F ∷ coded 0x44 (pattern 40 20) 0xEC ∷ []) ((0, 0) ∷ (17, 0) ∷ (2, 0) ∷ []) (counting 240 (line broken 1 1 20 ∷ line aborted 0 1 20 ∷ line badcheck 0 1 0 ∷ []) 0 0 3) (pattern 0 20)
    -- C2: a Receive Enable with a wrong code breaks it too and flushes nothing, and the settings stay fresh
    ∷ while_on (right 0x84 (pattern 0 20) ∷ wrong 0xCA (0x41 ∷ []) ∷ right 0x44 (pattern 20 20) ∷ []) ((0, 0) ∷ (17, 0) ∷ (2, 0) ∷ []) (counting 240 (line broken 1 1 20 ∷ line aborted 0 1 20 ∷ line badcheck 0 1 0 ∷ []) 0 0 3) (pattern 0 20)
    -- C3: a whole packet with a wrong code, none open
    ∷ while_on (wrong 0xC4 (pattern 0 20) ∷ []) ((17, 0) ∷ []) (counting 240 (line badcheck 0 1 0 ∷ []) 0 0 1) []
    -- C4: a long form with CBDM and a wrong code keeps no MAC, for a short form with CBDM behind it
    ∷ while_on (wrong 0xCA (0xC1 ∷ pattern 0 13) ∷ right 0xCA (0xC1 ∷ []) ∷ []) ((17, 0) ∷ (10, 0) ∷ []) (counting 240 (line badcheck 0 1 0 ∷ []) 0 1 2) []
    -- W9 to W12: Set Link
    ∷ link 0x219 false Copper (accepted 0x219)
    ∷ link 0x109 false Copper (refused 0x0002)
    ∷ link 0x10D false Copper (accepted 0x10D)
    ∷ link 0x10D false Fibre (refused 0x0902)
    ∷ link 0x30C false Copper (refused 0x0905)
    -- W13: status data
    ∷ writes decision7 0 0 (0x40 ∷ 0x00 ∷ 0x01 ∷ 0x00 ∷ 0x00 ∷ 0x00 ∷ 0x70 ∷ 0x01 ∷ [])
    ∷ []

-- manual W.2
abbrev pub further : List Case
further =
    -- the length of a packet comes before the link: one byte too short, and one too long, while it is down
    answered (down 0xC4 16 ∷ []) ((5, 0) ∷ [])
    ∷ answered (down 0x84 240 ∷ replicate 5 (down 0x04 240) ++ (down 0x44 97 ∷ [])) (replicate 6 (0, 0) ++ ((4, 0) ∷ []))
    -- 12 before 13 before 14: a state that is not sound with a store one byte short, with settings one byte short, and with room; settings that are not sound and a full account
    ∷ rejected unsound_state 1535 fresh_bytes 12
    ∷ rejected unsound_state 1536 (replicate 14 0) 12
    ∷ rejected unsound_state 1536 fresh_bytes 13
    ∷ rejected full_state 1536 unsound_bytes 13
    ∷ rejected full_state 1536 fresh_bytes 14
    -- no form: fresh settings
    ∷ enabled [] [] fresh_bytes
    -- 9: bit 6 of the control byte is zero; 10: CBDM in a short form, no MAC kept
    ∷ enabled ((0x01 ∷ []) ∷ []) ((9, 0) ∷ []) fresh_bytes
    ∷ enabled ((0xC1 ∷ []) ∷ []) ((10, 0) ∷ []) fresh_bytes
    -- both: 9 comes first
    ∷ enabled ((0x81 ∷ []) ∷ []) ((9, 0) ∷ []) fresh_bytes
    -- bits 5:4 are 11, then 10; CBDM without RCV_EN in a long form
    ∷ enabled ((0x71 ∷ []) ∷ (0x61 ∷ []) ∷ (0xC0 ∷ replicate 13 1) ∷ []) ((9, 0) ∷ (11, 0) ∷ (9, 0) ∷ []) (0x61 ∷ replicate 14 0)
    -- a long form, every byte of what it leaves, and the short form with CBDM that is taken behind it
    ∷ enabled (long_form ∷ []) ((11, 0) ∷ []) long_form_left
    ∷ enabled (long_form ∷ (0xC1 ∷ []) ∷ []) ((11, 0) ∷ (11, 0) ∷ []) (0xC1 ∷ 0x03 ∷ 0x02 ∷ 0x11 ∷ 0x22 ∷ 0x33 ∷ 0x44 ∷ 0x55 ∷ 10 ∷ 20 ∷ 30 ∷ 40 ∷ 0xA1 ∷ 0xA2 ∷ 0xA3 ∷ [])
    -- a long form with neither EN_ARP_RES nor, the second time, CBDM
    ∷ enabled ((0xC1 ∷ 0x02 ∷ 0x11 ∷ 0x22 ∷ 0x33 ∷ 0x44 ∷ 0x55 ∷ 10 ∷ 20 ∷ 30 ∷ 40 ∷ 0xA1 ∷ 0xA2 ∷ 0xA3 ∷ []) ∷ (0x41 ∷ 1 ∷ 2 ∷ 3 ∷ 4 ∷ 5 ∷ 6 ∷ 50 ∷ 60 ∷ 70 ∷ 80 ∷ 0xB1 ∷ 0xB2 ∷ 0xB3 ∷ []) ∷ []) ((11, 0) ∷ (11, 0) ∷ []) (0x41 ∷ 0x01 ∷ 0x02 ∷ 0x11 ∷ 0x22 ∷ 0x33 ∷ 0x44 ∷ 0x55 ∷ 0 ∷ 0 ∷ 0 ∷ 0 ∷ 0xB1 ∷ 0xB2 ∷ 0xB3 ∷ [])
    -- the addresses in force before it, from Flash, and after it, from the settings
    ∷ addresses fresh_bytes flash (0x06 ∷ 0x77 ∷ 0x88 ∷ 0x99 ∷ 0xAA ∷ 0xBB ∷ []) (192 ∷ 168 ∷ 1 ∷ 2 ∷ [])
    ∷ addresses long_form_left flash (0x02 ∷ 0x11 ∷ 0x22 ∷ 0x33 ∷ 0x44 ∷ 0x55 ∷ []) (10 ∷ 20 ∷ 30 ∷ 40 ∷ [])
    -- both are kept, but there is no CBDM: the MAC from Flash; EN_ARP_RES is set, but no address is kept: both from Flash
    ∷ addresses (holding 0x41 0x03) flash (0x06 ∷ 0x77 ∷ 0x88 ∷ 0x99 ∷ 0xAA ∷ 0xBB ∷ []) (10 ∷ 20 ∷ 30 ∷ 40 ∷ [])
    ∷ addresses (holding 0x49 0x01) flash (0x06 ∷ 0x77 ∷ 0x88 ∷ 0x99 ∷ 0xAA ∷ 0xBB ∷ []) (192 ∷ 168 ∷ 1 ∷ 2 ∷ [])
    -- none in force: CBDM but no MAC kept, which is not sound; settings one byte short; a Flash block one byte short
    ∷ addresses (holding 0xC1 0x02) flash [] []
    ∷ addresses (take 14 long_form_left) flash [] []
    ∷ addresses long_form_left (take 9 flash) [] []
    -- the largest fragment maximum, one more, and none; with the check on too
    ∷ maximum 240 false 0 240
    ∷ maximum 241 false 16 240
    ∷ maximum 0 false 16 240
    ∷ maximum 240 true 0 240
    ∷ maximum 241 true 16 240
    ∷ maximum 0 true 16 240
    -- a First while a packet is open
    ∷ counted (up 0x84 20 ∷ up 0xC4 20 ∷ []) ((0, 0) ∷ (1, 60) ∷ []) (counting 240 (line sent 1 1 20 ∷ line superseded 1 1 20 ∷ []) 0 0 2)
    -- a First of a bad length while a packet is open breaks it: without bytes, and with one byte too many
    ∷ counted (up 0x84 20 ∷ up 0x84 0 ∷ []) ((0, 0) ∷ (3, 0) ∷ []) (counting 240 (line broken 1 1 20 ∷ line badlength 0 1 0 ∷ []) 0 0 2)
    ∷ counted (up 0x84 20 ∷ up 0xC4 241 ∷ []) ((0, 0) ∷ (3, 0) ∷ []) (counting 240 (line broken 1 1 20 ∷ line badlength 0 1 0 ∷ []) 0 0 2)
    -- an unknown command flushes with F and L, and with one of them does not
    ∷ counted (up 0x84 20 ∷ up 0xC0 3 ∷ up 0x44 20 ∷ []) ((0, 0) ∷ (7, 0) ∷ (2, 0) ∷ []) (counting 240 (line flushed 1 1 20 ∷ line aborted 0 1 20 ∷ []) 0 1 3)
    ∷ counted (up 0x84 20 ∷ up 0x80 0 ∷ up 0x44 20 ∷ []) ((0, 0) ∷ (7, 0) ∷ (1, 60) ∷ []) (counting 240 (line sent 1 2 40 ∷ []) 0 1 3)
    ∷ counted (up 0x84 20 ∷ up 0x40 0 ∷ up 0x44 20 ∷ []) ((0, 0) ∷ (7, 0) ∷ (1, 60) ∷ []) (counting 240 (line sent 1 2 40 ∷ []) 0 1 3)
    -- totals one below, at and one above the least sent length, whole and in fragments: the fill, and the bytes behind it as they were
    ∷ stored (up 0xC4 59 ∷ []) ((1, 60) ∷ []) (pattern 0 59 ++ 0 ∷ unwritten 4)
    ∷ stored (up 0xC4 60 ∷ []) ((1, 60) ∷ []) (pattern 0 60 ++ unwritten 4)
    ∷ stored (up 0xC4 61 ∷ []) ((1, 61) ∷ []) (pattern 0 61 ++ unwritten 3)
    ∷ stored (up 0x84 20 ∷ up 0x04 20 ∷ up 0x44 19 ∷ []) ((0, 0) ∷ (0, 0) ∷ (1, 60) ∷ []) (pattern 0 59 ++ 0 ∷ unwritten 4)
    ∷ stored (up 0x84 59 ∷ up 0x44 1 ∷ []) ((0, 0) ∷ (1, 60) ∷ []) (pattern 0 60 ++ unwritten 4)
    ∷ stored (up 0x84 1 ∷ up 0x04 59 ∷ up 0x44 1 ∷ []) ((0, 0) ∷ (0, 0) ∷ (1, 61) ∷ []) (pattern 0 61 ++ unwritten 3)
    -- a packet that is discarded is written up to 1536 bytes, and gets no fill
    ∷ stored (down 0xC4 59 ∷ []) ((6, 0) ∷ []) (pattern 0 59 ++ unwritten 5)
    ∷ stored (up 0xC4 16 ∷ []) ((5, 0) ∷ []) (pattern 0 16 ++ unwritten 48)
    ∷ stored (up 0x84 20 ∷ down 0x44 20 ∷ []) ((0, 0) ∷ (6, 0) ∷ []) (pattern 0 40 ++ unwritten 24)
    ∷ stored (up 0x84 240 ∷ replicate 5 (up 0x04 240) ++ (up 0x44 97 ∷ [])) (replicate 6 (0, 0) ++ ((4, 0) ∷ [])) (pattern 0 1440 ++ unwritten 96)
    -- the records of a journal, with the link up and down; with the check on too, whether a code is right or not
    ∷ journal false (unchecked 0xC4 (5 ∷ 6 ∷ []) true ∷ unchecked 0xCA (0x41 ∷ []) false ∷ []) (0xC4 ∷ 1 ∷ 2 ∷ 5 ∷ 6 ∷ 0xCA ∷ 0 ∷ 1 ∷ 0x41 ∷ [])
    ∷ journal
    true
    (transaction (attributes 0x40 0xC4 0x99 true) (5 ∷ 6 ∷ []) ∷ transaction (attributes 0x42 0xCA 0x17 false) (0x41 ∷ []) ∷ [])
    (0x40 ∷ 0xC4 ∷ 1 ∷ 2 ∷ 5 ∷ 6 ∷ 0x99 ∷ 0x42 ∷ 0xCA ∷ 0 ∷ 1 ∷ 0x41 ∷ 0x17 ∷ [])
    ∷ []

-- the check byte: right codes, and wrong ones, answered 17 (manual 2.2, 3.7, 10.2, 10.4, 10.5)
abbrev pub checks : List Case
checks =
    -- W1, W3 and W6 with the check on and right codes; of W1 the code as a number
    while_on (coded 0xC4 (pattern 0 17) 0x97 ∷ []) ((1, 60) ∷ []) (counting 240 (line sent 1 1 17 ∷ []) 0 0 1) (pattern 0 17 ++ replicate 43 0)
    ∷ while_on (map with_right_code (patterned 0 (up 0x84 240 ∷ replicate 5 (up 0x04 240) ++ (up 0x44 96 ∷ [])))) (replicate 6 (0, 0) ++ ((1, 1536) ∷ [])) (counting 240 (line sent 1 7 1536 ∷ []) 0 0 7) (pattern 0 1536)
    ∷ while_on (map with_right_code (patterned 0 (up 0x84 20 ∷ up 0xCA 2 ∷ up 0x44 20 ∷ []))) ((0, 0) ∷ (8, 0) ∷ (2, 0) ∷ []) (counting 240 (line flushed 1 1 20 ∷ line aborted 0 1 20 ∷ []) 0 1 3) (pattern 0 20)
    -- C1 with the right code, 0x2E, and C2 with the right one, 0x44
    ∷ while_on (coded 0x84 (pattern 0 20) 0xFE ∷ coded 0x04 (pattern 20 20) 0x2E ∷ coded 0x44 (pattern 40 20) 0xEC ∷ []) ((0, 0) ∷ (0, 0) ∷ (1, 60) ∷ []) (counting 240 (line sent 1 3 60 ∷ []) 0 0 3) (pattern 0 60)
    ∷ checked fresh_on (right 0x84 (pattern 0 20) ∷ coded 0xCA (0x41 ∷ []) 0x44 ∷ right 0x44 (pattern 20 20) ∷ []) ((0, 0) ∷ (11, 0) ∷ (2, 0) ∷ []) (on (counting 240 (line flushed 1 1 20 ∷ line aborted 0 1 20 ∷ []) 1 0 3)) (pattern 0 20) (0x41 ∷ replicate 14 0)
    -- a First with a wrong code breaks the open packet and opens none
    ∷ while_on (right 0x84 (pattern 0 20) ∷ wrong 0x84 (pattern 20 20) ∷ right 0x44 (pattern 40 20) ∷ []) ((0, 0) ∷ (17, 0) ∷ (2, 0) ∷ []) (counting 240 (line broken 1 1 20 ∷ line aborted 0 1 20 ∷ line badcheck 0 1 0 ∷ []) 0 0 3) (pattern 0 20)
    -- an unknown command without F and L, which else ends nothing, breaks it too
    ∷ while_on (right 0x84 (pattern 0 20) ∷ wrong 0x00 (pattern 20 3) ∷ right 0x44 (pattern 23 20) ∷ []) ((0, 0) ∷ (17, 0) ∷ (2, 0) ∷ []) (counting 240 (line broken 1 1 20 ∷ line aborted 0 1 20 ∷ line badcheck 0 1 0 ∷ []) 0 0 3) (pattern 0 20)
    -- so do a Last, which else joins it, a whole packet, which else supersedes it, and an unknown command with F and L, which else flushes it
    ∷ while_on (right 0x84 (pattern 0 20) ∷ wrong 0x44 (pattern 20 20) ∷ right 0x44 (pattern 40 20) ∷ []) ((0, 0) ∷ (17, 0) ∷ (2, 0) ∷ []) (counting 240 (line broken 1 1 20 ∷ line aborted 0 1 20 ∷ line badcheck 0 1 0 ∷ []) 0 0 3) (pattern 0 20)
    ∷ while_on (right 0x84 (pattern 0 20) ∷ wrong 0xC4 (pattern 20 20) ∷ []) ((0, 0) ∷ (17, 0) ∷ []) (counting 240 (line broken 1 1 20 ∷ line badcheck 0 1 0 ∷ []) 0 0 2) (pattern 0 20)
    ∷ while_on (right 0x84 (pattern 0 20) ∷ wrong 0xC0 (pattern 20 3) ∷ []) ((0, 0) ∷ (17, 0) ∷ []) (counting 240 (line broken 1 1 20 ∷ line badcheck 0 1 0 ∷ []) 0 0 2) (pattern 0 20)
    -- 17 before 8, 9 and 10: Receive Enables of no form, with bit 6 zero, and with CBDM and no MAC kept
    ∷ while_on (wrong 0xCA (0x41 ∷ 0x41 ∷ []) ∷ wrong 0xCA (0x01 ∷ []) ∷ wrong 0xCA (0xC1 ∷ []) ∷ []) ((17, 0) ∷ (17, 0) ∷ (17, 0) ∷ []) (counting 240 (line badcheck 0 3 0 ∷ []) 0 0 3) []
    -- 17 before 3: a fragment without bytes, and one with a byte too many
    ∷ while_on (wrong 0x04 [] ∷ wrong 0x04 (pattern 0 241) ∷ []) ((17, 0) ∷ (17, 0) ∷ []) (counting 240 (line badcheck 0 2 0 ∷ []) 0 0 2) []
    -- 0x12, which is right at address 0x40, and not at address 0x42
    ∷ while_on (coded 0xC4 (pattern 0 20) 0x12 ∷ transaction (attributes 0x42 0xC4 0x12 true) (pattern 0 20) ∷ []) ((1, 60) ∷ (17, 0) ∷ []) (counting 240 (line sent 1 1 20 ∷ line badcheck 0 1 0 ∷ []) 0 0 2) (pattern 0 20 ++ replicate 40 0)
    -- address 0x41, which is another in its lowest bit alone: 0xAB is right, and 0x12 is not
    ∷ while_on (transaction (attributes 0x41 0xC4 0xAB true) (pattern 0 20) ∷ transaction (attributes 0x41 0xC4 0x12 true) (pattern 0 20) ∷ []) ((1, 60) ∷ (17, 0) ∷ []) (counting 240 (line sent 1 1 20 ∷ line badcheck 0 1 0 ∷ []) 0 0 2) (pattern 0 20 ++ replicate 40 0)
    -- with the check off neither code nor address is read
    ∷ checked fresh_off (wrong 0xC4 (pattern 0 20) ∷ transaction (attributes 0x42 0xC4 0x12 true) (pattern 0 20) ∷ []) ((1, 60) ∷ (1, 60) ∷ []) (counting 240 (line sent 2 2 40 ∷ []) 0 0 2) (pattern 0 20 ++ replicate 40 0) fresh_bytes
    -- the most data bytes that have a code, and one more; with the check off both are taken for what they are
    ∷ while_on (right 0x80 (pattern 0 255) ∷ right 0x80 (pattern 255 256) ∷ []) ((7, 0) ∷ (17, 0) ∷ []) (counting 240 (line badcheck 0 1 0 ∷ []) 0 1 2) []
    ∷ checked fresh_off (right 0x80 (pattern 0 255) ∷ right 0x80 (pattern 255 256) ∷ []) ((7, 0) ∷ (7, 0) ∷ []) (counting 240 [] 0 2 2) [] fresh_bytes
    -- 17 before 3 and 6: a First of 256 bytes, which have no code, and a whole packet with a wrong code while the link is down
    ∷ while_on (right 0x84 (pattern 0 256) ∷ with_wrong_code (unchecked 0xC4 (pattern 0 20) false) ∷ []) ((17, 0) ∷ (17, 0) ∷ []) (counting 240 (line badcheck 0 2 0 ∷ []) 0 0 2) []
    -- 14 before 17: of two wrong codes the first is the last transaction that is counted
    ∷ checked (on (counting 240 [] 4294967294 0 4294967294)) (wrong 0x84 (pattern 0 20) ∷ wrong 0x84 (pattern 20 20) ∷ []) ((17, 0) ∷ (14, 0) ∷ []) (on (counting 240 (line badcheck 0 1 0 ∷ []) 4294967294 0 4294967295)) [] fresh_bytes
    -- address and code are zero in the fragment that is sent from here on, and the right code is 0x74: 17 where nothing else is wrong, and 14, 13 and 12 before it
    ∷ while_on (patterned 0 (up 0x84 20 ∷ [])) ((17, 0) ∷ []) (counting 240 (line badcheck 0 1 0 ∷ []) 0 0 1) []
    ∷ rejected (on full_state) 1536 fresh_bytes 14
    ∷ rejected fresh_on 1536 unsound_bytes 13
    ∷ rejected (on unsound_state) 1536 fresh_bytes 13
    ∷ rejected fresh_on 1535 fresh_bytes 12
    ∷ rejected fresh_on 1536 (replicate 14 0) 12
    ∷ []

-- sound states and settings that are taken, and each condition broken alone; those of the rows follow below (manual 5.7, 8.7, 8.8, 10.1)
abbrev pub soundness : List Case
soundness =
    -- two sound states that have counted: rows at their bounds and an open fragment of one byte; under maximum 32 a row with 240 bytes for its fragment and an open packet as long as it can be
    resumed
    (with_open 1 1 (counting 240 (line sent 2 2 480 ∷ line aborted 0 2 480 ∷ line badlength 0 3 0 ∷ line badcheck 0 6 0 ∷ []) 4 5 23))
    fresh_bytes
    (up 0x84 20 ∷ [])
    ((0, 0) ∷ [])
    (with_open 1 20 (counting 240 (line sent 2 2 480 ∷ line superseded 1 1 1 ∷ line aborted 0 2 480 ∷ line badlength 0 3 0 ∷ line badcheck 0 6 0 ∷ []) 4 5 24))
    ∷ resumed (with_open 2 64 (counting 32 (line flushed 1 1 240 ∷ []) 0 0 3)) fresh_bytes (up 0x44 20 ∷ []) ((1, 84) ∷ []) (counting 32 (line sent 1 3 84 ∷ line flushed 1 1 240 ∷ []) 0 0 4)
    -- the sum one below the total, and one above; with badcheck alone; a total past its limit
    ∷ unsound (counting 240 (line sent 1 1 20 ∷ []) 0 0 2)
    ∷ unsound (counting 240 (line sent 1 1 20 ∷ []) 0 0 0)
    ∷ unsound (counting 240 (line badcheck 0 1 0 ∷ []) 0 0 2)
    ∷ unsound (counting 240 (line badcheck 0 1 0 ∷ []) 0 0 0)
    ∷ unsound (counting 240 [] 4294967296 0 4294967296)
    -- packets in aborted, in badlength and in badcheck, bytes in badlength and in badcheck
    ∷ unsound (counting 240 (line aborted 1 1 20 ∷ []) 0 0 1)
    ∷ unsound (counting 240 (line badlength 1 1 0 ∷ []) 0 0 1)
    ∷ unsound (counting 240 (line badcheck 1 1 0 ∷ []) 0 0 1)
    ∷ unsound (counting 240 (line badlength 0 1 1 ∷ []) 0 0 1)
    ∷ unsound (counting 240 (line badcheck 0 1 1 ∷ []) 0 0 1)
    -- and badcheck with neither, alone
    ∷ resumed (counting 240 (line badcheck 0 1 0 ∷ []) 0 0 1) fresh_bytes (up 0xC4 20 ∷ []) ((1, 60) ∷ []) (counting 240 (line sent 1 1 20 ∷ line badcheck 0 1 0 ∷ []) 0 0 2)
    -- open: a fragment without bytes, two with one byte, a byte of no fragment, a fragment past the maximum
    ∷ unsound (with_open 1 0 (counting 240 [] 0 0 1))
    ∷ unsound (with_open 2 1 (counting 240 [] 0 0 2))
    ∷ unsound (with_open 0 1 (counting 240 [] 0 0 0))
    ∷ unsound (with_open 1 33 (counting 32 [] 0 0 1))
    -- of an account alone: the most open bytes of a fragment, and one more
    ∷ account_is true (with_open 1 240 (counting 32 [] 0 0 1))
    ∷ account_is false (with_open 1 241 (counting 32 [] 0 0 1))
    -- a maximum of 0
    ∷ unsound (counting 0 [] 0 0 0)
    -- the check off and on, by a wrong code, and by the next number and the largest of a byte, which are neither
    ∷ checked (with_check 0 fresh_off) (wrong 0xC4 (pattern 0 60) ∷ []) ((1, 60) ∷ []) (with_check 0 (counting 240 (line sent 1 1 60 ∷ []) 0 0 1)) (pattern 0 60) fresh_bytes
    ∷ checked (with_check 1 fresh_off) (wrong 0xC4 (pattern 0 60) ∷ []) ((17, 0) ∷ []) (with_check 1 (counting 240 (line badcheck 0 1 0 ∷ []) 0 0 1)) [] fresh_bytes
    ∷ unsound (with_check 2 fresh_off)
    ∷ unsound (with_check 255 fresh_off)
    -- sound settings: both addresses kept, and CBDM with the MAC alone
    ∷ resumed (counting 240 [] 0 0 0) (holding 0x41 0x03) (up 0xC4 20 ∷ []) ((1, 60) ∷ []) (counting 240 (line sent 1 1 20 ∷ []) 0 0 1)
    ∷ resumed (counting 240 [] 0 0 0) (holding 0xC1 0x01) (up 0xC4 20 ∷ []) ((1, 60) ∷ []) (counting 240 (line sent 1 1 20 ∷ []) 0 0 1)
    -- the lowest and the highest bit that is never kept; CBDM with the IPv4 alone, and with none; control bytes that are not allowed
    ∷ unsound_settings (holding 0x41 0x04)
    ∷ unsound_settings (holding 0x41 0x80)
    ∷ unsound_settings (holding 0xC1 0x02)
    ∷ unsound_settings (holding 0xC1 0x00)
    ∷ unsound_settings (holding 0x01 0x03)
    ∷ unsound_settings (holding 0x71 0x03)
    ∷ unsound_settings (holding 0xC0 0x03)
    ∷ []

-- the rows of packets with a packet more than fragments, and the rows of bytes with a byte more than 240 for their fragment (manual 8.7)
abbrev pub rows_unsound : List Case
rows_unsound =
    map (λ (row : ℕ). unsound (counting 240 (line row 2 1 20 ∷ []) 0 0 1)) (sent ∷ superseded ∷ flushed ∷ broken ∷ over ∷ short ∷ linkdown ∷ [])
    ++ map (λ (row : ℕ). unsound (counting 240 (line row 0 1 241 ∷ []) 0 0 1)) (sent ∷ superseded ∷ flushed ∷ broken ∷ over ∷ short ∷ linkdown ∷ aborted ∷ [])

-- Set Link (manual 7.1 to 7.3)
abbrev pub links : List Case
links =
    -- every pair that copper takes, forced and negotiated: 10 half and full, 100 half and full, 1000 full
    link 0x102 false Copper (accepted 0x102)
    ∷ link 0x202 false Copper (accepted 0x202)
    ∷ link 0x104 false Copper (accepted 0x104)
    ∷ link 0x204 false Copper (accepted 0x204)
    ∷ link 0x208 false Copper (accepted 0x208)
    ∷ link 0x103 false Copper (accepted 0x103)
    ∷ link 0x203 false Copper (accepted 0x203)
    ∷ link 0x105 false Copper (accepted 0x105)
    ∷ link 0x205 false Copper (accepted 0x205)
    ∷ link 0x209 false Copper (accepted 0x209)
    -- of these fibre takes the last alone
    ∷ link 0x102 false Fibre (refused 0x0902)
    ∷ link 0x202 false Fibre (refused 0x0902)
    ∷ link 0x104 false Fibre (refused 0x0902)
    ∷ link 0x204 false Fibre (refused 0x0902)
    ∷ link 0x208 false Fibre (accepted 0x208)
    ∷ link 0x203 false Fibre (refused 0x0902)
    ∷ link 0x205 false Fibre (refused 0x0902)
    -- negotiated: a valid pair among others, on copper and on fibre; none, on fibre too
    ∷ link 0x313 false Copper (accepted 0x313)
    ∷ link 0x30F false Fibre (accepted 0x30F)
    ∷ link 0x111 false Copper (refused 0x0002)
    ∷ link 0x109 false Fibre (refused 0x0002)
    -- the two pause bits, each and both, and negotiated
    ∷ link 0x604 false Copper (accepted 0x604)
    ∷ link 0xA04 false Copper (accepted 0xA04)
    ∷ link 0xE04 false Copper (accepted 0xE04)
    ∷ link 0xE05 false Copper (accepted 0xE05)
    -- a host driver is present, on fibre too, and also where the word is refused: no speed, and each kind of reserved bit
    ∷ link 0x219 true Copper (refused 0x0901)
    ∷ link 0x208 true Fibre (refused 0x0901)
    ∷ link 0x200 true Copper (refused 0x0901)
    ∷ link 0x224 true Copper (refused 0x0901)
    ∷ link 0x1204 true Copper (refused 0x0901)
    -- a reserved bit with two speeds, bit 5 and bit 12; negotiated; on fibre
    ∷ link 0x22C false Copper (refused 0x0002)
    ∷ link 0x120C false Copper (refused 0x0002)
    ∷ link 0x225 false Copper (refused 0x0002)
    ∷ link 0x1208 false Fibre (refused 0x0002)
    -- no speed, forced and negotiated
    ∷ link 0x200 false Copper (refused 0x0002)
    ∷ link 0x201 false Copper (refused 0x0002)
    -- forced: every two speeds; two with no duplex, and two with half
    ∷ link 0x206 false Copper (refused 0x0905)
    ∷ link 0x20A false Copper (refused 0x0905)
    ∷ link 0x212 false Copper (refused 0x0905)
    ∷ link 0x20C false Copper (refused 0x0905)
    ∷ link 0x214 false Copper (refused 0x0905)
    ∷ link 0x218 false Copper (refused 0x0905)
    ∷ link 0x00C false Copper (refused 0x0905)
    ∷ link 0x10C false Copper (refused 0x0905)
    -- forced: both duplexes, with 100, 1000 and 10G, and none
    ∷ link 0x304 false Copper (refused 0x0002)
    ∷ link 0x308 false Copper (refused 0x0002)
    ∷ link 0x310 false Copper (refused 0x0002)
    ∷ link 0x004 false Copper (refused 0x0002)
    -- forced: 1000 half, on fibre too; 10G half and full, and 10G full negotiated
    ∷ link 0x108 false Copper (refused 0x0903)
    ∷ link 0x108 false Fibre (refused 0x0903)
    ∷ link 0x110 false Copper (refused 0x0903)
    ∷ link 0x210 false Copper (refused 0x0002)
    ∷ link 0x211 false Copper (refused 0x0002)
    ∷ []

-- 100 full with each reserved bit (manual 7.1)
abbrev pub reserved_bits : List Case
reserved_bits =
    map (λ (bit : ℕ). link (0x204 + 2 ^ bit) false Copper (refused 0x0002))
    (5 ∷ 6 ∷ 7 ∷ 12 ∷ 13 ∷ 14 ∷ 15 ∷ 16 ∷ 17 ∷ 18 ∷ 19 ∷ 20 ∷ 21 ∷ 22 ∷ 23 ∷ 24 ∷ 25 ∷ 26 ∷ 27 ∷ 28 ∷ 29 ∷ 30 ∷ 31 ∷ [])

-- status data: each field at its edges, and which of several bad ones is named (manual 6.2 to 6.6)
abbrev pub status_data : List Case
status_data =
    -- the largest length with a VLAN tag whose two bytes differ, written and read, and one more
    writes (vlan5 1536) 0 0 (0x00 ∷ 0x06 ∷ 0x01 ∷ 0x00 ∷ 0x23 ∷ 0x01 ∷ 0x0D ∷ 0x00 ∷ [])
    ∷ reads (0x00 ∷ 0x06 ∷ 0x01 ∷ 0x00 ∷ 0x23 ∷ 0x01 ∷ 0x0D ∷ 0x00 ∷ []) 0 0 (vlan5 1536)
    ∷ writes (vlan5 1537) 15 2 (replicate 8 0)
    ∷ reads (0x01 ∷ 0x06 ∷ 0x01 ∷ 0x00 ∷ 0x23 ∷ 0x01 ∷ 0x0D ∷ 0x00 ∷ []) 15 2 no_fields
    -- the least length, written and read, and none
    ∷ writes (vlan5 1) 0 0 (0x01 ∷ 0x00 ∷ 0x01 ∷ 0x00 ∷ 0x23 ∷ 0x01 ∷ 0x0D ∷ 0x00 ∷ [])
    ∷ reads (0x01 ∷ 0x00 ∷ 0x01 ∷ 0x00 ∷ 0x23 ∷ 0x01 ∷ 0x0D ∷ 0x00 ∷ []) 0 0 (vlan5 1)
    ∷ writes (vlan5 0) 15 2 (replicate 8 0)
    ∷ reads (0x00 ∷ 0x00 ∷ 0x01 ∷ 0x00 ∷ 0x23 ∷ 0x01 ∷ 0x0D ∷ 0x00 ∷ []) 15 2 no_fields
    -- each reserved bit of the length, which is not cut
    ∷ writes (vlan5 0x4040) 15 2 (replicate 8 0)
    ∷ reads (0x40 ∷ 0x40 ∷ 0x01 ∷ 0x00 ∷ 0x23 ∷ 0x01 ∷ 0x0D ∷ 0x00 ∷ []) 15 2 no_fields
    ∷ writes (vlan5 0x8040) 15 2 (replicate 8 0)
    ∷ reads (0x40 ∷ 0x80 ∷ 0x01 ∷ 0x00 ∷ 0x23 ∷ 0x01 ∷ 0x0D ∷ 0x00 ∷ []) 15 2 no_fields
    -- other packet statuses: CRC not stripped, VLAN stripped, the highest reserved bit
    ∷ reads (0x40 ∷ 0x00 ∷ 0x00 ∷ 0x00 ∷ 0x23 ∷ 0x01 ∷ 0x0D ∷ 0x00 ∷ []) 15 3 no_fields
    ∷ reads (0x40 ∷ 0x00 ∷ 0x03 ∷ 0x00 ∷ 0x23 ∷ 0x01 ∷ 0x0D ∷ 0x00 ∷ []) 15 3 no_fields
    ∷ reads (0x40 ∷ 0x00 ∷ 0x01 ∷ 0x80 ∷ 0x23 ∷ 0x01 ∷ 0x0D ∷ 0x00 ∷ []) 15 3 no_fields
    -- the lowest and the highest reserved bit of the MNG status
    ∷ reads (0x40 ∷ 0x00 ∷ 0x01 ∷ 0x00 ∷ 0x23 ∷ 0x01 ∷ 0x0D ∷ 0x02 ∷ []) 15 4 no_fields
    ∷ reads (0x40 ∷ 0x00 ∷ 0x01 ∷ 0x00 ∷ 0x23 ∷ 0x01 ∷ 0x0D ∷ 0x80 ∷ []) 15 4 no_fields
    -- the largest indices, written and read; each of them one more, the decision index at the most that its bits and its byte hold, and each without its match
    ∷ writes (indices true 7 true 7) 0 0 (0x40 ∷ 0x00 ∷ 0x01 ∷ 0x00 ∷ 0x00 ∷ 0x00 ∷ 0x7F ∷ 0x01 ∷ [])
    ∷ reads (0x40 ∷ 0x00 ∷ 0x01 ∷ 0x00 ∷ 0x00 ∷ 0x00 ∷ 0x7F ∷ 0x01 ∷ []) 0 0 (indices true 7 true 7)
    ∷ writes (indices true 8 true 7) 15 5 (replicate 8 0)
    ∷ reads (0x40 ∷ 0x00 ∷ 0x01 ∷ 0x00 ∷ 0x00 ∷ 0x00 ∷ 0x8F ∷ 0x01 ∷ []) 15 5 no_fields
    ∷ writes (indices true 255 true 7) 15 5 (replicate 8 0)
    ∷ reads (0x40 ∷ 0x00 ∷ 0x01 ∷ 0x00 ∷ 0x00 ∷ 0x00 ∷ 0xFF ∷ 0x01 ∷ []) 15 5 no_fields
    ∷ writes (indices true 7 true 8) 15 6 (replicate 8 0)
    ∷ writes (indices false 1 true 7) 15 5 (replicate 8 0)
    ∷ reads (0x40 ∷ 0x00 ∷ 0x01 ∷ 0x00 ∷ 0x00 ∷ 0x00 ∷ 0x1F ∷ 0x00 ∷ []) 15 5 no_fields
    ∷ writes (indices true 7 false 1) 15 6 (replicate 8 0)
    ∷ reads (0x40 ∷ 0x00 ∷ 0x01 ∷ 0x00 ∷ 0x00 ∷ 0x00 ∷ 0x71 ∷ 0x01 ∷ []) 15 6 no_fields
    -- blocks of seven and of nine bytes
    ∷ reads (0x40 ∷ 0x00 ∷ 0x01 ∷ 0x00 ∷ 0x00 ∷ 0x00 ∷ 0x70 ∷ []) 15 1 no_fields
    ∷ reads (0x40 ∷ 0x00 ∷ 0x01 ∷ 0x00 ∷ 0x00 ∷ 0x00 ∷ 0x70 ∷ 0x01 ∷ 0x00 ∷ []) 15 1 no_fields
    -- of several that are bad the first is named: of each with the next in order, of the first and the last, and of all that a writer gives
    ∷ reads (replicate 7 0) 15 1 no_fields
    ∷ reads (0x00 ∷ 0x00 ∷ 0x00 ∷ 0x00 ∷ 0x00 ∷ 0x00 ∷ 0x70 ∷ 0x01 ∷ []) 15 2 no_fields
    ∷ reads (0x40 ∷ 0x00 ∷ 0x00 ∷ 0x00 ∷ 0x00 ∷ 0x00 ∷ 0x70 ∷ 0x03 ∷ []) 15 3 no_fields
    ∷ reads (0x40 ∷ 0x00 ∷ 0x01 ∷ 0x00 ∷ 0x00 ∷ 0x00 ∷ 0x8F ∷ 0x03 ∷ []) 15 4 no_fields
    ∷ reads (0x40 ∷ 0x00 ∷ 0x01 ∷ 0x00 ∷ 0x00 ∷ 0x00 ∷ 0x87 ∷ 0x01 ∷ []) 15 5 no_fields
    ∷ writes (indices true 8 true 8) 15 5 (replicate 8 0)
    ∷ reads (0x40 ∷ 0x00 ∷ 0x01 ∷ 0x00 ∷ 0x00 ∷ 0x00 ∷ 0x71 ∷ 0x01 ∷ 0x00 ∷ []) 15 1 no_fields
    ∷ writes all_bad 15 2 (replicate 8 0)
    ∷ []

abbrev pub Worked : Type 0
Worked = AllHold (cases ++ (further ++ (checks ++ (soundness ++ (rows_unsound ++ (links ++ (reserved_bits ++ status_data)))))))
