-- What follows from the rules for every transaction, whatever the state and the buffers (manual 2.2, 2.3, 3, 4, 8, 10.5).
use Rattle.std.specs.Prelude.{ℕ, ◌+◌, ◌≤◌, ◌<◌, Bool, true, false, List, ◌⊎◌, ◌≡◌, eqb, leb, ltb, length, get_or}
use Rattle.prelude.specs.After.{After, after}
use Rattle.prelude.specs.Choice.{when◌then◌else◌, ◌and◌, ◌or◌}
use Rattle.prelude.specs.Parts.{part}
use Rattle.packet.specs.Store.{max_packet, min_sent}
use Rattle.record.specs.Transaction.{Transaction}
use Rattle.settings.specs.Layout as settings_layout
use Rattle.settings.specs.Properties.{KeepsTheRest}
use Rattle.state.specs.declared.Account.{Account}
use Rattle.state.specs.declared.State.{State}
use Rattle.state.specs.Account.{Formed, limit, is_open, row_count, no_row, sent, superseded, flushed, broken, over, short, linkdown, aborted, badlength, badcheck, packets_in, fragments_in, bytes_in}
use Rattle.state.specs.Sound.{sound}
use Rattle.state.specs.State.{check_on, check_off, setup_of, state_of}
use Rattle.outcome.specs.declared.Cause.{Cause}
use Rattle.outcome.specs.declared.Cause.TheVariants as cause
use Rattle.outcome.specs.declared.Outcome.{Outcome}
use Rattle.outcome.specs.declared.Outcome.TheVariants as outcome
use Rattle.outcome.specs.Outcome.{cause_number, number_of, is_counted}
use Rattle.translator.specs.declared.Transacted.{Transacted}
use Rattle.translator.specs.declared.command.Class.{Class}
use Rattle.translator.specs.declared.command.Class.TheVariants as class
use Rattle.translator.specs.Check.{passes_check}
use Rattle.translator.specs.Command.{commands, class_in, has_both_flags}
use Rattle.translator.specs.Transact.{with, transacted}

-- what is said of every transaction: of the state and the buffers before it, of the transaction, and of what it leaves (manual 8.10)
abbrev pub Every : (State → List ℕ → List ℕ → Transaction → After Transacted → Type 0) → Type 0
Every P =
    (state : State) (store settings : List ℕ) (t : Transaction) → Formed state.account
    → P state store settings t (transacted state store settings t)

-- 12, 13 and 14 change nothing and count nothing; every other answer counts one transaction, keeps a sound state and sound settings sound, and changes the settings only where it is 11 (manual 2.3)
pub record Counts (before : State) (store settings : List ℕ) (left : After Transacted) : Type 0 where
  pub rejected : is_counted (number_of left.result.outcome) ≡ false → left ≡ after (with before left.result.outcome) store settings
  pub counted : is_counted (number_of left.result.outcome) ≡ true → left.result.state.account.beside.total ≡ before.account.beside.total + 1
  pub state_stays_sound : sound before ≡ true → sound left.result.state ≡ true
  pub account_stays_formed : Formed left.result.state.account
  pub settings_stay_sound : settings_layout.sound settings ≡ true → settings_layout.sound left.settings ≡ true
  pub settings_change : (number_of left.result.outcome ≡ 11 → ⊥) → left.settings ≡ settings

abbrev pub EveryTransaction : Type 0
EveryTransaction = Every (λ state store settings t left. Counts state store settings left)

-- 12 where a buffer is too short, whatever else is wrong; else 13 where the state or the settings are not sound; else 14 where the account is full; else it is counted, and answered 17 exactly where it does not pass the check, whatever its command (manual 2.2, 10.5)
pub record Orders (before : State) (store settings : List ℕ) (t : Transaction) (answer : ℕ) : Type 0 where
  pub too_short : (length store < max_packet) ⊎ (length settings < settings_layout.size) → answer ≡ 12
  pub not_sound :
      max_packet ≤ length store → settings_layout.size ≤ length settings
      → (sound before ≡ false) ⊎ (settings_layout.sound settings ≡ false) → answer ≡ 13
  pub full :
      max_packet ≤ length store → sound before ≡ true → settings_layout.sound settings ≡ true
      → before.account.beside.total ≡ limit → answer ≡ 14
  pub counted :
      max_packet ≤ length store → sound before ≡ true → settings_layout.sound settings ≡ true
      → (before.account.beside.total ≡ limit → ⊥) → is_counted answer ≡ true
  pub wrong_code :
      max_packet ≤ length store → sound before ≡ true → settings_layout.sound settings ≡ true
      → (before.account.beside.total ≡ limit → ⊥) → passes_check before.check t ≡ false → answer ≡ 17
  pub right_code : passes_check before.check t ≡ true → answer ≡ 17 → ⊥

abbrev pub EveryOrder : Type 0
EveryOrder = Every (λ state store settings t left. Orders state store settings t (number_of left.result.outcome))

-- a state with the check off (manual 10.1)
abbrev pub with_check_off : State → State
with_check_off s = state_of s.account.grid s.account.beside (setup_of s.maximum check_off)

-- a transaction, whatever its address and its code (manual 10.5)
abbrev pub other_code : (address code : ℕ) → Transaction → Transaction
other_code address code t = record { address = address; command = t.command; bytes = t.bytes; code = code; link_up = t.link_up }

-- with the check off neither address nor code is read; with the check on, a transaction that passes comes to what it comes to with the check off (manual 10.5)
pub record Unread (before : State) (store settings : List ℕ) (t : Transaction) (left : After Transacted) : Type 0 where
  pub off : before.check ≡ check_off → (address code : ℕ) → transacted before store settings (other_code address code t) ≡ left
  pub passed : before.check ≡ check_on → passes_check check_on t ≡ true
      → transacted (with_check_off before) store settings t ≡ after (with (with_check_off left.result.state) left.result.outcome) left.store left.settings

abbrev pub EveryUnread : Type 0
EveryUnread = Every Unread

-- the row of a transaction's own fate (manual 8.3)
abbrev pub cause_row : Cause → ℕ
cause_row cause.Aborted = aborted
cause_row cause.BadLength = badlength
cause_row cause.Over = over
cause_row cause.Short = short
cause_row cause.LinkDown = linkdown

abbrev pub own_row : Outcome → ℕ
own_row outcome.Joined = no_row
own_row (outcome.Sent n) = sent
own_row (outcome.Discarded c) = cause_row c
own_row outcome.Unknown = no_row
own_row (outcome.Refused r) = no_row
own_row outcome.Taken = no_row
own_row outcome.NoRoom = no_row
own_row outcome.NotSound = no_row
own_row outcome.Full = no_row
own_row outcome.BadCheck = badcheck

-- the row in which a transaction ends the packet that was open: a fragment answered 3 breaks it, another First supersedes it, a command with both flags flushes it (manual 3.2, 3.4, 3.5)
abbrev pub fragment_closes : Bool → Outcome → ℕ
fragment_closes first o = when eqb (number_of o) (cause_number cause.BadLength) then broken else (when first then superseded else no_row)

unfoldable pub closes_in : Class → ℕ → Outcome → ℕ
closes_in (class.Fragment first last) command o = fragment_closes first o
closes_in class.Enable command o = flushed
closes_in class.Unknown command o = when has_both_flags command then flushed else no_row

-- a wrong code breaks it, whatever the command (manual 3.7)
abbrev pub closes : ℕ → Outcome → ℕ
closes command o = when eqb (number_of o) (number_of outcome.BadCheck) then broken else closes_in (class_in commands command) command o

-- it is no row where no packet was open, and where the answer is not counted (manual 8.4)
unfoldable pub closed_row : Account → ℕ → Outcome → ℕ
closed_row before command o =
    when is_open before then (when is_counted (number_of o) then closes command o else no_row) else no_row

-- the cells of a row are as they were (manual 8.4)
pub record SameRow (row : ℕ) (before after : List ℕ) : Type 0 where
  pub packets : packets_in row after ≡ packets_in row before
  pub fragments : fragments_in row after ≡ fragments_in row before
  pub bytes : bytes_in row after ≡ bytes_in row before

-- apart from the total and what is open, a transaction changes the row of its own fate, that of the packet that it ends, and the number of commands of its kind (manual 8.3, 8.4)
pub record Frames (before : State) (command : ℕ) (o : Outcome) (after : State) : Type 0 where
  pub other_rows :
      (row : ℕ) → (row ≡ own_row o → ⊥) → (row ≡ closed_row before.account command o → ⊥) → SameRow row before.account.grid after.account.grid
  pub taken : number_of o ≡ 11 → after.account.beside.taken ≡ before.account.beside.taken + 1
  pub not_taken : (number_of o ≡ 11 → ⊥) → after.account.beside.taken ≡ before.account.beside.taken
  pub refused : 7 ≤ number_of o → number_of o ≤ 10 → after.account.beside.refused ≡ before.account.beside.refused + 1
  pub not_refused : (number_of o < 7) ⊎ (10 < number_of o) → after.account.beside.refused ≡ before.account.beside.refused
  pub maximum : after.maximum ≡ before.maximum
  pub check : after.check ≡ before.check

abbrev pub EveryFrame : Type 0
EveryFrame = Every (λ state store settings t left. Frames state t.command left.result.outcome left.result.state)

-- so many packets, fragments and bytes more in a row (manual 8.3)
pub record Adds (row packets fragments bytes : ℕ) (before after : List ℕ) : Type 0 where
  pub packets_more : packets_in row after ≡ packets_in row before + packets
  pub fragments_more : fragments_in row after ≡ fragments_in row before + fragments
  pub bytes_more : bytes_in row after ≡ bytes_in row before + bytes

-- a packet that a transaction ends stands in the row that `closed_row` names, as one packet with all its fragments and bytes (manual 8.4)
abbrev pub Closing : ℕ → Account → Account → Type 0
Closing row before after =
    row < row_count → Adds row 1 before.beside.open_fragments before.beside.open_bytes before.grid after.grid

abbrev pub EveryClosing : Type 0
EveryClosing =
    Every (λ state store settings t left.
    Closing (closed_row state.account t.command left.result.outcome) state.account left.result.state.account)

-- the fragments and bytes of a packet (manual 8.5)
pub record Packet : Type 0 where
  pub fragments : ℕ
  pub bytes : ℕ

abbrev pub packet_of : ℕ → ℕ → Packet
packet_of fragments bytes = record { fragments = fragments; bytes = bytes }

abbrev pub no_packet : Packet
no_packet = packet_of 0 0

abbrev pub open_packet : Account → Packet
open_packet a = packet_of a.beside.open_fragments a.beside.open_bytes

-- what is left of the packet that was open, once the transaction has ended it or not (manual 8.3, 8.4)
unfoldable pub packet_left : Account → ℕ → Outcome → Packet
packet_left before command o = when ltb (closed_row before command o) row_count then no_packet else open_packet before

-- a Last that joins its packet is answered 1, 4, 5 or 6 (manual 3.6)
abbrev pub completes : ℕ → Bool
completes answer = eqb answer 1 or (leb 4 answer and leb answer 6)

-- where a fragment of so many bytes goes, and what is open afterwards (manual 8.3)
pub record Leaves (left : Packet) (size : ℕ) (before : Account) (o : Outcome) (after : Account) : Type 0 where
  pub joined_goes_behind_what_is_left : number_of o ≡ 0 → open_packet after ≡ packet_of (left.fragments + 1) (left.bytes + size)
  pub last_leaves_none_open : completes (number_of o) ≡ true → open_packet after ≡ no_packet
  pub last_counts_what_is_left :
      completes (number_of o) ≡ true → Adds (own_row o) 1 (left.fragments + 1) (left.bytes + size) before.grid after.grid
  pub aborted_counts_alone : number_of o ≡ 2 → Adds aborted 0 1 size before.grid after.grid
  pub bad_length_counts_alone : number_of o ≡ 3 → Adds badlength 0 1 0 before.grid after.grid
  pub bad_check_counts_alone : number_of o ≡ 17 → Adds badcheck 0 1 0 before.grid after.grid
  pub others_leave_what_is_left : (number_of o ≡ 0 → ⊥) → completes (number_of o) ≡ false → open_packet after ≡ left

abbrev pub EveryLeaving : Type 0
EveryLeaving =
    Every (λ state store settings t left.
    Leaves (packet_left state.account t.command left.result.outcome) (length t.bytes) state.account left.result.outcome left.result.state.account)

-- what stays in the store, where a fragment of so many bytes goes to `at`: all but its place and the fill of a packet that is sent; all, where it would end past 1536 (manual 4.1, 4.2, 4.3)
pub record Keeps (at size : ℕ) (o : Outcome) (before after : List ℕ) : Type 0 where
  pub same_length : length after ≡ length before
  pub unchanged : (number_of o ≡ 0 → ⊥) → completes (number_of o) ≡ false → after ≡ before
  pub too_much : max_packet < at + size → after ≡ before
  pub before_its_place : (k : ℕ) → k < at → get_or after k 0 ≡ get_or before k 0
  pub behind_its_place : (k : ℕ) → at + size ≤ k → (min_sent ≤ k) ⊎ (number_of o ≡ 1 → ⊥) → get_or after k 0 ≡ get_or before k 0
  pub past_1536 : (k : ℕ) → max_packet ≤ k → get_or after k 0 ≡ get_or before k 0

-- a fragment that joins its packet is answered 0 or, as a Last, 1, 4, 5 or 6 (manual 2.1, 3.6)
abbrev pub joins : ℕ → Bool
joins answer = eqb answer 0 or completes answer

-- within 1536 bytes it stands at its place, also where the packet is then discarded (manual 4.1, 4.2)
abbrev pub Stands : ℕ → List ℕ → Outcome → List ℕ → Type 0
Stands at fragment o store =
    joins (number_of o) ≡ true → at + length fragment ≤ max_packet → part at (length fragment) store ≡ fragment

abbrev pub EveryWriting : Type 0
EveryWriting =
    Every (λ state store settings t left.
    Stands (packet_left state.account t.command left.result.outcome).bytes t.bytes left.result.outcome left.store)

-- a fragment's place is behind what is left; bytes past 1536 of the store and past 15 of the settings stay (manual 1.5)
abbrev pub EveryKeeping : Type 0
EveryKeeping =
    Every (λ state store settings t left.
    Keeps (packet_left state.account t.command left.result.outcome).bytes (length t.bytes) left.result.outcome store left.store
    × KeepsTheRest settings left.settings)
