-- What a worked example asks, and when it holds (manual W).
use Rattle.std.specs.Prelude.{ℕ, zero, suc, ◌+◌, ◌-◌, ◌%◌, Bool, true, false, List, [], ◌∷◌, ◌++◌, ◌≡◌, eqb, length, take, replicate}
use lib.Bits.{bit_xor}
use Rattle.prelude.specs.After.{After}
use Rattle.prelude.specs.Choice.{when◌then◌else◌}
use Rattle.setlink.specs.declared.Decision.{Decision}
use Rattle.setlink.specs.declared.Media.{Media}
use Rattle.setlink.specs.Decide.{decided, fresh_word}
use Rattle.status.specs.declared.Fields.{Fields}
use Rattle.status.specs.Judged.{number_of as status_number_of, bad_field_number}
use Rattle.status.specs.Block.{written, block_back, parsed, fields_back}
use Rattle.settings.specs.Enable.{freshened}
use Rattle.address.specs.declared.Address.TheVariants.{Mac, Ipv4}
use Rattle.address.specs.Address.{in_force}
use Rattle.pec.specs.Division.{remainder}
use Rattle.record.specs.Records.{records_of, records_in}
use Rattle.record.specs.Transaction.{Transaction, attributes, transaction, unchecked}
use Rattle.state.specs.declared.State.{State}
use Rattle.state.specs.Account.{sent, superseded, flushed, broken, over, short, linkdown, aborted, badlength, badcheck, besides, account_of}
use Rattle.state.specs.Sound.{account_sound}
use Rattle.state.specs.State.{check_on, check_off, setup_of, state_of, with_account, made}
use Rattle.outcome.specs.Outcome.{number_of, sent_length_of}
use Rattle.translator.specs.declared.Transacted.{Transacted}
use Rattle.translator.specs.Transact.{transacted}

-- a command with so many bytes of data, while the link is up or down
pub record Sends : Type 0 where
  pub command : ℕ
  pub size : ℕ
  pub link_up : Bool

abbrev pub up : ℕ → ℕ → Sends
up command size = record { command = command; size = size; link_up = true }

abbrev pub down : ℕ → ℕ → Sends
down command size = record { command = command; size = size; link_up = false }

-- the data: no zeros, each byte another than those near it, and going on from one transaction to the next
abbrev pub pattern : ℕ → ℕ → List ℕ
pattern from zero = []
pattern from (suc n) = (from % 251 + 1) ∷ pattern (suc from) n

abbrev pub patterned : ℕ → List Sends → List Transaction
patterned from [] = []
patterned from (s ∷ rest) = unchecked s.command (pattern from s.size) s.link_up ∷ patterned (from + s.size) rest

-- Receive Enables with these data bytes (manual 5.2)
abbrev pub enables : List (List ℕ) → List Transaction
enables [] = []
enables (form ∷ rest) = unchecked 0xCA form true ∷ enables rest

-- the code that is right at address 0x40: the remainder of long division, over address, command, count and data (manual 10.2)
abbrev pub right_code : (command : ℕ) → List ℕ → ℕ
right_code command bytes = remainder (0x40 ∷ command ∷ length bytes ∷ bytes)

-- a transaction to that address with this code; with the right one; with one that is wrong in its lowest bit (manual 10.4)
abbrev pub with_code : (code : ℕ) → Transaction → Transaction
with_code code t = transaction (attributes 0x40 t.command code t.link_up) t.bytes

abbrev pub with_right_code : Transaction → Transaction
with_right_code t = with_code (right_code t.command t.bytes) t

abbrev pub with_wrong_code : Transaction → Transaction
with_wrong_code t = with_code (bit_xor (right_code t.command t.bytes) 1) t

-- the same of a command and its data, while the link is up
abbrev pub coded : (command : ℕ) → List ℕ → (code : ℕ) → Transaction
coded command bytes code = with_code code (unchecked command bytes true)

abbrev pub right : (command : ℕ) → List ℕ → Transaction
right command bytes = with_right_code (unchecked command bytes true)

abbrev pub wrong : (command : ℕ) → List ℕ → Transaction
wrong command bytes = with_wrong_code (unchecked command bytes true)

-- an answer number, with the sent length or 0 (manual 2.1)
abbrev pub Answer : Type 0
Answer = ℕ × ℕ

-- what transactions one after another are answered, and what they leave
pub record Run : Type 0 where
  pub answers : List Answer
  pub state : State
  pub store : List ℕ
  pub settings : List ℕ

unfoldable pub run_on : State → List ℕ → List ℕ → List Transaction → Run
run_on state store settings [] = record { answers = []; state = state; store = store; settings = settings }
run_on state store settings (t ∷ rest) =
    let left : After Transacted = transacted state store settings t in
    let r : Run = run_on left.result.state left.store left.settings rest in
    record {
      answers = (number_of left.result.outcome, sent_length_of left.result.outcome) ∷ r.answers;
      state = r.state;
      store = r.store;
      settings = r.settings;
    }

-- bytes of the store to which nothing was written: ones, so that a fill shows
abbrev pub unwritten : (size : ℕ) → List ℕ
unwritten size = replicate size 0xFF

-- maximum 240, all fresh, the check off
abbrev pub run : List Transaction → Run
run = run_on (made 240 false).state (unwritten 1536) (freshened (replicate 15 0xFF)).settings

-- a row that has counted (manual 8.2)
pub record Line : Type 0 where
  pub row : ℕ
  pub cells : List ℕ

abbrev pub line : ℕ → ℕ → ℕ → ℕ → Line
line row packets fragments bytes = record { row = row; cells = packets ∷ fragments ∷ bytes ∷ [] }

unfoldable pub cells_in : List Line → ℕ → List ℕ
cells_in [] row = 0 ∷ 0 ∷ 0 ∷ []
cells_in (l ∷ rest) row = when eqb row l.row then l.cells else cells_in rest row

-- the state for a maximum in which only these rows have counted, and commands that were taken or refused; no packet is open, and the check is off (manual 8.5, 8.8)
abbrev pub counting : (maximum : ℕ) → List Line → (taken refusals total : ℕ) → State
counting maximum lines taken refusals total =
    state_of
    (cells_in lines sent ++ cells_in lines superseded ++ cells_in lines flushed ++ cells_in lines broken ++ cells_in lines over
    ++ cells_in lines short ++ cells_in lines linkdown ++ cells_in lines aborted ++ cells_in lines badlength ++ cells_in lines badcheck)
    (besides 0 0 taken refusals total)
    (setup_of maximum check_off)

-- a state that has a packet open besides (manual 8.5)
abbrev pub with_open : (fragments bytes : ℕ) → State → State
with_open fragments bytes s =
    with_account s (account_of s.account.grid (besides fragments bytes s.account.beside.taken s.account.beside.refused s.account.beside.total))

-- a state that has this number for the check, and with the check on (manual 10.1)
abbrev pub with_check : (check : ℕ) → State → State
with_check check s = state_of s.account.grid s.account.beside (setup_of s.maximum check)

abbrev pub on : State → State
on s = with_check check_on s

-- a decision of Set Link where 0 was in force (manual 7.3)
abbrev pub accepted : ℕ → Decision
accepted word = record { response = 0x0000; reason = 0x0000; in_force = word }

abbrev pub refused : ℕ → Decision
refused reason = record { response = 0x0001; reason = reason; in_force = 0 }

-- what is asked, and what must be answered and left
pub data Case : Type 0 where
  answered : List Sends → List Answer → Case
  counted : List Sends → List Answer → State → Case
  -- the bytes with which the store begins afterwards
  stored : List Sends → List Answer → (start : List ℕ) → Case
  -- Receive Enables, and the settings that they leave
  enabled : (forms : List (List ℕ)) → List Answer → (settings : List ℕ) → Case
  -- a fragment of 20 bytes, to a state with a store and settings of these: the answer, and nothing changes
  rejected : State → (store_size : ℕ) → (settings : List ℕ) → (answer : ℕ) → Case
  -- transactions to a state and settings of these: the answers, and the state that they leave
  resumed : State → (settings : List ℕ) → List Sends → List Answer → State → Case
  -- transactions with address and code to a state, fresh settings and a store with nothing written: the answers, the state that they leave, the bytes written at the start of the store, and the settings
  checked : State → List Transaction → List Answer → State → (start settings : List ℕ) → Case
  -- whether the account of a state is sound, whatever the maximum
  account_is : (sound : Bool) → State → Case
  -- a state made for a maximum, with the check on or off: the answer, and the maximum that it has
  maximum : (asked : ℕ) → (check : Bool) → (answer made : ℕ) → Case
  -- the addresses in force, of settings and a Flash block
  addresses : (settings flash mac ipv4 : List ℕ) → Case
  link : (word : ℕ) → (host_present : Bool) → Media → Decision → Case
  -- status fields written: the answer with the bad field, and the block; and a block read: the answer with the bad field, and the fields
  writes : Fields → (answer field : ℕ) → (block : List ℕ) → Case
  reads : (block : List ℕ) → (answer field : ℕ) → Fields → Case
  -- the records of a journal, with the check on or off, written and read
  journal : (check : Bool) → List Transaction → (bytes : List ℕ) → Case

abbrev pub Holds : Case → Type 0
Holds (answered asked expected) = (run (patterned 0 asked)).answers ≡ expected
Holds (counted asked expected state) = ((run (patterned 0 asked)).answers ≡ expected) × ((run (patterned 0 asked)).state ≡ state)
Holds (stored asked expected start) = ((run (patterned 0 asked)).answers ≡ expected) × (take (length start) (run (patterned 0 asked)).store ≡ start)
Holds (enabled forms expected settings) = ((run (enables forms)).answers ≡ expected) × ((run (enables forms)).settings ≡ settings)
Holds (rejected state store_size settings answer) =
    run_on state (replicate store_size 0) settings (patterned 0 (up 0x84 20 ∷ []))
    ≡ record { answers = (answer, 0) ∷ []; state = state; store = replicate store_size 0; settings = settings }
Holds (resumed state settings asked expected left) =
    ((run_on state (unwritten 1536) settings (patterned 0 asked)).answers ≡ expected)
    × ((run_on state (unwritten 1536) settings (patterned 0 asked)).state ≡ left)
Holds (checked state transactions expected left start settings) =
    run_on state (unwritten 1536) (freshened (replicate 15 0xFF)).settings transactions
    ≡ record { answers = expected; state = left; store = start ++ unwritten (1536 - length start); settings = settings }
Holds (account_is sound state) = account_sound state.account ≡ sound
Holds (maximum asked check answer is) =
    ((made asked check).answer ≡ answer) × ((made asked check).state ≡ with_check (when check then 1 else 0) (counting is [] 0 0 0))
Holds (addresses settings flash mac ipv4) =
    ((in_force Mac (record { ref_ptr = (0, 0); now = settings }) (record { ref_ptr = (1, 0); now = flash })).bytes ≡ mac)
    × ((in_force Ipv4 (record { ref_ptr = (0, 0); now = settings }) (record { ref_ptr = (1, 0); now = flash })).bytes ≡ ipv4)
Holds (link word host_present media expected) = decided fresh_word word host_present media ≡ expected
Holds (writes fields answer field block) =
    ◌≡◌ {A = ℕ × ℕ × List ℕ} (status_number_of (written fields), bad_field_number (written fields), block_back fields) (answer, field, block)
Holds (reads block answer field fields) =
    ◌≡◌ {A = ℕ × ℕ × Fields} (status_number_of (parsed block), bad_field_number (parsed block), fields_back block) (answer, field, fields)
Holds (journal check transactions bytes) =
    (records_of check transactions ≡ bytes) × (records_in check bytes ≡ record { transactions = transactions; used = length bytes; bad_link = false })

abbrev pub AllHold : List Case → Type 0
AllHold [] = Unit
AllHold (c ∷ rest) = Holds c × AllHold rest
