-- Demand 3: after any calls from a fresh start, what the caller keeps and what every call replies are worked out from the list alone, and the list from the calls and the sizes of the buffers (manual 8.9).
use Rattle.std.specs.Prelude.{ℕ, ◌≤◌, Bool, true, not, List, [], ◌∷◌, ◌++◌, reverse, ◌≡◌, eqb, length, get_or, take, drop}
use Rattle.prelude.specs.Choice.{when◌then◌else◌}
use Rattle.record.specs.Transaction.{Transaction}
use Rattle.state.specs.Sound.{sound}
use Rattle.state.specs.State.{made}
use Rattle.settings.specs.Layout as settings_layout
use Rattle.settings.specs.Enable.{freshened}
use Rattle.outcome.specs.declared.Reply.{Reply}
use Rattle.history.specs.Lines.{nowhere, line_of, is_counted}
use Rattle.history.specs.Packets.{compared_from}
use Rattle.history.specs.Reading.{Entry, counted, total, Setup, setup_for}
use Rattle.history.specs.Settings.{settings_of, taken_forms}
use Rattle.history.specs.Runs.{open_pieces, items_of, account_for, packets_sent}
use Rattle.history.specs.Replies.{answered, reply_at}
use Rattle.history.specs.Partition.{lines_of}
use Rattle.history.specs.Calls.{Call, Kept, reply_of, after, entries_by, settings_needed, has_room, with_room, most_counted}

-- what the caller keeps is what the list says; `settings` is what lay in the settings buffer at the start (manual 8.9)
pub record Agrees (setup : Setup) (settings : List ℕ) (entries : List Entry) (kept : Kept) : Type 0 where
  pub account_agrees : kept.state.account ≡ account_for setup entries
  pub maximum_stays : kept.state.maximum ≡ setup.maximum
  pub check_stays : kept.state.check ≡ (when setup.check then 1 else 0)
  -- all bytes of the settings, and those past them as they were
  pub settings_agree : kept.settings ≡ settings_of (taken_forms setup (reverse entries)) ++ drop settings_needed settings
  -- the open packet lies at the start of the store
  pub open_packet_agrees : (let open_packet : List ℕ = compared_from 0 (open_pieces setup entries) in take (length open_packet) kept.store ≡ open_packet)
  pub sent_agree : kept.sent ≡ packets_sent (items_of setup entries)
  -- no packet is counted as sent that was not sent, nor sent and not counted
  pub sent_are_counted : get_or kept.state.account.grid 0 0 ≡ length kept.sent
  pub state_is_sound : sound kept.state ≡ true
  pub settings_are_sound : settings_layout.sound kept.settings ≡ true

-- 12 without room, 14 when full, and else by the list (manual 2.2)
unfoldable pub reply_after : Setup → (store_size settings_size : ℕ) → List Entry → (store_lent settings_lent : ℕ) → Transaction → Reply
reply_after setup store_size settings_size entries store_lent settings_lent t =
    when not (has_room store_size settings_size store_lent settings_lent) then answered 12 else
    when eqb (total entries) most_counted then answered 14 else
    reply_at setup (reverse entries) t

-- of one more transaction: its reply, and the line in which it stands then, if it is counted (manual 2.2, 8.3)
pub record Replies (setup : Setup) (store_size settings_size : ℕ) (entries : List Entry) (kept : Kept) (store_lent settings_lent : ℕ) (t : Transaction) : Type 0 where
  pub reply_is : reply_of store_lent settings_lent t kept ≡ reply_after setup store_size settings_size entries store_lent settings_lent t
  pub never_unsound : (reply_of store_lent settings_lent t kept).answer ≡ 13 → ⊥
  pub in_its_line :
      is_counted (reply_of store_lent settings_lent t kept).answer ≡ true
      → get_or (lines_of setup (entries ++ counted t ∷ [])) (total entries) nowhere ≡ line_of (reply_of store_lent settings_lent t kept).answer

-- a fresh state with the check on or off, fresh settings, any store, and nothing sent (manual 1.2, 5.4)
abbrev pub fresh : (maximum : ℕ) (check : Bool) (store settings : List ℕ) → Kept
fresh maximum check store settings = record { state = (made maximum check).state; store = store; settings = (freshened settings).settings; sent = [] }

-- a settings buffer of fewer bytes is rejected by the call that writes fresh settings, so nothing starts (manual 5.4)
pub record Demand3For (maximum : ℕ) (check : Bool) (store settings : List ℕ) (calls : List Call) : Type 0 where
  pub agrees : Agrees (setup_for maximum check) settings (entries_by calls (fresh maximum check store settings)) (after calls (fresh maximum check store settings))
  -- the list, from the calls and the sizes of the buffers alone
  pub list_is : entries_by calls (fresh maximum check store settings) ≡ take most_counted (with_room (length store) (length settings) calls)
  pub replies :
      (store_lent settings_lent : ℕ) (t : Transaction)
      → Replies (setup_for maximum check) (length store) (length settings) (entries_by calls (fresh maximum check store settings)) (after calls (fresh maximum check store settings)) store_lent settings_lent t

abbrev pub Demand3 : Type 0
Demand3 = (maximum : ℕ) (check : Bool) (store settings : List ℕ) → settings_needed ≤ length settings → (calls : List Call) → Demand3For maximum check store settings calls
