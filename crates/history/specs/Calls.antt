-- Lists of calls, what they leave and reply, and the entries that they add to the list (manual 1.5, 1.6, 2.3).
use Rattle.std.specs.Prelude.{ℕ, min, Bool, List, [], ◌∷◌, ◌++◌, eqb, leb, take, drop}
use Rattle.prelude.specs.After.{After}
use Rattle.prelude.specs.Choice.{when◌then◌else◌, ◌and◌}
use Rattle.packet.specs.Store.{shown}
use Rattle.record.specs.Transaction.{Transaction}
use Rattle.state.specs.declared.State.{State}
use Rattle.outcome.specs.declared.Reply.{Reply}
use Rattle.outcome.specs.Outcome.{reply_to}
use Rattle.translator.specs.declared.Transacted.{Transacted}
use Rattle.translator.specs.Transact.{transacted}
use Rattle.history.specs.Lines.{is_counted}
use Rattle.history.specs.Reading.{Entry, counted}

-- a transaction that is lent so many bytes of the store and of the settings, or a call that only reads what is kept: it is handed values, buffers to read, or a buffer for its output that is none of those kept. Other operations do write to what they are lent: those that make something fresh stand only at the start, and `packet::fill` and `settings::receive_enable` are what transactions are built of, so that a caller who applies one to what is kept has altered it (manual 1.5, 1.6)
pub data Call : Type 0 where
  transact : (store_lent settings_lent : ℕ) → Transaction → Call
  reads : Call

-- what the caller keeps and hands back unaltered, and the packets sent so far (manual 1.6)
pub record Kept : Type 0 where
  pub state : State
  pub store : List ℕ
  pub settings : List ℕ
  pub sent : List (List ℕ)

-- what a transaction comes to (manual 1.5)
abbrev pub transacted_by : (store_lent settings_lent : ℕ) → Transaction → Kept → After Transacted
transacted_by store_lent settings_lent t kept = transacted kept.state (take store_lent kept.store) (take settings_lent kept.settings) t

-- what a transaction replies (manual 2.1)
abbrev pub reply_of : (store_lent settings_lent : ℕ) → Transaction → Kept → Reply
reply_of store_lent settings_lent t kept = reply_to (transacted_by store_lent settings_lent t kept).result.outcome

-- the bytes that `packet::shown` shows (manual 4.4)
abbrev pub shown_bytes : List ℕ → ℕ → List ℕ
shown_bytes store size = (shown (record { ref_ptr = (0, 0); now = store }) size).bytes

-- where a packet was sent, the caller sends what is shown of its sent length (manual 4.3, 4.4)
unfoldable pub packets_of : Reply → List ℕ → List (List ℕ)
packets_of reply store = when eqb reply.answer 1 then shown_bytes store reply.sent ∷ [] else []

-- what a transaction leaves, where the rest of the store and of the settings was not lent (manual 1.5)
abbrev pub left_by : Kept → (store_rest settings_rest : List ℕ) → After Transacted → Kept
left_by kept store_rest settings_rest left =
    record {
      state = left.result.state;
      store = left.store ++ store_rest;
      settings = left.settings ++ settings_rest;
      sent = kept.sent ++ packets_of (reply_to left.result.outcome) (left.store ++ store_rest);
    }

-- what a call leaves is what its contract promises (specs/Contract.antt), and what one call after another leaves (manual 1.6)
abbrev pub step : Call → Kept → Kept
step (transact store_lent settings_lent t) kept = left_by kept (drop store_lent kept.store) (drop settings_lent kept.settings) (transacted_by store_lent settings_lent t kept)
step reads kept = kept

abbrev pub after : List Call → Kept → Kept
after [] kept = kept
after (call ∷ calls) kept = after calls (step call kept)

-- the entries that a transaction adds, by its reply, and a call: one that only reads adds none (manual 8.1)
abbrev pub entry_if : Transaction → Reply → List Entry
entry_if t reply = when is_counted reply.answer then counted t ∷ [] else []

abbrev pub entries_of : Call → Kept → List Entry
entries_of (transact store_lent settings_lent t) kept = entry_if t (reply_of store_lent settings_lent t kept)
entries_of reads kept = []

abbrev pub entries_by : List Call → Kept → List Entry
entries_by [] kept = []
entries_by (call ∷ calls) kept = entries_of call kept ++ entries_by calls (step call kept)

-- whether a transaction has room, in buffers of these sizes (manual 1.5)
abbrev pub store_needed : ℕ
store_needed = 1536

abbrev pub settings_needed : ℕ
settings_needed = 15

unfoldable pub has_room : (store_size settings_size store_lent settings_lent : ℕ) → Bool
has_room store_size settings_size store_lent settings_lent = leb store_needed (min store_lent store_size) and leb settings_needed (min settings_lent settings_size)

-- the transactions that had room (manual 8.1)
abbrev pub with_room : (store_size settings_size : ℕ) → List Call → List Entry
with_room store_size settings_size [] = []
with_room store_size settings_size (transact store_lent settings_lent t ∷ calls) =
    when has_room store_size settings_size store_lent settings_lent then counted t ∷ with_room store_size settings_size calls else with_room store_size settings_size calls
with_room store_size settings_size (reads ∷ calls) = with_room store_size settings_size calls

-- the total at which an account is full (manual 8.6)
abbrev pub most_counted : ℕ
most_counted = 4294967295
