-- Transactions one after another, and those of a journal's records (manual 9.2, 9.4).
use Rattle.std.specs.Prelude.{ℕ, ◌+◌, Bool, true, false, List, [], ◌∷◌, replicate}
use Rattle.prelude.specs.After.{After, after}
use Rattle.packet.specs.Store.{max_packet}
use Rattle.record.specs.declared.Stop.{Stop}
use Rattle.record.specs.declared.Stop.TheVariants as stop
use Rattle.record.specs.Records.{Records, records_in}
use Rattle.record.specs.Transaction.{Transaction}
use Rattle.settings.specs.Layout.{fresh_settings, with_settings}
use Rattle.state.specs.declared.State.{State}
use Rattle.state.specs.State.{is_on, made}
use Rattle.translator.specs.declared.Transacted.{Transacted}
use Rattle.translator.specs.declared.records.Replay.{Replay}
use Rattle.translator.specs.declared.records.Stopped.{Stopped}
use Rattle.translator.specs.Transact.{transacted}

-- the state and the buffers that a transaction leaves (manual 8.10)
abbrev pub state_after : After Transacted → After State
state_after d = after d.result.state d.store d.settings

-- transactions one after another, each on what the one before it left (manual 9.4)
unfoldable pub all_transacted : After State → List Transaction → After State
all_transacted c [] = c
all_transacted c (t ∷ rest) = all_transacted (state_after (transacted c.result c.store c.settings t)) rest

-- a store of zeros and fresh settings (manual 5.4)
abbrev pub empty_store : List ℕ
empty_store = replicate max_packet 0

abbrev pub settings_at_start : List ℕ
settings_at_start = with_settings fresh_settings []

-- a replay: a state, a store and settings of its own (manual 9.5)
abbrev pub replay_of : State → List ℕ → List ℕ → Replay
replay_of state store settings = record { state = state; store = store; settings = settings }

-- a replay for a maximum, with the check on or off (manual 9.4)
unfoldable pub fresh_replay : (maximum : ℕ) → (check : Bool) → Replay
fresh_replay maximum check = replay_of (made maximum check).state empty_store settings_at_start

-- a bad link byte comes next; else the record there is cut, or nothing is left (manual 9.3)
abbrev pub stop_of : Bool → Stop
stop_of true = stop.BadLink
stop_of false = stop.Cut

-- where the records end, and why (manual 9.3, 9.5)
abbrev pub stopped_at : ℕ → Bool → Stopped
stopped_at at bad_link = record { at = at; stop = stop_of bad_link }

-- a replay, and where and why it stopped (manual 9.5)
pub record Replayed : Type 0 where
  pub replay : Replay
  pub stopped : Stopped

-- both of these (manual 9.5)
abbrev pub replayed_to : Replay → Stopped → Replayed
replayed_to replay stopped = record { replay = replay; stopped = stopped }

-- the whole records that some bytes behind the first `from` begin with, and what their transactions leave (manual 9.2, 9.5)
abbrev pub stopped_after : ℕ → Records → After State → Replayed
stopped_after from records c = replayed_to (replay_of c.result c.store c.settings) (stopped_at (from + records.used) records.bad_link)

-- the same, from a state and buffers on; the records have addresses and codes where the check is on (manual 9.2, 9.4, 9.5)
unfoldable pub records_taken : State → List ℕ → List ℕ → ℕ → List ℕ → Replayed
records_taken state store settings from bytes =
    stopped_after from (records_in (is_on state.check) bytes) (all_transacted (after state store settings) (records_in (is_on state.check) bytes).transactions)

-- what the records of some bytes leave of a replay (manual 9.5)
abbrev pub replayed : Replay → ℕ → List ℕ → Replayed
replayed r from bytes = records_taken r.state r.store r.settings from bytes
