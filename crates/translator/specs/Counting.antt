-- How a transaction is counted (manual 8.3, 8.4, 8.5).
use Rattle.std.specs.Prelude.{ℕ, ◌+◌, ◌*◌, List, Option, None, Some, ltb, set}
use Rattle.prelude.specs.Choice.{when◌then◌else◌}
use Rattle.state.specs.declared.Account.{Account}
use Rattle.state.specs.declared.Beside.{Beside}
use Rattle.state.specs.declared.row.Row.{Row}
use Rattle.state.specs.declared.row.Row.TheVariants as row
use Rattle.state.specs.Account.{row_count, columns, row_number, packets_in, fragments_in, bytes_in, besides, account_of}
use Rattle.outcome.specs.declared.Cause.{Cause}
use Rattle.outcome.specs.declared.Cause.TheVariants as cause
use Rattle.outcome.specs.declared.Outcome.{Outcome}
use Rattle.outcome.specs.declared.Outcome.TheVariants as outcome
use Rattle.translator.specs.declared.tally.Tally.{Tally}
use Rattle.translator.specs.declared.judged.Judged.{Judged}

-- so many packets, fragments and bytes more in a row, if it is one (manual 8.3)
unfoldable pub add_to : ℕ → ℕ → ℕ → ℕ → List ℕ → List ℕ
add_to row packets fragments bytes grid =
    when ltb row row_count then
    set (set (set grid (row * columns) (packets_in row grid + packets))
    (row * columns + 1) (fragments_in row grid + fragments))
    (row * columns + 2) (bytes_in row grid + bytes)
    else grid

-- a row, if there is one, with the packets, fragments and bytes added there; the fragments and bytes that are open then; the commands taken and refused (manual 8.3)
abbrev pub tally : Option Row → (packets fragments bytes open_fragments open_bytes taken refused : ℕ) → Tally
tally fate packets fragments bytes open_fragments open_bytes taken refused =
    record {
      row = fate;
      added_packets = packets;
      added_fragments = fragments;
      added_bytes = bytes;
      open_fragments = open_fragments;
      open_bytes = open_bytes;
      added_taken = taken;
      added_refused = refused;
    }

-- a fragment of `size` bytes behind `f` fragments and `b` bytes completes a packet of this fate, or stands alone in the row (manual 8.3)
abbrev pub whole : Row → (f b size : ℕ) → Tally
whole fate f b size = tally (Some fate) 1 (f + 1) (b + size) 0 0 0 0

abbrev pub alone : Row → (f b size : ℕ) → Tally
alone fate f b size = tally (Some fate) 0 1 size f b 0 0

-- of a discarded fragment or packet, by the cause (manual 2.4, 8.3)
abbrev pub cause_tally : Cause → (f b size : ℕ) → Tally
cause_tally cause.Aborted f b size = alone row.Aborted f b size
cause_tally cause.BadLength f b size = alone row.BadLength f b size
cause_tally cause.Over f b size = whole row.Over f b size
cause_tally cause.Short f b size = whole row.Short f b size
cause_tally cause.LinkDown f b size = whole row.LinkDown f b size

-- what each outcome adds to its line, behind the `f` fragments and `b` bytes that are left open. Those answered 12 to 14 are never counted, and `Refused` for settings that are too short or not sound never comes: that is answered before, as `NoRoom` or `NotSound` (manual 2.2, 8.3)
abbrev pub outcome_tally : Outcome → (f b size : ℕ) → Tally
outcome_tally outcome.Joined f b size = tally None 0 0 0 (f + 1) (b + size) 0 0
outcome_tally (outcome.Sent n) f b size = whole row.Sent f b size
outcome_tally (outcome.Discarded c) f b size = cause_tally c f b size
outcome_tally outcome.Unknown f b size = tally None 0 0 0 f b 0 1
outcome_tally (outcome.Refused r) f b size = tally None 0 0 0 f b 0 1
outcome_tally outcome.Taken f b size = tally None 0 0 0 f b 1 0
outcome_tally outcome.NoRoom f b size = tally None 0 0 0 f b 0 0
outcome_tally outcome.NotSound f b size = tally None 0 0 0 f b 0 0
outcome_tally outcome.Full f b size = tally None 0 0 0 f b 0 0
outcome_tally outcome.BadCheck f b size = alone row.BadCheck f b size

-- what is left open of the packet: nothing, where it ends in a row (manual 8.4)
unfoldable pub left_open : ℕ → ℕ → ℕ
left_open ends n = when ltb ends row_count then 0 else n

-- behind what is left open (manual 8.3, 8.4)
abbrev pub tally_of : Judged → Beside → Tally
tally_of j b = outcome_tally j.outcome (left_open (row_number j.ends) b.open_fragments) (left_open (row_number j.ends) b.open_bytes) j.bytes

-- the packet that ends stands in its row as one packet with its fragments and bytes (manual 8.4)
unfoldable pub grid_after : ℕ → Beside → Tally → List ℕ → List ℕ
grid_after ends b t grid =
    add_to ends 1 b.open_fragments b.open_bytes (add_to (row_number t.row) t.added_packets t.added_fragments t.added_bytes grid)

-- the numbers beside the grid, and one transaction more in the total (manual 8.3, 8.5)
abbrev pub beside_after : Tally → Beside → Beside
beside_after t b = besides t.open_fragments t.open_bytes (b.taken + t.added_taken) (b.refused + t.added_refused) (b.total + 1)

-- the account after a transaction (manual 8.3, 8.4)
unfoldable pub counted : Judged → Account → Account
counted j a =
    account_of (grid_after (row_number j.ends) a.beside (tally_of j a.beside) a.grid) (beside_after (tally_of j a.beside) a.beside)
