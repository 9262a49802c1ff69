-- A fragment joins its packet: one test of the new total decides whether it is written, and whether a Last finds its packet too long (manual 3.6, 4.1, 4.2, 4.3).
use Rattle.std.specs.Prelude.{ℕ, ◌+◌, Bool, List, ltb, length}
use Rattle.prelude.specs.Choice.{when◌then◌else◌}
use Rattle.prelude.specs.Parts.{put}
use Rattle.packet.specs.Store.{max_packet, min_packet, filled, sent_length}
use Rattle.outcome.specs.declared.Cause.TheVariants as cause
use Rattle.outcome.specs.declared.Outcome.{Outcome}
use Rattle.outcome.specs.declared.Outcome.TheVariants as outcome

-- what a fragment came to, and the store afterwards (manual 2.4, 4.1)
pub record Stored (A : Type 0) : Type 0 where
  pub result : A
  pub store : List ℕ

abbrev pub stored : {A : Type 0} → A → List ℕ → Stored A
stored result store = record { result = result; store = store }

-- a packet of at most 1536 bytes that its Last completes: 5 before 6, else it is sent (manual 3.6)
unfoldable pub completed_of : ℕ → Bool → Outcome
completed_of total link_up =
    when ltb total min_packet then outcome.Discarded cause.Short else
    when link_up then outcome.Sent (sent_length total) else
    outcome.Discarded cause.LinkDown

-- a packet that is sent is filled up, a discarded one is not (manual 4.3)
unfoldable pub filled_if : Outcome → ℕ → List ℕ → List ℕ
filled_if outcome.Joined total store = store
filled_if (outcome.Sent n) total store = filled store total
filled_if (outcome.Discarded c) total store = store
filled_if outcome.Unknown total store = store
filled_if (outcome.Refused r) total store = store
filled_if outcome.Taken total store = store
filled_if outcome.NoRoom total store = store
filled_if outcome.NotSound total store = store
filled_if outcome.Full total store = store
filled_if outcome.BadCheck total store = store

-- what a Last comes to and leaves, once it is written (manual 3.6, 4.3)
unfoldable pub completed : ℕ → Bool → List ℕ → Stored Outcome
completed total link_up store = stored (completed_of total link_up) (filled_if (completed_of total link_up) total store)

-- past 1536 nothing is written and a Last is answered 4; else the fragment is written behind the bytes so far, and a Last completes its packet (manual 3.6, 4.1, 4.2)
unfoldable pub joined : ℕ → List ℕ → Bool → Bool → List ℕ → Stored Outcome
joined at fragment last link_up store =
    when ltb max_packet (at + length fragment) then
    stored (when last then outcome.Discarded cause.Over else outcome.Joined) store
    else
    when last then completed (at + length fragment) link_up (put store at fragment) else
    stored outcome.Joined (put store at fragment)
