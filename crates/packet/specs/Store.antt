-- The lent assembly store: how long a packet may be, and one filled up and shown (manual 1.5, 3.6, 4.3, 4.4).
use Rattle.std.specs.Prelude.{ℕ, ◌-◌, List, ltb, length, replicate}
use Rattle.std.specs.Borrow.{Bor}
use Rattle.prelude.specs.Choice.{when◌then◌else◌}
use Rattle.prelude.specs.Parts.{Slice, put, part_of}

-- the most bytes of a packet, and the least bytes of a store (manual 1.5, 3.6)
abbrev pub max_packet : ℕ
max_packet = 1536

-- the least bytes of a packet that is sent (manual 3.6)
abbrev pub min_packet : ℕ
min_packet = 17

-- a shorter packet is filled up to this: the least frame of 802.3, 64 bytes, without the four check bytes (manual 4.3)
abbrev pub min_sent : ℕ
min_sent = 60

-- zeros behind a packet that is sent (manual 4.3)
unfoldable pub filled : List ℕ → ℕ → List ℕ
filled store total =
    when ltb total min_sent then
    (when ltb (length store) min_sent then store else
    put store total (replicate (min_sent - total) 0))
    else store

-- how many bytes are sent (manual 4.3)
unfoldable pub sent_length : ℕ → ℕ
sent_length total = when ltb total min_sent then min_sent else total

-- the first bytes, or an empty part where so many are not there or not allowed (manual 4.4)
unfoldable pub shown : Bor (List ℕ) → ℕ → Slice
shown store size =
    when ltb (length store.now) size then part_of 0 0 store else
    when ltb max_packet size then part_of 0 0 store else
    part_of 0 size store
