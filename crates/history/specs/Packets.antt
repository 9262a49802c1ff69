-- The bytes of packets, and the fill (manual 3.6, 4).
use Rattle.std.specs.Prelude.{ℕ, ◌+◌, ◌-◌, List, [], ◌∷◌, ◌++◌, ltb, length, replicate}
use Rattle.prelude.specs.Choice.{when◌then◌else◌}

-- the bytes of fragments one after the other, and how many they are (manual 4.1)
abbrev pub concatenated : List (List ℕ) → List ℕ
concatenated [] = []
concatenated (piece ∷ pieces) = piece ++ concatenated pieces

abbrev pub total_of : List (List ℕ) → ℕ
total_of pieces = length (concatenated pieces)

-- the most and the least bytes of a packet that is sent (manual 3.6)
abbrev pub largest_total : ℕ
largest_total = 1536

abbrev pub smallest_total : ℕ
smallest_total = 17

-- of an open packet that is past the largest, the bytes up to the first fragment that took it there; `before` bytes stand before these fragments (manual 4.2, 8.9)
abbrev pub compared_from : (before : ℕ) → List (List ℕ) → List ℕ
compared_from before [] = []
compared_from before (piece ∷ pieces) = when ltb largest_total (before + length piece) then [] else (piece ++ compared_from (before + length piece) pieces)

-- the least bytes that are sent; with the four check bytes the shortest frame has 64 (manual 4.3)
abbrev pub filled_to : ℕ
filled_to = 60

-- a packet that is sent, and zeros behind it up to as many (manual 4.3)
abbrev pub with_fill : List ℕ → List ℕ
with_fill packet = packet ++ replicate (filled_to - length packet) 0

-- how many bytes are sent (manual 4.3)
unfoldable pub sent_length : (total : ℕ) → ℕ
sent_length total = when ltb total filled_to then filled_to else total
