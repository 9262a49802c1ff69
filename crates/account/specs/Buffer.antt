-- The unused bytes of a journal, at the start of the buffer that the next ones are read behind (manual 9.5).
use Rattle.std.specs.Prelude.{ℕ, ◌-◌, List, ltb, length}
use Rattle.std.specs.Borrow.{Bor}
use Rattle.prelude.specs.Choice.{when◌then◌else◌}
use Rattle.prelude.specs.Parts.{part, put, Slice, part_of}

-- the first bytes, or an empty part where there are fewer (manual 9.5)
unfoldable pub front_of : Bor (List ℕ) → ℕ → Slice
front_of buffer size = when ltb (length buffer.now) size then part_of 0 0 buffer else part_of 0 size buffer

-- how many bytes were moved, and what the buffer holds then (manual 9.5)
pub record Moved : Type 0 where
  pub count : ℕ
  pub buffer : List ℕ

-- both of these (manual 9.5)
abbrev pub moved : ℕ → List ℕ → Moved
moved count buffer = record { count = count; buffer = buffer }

-- the bytes from one place up to another, moved to the start (manual 9.5)
unfoldable pub moved_to_front : ℕ → ℕ → List ℕ → Moved
moved_to_front from to buffer =
    when ltb (length buffer) to then moved 0 buffer else
    when ltb to from then moved 0 buffer else
    moved (to - from) (put buffer 0 (part from (to - from) buffer))
