-- Parts of a list of bytes, and of a slice that was lent.
use Rattle.std.specs.Prelude.{ℕ, ◌+◌, ◌≤◌, ◌<◌, List, ◌++◌, ◌⊎◌, ◌≡◌, length, get_or, take, drop}
use Rattle.std.specs.Borrow.{Bor}

-- each of them is a byte
abbrev pub AreBytes : List ℕ → Type 0
AreBytes bytes = (place : ℕ) → get_or bytes place 0 < 256

-- `size` bytes, from place `at` on
abbrev pub part : ℕ → ℕ → List ℕ → List ℕ
part at size bytes = take size (drop at bytes)

-- `bytes` with `piece` written over them, from place `at` on
unfoldable pub put : List ℕ → ℕ → List ℕ → List ℕ
put bytes at piece = take at bytes ++ (piece ++ drop (at + length piece) bytes)

-- as many bytes, and every byte but those from `from` up to `to` as it was
pub record ChangesOnly (from to : ℕ) (before after : List ℕ) : Type 0 where
  pub same_length : length after ≡ length before
  pub elsewhere : (k : ℕ) → (k < from) ⊎ (to ≤ k) → get_or after k 0 ≡ get_or before k 0

-- what a slice refers to: where in memory it starts, as a block and an offset, and the bytes there
pub record Slice : Type 0 where
  pub start : ℕ × ℕ
  pub bytes : List ℕ

abbrev pub slice_of : Bor (List ℕ) → Slice
slice_of slice = record { start = slice.ref_ptr; bytes = slice.now }

-- the part of a slice that is `size` bytes, from place `at` on
abbrev pub part_of : ℕ → ℕ → Bor (List ℕ) → Slice
part_of at size slice = record { start = (slice.ref_ptr.0, at + slice.ref_ptr.1); bytes = part at size slice.now }
