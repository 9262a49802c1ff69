-- The bytes at the front of a buffer, wherever it lies.
-- Assumes nothing.
use Prim.Native.Nat.{ℕ}
use mathlib.Core.Bool.{Bool, true, false}
use mathlib.Core.List.{List, []}
use mathlib.Core.Path.{◌≡◌, refl}
use denote.Ref.{Bor}
use lib.Dec.{ltb}
use lib.ListN.{length, take}
use Rattle.prelude.specs.Choice.{when◌then◌else◌}
use Rattle.prelude.specs.Parts.{part_of}
use Rattle.account.specs.Buffer.{front_of}
use Rattle.account.specs.Piece.{first_of}

pub front_bytes : (buffer : Bor (List ℕ)) (size : ℕ) → (front_of buffer size).bytes ≡ first_of size buffer.now
unfolding front_of when◌then◌else◌
front_bytes buffer size = by-test (ltb (length buffer.now) size)
  where
    by-test : (t : Bool) → (when t then part_of 0 0 buffer else part_of 0 size buffer).bytes ≡ (when t then [] else take size buffer.now)
    by-test true = refl
    by-test false = refl
