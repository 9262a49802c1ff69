-- The table has what eight bit steps make of each byte, so the table and the bits give one code.
-- Assumes nothing.
use Prim.Native.Nat.{ℕ, ◌%◌, ◌<◌}
use mathlib.Core.Bool.{Bool}
use mathlib.Core.List.{List, [], ◌∷◌}
use mathlib.Core.Path.{◌≡◌, refl, ap, ◌∙◌}
use native.Mathlib.Nat.{mod-lt, zero-lt-suc}
use lib.Bits.{bit_xor}
use lib.Dec.{eqb}
use lib.ListN.{get_or}
use borrow.Author.Tests.{eqb-true}
use Rattle.prelude.specs.Choice.{when◌then◌else◌}
use Rattle.pec.specs.Code.{bit_step, bit_steps, byte_step, after_bytes, code_by_bits}
use Rattle.pec.specs.Table.{table, table_step, code_by_table}
use Rattle.pec.proofs.Computed.{below-at}
use Rattle.pec.proofs.Division.{steps-lt}

is_entry : ℕ → Bool
is_entry byte = eqb (get_or table byte 0) (bit_steps 8 byte)

pub entries : (byte : ℕ) → byte < 256 → get_or table byte 0 ≡ bit_steps 8 byte
unfolding bit_step bit_steps when◌then◌else◌ is_entry
entries byte h = eqb-true (get_or table byte 0) (bit_steps 8 byte) (below-at is_entry 256 byte refl h)

step-by-table : (crc byte : ℕ) → table_step crc byte ≡ byte_step crc byte
unfolding table_step byte_step
step-by-table crc byte = entries (bit_xor crc byte % 256) (mod-lt (bit_xor crc byte) (zero-lt-suc 255))

pub table-step-lt : (crc byte : ℕ) → table_step crc byte < 256
unfolding byte_step
table-step-lt crc byte = rw (step-by-table crc byte) (steps-lt 8 (bit_xor crc byte % 256) (mod-lt (bit_xor crc byte) (zero-lt-suc 255)))

pub code-by-table : (crc : ℕ) (bytes : List ℕ) → code_by_table crc bytes ≡ code_by_bits crc bytes
unfolding after_bytes
code-by-table crc [] = refl
code-by-table crc (byte ∷ bytes) = ap (λ (c : ℕ). after_bytes table_step c bytes) (step-by-table crc byte) ∙ code-by-table (byte_step crc byte) bytes
