-- The packet error code, bit by bit (manual 10.2, 10.3).
use Rattle.std.specs.Prelude.{ℕ, zero, suc, ◌-◌, ◌*◌, ◌%◌, List, [], ◌∷◌, ltb}
use lib.Bits.{bit_xor}
use Rattle.prelude.specs.Choice.{when◌then◌else◌}

-- the coefficients of the polynomial below x^8 (manual 10.2, 10.3)
abbrev pub low_polynomial : ℕ
low_polynomial = 7

-- times x, the highest bit going out; where it was set, the polynomial is taken away (manual 10.3)
unfoldable pub bit_step : ℕ → ℕ
bit_step crc = when ltb crc 128 then crc * 2 else bit_xor ((crc - 128) * 2) low_polynomial

-- so many bit steps (manual 10.3)
unfoldable pub bit_steps : ℕ → ℕ → ℕ
bit_steps zero crc = crc
bit_steps (suc n) crc = bit_steps n (bit_step crc)

-- one byte more: added to the code, and a bit step for each of its eight bits; of a number that is no byte the low eight bits count (manual 10.3)
unfoldable pub byte_step : ℕ → ℕ → ℕ
byte_step crc byte = bit_steps 8 (bit_xor crc byte % 256)

-- a step for each of some bytes, one after the other (manual 10.3)
unfoldable pub after_bytes : (step : ℕ → ℕ → ℕ) (crc : ℕ) → List ℕ → ℕ
after_bytes step crc [] = crc
after_bytes step crc (byte ∷ bytes) = after_bytes step (step crc byte) bytes

-- the code of some bytes, where that of the bytes before them is `crc` (manual 10.3)
abbrev pub code_by_bits : (crc : ℕ) → List ℕ → ℕ
code_by_bits crc bytes = after_bytes byte_step crc bytes
