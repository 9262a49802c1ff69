-- The remainder of long division by the polynomial, as it is worked out by hand (manual 10.2). Nothing of the code's two other definitions is used.
use Rattle.std.specs.Prelude.{ℕ, zero, suc, ◌+◌, ◌*◌, List, [], ◌∷◌, ◌++◌, ltb, replicate}
use lib.Bits.{bit_xor}
use Rattle.prelude.specs.Bits.{bits}
use Rattle.prelude.specs.Choice.{when◌then◌else◌}

-- x^8 + x^2 + x + 1: bit n of a number is the coefficient of x^n (manual 10.2)
abbrev pub polynomial : ℕ
polynomial = 0x107

-- the next bit comes down behind the remainder so far, and where x^8 is there then, the polynomial is taken away (manual 10.2)
unfoldable pub brought_down : (rest bit : ℕ) → ℕ
brought_down rest bit = when ltb (rest * 2 + bit) 256 then rest * 2 + bit else bit_xor (rest * 2 + bit) polynomial

-- the remainder once all these bits have come down (manual 10.2)
unfoldable pub divided : (rest : ℕ) → List ℕ → ℕ
divided rest [] = rest
divided rest (bit ∷ later) = divided (brought_down rest bit) later

-- the lowest bits of a number, the highest of them first (manual 10.2)
unfoldable pub bits_of : (count : ℕ) → ℕ → List ℕ
bits_of zero number = []
bits_of (suc n) number = bits n 1 number ∷ bits_of n number

-- the bits of bytes, one byte after the other (manual 10.2)
unfoldable pub all_bits : List ℕ → List ℕ
all_bits [] = []
all_bits (byte ∷ bytes) = bits_of 8 byte ++ all_bits bytes

-- of all bits, with eight zeros behind them (manual 10.2)
unfoldable pub remainder : List ℕ → ℕ
remainder bytes = divided 0 (all_bits bytes ++ replicate 8 0)
